use Rattle.runner.proofs.Stays.{stays_alone}
use Rattle.runner.proofs.perform.perform.Goals as goal

pub returns-clause-alone : goal.returns-clause-alone
returns-clause-alone g c = stays_alone c.args.call c.dispatch.ensures.performs
