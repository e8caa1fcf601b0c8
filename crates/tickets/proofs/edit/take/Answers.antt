use Rattle.std.proofs.Common.{rules}
use Rattle.calls.specs.declared.call.Call.TheVariants.{Begin}
use Rattle.runner.proofs.Stays.{stays_alone}
use Rattle.tickets.proofs.edit.take.Goals as goal

pub returns-in_err-serial-clause-alone : goal.returns-in_err-serial-clause-alone
returns-in_err-serial-clause-alone g c = stays_alone (Begin c.args.seat) (search rules)

pub returns-clause-alone : goal.returns-clause-alone
returns-clause-alone g c = stays_alone (Begin c.args.seat) (search rules)
