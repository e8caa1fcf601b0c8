use Rattle.record.proofs.Undone.{spelled, again}
use Rattle.record.proofs.record.undone.Goals as goal

pub returns-clause-spelled : goal.returns-clause-spelled
returns-clause-spelled c = spelled

pub returns-clause-again : goal.returns-clause-again
returns-clause-again c = again
