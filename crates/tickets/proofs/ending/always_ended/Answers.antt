use Rattle.tickets.proofs.Ends.{ended_by_giving_up, ended_by_settling}
use Rattle.tickets.proofs.ending.always_ended.Goals as goal

pub returns : goal.returns
returns c = record { by_giving_up = ended_by_giving_up; by_settling = ended_by_settling }
