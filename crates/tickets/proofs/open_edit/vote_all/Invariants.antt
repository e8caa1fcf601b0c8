use Rattle.calls.specs.declared.call.Call.TheVariants.{Vote}
use Rattle.tickets.specs.Endings.{owes_vote}
use Rattle.tickets.proofs.Made.{CallsBelow}
use Rattle.tickets.proofs.open_edit.vote_all.Given as goal

abbrev pub invariant-loop-entry : goal.invariant-loop-entry
invariant-loop-entry g l = CallsBelow (λ state. owes_vote state l.seat) (Vote l.seat) l.initial.pool l.entry l.pool
