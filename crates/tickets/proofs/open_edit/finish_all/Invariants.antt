use Rattle.calls.specs.declared.call.Call.TheVariants.{Finish}
use Rattle.tickets.specs.Endings.{holds_lock}
use Rattle.tickets.proofs.Made.{CallsBelow}
use Rattle.tickets.proofs.open_edit.finish_all.Given as goal

abbrev pub invariant-loop-entry : goal.invariant-loop-entry
invariant-loop-entry g l = CallsBelow (λ state. holds_lock state l.seat) (Finish l.seat) l.initial.pool l.entry l.pool
