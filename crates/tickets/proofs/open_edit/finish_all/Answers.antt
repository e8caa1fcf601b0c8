use Rattle.std.proofs.Common.{sym, ◌∙◌}
use Rattle.tickets.proofs.Made.{call_made, call_passed}
use Rattle.tickets.proofs.Others.{finish_elsewhere}
use Rattle.tickets.proofs.open_edit.finish_all.Goals as goal
use Rattle.tickets.proofs.open_edit.finish_all.Goals.{then-holds_lock, else-holds_lock}

pub loop-entry-preserved : goal.loop-entry-preserved
loop-entry-preserved g c =
    elim c.if-holds_lock.branch [
      | then-holds_lock w ↦ call_made _ _ _ (finish_elsewhere c.args.seat) c.loop-entry.invariant (sym c.holds_lock.ensures ∙ w.if-holds_lock.true) w.perform.ensures.performs w.perform.ensures.memory w.pool-is
      | else-holds_lock w ↦ call_passed _ _ _ c.loop-entry.invariant (sym c.holds_lock.ensures ∙ w.if-holds_lock.false) w.pool-is
    ]
