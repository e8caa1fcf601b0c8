use Rattle.std.proofs.Common.{sym, ◌∙◌}
use Rattle.tickets.proofs.Made.{call_made, call_passed}
use Rattle.tickets.proofs.Others.{vote_elsewhere}
use Rattle.tickets.proofs.open_edit.vote_all.Goals as goal
use Rattle.tickets.proofs.open_edit.vote_all.Goals.{then-owes_vote, else-owes_vote}

pub loop-entry-preserved : goal.loop-entry-preserved
loop-entry-preserved g c =
    elim c.if-owes_vote.branch [
      | then-owes_vote w ↦ call_made _ _ _ (vote_elsewhere c.args.seat) c.loop-entry.invariant (sym c.owes_vote.ensures ∙ w.if-owes_vote.true) w.perform.ensures.performs w.perform.ensures.memory w.pool-is
      | else-owes_vote w ↦ call_passed _ _ _ c.loop-entry.invariant (sym c.owes_vote.ensures ∙ w.if-owes_vote.false) w.pool-is
    ]
