use Rattle.std.proofs.Common.{◌≡◌, List, [], ◌∷◌, sym, ap, ◌∙◌, subst, ⊎_elim}
use Rattle.calls.specs.declared.call.Call.{Call}
use Rattle.calls.specs.declared.call.Call.TheVariants.{Abort}
use Rattle.pool.specs.Pools.{state_of, rule_of}
use Rattle.tickets.specs.Lists.{MakesCalls}
use Rattle.tickets.specs.Endings.{finish_and_close, giving_up_calls}
use Rattle.tickets.proofs.Made.{makes_one, makes-++}
use Rattle.tickets.proofs.Others.{Beside, abort_beside, same_finishes}
use Rattle.tickets.proofs.open_edit.OpenEdit.give_up.Goals as goal

pub returns-in-Editing-clause-calls : goal.returns-in-Editing-clause-calls
returns-in-Editing-clause-calls g c =
    let seat = c.args.self.seat in
    let start = c.args.pool.now in
    let aborted = c.perform.new.pool in
    let aborts = c.perform.ensures.performs in
    let beside : Beside seat (state_of start) (state_of aborted)
    = subst (Beside seat (state_of start)) (sym aborts.leaves) (abort_beside (rule_of start) (state_of start) seat) in
    let undecided : Abort seat ∷ finish_and_close (state_of start) seat ≡ giving_up_calls (state_of start) seat c.args.self.state
    = ⊎_elim (λ is. ap (giving_up_calls (state_of start) seat) (sym is)) (λ is. ap (giving_up_calls (state_of start) seat) (sym is)) c.in-Editing.is in
    subst (λ (calls : List Call). MakesCalls start calls c.finish_and_close.new.pool)
    (ap (λ (calls : List Call). Abort seat ∷ calls) (same_finishes seat beside) ∙ undecided)
    (makes-++ (Abort seat ∷ []) (finish_and_close (state_of aborted) seat) (makes_one (Abort seat) aborts c.perform.ensures.memory) c.finish_and_close.ensures)
