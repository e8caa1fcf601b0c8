use Rattle.std.proofs.Common.{List, [], ◌∷◌, ◌++◌, sym, ap, ap₂, ◌∙◌, subst}
use Rattle.calls.specs.declared.call.Call.{Call}
use Rattle.calls.specs.declared.call.Call.TheVariants.{Decide}
use Rattle.pool.specs.Calls.{Rule, PoolState, answer_of, perform}
use Rattle.pool.specs.Pools.{state_of, rule_of}
use Rattle.promise.specs.Histories.{decision_said}
use Rattle.tickets.specs.Lists.{MakesCalls}
use Rattle.tickets.specs.Endings.{votes_left, finish_and_close, outcome_by}
use Rattle.tickets.proofs.Made.{makes_one, makes-++, makes_rule, makes_state}
use Rattle.tickets.proofs.Others.{Beside, beside_on, votes_beside, decide_beside, same_finishes}
use Rattle.tickets.proofs.open_edit.vote_and_decide.Goals as goal

pub returns : goal.returns
returns g c =
    let seat = c.args.seat in
    let start = c.args.pool.now in
    let voted = c.vote_all.new.pool in
    let decided = c.perform.new.pool in
    let votes = c.vote_all.ensures in
    let decides = c.perform.ensures.performs in
    let beside : Beside seat (state_of start) (state_of decided)
    = beside_on (subst (Beside seat (state_of start)) (sym (makes_state votes)) (votes_beside (rule_of start) (state_of start) seat))
    (subst (Beside seat (state_of voted)) (sym decides.leaves) (decide_beside (rule_of voted) (state_of voted) seat)) in
    record {
      not_gone = c.outcome_by-outcome.ensures.not_gone;
      outcome = c.outcome_by-outcome.ensures.says ∙ ap (λ a. outcome_by (decision_said a)) decides.answers
          ∙ ap₂ (λ (allows : Rule) (state : PoolState). outcome_by (decision_said (answer_of (perform allows (Decide seat) state)))) (makes_rule votes) (makes_state votes);
      calls = subst (λ (calls : List Call). MakesCalls start (votes_left (state_of start) seat ++ Decide seat ∷ calls) c.finish_and_close.new.pool) (same_finishes seat beside)
          (makes-++ (votes_left (state_of start) seat) (Decide seat ∷ finish_and_close (state_of decided) seat) votes
          (makes-++ (Decide seat ∷ []) (finish_and_close (state_of decided) seat) (makes_one (Decide seat) decides c.perform.ensures.memory) c.finish_and_close.ensures));
    }
