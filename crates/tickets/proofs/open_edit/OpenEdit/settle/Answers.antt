use Rattle.std.proofs.Common.{List, [], ◌∷◌, sym, ap, ap₂, ◌∙◌, subst}
use Rattle.calls.specs.declared.call.Call.{Call}
use Rattle.calls.specs.declared.call.Call.TheVariants.{Prepare}
use Rattle.pool.specs.Calls.{Rule, PoolState}
use Rattle.pool.specs.Pools.{state_of, rule_of}
use Rattle.tickets.specs.Lists.{MakesCalls}
use Rattle.tickets.specs.Endings.{votes_left, vote_and_decide, settling_calls, settling_outcome, outcome_after}
use Rattle.tickets.proofs.Made.{makes_one, makes-++}
use Rattle.tickets.proofs.Others.{BesideVotes, prepare_beside, same_votes, same_vote_and_decide}
use Rattle.tickets.proofs.open_edit.OpenEdit.settle.Goals as goal

pub returns-in-Editing : goal.returns-in-Editing
returns-in-Editing g c =
    let seat = c.args.self.seat in
    let start = c.args.pool.now in
    let prepared = c.perform.new.pool in
    let prepares = c.perform.ensures.performs in
    let beside : BesideVotes seat (state_of start) (state_of prepared)
    = subst (BesideVotes seat (state_of start)) (sym prepares.leaves) (prepare_beside (rule_of start) (state_of start) seat) in
    record {
      outcome = c.vote_and_decide.ensures.outcome
          ∙ ap₂ (λ (allows : Rule) (calls : List Call). outcome_after allows calls (state_of prepared) seat) (ap g.R.HouseRule.allowed prepares.rule) (same_votes seat beside)
          ∙ ap (λ (state : PoolState). outcome_after (rule_of start) (votes_left (state_of start) seat) state seat) prepares.leaves
          ∙ ap (settling_outcome start seat) (sym c.in-Editing.is);
      calls = subst (λ (calls : List Call). MakesCalls start calls c.vote_and_decide.new.pool)
          (ap (λ (calls : List Call). Prepare seat ∷ calls) (same_vote_and_decide seat beside) ∙ ap (settling_calls (state_of start) seat) (sym c.in-Editing.is))
          (makes-++ (Prepare seat ∷ []) (vote_and_decide (state_of prepared) seat) (makes_one (Prepare seat) prepares c.perform.ensures.memory) c.vote_and_decide.ensures.calls);
      gone = λ gone. absurd (c.vote_and_decide.ensures.not_gone gone);
    }
