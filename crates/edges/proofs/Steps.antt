-- The calls of an edge case, made one after another.
use Rattle.std.proofs.Common.{◌≡◌, List, [], ◌∷◌, rules, refl, sym, ap, ap₂, ◌∙◌, subst}
use Rattle.calls.specs.declared.call.Call.{Call}
use Rattle.calls.specs.Answers.{Answer}
use Rattle.calls.specs.Faults.{fault_number}
use Rattle.store.specs.declared.reading.ReadingStore as reading_store
use Rattle.store.specs.declared.writing.WritingStore as writing_store
use Rattle.rules.specs.declared.house.HouseRule as house_rule
use Rattle.pool.specs.declared.pool.Pool.{Pool}
use Rattle.pool.specs.Calls.{Rule, PoolState, open_pool, state_after}
use Rattle.pool.specs.Pools.{state_of, rule_of}
use Rattle.runner.specs.Runs.{PerformsEach, Runs}
use Rattle.edges.specs.declared.cases.Edge.{Edge}
use Rattle.edges.specs.declared.cases.Edge.TheVariants.{FilledChain, TwoReaders, LoneReader}
use Rattle.edges.specs.declared.cases.Edge.TheVariants.{EmptyEdit, OneNo}
use Rattle.edges.specs.Trials.{Trial, PassesTrials, AreAnswersOf, by_number, calls_of}
use Rattle.edges.specs.Edges.{trials, limits_of_five, unopened_pool, opened_pool}

pub all_passed : (edge : Edge) → PassesTrials limits_of_five opened_pool (trials edge)
all_passed FilledChain = search rules
all_passed TwoReaders = search rules
all_passed LoneReader = search rules
all_passed EmptyEdit = search rules
all_passed OneNo = search rules

module _ {S R : Type 0} {w : writing_store.Ghosts S} {s : reading_store.Ghosts S} {r : house_rule.Ghosts R} where
  -- a pool that passes trials by another rule and state, which are its own
  passes : (pool : Pool S R w s r) (allows : Rule) (state : PoolState) (trials : List Trial)
      → rule_of pool ≡ allows → state_of pool ≡ state → PassesTrials allows state trials
      → PassesTrials (rule_of pool) (state_of pool) trials
  passes pool allows state trials rule means passed =
      subst (λ (rule : Rule). PassesTrials rule (state_of pool) trials) (sym rule)
      (subst (λ (now : PoolState). PassesTrials allows now trials) (sym means) passed)

  -- where a pool passes trials, the calls that are made on it answer as they say
  answered : (trials : List Trial) (old new : Pool S R w s r) (answers : List Answer)
      → PassesTrials (rule_of old) (state_of old) trials
      → PerformsEach old (calls_of trials) answers new → AreAnswersOf trials answers
  answered [] old new [] _ _ = refl
  answered [] old new (_ ∷ _) _ made = absurd made
  answered (_ ∷ _) old new [] _ made = absurd made
  answered (trial ∷ trials) old new (answer ∷ answers) (here, later) (mid, performs, _, made) =
      let passed = passes mid _ _ trials (ap r.allowed performs.rule) performs.leaves later in
      ap₂ ◌∷◌
      (ap (by_number fault_number) performs.answers ∙ here)
      (answered trials mid new answers passed made)

  -- and so do those of an edge case, on a pool that was opened for them
  pub played : (edge : Edge) (old new : Pool S R w s r) (calls : List Call) (answers : List Answer)
      → state_of old ≡ unopened_pool → rule_of old ≡ limits_of_five → calls ≡ calls_of (trials edge)
      → Runs old 2 calls answers new → AreAnswersOf (trials edge) answers
  played edge old new calls answers means rule are runs =
      let opened = runs.opens.leaves ∙ ap (λ (old : PoolState). state_after (open_pool old 2) old) means in
      let ruled = ap r.allowed runs.opens.rule ∙ rule in
      answered (trials edge) runs.opened new answers
      (passes runs.opened _ _ (trials edge) ruled opened (all_passed edge))
      (subst (λ (made : List Call). PerformsEach runs.opened made answers new) are runs.performs)
