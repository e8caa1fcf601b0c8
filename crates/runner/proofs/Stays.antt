-- A call that is performed on a pool goes on with whatever led to the pool, and the promise holds of both.
use Rattle.std.proofs.Common.{ℕ, ◌≤◌, List, ◌∷◌, sym, subst}
use Rattle.calls.specs.Answers.{Answer}
use Rattle.calls.specs.declared.call.Call.{Call}
use Rattle.store.specs.declared.reading.ReadingStore as reading_store
use Rattle.store.specs.declared.writing.WritingStore as writing_store
use Rattle.rules.specs.declared.house.HouseRule as house_rule
use Rattle.pool.specs.declared.pool.Pool.{Pool}
use Rattle.pool.specs.Calls.{Rule, PoolState, state_after, perform}
use Rattle.pool.specs.Pools.{Performs, state_of, rule_of}
use Rattle.promise.specs.Histories.{Operation}
use Rattle.runner.specs.Runs.{Reached, called, StaysAlone}
use Rattle.runner.proofs.Entries.{reached_entries}
use Rattle.runner.proofs.Whole.{alone}

module _ {S R : Type 0} {w : writing_store.Ghosts S} {s : reading_store.Ghosts S} {r : house_rule.Ghosts R} where
  pub reaches : {old new : Pool S R w s r} (call : Call) {answer : Answer} → Performs old (perform (rule_of old) call) answer new
      → (initial : PoolState) (seats : ℕ) (past : List Operation) → Reached (rule_of old) initial seats past (state_of old)
      → Reached (rule_of old) initial seats (record { call = call; answer = answer } ∷ past) (state_of new)
  reaches {old} {new} call {answer} p initial seats past k =
      subst (λ (t : PoolState). Reached (rule_of old) initial seats (record { call = call; answer = answer } ∷ past) t) (sym p.leaves)
      (subst
      (λ (a : Answer). Reached (rule_of old) initial seats (record { call = call; answer = a } ∷ past) (state_after (perform (rule_of old) call (state_of old)) (state_of old)))
      (sym p.answers) (called k call))

  -- what led to a pool had few entries
  pub few_entries : (pool : Pool S R w s r) (allows : Rule) (initial : PoolState) (seats : ℕ) (past : List Operation) → Reached allows initial seats past (state_of pool)
      → initial.store.reading.entries ≤ 64
  few_entries pool allows initial seats past k = subst (λ (n : ℕ). n ≤ 64) (reached_entries allows initial seats k) pool.few

  pub stays_alone : {old new : Pool S R w s r} (call : Call) {answer : Answer} → Performs old (perform (rule_of old) call) answer new → StaysAlone old call answer new
  stays_alone {old} {new} call p = record {
    reached = reaches call p;
    alone = λ initial seats past k. alone (rule_of old) initial seats (few_entries old (rule_of old) initial seats past k) (reaches call p initial seats past k);
  }
