-- Lists of calls on a pool: what they leave and answer.
use Rattle.std.specs.Prelude.{ℕ, zero, suc, Bool, if◌then◌else◌, List, [], ◌∷◌, ◌++◌}
use Rattle.calls.specs.declared.call.Call.{Call}
use Rattle.calls.specs.Answers.{Answer}
use Rattle.store.specs.declared.reading.ReadingStore as reading_store
use Rattle.store.specs.declared.writing.WritingStore as writing_store
use Rattle.rules.specs.declared.house.HouseRule as house_rule
use Rattle.pool.specs.declared.pool.Pool.{Pool}
use Rattle.pool.specs.Calls.{Rule, PoolState, answer_of, state_after, perform}
use Rattle.pool.specs.Pools.{state_of}
use Rattle.runner.specs.Runs.{PerformsEach}

-- the state after these calls, made in their order
abbrev pub state_after_calls : Rule → List Call → PoolState → PoolState
state_after_calls allows [] state = state
state_after_calls allows (call ∷ calls) state = state_after_calls allows calls (state_after (perform allows call state) state)

-- what they answer, in their order
abbrev pub answers_to : Rule → List Call → PoolState → List Answer
answers_to allows [] state = []
answers_to allows (call ∷ calls) state =
    answer_of (perform allows call state) ∷ answers_to allows calls (state_after (perform allows call state) state)

-- one call for each entry below n that passes the test, in entry order
abbrev pub calls_for_each : (ℕ → Bool) → (ℕ → Call) → ℕ → List Call
calls_for_each test call zero = []
calls_for_each test call (suc n) = calls_for_each test call n ++ (if test n then call n ∷ [] else [])

module _ {S R : Type 0} {w : writing_store.Ghosts S} {s : reading_store.Ghosts S} {r : house_rule.Ghosts R} where
  -- the calls were made, and no others, whatever they answered
  pub record MakesCalls (old : Pool S R w s r) (calls : List Call) (new : Pool S R w s r) : Type 0 where
    pub answers : List Answer
    pub performs : PerformsEach old calls answers new

  -- the same of the calls that a state of the pool asks for
  abbrev pub MakesEach : Pool S R w s r → (PoolState → List Call) → Pool S R w s r → Type 0
  MakesEach old calls new = MakesCalls old (calls (state_of old)) new
