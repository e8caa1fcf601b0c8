-- Calls made on a pool one after another, and the promise of them.
use Rattle.std.specs.Prelude.{◌≡◌, ℕ, ◌≤◌, Bool, List, [], ◌∷◌, length, Ok, Err, IsOk}
use Rattle.calls.specs.declared.call.Call.{Call}
use Rattle.calls.specs.declared.fault.Fault.{Fault}
use Rattle.calls.specs.Answers.{Answer}
use Rattle.store.specs.declared.reading.ReadingStore as reading_store
use Rattle.store.specs.declared.writing.WritingStore as writing_store
use Rattle.store.specs.Numbers.{most_entries}
use Rattle.rules.specs.declared.house.HouseRule as house_rule
use Rattle.pool.specs.declared.pool.Pool.{Pool}
use Rattle.pool.specs.Tables.{row_at}
use Rattle.pool.specs.Locks.{holds}
use Rattle.pool.specs.Calls.{Rule, PoolState, answer_of, state_after, open_pool, perform}
use Rattle.pool.specs.Pools.{state_of, rule_of, Performs, LeavesStore, WithdrawsAll}
use Rattle.promise.specs.Histories.{Operation, history}
use Rattle.promise.specs.OneByOne.{Chains}
use Rattle.promise.specs.Promise.{AsIfAlone}

-- ------------------------------------------------------------ states of a pool

-- a pool that was opened, and then had these operations and no others, the latest first
pub data Reached (allows : Rule) (initial : PoolState) (seats : ℕ) : List Operation → PoolState → Type 0 where
  opened : IsOk (open_pool initial seats) → Reached allows initial seats [] (state_after (open_pool initial seats) initial)
  called : {past : List Operation} {state : PoolState} → Reached allows initial seats past state → (call : Call)
      → Reached allows initial seats (record { call = call; answer = answer_of (perform allows call state) } ∷ past) (state_after (perform allows call state) state)

-- the chains of a pool's store, and the seats that hold an entry in the pool's lock on it, the entry first
abbrev pub chains : PoolState → Chains
chains state = state.store.reading.chains

abbrev pub holders : PoolState → ℕ → ℕ → Bool
holders state entry seat = holds (row_at state.table entry) seat

-- the promise, of the operations that led from one state to another
abbrev pub IsAloneBetween : Rule → PoolState → List Operation → PoolState → Type 0
IsAloneBetween allows initial operations now = AsIfAlone allows (chains initial) (chains now) (holders now) operations

-- in every state that is reached over at most 64 entries, the promise holds of all that led there
abbrev pub AlwaysAlone : Type 0
AlwaysAlone = (allows : Rule) (initial : PoolState) (seats : ℕ) (past : List Operation) (state : PoolState)
    → initial.store.reading.entries ≤ most_entries → Reached allows initial seats past state → IsAloneBetween allows initial past state

-- ------------------------------------------------------------ pools

module _ {S R : Type 0} {w : writing_store.Ghosts S} {s : reading_store.Ghosts S} {r : house_rule.Ghosts R} where
  -- whatever opening and operations led to the old pool, with this call behind them they lead to the new one, and the promise
  -- holds of them all
  pub record StaysAlone (old : Pool S R w s r) (call : Call) (answer : Answer) (new : Pool S R w s r) : Type 0 where
    pub reached : (initial : PoolState) (seats : ℕ) (past : List Operation) → Reached (rule_of old) initial seats past (state_of old)
        → Reached (rule_of old) initial seats (record { call = call; answer = answer } ∷ past) (state_of new)
    pub alone : (initial : PoolState) (seats : ℕ) (past : List Operation) → Reached (rule_of old) initial seats past (state_of old)
        → IsAloneBetween (rule_of old) initial (record { call = call; answer = answer } ∷ past) (state_of new)

  -- the calls were made one after another, each as its contract says
  abbrev pub PerformsEach : Pool S R w s r → List Call → List Answer → Pool S R w s r → Type 0
  PerformsEach old [] [] new = new ≡ old
  PerformsEach old (call ∷ calls) (answer ∷ answers) new =
      (mid : Pool S R w s r) × Performs old (perform (rule_of old) call) answer mid × LeavesStore old call answer mid
      × PerformsEach mid calls answers new
  PerformsEach _ _ _ _ = ⊥

  -- The pool was opened, and then the calls were made. There are as many answers as calls,
  -- and the house rule is as it was.
  pub record Runs (old : Pool S R w s r) (seats : ℕ) (calls : List Call) (answers : List Answer) (new : Pool S R w s r) : Type 0 where
    pub opened : Pool S R w s r
    pub opens : Performs old (λ state. open_pool state seats) (Ok tt) opened
    pub withdraws : WithdrawsAll old opened
    pub performs : PerformsEach opened calls answers new
    pub each : length answers ≡ length calls
    pub rule : new.rule ≡ old.rule
    pub reached : Reached (rule_of old) (state_of old) seats (history [] calls answers) (state_of new)

  -- every edit in the calls is as if made alone
  abbrev pub RunsAlone : Pool S R w s r → List Call → List Answer → Pool S R w s r → Type 0
  RunsAlone old calls answers new = IsAloneBetween (rule_of old) (state_of old) (history [] calls answers) (state_of new)

  -- opening with so many seats is refused for this fault
  abbrev pub IsOpeningFault : Pool S R w s r → ℕ → Fault → Type 0
  IsOpeningFault pool seats fault = answer_of (open_pool (state_of pool) seats) ≡ Err fault
