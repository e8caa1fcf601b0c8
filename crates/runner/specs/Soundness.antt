-- What is so in every state of a pool that was opened and then called: its rows are locks, its writers have staged, its store refuses for
-- three reasons only, and a call that passes its checks is refused exactly where the table of calls says, by who holds and who has voted.
use Rattle.std.specs.Prelude.{◌≡◌, ◌≢◌, ◌↔◌, ℕ, ◌<◌, Bool, true, false, List, ℤ, Some, Err, IsOk, IsSome, IsTrue, IsFalse}
use Rattle.calls.specs.declared.fault.Fault.{Fault}
use Rattle.calls.specs.declared.fault.Fault.TheVariants.{LockInTheWay, NoLock, VotedAlready, VotesMissing, LocksRemain, Store}
use Rattle.calls.specs.declared.call.Call.{Call}
use Rattle.calls.specs.declared.call.Call.TheVariants.{Read, Write, Vote, Decide, Finish, Close}
use Rattle.calls.specs.declared.call.CallName.TheVariants as N
use Rattle.store.specs.declared.refusal.Refusal.{Refusal}
use Rattle.store.specs.declared.refusal.Refusal.TheVariants.{NoSuchEntry, ValueBeyondReach, ChainFull}
use Rattle.store.specs.Meaning.{IsSoundReading, IsSoundWriting}
use Rattle.store.specs.Numbers.{most_entries}
use Rattle.pool.specs.Masks.{has_member}
use Rattle.pool.specs.Tables.{seat_status, row_at}
use Rattle.pool.specs.Locks.{is_lock, is_writer, holds}
use Rattle.pool.specs.Admissions.{admitted}
use Rattle.pool.specs.Calls.{Rule, PoolState, answer_of, admitted_at, version_of, perform}
use Rattle.promise.specs.Histories.{Operation}
use Rattle.runner.specs.Runs.{Reached}

-- ------------------------------------------------------------ who holds, and who has voted

module _ (state : PoolState) where
  -- the seat has the entry for writing; it has it for writing or for reading; it has it not
  abbrev pub Writes : ℕ → ℕ → Type 0
  Writes seat entry = IsTrue (is_writer (row_at state.table entry) seat)

  abbrev pub Holds : ℕ → ℕ → Type 0
  Holds seat entry = IsTrue (holds (row_at state.table entry) seat)

  abbrev pub HoldsNot : ℕ → ℕ → Type 0
  HoldsNot seat entry = IsFalse (holds (row_at state.table entry) seat)

  -- some other seat has
  abbrev pub AnotherWrites : ℕ → ℕ → Type 0
  AnotherWrites seat entry = (other : ℕ) × Writes other entry × (other ≢ seat)

  abbrev pub AnotherHolds : ℕ → ℕ → Type 0
  AnotherHolds seat entry = (other : ℕ) × Holds other entry × (other ≢ seat)

  -- the seat has voted on the entry, or has not; it has not voted no there
  abbrev pub HasVoted : ℕ → ℕ → Type 0
  HasVoted seat entry = IsTrue (has_member (seat_status state.table seat).voted entry)

  abbrev pub HasNotVoted : ℕ → ℕ → Type 0
  HasNotVoted seat entry = IsFalse (has_member (seat_status state.table seat).voted entry)

  abbrev pub HasNoneAgainst : ℕ → Type 0
  HasNoneAgainst seat = (entry : ℕ) → entry < most_entries → IsFalse (has_member (seat_status state.table seat).against entry)

  -- the seat holds some entry; it holds one that it has not voted on
  abbrev pub HoldsSome : ℕ → Type 0
  HoldsSome seat = (entry : ℕ) × Holds seat entry

  abbrev pub LacksAVote : ℕ → Type 0
  LacksAVote seat = (entry : ℕ) × Holds seat entry × HasNotVoted seat entry

  -- what is staged at the entry is some value, under the seat and its present serial
  abbrev pub IsStagedBy : ℕ → ℕ → Type 0
  IsStagedBy seat entry = (value : ℤ) × (state.store.staged entry ≡ Some (version_of state seat value))

-- what a store may refuse to a call: an entry that it does not have, a value beyond its reach, a chain that is full
abbrev pub is_expected : Refusal → Bool
is_expected NoSuchEntry = true
is_expected ValueBeyondReach = true
is_expected ChainFull = true
is_expected _ = false

-- ------------------------------------------------------------ a state in order

module _ (allows : Rule) (state : PoolState) where
  -- a call that passes the checks which every call begins with is refused for the fault exactly where this is so
  abbrev pub RefusedWhere : Call → Fault → Type 0 → Type 0
  RefusedWhere call fault Where = (answer_of (perform allows call state) ≡ Err fault) ↔ Where

  pub record IsSoundState : Type 0 where
    -- every row is a lock
    pub locks : (entry : ℕ) → IsTrue (is_lock (row_at state.table entry))
    -- whoever writes an entry has staged a value there; and where something is staged, a seat writes
    pub staged : (seat entry : ℕ) → Writes state seat entry → IsStagedBy state seat entry
    pub written : (entry : ℕ) → IsSome (state.store.staged entry) → (seat : ℕ) × Writes state seat entry
    -- whatever call comes next, the store does not refuse it for any other reason than those three
    pub refusals : (call : Call) (refusal : Refusal) → answer_of (perform allows call state) ≡ Err (Store refusal) → IsTrue (is_expected refusal)
    -- 5, 8, 9, 10 and 11
    pub read_meets_a_writer : (seat entry : ℕ) → IsOk (admitted_at state N.Read seat entry)
        → RefusedWhere (Read seat entry) LockInTheWay (AnotherWrites state seat entry)
    pub write_meets_a_holder : (seat entry : ℕ) (value : ℤ) → IsOk (admitted_at state N.Write seat entry)
        → RefusedWhere (Write seat entry value) LockInTheWay (AnotherHolds state seat entry)
    pub vote_wants_a_lock : (seat entry : ℕ) → IsOk (admitted_at state N.Vote seat entry)
        → RefusedWhere (Vote seat entry) NoLock (HoldsNot state seat entry)
    pub vote_comes_once : (seat entry : ℕ) → IsOk (admitted_at state N.Vote seat entry)
        → RefusedWhere (Vote seat entry) VotedAlready (Holds state seat entry × HasVoted state seat entry)
    pub decide_wants_every_vote : (seat : ℕ) → IsOk (admitted state.table N.Decide seat true)
        → RefusedWhere (Decide seat) VotesMissing (HasNoneAgainst state seat × LacksAVote state seat)
    pub finish_wants_a_lock : (seat entry : ℕ) → IsOk (admitted_at state N.Finish seat entry)
        → RefusedWhere (Finish seat entry) NoLock (HoldsNot state seat entry)
    pub close_wants_no_lock : (seat : ℕ) → IsOk (admitted state.table N.Close seat true)
        → RefusedWhere (Close seat) LocksRemain (HoldsSome state seat)

-- every pool over a store that keeps to its meaning, however it was called after opening
abbrev pub AlwaysSound : Type 0
AlwaysSound =
    (allows : Rule) (initial : PoolState) (seats : ℕ) (past : List Operation) (now : PoolState)
    → IsSoundReading initial.store.reading → IsSoundWriting initial.store
    → Reached allows initial seats past now → IsSoundState allows now
