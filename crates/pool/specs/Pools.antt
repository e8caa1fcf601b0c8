-- What a pool shows, and the contract of its calls.
use Rattle.std.specs.Prelude.{◌≡◌, ℕ, ◌&&◌, Bool, true, ℤ, nat_lt, Option, OnErr, OnOk, Result, MatchBool}
use Rattle.calls.specs.declared.answer.Reply.{Reply}
use Rattle.calls.specs.declared.call.Call.{Call}
use Rattle.calls.specs.declared.call.Call.TheVariants.{Write, Finish}
use Rattle.calls.specs.declared.call.CallName.{CallName}
use Rattle.calls.specs.declared.fault.Fault.{Fault}
use Rattle.calls.specs.declared.state.State.{State}
use Rattle.calls.specs.declared.state.State.TheVariants.{Commit}
use Rattle.store.specs.declared.reading.ReadingStore as reading_store
use Rattle.store.specs.declared.writing.WritingStore as writing_store
use Rattle.store.specs.Meaning.{meaning_of}
use Rattle.store.specs.Numbers.{most_seats, most_entries}
use Rattle.rules.specs.declared.house.HouseRule as house_rule
use Rattle.pool.specs.declared.pool.Pool.{Pool}
use Rattle.pool.specs.declared.table.SeatStatus.{SeatStatus}
use Rattle.pool.specs.Masks.{has_member}
use Rattle.pool.specs.Locks.{holds, is_writer}
use Rattle.pool.specs.Tables.{fresh_table, seat_status, row_at, status_of}
use Rattle.pool.specs.Admissions.{admitted}
use Rattle.pool.specs.Withdrawals.{WithdrawsBelow}
use Rattle.pool.specs.Calls.{Rule, PoolState, Accepted, admitted_at, answer_of, state_after, version_of, vote}

-- ------------------------------------------------------------ what is left of a store's memory, in the store's own words

module _ {S : Type 0} (w : writing_store.Ghosts S) where
  -- what an edit wrote to an entry is published after a commit, and withdrawn after an abort
  abbrev pub FinishesWrite : State → S → ℕ → S → Type 0
  FinishesWrite Commit old entry new = w.publish_leaves old entry new
  FinishesWrite _ old entry new = w.withdraw_leaves old entry new

module _ {S R : Type 0} {w : writing_store.Ghosts S} {s : reading_store.Ghosts S} {r : house_rule.Ghosts R} where
  -- ------------------------------------------------------------ what a pool shows

  abbrev pub store_of : Pool S R w s r → S
  store_of pool = pool.store

  abbrev pub rule_of : Pool S R w s r → Rule
  rule_of pool = r.allowed pool.rule

  -- what its store means, and its table
  abbrev pub state_of : Pool S R w s r → PoolState
  state_of pool = record { store = meaning_of s.reading w.staged pool.store; table = pool.table }

  -- what it keeps of a seat that it has
  abbrev pub status : Pool S R w s r → ℕ → Option SeatStatus
  status pool seat = status_of pool.table seat

  -- the seat holds the lock of the entry
  abbrev pub is_holder : Pool S R w s r → ℕ → ℕ → Bool
  is_holder pool seat entry = nat_lt seat most_seats && nat_lt entry most_entries && holds (row_at pool.table entry) seat

  -- the seat has voted on the entry
  abbrev pub has_voted : Pool S R w s r → ℕ → ℕ → Bool
  has_voted pool seat entry = nat_lt seat most_seats && nat_lt entry most_entries && has_member (seat_status pool.table seat).voted entry

  -- the state that a call of this name on no entry leads to, or what the checks say against it
  abbrev pub next_of : Pool S R w s r → CallName → ℕ → Result State Fault
  next_of pool name seat = admitted pool.table name seat true

  -- and of a call on an entry
  abbrev pub next_at : Pool S R w s r → CallName → ℕ → ℕ → Result State Fault
  next_at pool name seat entry = admitted_at (state_of pool) name seat entry

  -- a vote under the pool's own house rule
  abbrev pub vote_under : Pool S R w s r → PoolState → ℕ → ℕ → Result (Accepted Bool) Fault
  vote_under pool state seat entry = vote (rule_of pool) state seat entry

  -- a pool just made: it has no seat, and so refuses every call
  pub record IsNew (store : S) (rule : R) (pool : Pool S R w s r) : Type 0 where
    pub store_is : pool.store ≡ store
    pub rule_is : pool.rule ≡ rule
    pub unopened : pool.table ≡ fresh_table 0

  -- ------------------------------------------------------------ what a call does

  -- a call that does this: its answer, the state that it leaves, and the house rule as it was; where it is refused, the very pool
  -- that was there, with all its memory
  pub record Performs {T : Type 0} (old : Pool S R w s r) (does : PoolState → Result (Accepted T) Fault) (result : Result T Fault) (new : Pool S R w s r) : Type 0 where
    pub answers : result ≡ answer_of (does (state_of old))
    pub leaves : state_of new ≡ state_after (does (state_of old)) (state_of old)
    pub rule : new.rule ≡ old.rule
    pub refused : OnErr result (new ≡ old)

  -- the very store stays, with all its memory
  abbrev pub KeepsStore : Pool S R w s r → Pool S R w s r → Type 0
  KeepsStore old new = new.store ≡ old.store

  -- what an accepted write leaves of the store's memory is what the store says of staging the version
  abbrev pub StagesInStore : Pool S R w s r → ℕ → ℕ → ℤ → Pool S R w s r → Type 0
  StagesInStore old seat entry value new = w.stage_leaves old.store entry (version_of (state_of old) seat value) new.store

  -- what an accepted finish leaves of it: a write is published or withdrawn, and where the seat only reads, the very store stays
  abbrev pub FinishesInStore : Pool S R w s r → ℕ → ℕ → Pool S R w s r → Type 0
  FinishesInStore old seat entry new =
      MatchBool (is_writer (row_at old.table entry) seat)
      (FinishesWrite w (seat_status old.table seat).state old.store entry new.store)
      (new.store ≡ old.store)

  -- what opening leaves of it
  abbrev pub WithdrawsAll : Pool S R w s r → Pool S R w s r → Type 0
  WithdrawsAll old new = WithdrawsBelow s.reading w.staged w.withdraw_leaves old.store (s.reading old.store).entries new.store

  -- what a call leaves of the store's memory, by its name
  abbrev pub LeavesStore : Pool S R w s r → Call → Result Reply Fault → Pool S R w s r → Type 0
  LeavesStore old (Write seat entry value) result new = OnOk result (StagesInStore old seat entry value new)
  LeavesStore old (Finish seat entry) result new = OnOk result (FinishesInStore old seat entry new)
  LeavesStore old _ result new = KeepsStore old new
