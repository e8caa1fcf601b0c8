-- What each call on a pool answers and leaves. A call that is refused leaves everything as it was.
use Rattle.std.specs.Prelude.{ℕ, ◌+◌, Bool, true, ◌&&◌, not, ℤ, Some, None, Ok, Err, Option, Result, ◌==◌, nat_le, nat_lt, if◌then◌else◌}
use Rattle.calls.specs.declared.answer.Decision.{Decision}
use Rattle.calls.specs.declared.answer.Decision.TheVariants as D
use Rattle.calls.specs.declared.answer.Reply.{Reply}
use Rattle.calls.specs.declared.answer.Reply.TheVariants as R
use Rattle.calls.specs.declared.call.Call.{Call}
use Rattle.calls.specs.declared.call.Call.TheVariants as C
use Rattle.calls.specs.declared.call.CallName.{CallName}
use Rattle.calls.specs.declared.call.CallName.TheVariants as N
use Rattle.calls.specs.declared.fault.Fault.{Fault}
use Rattle.calls.specs.declared.fault.Fault.TheVariants.{SerialsUsedUp, NoLock, VotedAlready, VotesMissing, LocksRemain, CannotOpen, Store}
use Rattle.calls.specs.declared.state.State.{State}
use Rattle.calls.specs.declared.state.State.TheVariants.{Commit, Abort}
use Rattle.store.specs.declared.refusal.Refusal.{Refusal}
use Rattle.store.specs.declared.version.Version.{Version}
use Rattle.store.specs.Numbers.{most_seats, last_serial}
use Rattle.store.specs.Meaning.{WritingMeaning, last_version}
use Rattle.store.specs.Steps.{stage_answer, stage_after, publish_answer, publish_after, withdraw_answer, withdraw_after}
pub use Rattle.rules.specs.House.{Rule}
use Rattle.pool.specs.declared.table.InnerTable.{InnerTable}
use Rattle.pool.specs.Admissions.{admitted}
use Rattle.pool.specs.Masks.{has_member}
use Rattle.pool.specs.Locks.{shared_row, claimed_row, released_row, holds, is_writer}
use Rattle.pool.specs.Tables.{fresh_table, lacks_vote, seat_status, row_at, with_state, with_edit, with_held_row, with_vote, with_released_row}
use Rattle.pool.specs.Withdrawals.{withdrawn}

-- ------------------------------------------------------------ what a call is made on, and what comes of it

-- what the store means, and the table
pub record PoolState : Type 0 where
  pub store : WritingMeaning
  pub table : InnerTable

-- an accepted call: its answer, and what it leaves
pub record Accepted (T : Type 0) : Type 0 where
  pub answer : T
  pub leaves : PoolState

abbrev pub accepted : {T : Type 0} → T → PoolState → Result (Accepted T) Fault
accepted answer state = Ok (record { answer = answer; leaves = state })

-- what comes next, unless this is refused
abbrev pub and_then : {A B : Type 0} → Result A Fault → (A → Result B Fault) → Result B Fault
and_then (Ok found) next = next found
and_then (Err fault) next = Err fault

-- the answer of a call
abbrev pub answer_of : {T : Type 0} → Result (Accepted T) Fault → Result T Fault
answer_of (Ok done) = Ok done.answer
answer_of (Err fault) = Err fault

-- what it leaves of the state that it was made on
abbrev pub state_after : {T : Type 0} → Result (Accepted T) Fault → PoolState → PoolState
state_after (Ok done) state = done.leaves
state_after (Err fault) state = state

-- the pool with this table
abbrev pub with_table : PoolState → InnerTable → PoolState
with_table state table = record state { table = table }

-- ------------------------------------------------------------ values

abbrev pub has_entry : PoolState → ℕ → Bool
has_entry state entry = nat_lt entry state.store.reading.entries

-- the checks of a call on an entry
abbrev pub admitted_at : PoolState → CallName → ℕ → ℕ → Result State Fault
admitted_at state name seat entry = admitted state.table name seat (has_entry state entry)

-- the last value of the entry's chain, and the staged one; where none is staged, the last
abbrev pub last_value : PoolState → ℕ → ℤ
last_value state entry = (last_version (state.store.reading.chains entry)).value

abbrev pub value_or : Option Version → ℤ → ℤ
value_or None other = other
value_or (Some version) _ = version.value

abbrev pub staged_value : PoolState → ℕ → ℤ
staged_value state entry = value_or (state.store.staged entry) (last_value state entry)

-- the version that the seat's edit writes
abbrev pub version_of : PoolState → ℕ → ℤ → Version
version_of state seat value = record { value = value; seat = seat; serial = (seat_status state.table seat).serial }

-- a refusal of the store, as the pool passes it up
abbrev pub from_store : Result (Unit {0}) Refusal → Result (Unit {0}) Fault
from_store (Ok done) = Ok done
from_store (Err refusal) = Err (Store refusal)

-- ------------------------------------------------------------ the calls

abbrev pub begin : PoolState → ℕ → Result (Accepted ℕ) Fault
begin state seat =
    let serial = (seat_status state.table seat).serial in
    and_then (admitted state.table N.Begin seat true) (λ next.
    if nat_lt serial last_serial
    then accepted (serial + 1) (with_table state (with_edit state.table seat next (serial + 1)))
    else Err SerialsUsedUp)

-- a call that only leads to another state
abbrev pub change_state : CallName → PoolState → ℕ → Result (Accepted (Unit {0})) Fault
change_state name state seat =
    and_then (admitted state.table name seat true) (λ next.
    accepted tt (with_table state (with_state state.table seat next)))

abbrev pub prepare : PoolState → ℕ → Result (Accepted (Unit {0})) Fault
prepare = change_state N.Prepare

abbrev pub abort : PoolState → ℕ → Result (Accepted (Unit {0})) Fault
abort = change_state N.Abort

-- the writer reads what it staged, and any other reader the last value
abbrev pub read : PoolState → ℕ → ℕ → Result (Accepted ℤ) Fault
read state seat entry =
    and_then (admitted_at state N.Read seat entry) (λ _.
    and_then (shared_row (row_at state.table entry) seat) (λ row.
    accepted (if is_writer row seat then staged_value state entry else last_value state entry)
    (with_table state (with_held_row state.table seat entry row))))

-- the store stages the value under the seat and its serial, and only then is the seat the writer
abbrev pub write : PoolState → ℕ → ℕ → ℤ → Result (Accepted (Unit {0})) Fault
write state seat entry value =
    let version = version_of state seat value in
    and_then (admitted_at state N.Write seat entry) (λ _.
    and_then (claimed_row (row_at state.table entry) seat) (λ row.
    and_then (from_store (stage_answer state.store entry version)) (λ _.
    accepted tt (record { store = stage_after state.store entry version; table = with_held_row state.table seat entry row }))))

-- what the house rule says of the entry's last value and the staged one
abbrev pub is_allowed : Rule → PoolState → ℕ → Bool
is_allowed allows state entry = allows entry (last_value state entry) (staged_value state entry)

-- a read lock votes yes, and a write lock what the house rule says
abbrev pub vote_of : Rule → PoolState → ℕ → ℕ → Bool
vote_of allows state seat entry = if is_writer (row_at state.table entry) seat then is_allowed allows state entry else true

-- one vote for each lock
abbrev pub vote : Rule → PoolState → ℕ → ℕ → Result (Accepted Bool) Fault
vote allows state seat entry =
    let yes_or_no = vote_of allows state seat entry in
    and_then (admitted_at state N.Vote seat entry) (λ _.
    if not (holds (row_at state.table entry) seat) then Err NoLock
    else (if has_member (seat_status state.table seat).voted entry then Err VotedAlready
    else accepted yes_or_no (with_table state (with_vote state.table seat entry yes_or_no))))

-- one no aborts, whatever is missing; a commit wants every vote
abbrev pub decide : PoolState → ℕ → Result (Accepted Decision) Fault
decide state seat =
    let status = seat_status state.table seat in
    and_then (admitted state.table N.Decide seat true) (λ next.
    if not (status.against == 0) then accepted D.Abort (with_table state (with_state state.table seat Abort))
    else (if lacks_vote status then Err VotesMissing
    else accepted D.Commit (with_table state (with_state state.table seat next))))

-- the pool once the seat has let go of the entry, with this left of the store
abbrev pub let_go : PoolState → ℕ → ℕ → WritingMeaning → PoolState
let_go state seat entry store =
    record { store = store; table = with_released_row state.table seat entry (released_row (row_at state.table entry) seat) }

-- a committed write is published, and an aborted one withdrawn
abbrev pub finish_write : PoolState → ℕ → ℕ → State → Result (Accepted (Unit {0})) Fault
finish_write state seat entry Commit =
    and_then (from_store (publish_answer state.store entry)) (λ _.
    accepted tt (let_go state seat entry (publish_after state.store entry)))
finish_write state seat entry _ =
    and_then (from_store (withdraw_answer state.store entry)) (λ _.
    accepted tt (let_go state seat entry (withdraw_after state.store entry)))

-- a read lock leaves the store alone
abbrev pub finish : PoolState → ℕ → ℕ → Result (Accepted (Unit {0})) Fault
finish state seat entry =
    and_then (admitted_at state N.Finish seat entry) (λ next.
    if not (holds (row_at state.table entry) seat) then Err NoLock
    else (if is_writer (row_at state.table entry) seat then finish_write state seat entry next
    else accepted tt (let_go state seat entry state.store)))

abbrev pub close : PoolState → ℕ → Result (Accepted (Unit {0})) Fault
close state seat =
    and_then (admitted state.table N.Close seat true) (λ next.
    if not ((seat_status state.table seat).held == 0) then Err LocksRemain
    else accepted tt (with_table state (with_state state.table seat next)))

-- opening keeps the chains, withdraws all that is staged, and sets every seat idle with serial 0
abbrev pub open_pool : PoolState → ℕ → Result (Accepted (Unit {0})) Fault
open_pool state seats =
    let entries = state.store.reading.entries in
    if nat_le 1 seats && nat_le seats most_seats && nat_lt 0 entries && state.table.seats == 0
    then accepted tt (record { store = withdrawn state.store entries; table = fresh_table seats })
    else Err CannotOpen

-- ------------------------------------------------------------ a call by its name

-- what comes of a call, with its answer as a reply
abbrev pub replied : {T : Type 0} → (T → Reply) → Result (Accepted T) Fault → Result (Accepted Reply) Fault
replied reply (Ok done) = accepted (reply done.answer) done.leaves
replied reply (Err fault) = Err fault

abbrev pub perform : Rule → Call → PoolState → Result (Accepted Reply) Fault
perform allows (C.Begin seat) state = replied R.Serial (begin state seat)
perform allows (C.Read seat entry) state = replied R.Value (read state seat entry)
perform allows (C.Write seat entry value) state = replied (λ _. R.Done) (write state seat entry value)
perform allows (C.Prepare seat) state = replied (λ _. R.Done) (prepare state seat)
perform allows (C.Vote seat entry) state = replied R.Voted (vote allows state seat entry)
perform allows (C.Decide seat) state = replied R.Decided (decide state seat)
perform allows (C.Abort seat) state = replied (λ _. R.Done) (abort state seat)
perform allows (C.Finish seat entry) state = replied (λ _. R.Done) (finish state seat entry)
perform allows (C.Close seat) state = replied (λ _. R.Done) (close state seat)
