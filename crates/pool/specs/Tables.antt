-- The inner table of a pool: what it keeps of seats and of locks, and what is set in it.
use Rattle.std.specs.Prelude.{◌≡◌, ℕ, ◌<◌, Bool, length, replicate, Some, None, Option, not, ◌&&◌, nat_lt, slice_index_or, slice_set, if◌then◌else◌, IsTrue}
use Rattle.calls.specs.declared.state.State.{State}
use Rattle.calls.specs.declared.state.State.TheVariants.{Idle}
use Rattle.store.specs.Numbers.{most_seats, most_entries}
use Rattle.pool.specs.declared.table.SeatStatus.{SeatStatus}
use Rattle.pool.specs.declared.table.Row.{Row}
use Rattle.pool.specs.declared.table.InnerTable.{InnerTable}
use Rattle.pool.specs.Masks.{has_member, with_member, without_member, is_subset}
use Rattle.pool.specs.Locks.{is_lock, holds, unlocked_row}

-- a seat with no edit yet
abbrev pub idle_seat : SeatStatus
idle_seat = record { state = Idle; serial = 0; held = 0; voted = 0; against = 0 }

-- the table of a pool that was just made, or just opened with so many seats
abbrev pub fresh_table : ℕ → InnerTable
fresh_table seats = record { seats = seats; statuses = replicate most_seats idle_seat; rows = replicate most_entries unlocked_row }

abbrev pub seat_status : InnerTable → ℕ → SeatStatus
seat_status table seat = slice_index_or table.statuses seat idle_seat

abbrev pub row_at : InnerTable → ℕ → Row
row_at table entry = slice_index_or table.rows entry unlocked_row

-- the pool has the seat; the table has room for sixteen, whatever their number
abbrev pub has_seat : InnerTable → ℕ → Bool
has_seat table seat = nat_lt seat table.seats && nat_lt seat most_seats

-- what the table keeps of a seat that the pool has
abbrev pub status_of : InnerTable → ℕ → Option SeatStatus
status_of table seat = if has_seat table seat then Some (seat_status table seat) else None

-- the seat holds an entry that it has not voted on
abbrev pub lacks_vote : SeatStatus → Bool
lacks_vote status = not (is_subset status.held status.voted)

-- ------------------------------------------------------------ what is set

abbrev pub with_status : InnerTable → ℕ → SeatStatus → InnerTable
with_status table seat status = record table { statuses = slice_set table.statuses seat status }

abbrev pub with_row : InnerTable → ℕ → Row → InnerTable
with_row table entry row = record table { rows = slice_set table.rows entry row }

-- the seat's edit is in another state
abbrev pub with_state : InnerTable → ℕ → State → InnerTable
with_state table seat state = with_status table seat (record (seat_status table seat) { state = state })

-- the seat has begun an edit of this serial
abbrev pub with_edit : InnerTable → ℕ → State → ℕ → InnerTable
with_edit table seat state serial = with_status table seat (record (seat_status table seat) { state = state; serial = serial })

-- the entry has this lock, which the seat holds
abbrev pub with_held_row : InnerTable → ℕ → ℕ → Row → InnerTable
with_held_row table seat entry row =
    let status = seat_status table seat in
    with_row (with_status table seat (record status { held = with_member status.held entry })) entry row

-- the seat has voted on the entry
abbrev pub voted_status : SeatStatus → ℕ → Bool → SeatStatus
voted_status status entry vote = record status {
  voted = with_member status.voted entry;
  against = if vote then without_member status.against entry else with_member status.against entry;
}

abbrev pub with_vote : InnerTable → ℕ → ℕ → Bool → InnerTable
with_vote table seat entry vote = with_status table seat (voted_status (seat_status table seat) entry vote)

-- the seat no longer holds the entry, and its vote is gone too
abbrev pub status_without : SeatStatus → ℕ → SeatStatus
status_without status entry = record status {
  held = without_member status.held entry;
  voted = without_member status.voted entry;
  against = without_member status.against entry;
}

-- the entry has this lock, of which the seat has let go
abbrev pub with_released_row : InnerTable → ℕ → ℕ → Row → InnerTable
with_released_row table seat entry row = with_row (with_status table seat (status_without (seat_status table seat) entry)) entry row

-- ------------------------------------------------------------ what holds of the table at all times

-- there is room for the most seats and entries; every row is a lock; and what a seat holds, its mask says as the rows do
pub record IsSoundTable (table : InnerTable) : Type 0 where
  pub statuses : length table.statuses ≡ most_seats
  pub rows : length table.rows ≡ most_entries
  pub locks : (entry : ℕ) → IsTrue (is_lock (row_at table entry))
  pub held : (seat entry : ℕ) → seat < most_seats → entry < most_entries → has_member (seat_status table seat).held entry ≡ holds (row_at table entry) seat
