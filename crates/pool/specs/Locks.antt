-- The lock of an entry, as its row has it: who holds it, and how it is shared, claimed and released.
use Rattle.std.specs.Prelude.{ℕ, Bool, true, false, not, ◌&&◌, ◌||◌, is_some, Some, None, Ok, Err, Option, Result, ◌==◌, if◌then◌else◌}
use Rattle.calls.specs.declared.fault.Fault.{Fault}
use Rattle.calls.specs.declared.fault.Fault.TheVariants.{LockInTheWay}
use Rattle.pool.specs.declared.table.Row.{Row}
use Rattle.pool.specs.Masks.{has_member, with_member, without_member}

abbrev pub row : Option ℕ → ℕ → Row
row writer readers = record { writer = writer; readers = readers }

abbrev pub unlocked_row : Row
unlocked_row = row None 0

-- a row stands for a lock unless it has both a writer and a reader
abbrev pub is_lock : Row → Bool
is_lock row = not (is_some row.writer && not (row.readers == 0))

-- by whether the seat is the writer, another is, or none
abbrev pub by_writer : {T : Type 0} → Option ℕ → ℕ → T → T → T → T
by_writer None seat own other none = none
by_writer (Some writer) seat own other none = if writer == seat then own else other

abbrev pub is_writer : Row → ℕ → Bool
is_writer row seat = by_writer row.writer seat true false false

-- the seat holds the lock, for writing or for reading
abbrev pub holds : Row → ℕ → Bool
holds row seat = is_writer row seat || has_member row.readers seat

abbrev pub is_held_by_another : Row → ℕ → Bool
is_held_by_another row seat = by_writer row.writer seat false true (not (without_member row.readers seat == 0))

-- a lock shared with the seat for reading; its writer has it already, and another writer is in the way
abbrev pub lock_shared : Row → ℕ → Result Row Fault
lock_shared old seat = by_writer old.writer seat (Ok old) (Err LockInTheWay) (Ok (row None (with_member old.readers seat)))

-- a lock claimed by the seat for writing; any other holder is in the way
abbrev pub lock_claimed : Row → ℕ → Result Row Fault
lock_claimed old seat = if is_held_by_another old seat then Err LockInTheWay else Ok (row (Some seat) 0)

-- the same of a row, where it stands for a lock
abbrev pub shared_row : Row → ℕ → Result Row Fault
shared_row old seat = if is_lock old then lock_shared old seat else Err LockInTheWay

abbrev pub claimed_row : Row → ℕ → Result Row Fault
claimed_row old seat = if is_lock old then lock_claimed old seat else Err LockInTheWay

-- without the seat
abbrev pub released_row : Row → ℕ → Row
released_row old seat = row (if is_writer old seat then None else old.writer) (without_member old.readers seat)
