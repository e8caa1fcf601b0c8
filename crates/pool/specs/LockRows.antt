-- The row that stands for a lock.
use Rattle.std.specs.Prelude.{Ok, Err, Result}
use Rattle.calls.specs.declared.fault.Fault.{Fault}
use Rattle.pool.specs.declared.lock.Lock.{Lock}
use Rattle.pool.specs.declared.table.Row.{Row}
use Rattle.pool.specs.Locks.{row}

abbrev pub row_of : Lock → Row
row_of lock = row lock.writer lock.readers

-- the row of the lock that was had, or why it was not
abbrev pub row_or_fault : Result Lock Fault → Result Row Fault
row_or_fault (Ok lock) = Ok (row_of lock)
row_or_fault (Err fault) = Err fault
