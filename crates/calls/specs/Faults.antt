-- The number of each refusal of a pool.
use Rattle.std.specs.Prelude.{ℕ}
use Rattle.store.specs.Refusals.{refusal_number}
use Rattle.calls.specs.declared.fault.Fault.{Fault}
use Rattle.calls.specs.declared.fault.Fault.TheVariants.{NoSuchSeat, WrongState, SerialsUsedUp, LockInTheWay, NoLock, VotedAlready, VotesMissing, LocksRemain, CannotOpen, Store}

abbrev pub fault_number : Fault → ℕ
fault_number NoSuchSeat = 1
fault_number WrongState = 3
fault_number SerialsUsedUp = 4
fault_number LockInTheWay = 5
fault_number NoLock = 8
fault_number VotedAlready = 9
fault_number VotesMissing = 10
fault_number LocksRemain = 11
fault_number CannotOpen = 12
fault_number (Store refusal) = refusal_number refusal
