-- The checks that every call begins with: its seat, its entry, and the step table, which has the state that the call leads to.
use Rattle.std.specs.Prelude.{ℕ, Bool, Some, None, Ok, Err, Option, Result, if◌then◌else◌}
use Rattle.calls.specs.declared.fault.Fault.{Fault}
use Rattle.calls.specs.declared.fault.Fault.TheVariants.{NoSuchSeat, WrongState, Store}
use Rattle.calls.specs.declared.state.State.{State}
use Rattle.calls.specs.declared.call.CallName.{CallName}
use Rattle.calls.specs.States.{next_state}
use Rattle.store.specs.declared.refusal.Refusal.TheVariants.{NoSuchEntry}
use Rattle.pool.specs.declared.table.InnerTable.{InnerTable}
use Rattle.pool.specs.Tables.{has_seat, seat_status}

abbrev pub stepped_to : Option State → Result State Fault
stepped_to None = Err WrongState
stepped_to (Some next) = Ok next

-- `is_there`: the store has the entry that the call is on, or the call is on none
abbrev pub admitted : InnerTable → CallName → ℕ → Bool → Result State Fault
admitted table name seat is_there =
    if has_seat table seat
    then (if is_there then stepped_to (next_state name (seat_status table seat).state) else Err (Store NoSuchEntry))
    else Err NoSuchSeat
