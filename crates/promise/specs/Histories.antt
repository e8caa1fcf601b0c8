-- What happened on a pool, the latest call first, and the edits in it.
use Rattle.std.specs.Prelude.{ℕ, ◌+◌, Bool, true, false, ◌&&◌, ◌||◌, List, [], ◌∷◌, ℤ, Some, None, Ok, Option, ◌==◌, nat_lt, is_ok, if◌then◌else◌}
use Rattle.std.specs.List.{list_any}
use Rattle.calls.specs.declared.call.Call.{Call}
use Rattle.calls.specs.declared.call.Call.TheVariants.{Begin, Read, Write, Prepare, Vote, Decide, Abort, Finish, Close}
use Rattle.calls.specs.declared.answer.Reply.TheVariants.{Decided}
use Rattle.calls.specs.Answers.{Answer}
use Rattle.calls.specs.Names.{seat_of}
use Rattle.calls.specs.declared.answer.Decision.{Decision}
use Rattle.calls.specs.declared.answer.Decision.TheVariants as D

-- ------------------------------------------------------------ operations, and what is told of them

-- a call that was made, with what it answered
pub record Operation : Type 0 where
  pub call : Call
  pub answer : Answer

-- the operations that follow those of the past, each call with the answer beside it; the latest stands first
abbrev pub history : List Operation → List Call → List Answer → List Operation
history past (call ∷ calls) (answer ∷ answers) = history (record { call = call; answer = answer } ∷ past) calls answers
history past _ _ = past

-- what an accepted call does, as far as the one-by-one run is told. A vote is nothing to it
pub data Action : Type 0 where
  begins : Action
  reads : (entry : ℕ) → Action
  writes : (entry : ℕ) (value : ℤ) → Action
  prepares : Action
  decides : Decision → Action
  finishes : (entry : ℕ) → Action
  closes : Action
  nothing : Action

-- what a seat did
pub record Event : Type 0 where
  pub seat : ℕ
  pub action : Action

-- commit where the answer says so, and else abort
abbrev pub decision_said : Answer → Decision
decision_said (Ok (Decided decision)) = decision
decision_said _ = D.Abort

-- of a call that is accepted, and of the decision that it said
abbrev pub action_of : Call → Decision → Action
action_of (Begin _) _ = begins
action_of (Read _ entry) _ = reads entry
action_of (Write _ entry value) _ = writes entry value
action_of (Prepare _) _ = prepares
action_of (Vote _ _) _ = nothing
action_of (Decide _) decision = decides decision
action_of (Abort _) _ = decides D.Abort
action_of (Finish _ entry) _ = finishes entry
action_of (Close _) _ = closes

-- what a call did: of its answer no more is told than whether it is refused, and what an accepted decide said. A refused call does
-- nothing
abbrev pub event_of : Call → Answer → Event
event_of call answer = record {
  seat = seat_of call;
  action = if is_ok answer then action_of call (decision_said answer) else nothing;
}

-- what the run is told of operations
abbrev pub events_of : List Operation → List Event
events_of [] = []
events_of (operation ∷ past) = event_of operation.call operation.answer ∷ events_of past

-- ------------------------------------------------------------ tests of an action

abbrev pub is_begin : Action → Bool
is_begin begins = true
is_begin _ = false

abbrev pub is_close : Action → Bool
is_close closes = true
is_close _ = false

abbrev pub is_decision : Action → Bool
is_decision (decides _) = true
is_decision _ = false

abbrev pub is_commit : Action → Bool
is_commit (decides D.Commit) = true
is_commit _ = false

-- equal numbers; not unfolded, so that a proof meets the comparison as one term
unfoldable pub same : ℕ → ℕ → Bool
same a b = a == b

-- a read or a write of the entry
abbrev pub is_use_of : ℕ → Action → Bool
is_use_of entry (reads used) = same used entry
is_use_of entry (writes used _) = same used entry
is_use_of _ _ = false

abbrev pub is_finish_of : ℕ → Action → Bool
is_finish_of entry (finishes finished) = same finished entry
is_finish_of _ _ = false

-- the value that the action writes to the entry, or else the one before
abbrev pub value_after : ℕ → Action → Option ℤ → Option ℤ
value_after entry (writes written value) before = if same written entry then Some value else before
value_after _ _ before = before

-- whether an edit is under way after the action, where it was or was not before it
abbrev pub is_under_way_after : Action → Bool → Bool
is_under_way_after begins _ = true
is_under_way_after closes _ = false
is_under_way_after _ before = before

-- ------------------------------------------------------------ edits

-- how many edits the seat has begun
abbrev pub edits_begun : ℕ → List Event → ℕ
edits_begun seat [] = 0
edits_begun seat (event ∷ past) =
    if same event.seat seat && is_begin event.action then edits_begun seat past + 1 else edits_begun seat past

-- the seat has begun an edit and not closed it
abbrev pub is_under_way : ℕ → List Event → Bool
is_under_way seat [] = false
is_under_way seat (event ∷ past) =
    if same event.seat seat then is_under_way_after event.action (is_under_way seat past) else is_under_way seat past

-- an edit goes by its seat and serial: 1 for the seat's first edit, and one more for each later one
pub record Edit : Type 0 where
  pub seat : ℕ
  pub serial : ℕ

-- the edit that the seat began last
abbrev pub latest_edit : ℕ → List Event → Edit
latest_edit seat past = record { seat = seat; serial = edits_begun seat past }

-- the event that comes after the past is one of the edit: its seat's, after its begin and not after its next close
abbrev pub is_part_of : Edit → Event → List Event → Bool
is_part_of edit event past =
    same event.seat edit.seat && is_under_way edit.seat past && same (edits_begun edit.seat past) edit.serial

-- what the edit did, the latest first
abbrev pub actions_of : Edit → List Event → List Action
actions_of edit [] = []
actions_of edit (event ∷ past) =
    if is_part_of edit event past then event.action ∷ actions_of edit past else actions_of edit past

-- of an edit by its actions: it read or wrote the entry; it finished it; it was committed
abbrev pub has_used : ℕ → List Action → Bool
has_used entry actions = list_any (is_use_of entry) actions

abbrev pub has_finished : ℕ → List Action → Bool
has_finished entry actions = list_any (is_finish_of entry) actions

abbrev pub is_committed : List Action → Bool
is_committed actions = list_any is_commit actions

-- the latest value that it wrote to the entry
abbrev pub value_written : ℕ → List Action → Option ℤ
value_written entry [] = None
value_written entry (action ∷ earlier) = value_after entry action (value_written entry earlier)

-- the first edit was closed while the second had not begun
abbrev pub is_closed_before : Edit → Edit → List Event → Bool
is_closed_before first second [] = false
is_closed_before first second (event ∷ past) =
    (is_part_of first event past && is_close event.action && nat_lt (edits_begun second.seat past) second.serial)
    || is_closed_before first second past
