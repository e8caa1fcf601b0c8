-- The one-by-one run: it takes edits in an order that is handed in, each as a whole.
use Rattle.std.specs.Prelude.{ℕ, zero, suc, ◌+◌, Bool, false, not, ◌&&◌, ◌||◌, List, [], ◌∷◌, ◌++◌, ℤ, Some, None, Option, if◌then◌else◌}
use Rattle.store.specs.declared.version.Version.{Version}
use Rattle.store.specs.Meaning.{last_version}
use Rattle.promise.specs.Histories.{Event, Edit, same, is_decision, latest_edit, actions_of, has_used, has_finished, is_committed, value_written, is_use_of, is_finish_of}

-- the chain of each entry
abbrev pub Chains : Type 0
Chains = ℕ → List Version

-- ------------------------------------------------------------ orders of edits, in which the last one stands first

-- the decided edits, in the order of their decisions
abbrev pub edits_by_decision : List Event → List Edit
edits_by_decision [] = []
edits_by_decision (event ∷ past) =
    if is_decision event.action then latest_edit event.seat past ∷ edits_by_decision past else edits_by_decision past

abbrev pub is_same_edit : Edit → Edit → Bool
is_same_edit edit other = same edit.seat other.seat && same edit.serial other.serial

abbrev pub is_among : Edit → List Edit → Bool
is_among edit [] = false
is_among edit (last ∷ before) = is_same_edit edit last || is_among edit before

-- those that stand before the edit; where it is not among them, all of them
abbrev pub edits_before : Edit → List Edit → List Edit
edits_before edit [] = []
edits_before edit (last ∷ before) =
    if is_same_edit edit last then before
    else (if is_among edit before then edits_before edit before else last ∷ before)

-- ------------------------------------------------------------ what the edits add

-- how many of these edits committed
abbrev pub commit_count : List Event → List Edit → ℕ
commit_count events [] = 0
commit_count events (last ∷ before) =
    if is_committed (actions_of last events) then commit_count events before + 1 else commit_count events before

-- the rank of an edit among the commits, counted from 0 in the order of decisions, whatever the order of the run
unfoldable pub commit_rank : List Event → Edit → ℕ
commit_rank events edit = commit_count events (edits_before edit (edits_by_decision events))

-- what an edit that commits at this rank adds to the chain of an entry: its last value there, with its author. A version does not
-- tell its rank, so nothing is taken from it here
abbrev pub added : Edit → ℕ → Option ℤ → List Version
added edit rank None = []
added edit rank (Some value) = record { value = value; seat = edit.seat; serial = edit.serial } ∷ []

-- a committed edit adds that, and any other nothing
abbrev pub additions : List Event → Edit → ℕ → List Version
additions events edit entry =
    if is_committed (actions_of edit events)
    then added edit (commit_rank events edit) (value_written entry (actions_of edit events))
    else []

-- the chain of the entry once the edits have run in this order, from the chains at opening
abbrev pub chain_after : Chains → List Event → List Edit → ℕ → List Version
chain_after initial events [] entry = initial entry
chain_after initial events (last ∷ before) entry = chain_after initial events before entry ++ additions events last entry

-- of these additions, those that their edit has not finished
abbrev pub unfinished_versions : List Event → List Edit → ℕ → List Version
unfinished_versions events [] entry = []
unfinished_versions events (last ∷ before) entry =
    unfinished_versions events before entry
    ++ (if has_finished entry (actions_of last events) then [] else additions events last entry)

-- ------------------------------------------------------------ what reads answer, and locks

abbrev pub value_or_last : Option ℤ → List Version → ℤ
value_or_last None chain = (last_version chain).value
value_or_last (Some value) chain = value

-- what the run over all the events answers to a read of the entry that comes right after the past: the latest value that
-- the edit wrote before, or else the last value of the chain that the edits before this one leave
abbrev pub read_answer : Chains → List Event → List Edit → List Event → ℕ → ℕ → ℤ
read_answer initial events order past seat entry =
    let edit = latest_edit seat past in
    value_or_last (value_written entry (actions_of edit past)) (chain_after initial events (edits_before edit order) entry)

-- a lock is granted at an edit's first read or write of the entry, and released at a finish
abbrev pub locks_granted : ℕ → List Event → ℕ
locks_granted entry [] = 0
locks_granted entry (event ∷ past) =
    if is_use_of entry event.action && not (has_used entry (actions_of (latest_edit event.seat past) past))
    then locks_granted entry past + 1
    else locks_granted entry past

abbrev pub locks_released : ℕ → List Event → ℕ
locks_released entry [] = 0
locks_released entry (event ∷ past) =
    if is_finish_of entry event.action then locks_released entry past + 1 else locks_released entry past

-- how many numbers below n pass the test
abbrev pub count_below : (ℕ → Bool) → ℕ → ℕ
count_below test zero = 0
count_below test (suc n) = if test n then count_below test n + 1 else count_below test n
