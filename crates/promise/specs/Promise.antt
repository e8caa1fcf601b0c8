-- "Every edit as if made alone": what is promised of every history of a pool.
use Rattle.std.specs.Prelude.{◌≡◌, ℕ, ◌+◌, Bool, List, [], ◌∷◌, ◌++◌, Ok, IsOk, IsTrue, ⊤}
use Rattle.calls.specs.declared.call.Call.TheVariants.{Read}
use Rattle.calls.specs.declared.answer.Reply.TheVariants.{Value}
use Rattle.store.specs.declared.version.Version.{Version}
pub use Rattle.rules.specs.House.{Rule}
use Rattle.store.specs.Meaning.{last_version}
use Rattle.store.specs.Numbers.{most_seats}
use Rattle.promise.specs.Histories.{Operation, Event, Edit, events_of, is_closed_before}
use Rattle.promise.specs.OneByOne.{Chains, edits_by_decision, is_among, edits_before, additions, chain_after, unfinished_versions, read_answer, locks_granted, locks_released, count_below}

-- of each operation in turn, where `past` is all that came before it: an accepted read answered as in the run
abbrev pub EachReadAgrees : Chains → List Event → List Edit → List Operation → Type 0
EachReadAgrees initial events order [] = ⊤
EachReadAgrees initial events order (operation ∷ past) =
    ((seat entry : ℕ) → operation.call ≡ Read seat entry → IsOk operation.answer
    → operation.answer ≡ Ok (Value (read_answer initial events order (events_of past) seat entry)))
    × EachReadAgrees initial events order past

-- (a) every accepted read answered as in the run; one of an edit that is not in the order, as if that edit alone came after all
abbrev pub ReadsAgree : Chains → List Operation → List Edit → Type 0
ReadsAgree initial operations order = EachReadAgrees initial (events_of operations) order operations

-- (b) each chain of the store, with what is committed and not yet finished, is the chain of the run, authors included
abbrev pub ChainsAgree : Chains → Chains → List Operation → List Edit → Type 0
ChainsAgree initial stored operations order =
    let events = events_of operations in
    (entry : ℕ) → stored entry ++ unfinished_versions events order entry ≡ chain_after initial events order entry

-- each version that an edit of the order adds is allowed after the last value that the edits before it leave
abbrev pub EachIsAllowed : Rule → Chains → List Event → List Edit → ℕ → Type 0
EachIsAllowed allows initial events [] entry = ⊤
EachIsAllowed allows initial events (last ∷ before) entry =
    ((version : Version) → additions events last entry ≡ version ∷ []
    → IsTrue (allows entry (last_version (chain_after initial events before entry)).value version.value))
    × EachIsAllowed allows initial events before entry

-- (b) and the house rule allows each added value after what stands just before it
abbrev pub RuleIsKept : Rule → Chains → List Operation → List Edit → Type 0
RuleIsKept allows initial operations order = (entry : ℕ) → EachIsAllowed allows initial (events_of operations) order entry

-- (c) locks granted are locks released and the seats that hold the entry now; `holders` takes the entry first
abbrev pub LocksAddUp : (ℕ → ℕ → Bool) → List Operation → Type 0
LocksAddUp holders operations =
    let events = events_of operations in
    (entry : ℕ) → locks_granted entry events ≡ locks_released entry events + count_below (holders entry) most_seats

-- (d) of two edits in the order, one that was closed before the other began stands before it
abbrev pub KeepsRealTime : List Operation → List Edit → Type 0
KeepsRealTime operations order =
    (first second : Edit) → IsTrue (is_among first order) → IsTrue (is_among second order)
    → IsTrue (is_closed_before first second (events_of operations)) → IsTrue (is_among first (edits_before second order))

-- The chains were these at opening and are those now, which the store has, and these seats hold an entry now: all is as when the
-- edits of the operations run one by one in this order.
pub record AgreesWithRun (allows : Rule) (initial stored : Chains) (holders : ℕ → ℕ → Bool) (operations : List Operation) (order : List Edit) : Type 0 where
  pub reads : ReadsAgree initial operations order
  pub chains : ChainsAgree initial stored operations order
  pub allowed : RuleIsKept allows initial operations order
  pub locks : LocksAddUp holders operations
  pub real_time : KeepsRealTime operations order

-- The promise is agreement with the run in the order of decisions. What the reads, the chains and the order say, the field calls
-- strict serializability; the reads of aborted and of undecided edits are included, which opacity asks of transactions.
abbrev pub AsIfAlone : Rule → Chains → Chains → (ℕ → ℕ → Bool) → List Operation → Type 0
AsIfAlone allows initial stored holders operations =
    AgreesWithRun allows initial stored holders operations (edits_by_decision (events_of operations))
