-- A pool as functions of seat and entry, and the invariant that ties it to the history of its calls.
use Rattle.std.proofs.Common.{◌≡◌, ℕ, ◌+◌, ◌<◌, Bool, true, false, cond, not, ◌&&◌, ◌||◌, List, [], ◌∷◌, ◌++◌, ℤ, is_some, Some, None, Ok, Option}
use Rattle.std.specs.Prelude.{is_ok}
use Rattle.calls.specs.declared.state.State.{State}
use Rattle.calls.specs.declared.state.State.TheVariants.{Idle, Editing, Commit, Abort}
use Rattle.calls.specs.declared.call.Call.TheVariants.{Read}
use Rattle.calls.specs.declared.answer.Reply.TheVariants.{Value}
use Rattle.store.specs.declared.version.Version.{Version}
use Rattle.store.specs.Meaning.{last_version}
use Rattle.promise.specs.Histories.{Operation, Event, Edit, Action, events_of, same, edits_begun, is_under_way, latest_edit, actions_of, has_used, has_finished, is_committed, value_written, is_closed_before}
use Rattle.promise.specs.OneByOne.{Chains, edits_by_decision, edits_before, commit_rank, added, chain_after, unfinished_versions, is_among, read_answer, locks_granted, locks_released, count_below}
use Rattle.promise.specs.Promise.{Rule, EachIsAllowed}
use Rattle.promise.proofs.Edits.{Stands}

-- ------------------------------------------------------------ tests of a seat's state

-- an edit is under way
abbrev pub is_live : State → Bool
is_live Idle = false
is_live _ = true

abbrev pub is_editing : State → Bool
is_editing Editing = true
is_editing _ = false

-- committed or aborted
abbrev pub is_decided : State → Bool
is_decided Commit = true
is_decided Abort = true
is_decided _ = false

abbrev pub is_commit : State → Bool
is_commit Commit = true
is_commit _ = false

-- ------------------------------------------------------------ a seat at an entry: what the pool has, and what the history says

-- what the pool has of the seat, of the entry, and of the seat at the entry
pub record PoolAt : Type 0 where
  pub state : State
  pub serial : ℕ
  pub writer : Option ℕ
  pub reads : Bool
  pub voted : Bool
  pub against : Bool
  pub staged : Option Version
  pub chain : List Version

-- what the history says of the seat's latest edit, of that edit at the entry, and of the run's chain of the entry
pub record HistoryAt : Type 0 where
  pub serial : ℕ
  pub under_way : Bool
  pub decided : Bool
  pub committed : Bool
  pub rank : ℕ
  pub used : Bool
  pub written : Option ℤ
  pub finished : Bool
  pub unfinished : List Version
  pub chain : List Version

abbrev pub is_seat : Option ℕ → ℕ → Bool
is_seat None seat = false
is_seat (Some writer) seat = same writer seat

abbrev pub writes : ℕ → PoolAt → Bool
writes seat pool = is_seat pool.writer seat

abbrev pub holds_at : ℕ → PoolAt → Bool
holds_at seat pool = writes seat pool || pool.reads

abbrev pub as_list : Option Version → List Version
as_list None = []
as_list (Some version) = version ∷ []

-- the value that is staged, or else the last of the chain
abbrev pub value_staged_or_last : Option Version → List Version → ℤ
value_staged_or_last None chain = (last_version chain).value
value_staged_or_last (Some version) chain = version.value

-- what the edit adds to the chain if it commits
abbrev pub addition : ℕ → HistoryAt → List Version
addition seat said = added (record { seat = seat; serial = said.serial }) said.rank said.written

-- the pool and the history agree on a seat at an entry
pub record Agree (allows : Rule) (seat entry : ℕ) (pool : PoolAt) (said : HistoryAt) : Type 0 where
  pub serial : pool.serial ≡ said.serial
  pub live : said.under_way ≡ is_live pool.state
  pub decided : said.under_way ≡ true → said.decided ≡ is_decided pool.state
  pub committed : said.under_way ≡ true → said.committed ≡ is_commit pool.state
  pub apart : pool.reads ≡ true → pool.writer ≡ None
  pub held : holds_at seat pool ≡ (said.under_way && said.used && not said.finished)
  pub wrote : writes seat pool ≡ (said.under_way && is_some said.written && not said.finished)
  pub staged : writes seat pool ≡ true → as_list pool.staged ≡ addition seat said
  pub agreed : pool.voted ≡ true → pool.against ≡ false → writes seat pool ≡ true
      → allows entry (last_version pool.chain).value (value_staged_or_last pool.staged pool.chain) ≡ true
  pub unvoted : is_editing pool.state ≡ true → pool.voted ≡ false
  pub unlocked : holds_at seat pool ≡ false → pool.voted ≡ false
  pub to_finish : writes seat pool ≡ true → said.unfinished ≡ cond said.committed (addition seat said) []
  pub none_to_finish : pool.writer ≡ None → said.unfinished ≡ []
  pub joined : said.chain ≡ pool.chain ++ said.unfinished
  pub unfinished_yet : said.under_way ≡ true → said.decided ≡ false → said.finished ≡ false

-- ------------------------------------------------------------ the whole pool, and the invariant

-- what the pool has of each seat and entry; reads, voted and against take the entry first
pub record View : Type 0 where
  pub state : ℕ → State
  pub serial : ℕ → ℕ
  pub writer : ℕ → Option ℕ
  pub reads : ℕ → ℕ → Bool
  pub voted : ℕ → ℕ → Bool
  pub against : ℕ → ℕ → Bool
  pub staged : ℕ → Option Version
  pub chains : Chains

abbrev pub pool_at : View → ℕ → ℕ → PoolAt
pool_at v s e = record {
  state = v.state s;
  serial = v.serial s;
  writer = v.writer e;
  reads = v.reads e s;
  voted = v.voted e s;
  against = v.against e s;
  staged = v.staged e;
  chain = v.chains e;
}

abbrev pub holds : View → ℕ → ℕ → Bool
holds v e s = is_seat (v.writer e) s || v.reads e s

-- of an edit that did these actions, at its rank among the commits; what is unfinished; the run's chain
abbrev pub history_with : ℕ → ℕ → Bool → Bool → ℕ → List Action → List Version → List Version → HistoryAt
history_with entry serial under_way decided rank actions unfinished chain = record {
  serial = serial;
  under_way = under_way;
  decided = decided;
  committed = is_committed actions;
  rank = rank;
  used = has_used entry actions;
  written = value_written entry actions;
  finished = has_finished entry actions;
  unfinished = unfinished;
  chain = chain;
}

abbrev pub history_at : Chains → List Event → ℕ → ℕ → HistoryAt
history_at o h s e =
    history_with e (edits_begun s h) (is_under_way s h) (is_among (latest_edit s h) (edits_by_decision h)) (commit_rank h (latest_edit s h))
    (actions_of (latest_edit s h) h) (unfinished_versions h (edits_by_decision h) e) (chain_after o h (edits_by_decision h) e)

abbrev pub AgreeAt : Rule → Chains → View → List Event → ℕ → ℕ → Type 0
AgreeAt allows o v h s e = Agree allows s e (pool_at v s e) (history_at o h s e)

-- the reads that came, each with where its edit stands now
abbrev pub ReadsStand : Chains → List Event → List Operation → Type 0
ReadsStand o h [] = Unit {0}
ReadsStand o h (x ∷ past) =
    ((s e : ℕ) → x.call ≡ Read s e → is_ok x.answer ≡ true
    → (s < 16) × (x.answer ≡ Ok (Value (read_answer o h (edits_by_decision h) (events_of past) s e))) × Stands (latest_edit s (events_of past)) e h)
    × ReadsStand o h past

-- an edit that was closed is decided, and stands before each decided one that began later
pub record TimeIsKept (h : List Event) (order : List Edit) : Type 0 where
  pub closed : (c d : Edit) → is_closed_before c d h ≡ true → is_among c order ≡ true
  pub before : (c d : Edit) → is_among d order ≡ true → is_closed_before c d h ≡ true → is_among c (edits_before d order) ≡ true

-- the invariant: of the events h that the operations tell
pub record InvOf (allows : Rule) (o : Chains) (v : View) (h : List Event) (operations : List Operation) : Type 0 where
  pub agree : (s e : ℕ) → s < 16 → AgreeAt allows o v h s e
  pub ahead : (s n : ℕ) → edits_begun s h < n → is_among (record { seat = s; serial = n }) (edits_by_decision h) ≡ false
  pub reads : ReadsStand o h operations
  pub allowed : (e : ℕ) → EachIsAllowed allows o h (edits_by_decision h) e
  pub locks : (e : ℕ) → locks_granted e h ≡ locks_released e h + count_below (holds v e) 16
  pub time : TimeIsKept h (edits_by_decision h)

abbrev pub Inv : Rule → Chains → View → List Operation → Type 0
Inv allows o v operations = InvOf allows o v (events_of operations) operations
