-- The edge cases of the pool and of what it stands on. A refusal is told by its number.
use Rattle.std.specs.Prelude.{◌≡◌, ℕ, ◌+◌, ◌^◌, ◌≤◌, true, false, ℤ, pos, neg_ℤ, codes}
use Rattle.std.specs.Prelude.{List, [], ◌∷◌, replicate, slice_set, Ok, Err, Result, Some}
use Rattle.calls.specs.declared.call.Call.TheVariants.{Begin, Read, Write, Prepare, Vote}
use Rattle.calls.specs.declared.call.Call.TheVariants.{Decide, Finish, Close}
use Rattle.calls.specs.declared.answer.Reply.TheVariants.{Serial, Value, Voted, Decided, Done}
use Rattle.calls.specs.declared.answer.Decision.TheVariants.{Commit, Abort}
use Rattle.calls.specs.Faults.{fault_number}
use Rattle.store.specs.Refusals.{refusal_number}
use Rattle.store.specs.declared.version.Version.{Version}
use Rattle.store.specs.Meaning.{WritingMeaning}
use Rattle.store.specs.Steps.{stage_answer, stage_after}
use Rattle.pool.specs.Tables.{fresh_table}
use Rattle.pool.specs.Calls.{Rule, PoolState, answer_of, state_after, open_pool}
use Rattle.rules.specs.Settings.{settings_count, entry_allows}
use Rattle.rules.specs.Limits.{limits_of, widest, limits_permit}
use Rattle.rules.specs.Step.{step_of, longest_step, step_permits}
use Rattle.table.specs.Cells.{table_laid_out}
use Rattle.session_lines.specs.Grammar.{InReach, DerivesValue}
use Rattle.session_lines.specs.declared.timescale.Amount.TheVariants.{Hundred}
use Rattle.session_lines.specs.declared.timescale.Unit.TheVariants.{Seconds}
use Rattle.session_lines.specs.declared.timescale.Timescale.{Timescale}
use Rattle.edges.specs.declared.cases.Edge.{Edge}
use Rattle.edges.specs.declared.cases.Edge.TheVariants.{FilledChain, TwoReaders, LoneReader}
use Rattle.edges.specs.declared.cases.Edge.TheVariants.{EmptyEdit, OneNo}
use Rattle.edges.specs.Trials.{by_number, Trial, ◌⇒◌, PassesTrials}

-- ------------------------------------------------------------ calls, with what they are to answer

-- one write of a chain of depth 2 commits, and the next is refused, since the chain is full
abbrev pub filled_chain : List Trial
filled_chain =
    Begin 0 ⇒ Ok (Serial 1)
    ∷ Write 0 0 (pos 7) ⇒ Ok Done
    ∷ Prepare 0 ⇒ Ok Done
    ∷ Vote 0 0 ⇒ Ok (Voted true)
    ∷ Decide 0 ⇒ Ok (Decided Commit)
    ∷ Finish 0 0 ⇒ Ok Done
    ∷ Close 0 ⇒ Ok Done
    ∷ Begin 0 ⇒ Ok (Serial 2)
    ∷ Write 0 0 (pos 8) ⇒ Err 7
    ∷ []

-- two seats read, and a write of either is refused, since the other's lock is in the way
abbrev pub two_readers : List Trial
two_readers =
    Begin 0 ⇒ Ok (Serial 1)
    ∷ Begin 1 ⇒ Ok (Serial 1)
    ∷ Read 0 0 ⇒ Ok (Value (pos 0))
    ∷ Read 1 0 ⇒ Ok (Value (pos 0))
    ∷ Write 0 0 (pos 7) ⇒ Err 5
    ∷ Write 1 0 (pos 7) ⇒ Err 5
    ∷ []

-- the only seat that reads an entry may write it
abbrev pub lone_reader : List Trial
lone_reader =
    Begin 0 ⇒ Ok (Serial 1)
    ∷ Read 0 0 ⇒ Ok (Value (pos 0))
    ∷ Write 0 0 (pos 7) ⇒ Ok Done
    ∷ Read 0 0 ⇒ Ok (Value (pos 7))
    ∷ []

-- an edit that read and wrote nothing commits
abbrev pub empty_edit : List Trial
empty_edit =
    Begin 0 ⇒ Ok (Serial 1)
    ∷ Prepare 0 ⇒ Ok Done
    ∷ Decide 0 ⇒ Ok (Decided Commit)
    ∷ Close 0 ⇒ Ok Done
    ∷ []

-- an edit is aborted by one no, although entry 0 has not been voted on
abbrev pub one_no : List Trial
one_no =
    Begin 0 ⇒ Ok (Serial 1)
    ∷ Write 0 0 (pos 7) ⇒ Ok Done
    ∷ Write 0 1 (pos 6) ⇒ Ok Done
    ∷ Prepare 0 ⇒ Ok Done
    ∷ Vote 0 1 ⇒ Ok (Voted false)
    ∷ Decide 0 ⇒ Ok (Decided Abort)
    ∷ []

abbrev pub trials : Edge → List Trial
trials FilledChain = filled_chain
trials TwoReaders = two_readers
trials LoneReader = lone_reader
trials EmptyEdit = empty_edit
trials OneNo = one_no

-- ------------------------------------------------------------ stores, rules and pools

-- a table just laid out, with two entries of depth 2
abbrev pub new_table : WritingMeaning
new_table = table_laid_out 2 2

-- a version of this value, whoever has written it
abbrev pub version_with : ℤ → Version
version_with value = record { value = value; seat = 0; serial = 1 }

-- the value is staged at entry 0 of a new table; and what staging it there answers
abbrev pub IsStaged : ℤ → Type 0
IsStaged value = (stage_after new_table 0 (version_with value)).staged 0 ≡ Some (version_with value)

abbrev pub staging_answer : ℤ → Result (Unit {0}) ℕ
staging_answer value = by_number refusal_number (stage_answer new_table 0 (version_with value))

-- every entry has the first setting but entry 1, which has the second
abbrev pub settings_but_one : {T : Type 0} → T → T → List T
settings_but_one common other = slice_set (replicate settings_count common) 1 other

-- a rule by limits, in which entry 1 takes values from -5 to 5
abbrev pub limits_of_five : Rule
limits_of_five = entry_allows limits_permit (settings_but_one widest (limits_of (neg_ℤ (pos 5)) (pos 5)))

-- a rule by steps, in which entry 1 has a step of 5
abbrev pub steps_of_five : Rule
steps_of_five = entry_allows step_permits (settings_but_one longest_step (step_of 5))

-- a pool just made over a store, and what it answers to being opened for so many seats
abbrev pub pool_over : WritingMeaning → PoolState
pool_over store = record { store = store; table = fresh_table 0 }

abbrev pub opening_answer : WritingMeaning → ℕ → Result (Unit {0}) ℕ
opening_answer store seats = by_number fault_number (answer_of (open_pool (pool_over store) seats))

-- a pool just made over a new table; and the same pool once it is opened for two seats
abbrev pub unopened_pool : PoolState
unopened_pool = pool_over new_table

abbrev pub opened_pool : PoolState
opened_pool = state_after (open_pool unopened_pool 2) unopened_pool

-- the largest timescale of a session
abbrev pub hundred_seconds : Timescale
hundred_seconds = record { amount = Hundred; unit = Seconds }

-- ------------------------------------------------------------ the edge cases

pub record Edges : Type 0 where
  pub sixteen_seats_open_and_seventeen_are_refused :
      (store : WritingMeaning) → 1 ≤ store.reading.entries
      → (opening_answer store 16 ≡ Ok tt) × (opening_answer store 17 ≡ Err 12)
  pub one_write_fills_a_chain_of_depth_two :
      (allows : Rule) → allows 0 (pos 0) (pos 7) ≡ true
      → PassesTrials allows opened_pool filled_chain
  pub the_reach_is_staged_and_one_more_is_refused :
      IsStaged (pos (10 ^ 17))
      × (staging_answer (pos (10 ^ 17 + 1)) ≡ Err 6)
      × IsStaged (neg_ℤ (pos (10 ^ 17)))
      × (staging_answer (neg_ℤ (pos (10 ^ 17 + 1))) ≡ Err 6)
  pub two_readers_bar_each_other_from_writing :
      (allows : Rule) → PassesTrials allows opened_pool two_readers
  pub a_lone_reader_may_write :
      (allows : Rule) → PassesTrials allows opened_pool lone_reader
  pub an_empty_edit_commits :
      (allows : Rule) → PassesTrials allows opened_pool empty_edit
  pub a_step_of_five_from_ten_reaches_five_and_fifteen :
      (steps_of_five 1 (pos 10) (pos 5) ≡ true)
      × (steps_of_five 1 (pos 10) (pos 15) ≡ true)
      × (steps_of_five 1 (pos 10) (pos 4) ≡ false)
      × (steps_of_five 1 (pos 10) (pos 16) ≡ false)
  pub one_no_aborts_although_a_vote_is_missing :
      (allows : Rule) → allows 1 (pos 0) (pos 6) ≡ false
      → PassesTrials allows opened_pool one_no
  pub one_at_a_hundred_seconds_is_the_reach_and_two_is_beyond :
      DerivesValue hundred_seconds (codes "1") InReach (pos (10 ^ 17))
      × ((femtoseconds : ℤ) → ¬ DerivesValue hundred_seconds (codes "2") InReach femtoseconds)
