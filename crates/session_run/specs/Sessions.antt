-- What running a session file answers and prints.
use Rattle.std.specs.Prelude.{◌≡◌, ℕ, ◌⊎◌, List, [], ◌++◌, Ok, Err, codes, length, map, replicate}
use Rattle.calls.specs.Answers.{Answer}
use Rattle.calls.specs.declared.call.Call.{Call}
use Rattle.calls.specs.declared.fault.Fault.{Fault as PoolFault}
use Rattle.calls.specs.declared.fault.Fault.TheVariants.{Store}
use Rattle.store.specs.declared.refusal.Refusal.{Refusal}
use Rattle.store.specs.Laying.{lay_out_answer, widest_sizes}
use Rattle.table.specs.Cells.{table_laid_out}
use Rattle.rules.specs.House.{Rule}
use Rattle.rules.specs.Limits.{widest, limits_permit}
use Rattle.rules.specs.Settings.{entry_allows, settings_count}
use Rattle.pool.specs.Tables.{fresh_table}
use Rattle.pool.specs.Calls.{PoolState, answer_of, open_pool}
use Rattle.promise.specs.Histories.{history}
use Rattle.runner.specs.Runs.{Reached, IsAloneBetween}
use Rattle.session_lines.specs.Faults.{session_fault_text}
use Rattle.session_lines.specs.declared.fault.Cause.{Cause}
use Rattle.session_lines.specs.declared.fault.Cause.TheVariants.{Pool}
use Rattle.session_lines.specs.declared.fault.SessionFault.{SessionFault}
use Rattle.session_lines.specs.declared.sizes.Sizes.{Sizes}
use Rattle.session_lines.specs.declared.timescale.Timescale.{Timescale}
use Rattle.session_file.specs.Files.{Derives, FirstFault, sizes_line}
use Rattle.session_file.specs.declared.session.LineCall.{LineCall}
use Rattle.session_run.specs.Texts.{answer_lines}

-- the cells of the table store that a session runs over
abbrev pub cells : ℕ
cells = 1024

-- the range rule with every entry at its widest limits
abbrev pub allowed : Rule
allowed = entry_allows limits_permit (replicate settings_count widest)

-- a pool that was not opened yet, over a store that was just laid out
abbrev pub start : Sizes → PoolState
start sizes = record { store = table_laid_out sizes.entries sizes.depth; table = fresh_table 0 }

abbrev pub call_of : LineCall → Call
call_of line_call = line_call.call

-- the answers of an opened pool to the calls, one to each, with the promise that every edit in them is as if made alone
pub record AnswersTo (sizes : Sizes) (calls : List Call) (answers : List Answer) : Type 0 where
  pub laid_out : lay_out_answer widest_sizes cells sizes.entries sizes.depth ≡ Ok tt
  pub each : length answers ≡ length calls
  pub now : PoolState
  pub reached : Reached allowed (start sizes) sizes.seats (history [] calls answers) now
  pub alone : IsAloneBetween allowed (start sizes) (history [] calls answers) now

abbrev pub AnswersLines : Sizes → List LineCall → List Answer → Type 0
AnswersLines sizes calls answers = AnswersTo sizes (map call_of calls) answers

-- the store cannot be laid out, or else the pool cannot be opened
abbrev pub CannotStart : Sizes → Cause → Type 0
CannotStart sizes cause =
    ((refusal : Refusal) × (lay_out_answer widest_sizes cells sizes.entries sizes.depth ≡ Err refusal)
    × (cause ≡ Pool (Store refusal)))
    ⊎ ((fault : PoolFault) × (lay_out_answer widest_sizes cells sizes.entries sizes.depth ≡ Ok tt)
    × (answer_of (open_pool (start sizes) sizes.seats) ≡ Err fault) × (cause ≡ Pool fault))

-- the calls of the session that a file derives were answered so
abbrev pub AreAnswered : List ℕ → List LineCall → List Answer → Type 0
AreAnswered file calls answers =
    (timescale : Timescale) × (sizes : Sizes) × Derives file timescale sizes calls
    × AnswersLines sizes calls answers

-- a file is at fault, or what its sizes ask for is refused on their line
abbrev pub FailsFor : List ℕ → SessionFault → Type 0
FailsFor file fault =
    FirstFault file fault
    ⊎ ((timescale : Timescale) × (sizes : Sizes) × (calls : List LineCall)
    × Derives file timescale sizes calls × (fault.line ≡ sizes_line) × CannotStart sizes fault.cause)

-- a line for each answer
abbrev pub PrintsAnswers : List ℕ → List ℕ → Type 0
PrintsAnswers file text =
    (calls : List LineCall) × (answers : List Answer) × AreAnswered file calls answers
    × (text ≡ answer_lines calls answers)

-- that, or one line alone for a fault or a refusal
abbrev pub Prints : List ℕ → List ℕ → Type 0
Prints file text =
    PrintsAnswers file text
    ⊎ ((fault : SessionFault) × FailsFor file fault × (text ≡ session_fault_text fault ++ codes "\n"))
