-- The grammar of a session file, and the first fault of a file that it does not derive.
use Rattle.std.specs.Prelude.{◌≡◌, ℕ, ◌+◌, ◌<◌, ◌≤◌, zero, suc, ◌⊎◌, List, [], ◌∷◌, length}
use Rattle.calls.specs.declared.call.Call.{Call}
use Rattle.words.specs.Lines.{Begins}
use Rattle.words.specs.declared.fault.WordFault.TheVariants.{LineForm}
use Rattle.session_lines.specs.Grammar.{Strictness, InReach, FaultOf}
use Rattle.session_lines.specs.Calls.{CallLine}
use Rattle.session_lines.specs.Sizes.{SizesLine}
use Rattle.session_lines.specs.Timescales.{TimescaleLine}
use Rattle.session_lines.specs.declared.fault.Cause.{Cause}
use Rattle.session_lines.specs.declared.fault.Cause.TheVariants.{Word, Line}
use Rattle.session_lines.specs.declared.fault.LineFault.TheVariants.{WrongWords}
use Rattle.session_lines.specs.declared.fault.SessionFault.{SessionFault}
use Rattle.session_lines.specs.declared.sizes.Sizes.{Sizes}
use Rattle.session_lines.specs.declared.timescale.Timescale.{Timescale}
use Rattle.session_file.specs.declared.session.LineCall.{LineCall}

-- in bytes
abbrev pub longest_file : ℕ
longest_file = 65536

-- lines are numbered from 1
abbrev pub timescale_line : ℕ
timescale_line = 1

abbrev pub sizes_line : ℕ
sizes_line = 2

abbrev pub first_call_line : ℕ
first_call_line = 3

-- what lines derive a thing, read so strictly
abbrev pub Reading : Type 0 → Type 1
Reading A = List ℕ → Strictness → A → Type 0

-- a text begins with a line that derives such a thing, and this rest follows it
abbrev pub BeginsWith : {A : Type 0} → Reading A → A → List ℕ → List ℕ → Type 0
BeginsWith Derives thing rest text =
    (line : List ℕ) × Begins line rest text × Derives line InReach thing

-- a text begins with no line, or with one that derives no such thing
abbrev pub BeginsAmiss : {A : Type 0} → Reading A → List ℕ → Cause → Type 0
BeginsAmiss Derives text cause =
    ((cause ≡ Word LineForm) × ((line rest : List ℕ) → Begins line rest text → ⊥))
    ⊎ ((rest : List ℕ) × (line : List ℕ) × Begins line rest text × FaultOf (Derives line) cause)

-- a text derives calls, from a line of this number on: an empty one none, another a call on its first line and the other
-- calls behind it
abbrev pub CallLines : Timescale → ℕ → List LineCall → List ℕ → Type 0
CallLines _ _ [] text = text ≡ []
CallLines timescale line (call ∷ calls) text =
    (rest : List ℕ) × BeginsWith (CallLine timescale) call.call rest text × (call.line ≡ line)
    × CallLines timescale (line + 1) calls rest

-- behind so many lines that are calls there is one that is at fault
abbrev pub CallsFault : Timescale → ℕ → ℕ → List ℕ → SessionFault → Type 0
CallsFault timescale line zero text fault =
    (fault.line ≡ line) × (0 < length text) × BeginsAmiss (CallLine timescale) text fault.cause
CallsFault timescale line (suc good) text fault =
    (call : Call) × (rest : List ℕ) × BeginsWith (CallLine timescale) call rest text
    × CallsFault timescale (line + 1) good rest fault

abbrev pub FaultOfCalls : Timescale → ℕ → List ℕ → SessionFault → Type 0
FaultOfCalls timescale line text fault = (good : ℕ) × CallsFault timescale line good text fault

-- a file is short enough, and its first line derives a timescale
abbrev pub HasTimescale : List ℕ → Timescale → List ℕ → Type 0
HasTimescale file timescale rest =
    (length file ≤ longest_file) × BeginsWith TimescaleLine timescale rest file

-- and its second line derives sizes
abbrev pub HasHeader : List ℕ → Timescale → Sizes → List ℕ → Type 0
HasHeader file timescale sizes rest =
    (behind : List ℕ) × HasTimescale file timescale behind × BeginsWith SizesLine sizes rest behind

-- a file derives a session: a timescale on its first line, sizes on the second, and calls behind them
abbrev pub Derives : List ℕ → Timescale → Sizes → List LineCall → Type 0
Derives file timescale sizes calls =
    (rest : List ℕ) × HasHeader file timescale sizes rest
    × CallLines timescale first_call_line calls rest

-- a file is too long, or its first line is at fault
abbrev pub TimescaleFault : List ℕ → Cause → Type 0
TimescaleFault file cause =
    ((longest_file < length file) × (cause ≡ Word LineForm))
    ⊎ ((length file ≤ longest_file) × BeginsAmiss TimescaleLine file cause)

-- behind the first line nothing follows, or a line that is at fault
abbrev pub SizesFault : List ℕ → Cause → Type 0
SizesFault text cause =
    ((text ≡ []) × (cause ≡ Line WrongWords))
    ⊎ ((0 < length text) × BeginsAmiss SizesLine text cause)

abbrev pub SizesFaultOf : List ℕ → Cause → Type 0
SizesFaultOf file cause =
    (timescale : Timescale) × (rest : List ℕ) × HasTimescale file timescale rest
    × SizesFault rest cause

abbrev pub CallsFaultOf : List ℕ → SessionFault → Type 0
CallsFaultOf file fault =
    (timescale : Timescale) × (sizes : Sizes) × (rest : List ℕ)
    × HasHeader file timescale sizes rest × FaultOfCalls timescale first_call_line rest fault

-- the first line of a file that is at fault: the first; the second, behind a timescale; or one behind sizes and some calls
abbrev pub FirstFault : List ℕ → SessionFault → Type 0
FirstFault file fault =
    ((fault.line ≡ timescale_line) × TimescaleFault file fault.cause)
    ⊎ (((fault.line ≡ sizes_line) × SizesFaultOf file fault.cause)
    ⊎ CallsFaultOf file fault)
