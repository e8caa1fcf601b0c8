-- How words derive numbers, and what is wrong where they do not.
use Rattle.std.specs.Prelude.{◌≡◌, ℕ, true, List, [], ◌∷◌, ℤ, pos, ◌*ℤ◌, Result, MatchResult}
use Rattle.store.specs.Numbers.{farthest}
use Rattle.store.specs.Steps.{is_within}
use Rattle.words.specs.Words.{Words, Leads}
use Rattle.words.specs.Numbers.{PlainNumber, Value}
use Rattle.words.specs.declared.fault.WordFault.TheVariants.{NumberForm, LineForm}
use Rattle.session_lines.specs.Scales.{factor}
use Rattle.session_lines.specs.declared.timescale.Timescale.{Timescale}
use Rattle.session_lines.specs.declared.fault.LineFault.TheVariants.{WrongWords, TooFar}
use Rattle.session_lines.specs.declared.fault.Cause.{Cause}
use Rattle.session_lines.specs.declared.fault.Cause.TheVariants.{Word, Line, Pool}

-- How strictly words are read: any word for any number; numbers in their form; values within reach too.
pub data Strictness : Type 0 where
  AnyWord : Strictness
  InForm : Strictness
  InReach : Strictness

abbrev pub IsInReach : ℤ → Type 0
IsInReach femtoseconds = is_within farthest femtoseconds ≡ true

-- a word derives a plain number
abbrev pub DerivesNumber : List ℕ → Strictness → ℕ → Type 0
DerivesNumber word AnyWord number = Unit {0}
DerivesNumber word InForm number = PlainNumber word number
DerivesNumber word InReach number = PlainNumber word number

-- a word derives a value in femtoseconds: the number that it writes is scaled
abbrev pub IsScaled : Timescale → List ℕ → ℤ → Type 0
IsScaled timescale word femtoseconds =
    (written : ℤ) × Value word written × (femtoseconds ≡ written *ℤ pos (factor timescale))

abbrev pub DerivesValue : Timescale → List ℕ → Strictness → ℤ → Type 0
DerivesValue timescale word AnyWord femtoseconds = Unit {0}
DerivesValue timescale word InForm femtoseconds = IsScaled timescale word femtoseconds
DerivesValue timescale word InReach femtoseconds =
    IsScaled timescale word femtoseconds × IsInReach femtoseconds

-- what a word of a line is to derive: a plain number; a value under a timescale; or nothing but itself
pub data Argument : Type 0 where
  Plain : (number : ℕ) → Argument
  Scaled : (timescale : Timescale) (femtoseconds : ℤ) → Argument
  Keyword : (text : List ℕ) → Argument

abbrev pub DerivesArgument : Strictness → List ℕ → Argument → Type 0
DerivesArgument how word (Plain number) = DerivesNumber word how number
DerivesArgument how word (Scaled timescale femtoseconds) =
    DerivesValue timescale word how femtoseconds
DerivesArgument how word (Keyword text) = word ≡ text

-- so many words derive so many arguments
abbrev pub DeriveArguments : Strictness → List (List ℕ) → List Argument → Type 0
DeriveArguments how [] [] = Unit {0}
DeriveArguments how [] (argument ∷ arguments) = ⊥
DeriveArguments how (word ∷ words) [] = ⊥
DeriveArguments how (word ∷ words) (argument ∷ arguments) =
    DerivesArgument how word argument × DeriveArguments how words arguments

-- a text derives arguments: it is a word for each
abbrev pub Arguments : Strictness → List Argument → List ℕ → Type 0
Arguments how arguments text =
    (words : List (List ℕ)) × Words words text × DeriveArguments how words arguments

-- the same, of what has such arguments
abbrev pub ArgumentsOf : {A : Type 0} → (A → List Argument) → List ℕ → Strictness → A → Type 0
ArgumentsOf arguments text how thing = Arguments how (arguments thing) text

-- a line derives a name and arguments
abbrev pub Spells : Strictness → List ℕ → List Argument → List ℕ → Type 0
Spells how name arguments line =
    (rest : List ℕ) × Leads name rest line × Arguments how arguments rest

-- The fault of a line is the first that it has: its words derive nothing, even if any word is a number; its numbers are
-- not in their form; a value is out of reach. Derives how says that the line derives something, read so strictly.
abbrev pub HasFault : (Strictness → Type 0) → Cause → Type 0
HasFault Derives (Line WrongWords) = ¬ Derives AnyWord
HasFault Derives (Word NumberForm) = Derives AnyWord × ¬ Derives InForm
HasFault Derives (Line TooFar) = Derives InForm × ¬ Derives InReach
HasFault _ (Word LineForm) = ⊥
HasFault _ (Pool _) = ⊥

-- some such thing is derived, read so strictly
abbrev pub Derivable : {A : Type 0} → (Strictness → A → Type 0) → Strictness → Type 0
Derivable {A} Derives how = (thing : A) × Derives how thing

-- the fault where no such thing is derived
abbrev pub FaultOf : {A : Type 0} → (Strictness → A → Type 0) → Cause → Type 0
FaultOf Derives = HasFault (Derivable Derives)

-- a reader answers what is derived, or the fault for which nothing is
abbrev pub MatchReading : {A : Type 0} → Result A Cause → (Strictness → A → Type 0) → Type 0
MatchReading result Derives = MatchResult result (Derives InReach) (FaultOf Derives)
