-- The number of each fault of a line or a number.
use Rattle.std.specs.Prelude.{ℕ}
use Rattle.words.specs.declared.fault.WordFault.{WordFault}
use Rattle.words.specs.declared.fault.WordFault.TheVariants.{NumberForm, LineForm}

abbrev pub word_fault_number : WordFault → ℕ
word_fault_number NumberForm = 18
word_fault_number LineForm = 20
