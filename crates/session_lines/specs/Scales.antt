-- What the values of a session count, and the words for that.
use Rattle.std.specs.Prelude.{ℕ, ◌*◌, ◌^◌, List, codes}
use Rattle.session_lines.specs.declared.timescale.Amount.{Amount}
use Rattle.session_lines.specs.declared.timescale.Amount.TheVariants.{One, Ten, Hundred}
use Rattle.session_lines.specs.declared.timescale.Unit.{Unit}
use Rattle.session_lines.specs.declared.timescale.Unit.TheVariants.{Seconds, Milliseconds, Microseconds, Nanoseconds, Picoseconds, Femtoseconds}
use Rattle.session_lines.specs.declared.timescale.Timescale.{Timescale}

abbrev pub amount : Amount → ℕ
amount One = 1
amount Ten = 10
amount Hundred = 100

abbrev pub amount_text : Amount → List ℕ
amount_text One = codes "1"
amount_text Ten = codes "10"
amount_text Hundred = codes "100"

abbrev pub unit_text : Unit → List ℕ
unit_text Seconds = codes "s"
unit_text Milliseconds = codes "ms"
unit_text Microseconds = codes "us"
unit_text Nanoseconds = codes "ns"
unit_text Picoseconds = codes "ps"
unit_text Femtoseconds = codes "fs"

-- how many times a thousand femtoseconds make a unit
abbrev pub thousands : Unit → ℕ
thousands Seconds = 5
thousands Milliseconds = 4
thousands Microseconds = 3
thousands Nanoseconds = 2
thousands Picoseconds = 1
thousands Femtoseconds = 0

-- in femtoseconds
abbrev pub unit_size : Unit → ℕ
unit_size unit = 10 ^ (3 * thousands unit)

-- how many femtoseconds a value of 1 is
abbrev pub factor : Timescale → ℕ
factor timescale = amount timescale.amount * unit_size timescale.unit
