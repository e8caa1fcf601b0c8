-- The first line of a session: what its values count.
use Rattle.std.specs.Prelude.{ℕ, List, [], ◌∷◌, codes}
use Rattle.session_lines.specs.Grammar.{Strictness, Argument, Keyword, Spells}
use Rattle.session_lines.specs.Scales.{amount_text, unit_text}
use Rattle.session_lines.specs.declared.timescale.Timescale.{Timescale}

abbrev pub scale_arguments : Timescale → List Argument
scale_arguments timescale =
    Keyword (amount_text timescale.amount) ∷ Keyword (unit_text timescale.unit) ∷ []

-- a line derives a timescale: its words are timescale, an amount and a unit
abbrev pub TimescaleLine : List ℕ → Strictness → Timescale → Type 0
TimescaleLine line how timescale = Spells how (codes "timescale") (scale_arguments timescale) line
