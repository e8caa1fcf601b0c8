-- The second line of a session: how large the pool is.
use Rattle.std.specs.Prelude.{ℕ, List, [], ◌∷◌, codes}
use Rattle.session_lines.specs.Grammar.{Strictness, Plain, Argument, Spells}
use Rattle.session_lines.specs.declared.sizes.Sizes.{Sizes}

abbrev pub size_arguments : Sizes → List Argument
size_arguments sizes = Plain sizes.seats ∷ Plain sizes.entries ∷ Plain sizes.depth ∷ []

-- a line derives sizes: its words are pool and the three of them
abbrev pub SizesLine : List ℕ → Strictness → Sizes → Type 0
SizesLine line how sizes = Spells how (codes "pool") (size_arguments sizes) line
