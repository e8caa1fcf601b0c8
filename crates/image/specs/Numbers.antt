-- The numbers of an image, by name.
use Rattle.std.specs.Prelude.{ℕ, List, [], ◌∷◌}

-- how many bytes a trailer has
abbrev pub trailer_size : ℕ
trailer_size = 16

-- how many of them its mark, and which, "TRL1"
abbrev pub mark_size : ℕ
mark_size = 4

abbrev pub mark : List ℕ
mark = 84 ∷ 82 ∷ 76 ∷ 49 ∷ []
