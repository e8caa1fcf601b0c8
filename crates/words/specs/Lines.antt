-- The lines of a text: each has at most 80 bytes, and a line feed (byte 10) ends it.
use Rattle.std.specs.Prelude.{◌≡◌, ℕ, ◌≤◌, List, ◌∷◌, ◌++◌, length}
use Rattle.words.specs.Words.{Without}
use Rattle.words.specs.declared.fault.WordFault.{WordFault}
use Rattle.words.specs.declared.fault.WordFault.TheVariants.{LineForm}
use denote.Ref.{Bor}

abbrev pub longest_line : ℕ
longest_line = 80

abbrev pub line_feed : ℕ
line_feed = 10

pub record IsLine (line : List ℕ) : Type 0 where
  pub short : length line ≤ longest_line
  pub whole : Without line_feed line

-- a text is a line, its line feed and a rest
pub record Begins (line rest text : List ℕ) : Type 0 where
  pub is_line : IsLine line
  pub ended : text ≡ line ++ line_feed ∷ rest

-- the line that a text begins with, and what follows it
abbrev pub HasFirstLine : List ℕ → Bor (List ℕ) × Bor (List ℕ) → Type 0
HasFirstLine text parts = Begins parts.0.now parts.1.now text

-- a text begins with no line
abbrev pub HasNoLine : List ℕ → WordFault → Type 0
HasNoLine text fault = (fault ≡ LineForm) × ((line rest : List ℕ) → Begins line rest text → ⊥)
