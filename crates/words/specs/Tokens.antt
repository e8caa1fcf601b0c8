-- What stands at a place of a line.
use Rattle.std.specs.Prelude.{◌≡◌, ℕ, ◌+◌, List, [], ◌∷◌, ◌++◌, length, drop, slice_get, Some, ◌⊎◌}
use Rattle.words.specs.Words.{Without, IsWord, Leads}
use denote.Ref.{Bor}
use Rattle.words.specs.declared.token.Token.{Token}
use Rattle.words.specs.declared.token.Token.TheVariants.{Word, Last, Empty}

-- a word with its blank and the rest of the line; the word that the line ends with; or a blank, or nothing
abbrev pub IsToken : List ℕ → ℕ → Token → Type 0
IsToken line at (Word text here) =
    (here ≡ at) × Leads text.now (drop (at + length text.now + 1) line) (drop at line)
IsToken line at (Last text here) = (here ≡ at) × IsWord text.now × (drop at line ≡ text.now)
IsToken line at (Empty here) =
    (here ≡ at) × ((drop at line ≡ []) ⊎ (slice_get (drop at line) 0 ≡ Some 32))

-- a text up to the first such byte, and what follows that byte
abbrev pub HasCut : ℕ → List ℕ → Bor (List ℕ) × Bor (List ℕ) → Type 0
HasCut byte text parts = Without byte parts.0.now × (text ≡ parts.0.now ++ byte ∷ parts.1.now)

-- the word from there that more words follow, and where they begin
abbrev pub IsNextWord : List ℕ → ℕ → Bor (List ℕ) × ℕ → Type 0
IsNextWord line at found = Leads found.0.now (drop found.1 line) (drop at line)

abbrev pub one : Bor (List ℕ) → List (List ℕ)
one found = found.now ∷ []

abbrev pub two : Bor (List ℕ) × Bor (List ℕ) → List (List ℕ)
two found = found.0.now ∷ found.1.now ∷ []

abbrev pub three : Bor (List ℕ) × Bor (List ℕ) × Bor (List ℕ) → List (List ℕ)
three found = found.0.now ∷ found.1.now ∷ found.2.now ∷ []
