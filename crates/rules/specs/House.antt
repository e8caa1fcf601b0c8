-- What a house rule means.
use Rattle.std.specs.Prelude.{◌≡◌, ℕ, Bool, ℤ}

-- its yes or no to an entry, the last value of the entry's chain and a new value
abbrev pub Rule : Type 0
Rule = ℕ → ℤ → ℤ → Bool

-- two rules with the same answer to every question
abbrev pub SaysTheSame : Rule → Rule → Type 0
SaysTheSame rule other = (entry : ℕ) (last new : ℤ) → rule entry last new ≡ other entry last new
