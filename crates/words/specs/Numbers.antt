-- The numbers that words write in decimal.
use Rattle.std.specs.Prelude.{◌≡◌, ℕ, ◌+◌, ◌*◌, ◌^◌, ◌<◌, ◌≤◌, List, [], ◌∷◌, length, slice_index, ℤ, pos, negsuc, Result, MatchResult}
use Rattle.words.specs.declared.fault.WordFault.{WordFault}
use Rattle.words.specs.declared.fault.WordFault.TheVariants.{NumberForm}

-- the first digit counts as often as ten to the number of the digits behind it; those count for themselves
abbrev pub Digits : List ℕ → ℕ → Type 0
Digits [] n = n ≡ 0
Digits (c ∷ cs) n =
    (digit : ℕ) × (rest : ℕ) × (digit < 10) × (c ≡ 48 + digit) × Digits cs rest
    × (n ≡ digit * 10 ^ length cs + rest)

-- one digit or more, at most so many, and a zero in front only if it stands alone
pub record Number (most : ℕ) (word : List ℕ) (n : ℕ) : Type 0 where
  pub some : 0 < length word
  pub few : length word ≤ most
  pub plain : slice_index word 0 ≡ 48 → length word ≡ 1
  pub digits : Digits word n

-- a plain number has at most 9 digits, a value 18
abbrev pub plain_digits : ℕ
plain_digits = 9

abbrev pub value_digits : ℕ
value_digits = 18

abbrev pub PlainNumber : List ℕ → ℕ → Type 0
PlainNumber word n = Number plain_digits word n

-- a value from 0 up is its digits; one below 0 is a minus (byte 45) and the digits of its size, which is n + 1 for negsuc n
abbrev pub Value : List ℕ → ℤ → Type 0
Value word (pos n) = Number value_digits word n
Value word (negsuc n) = (digits : List ℕ) × (word ≡ 45 ∷ digits) × Number value_digits digits (n + 1)

-- what a word writes, or where it writes no such thing the fault of its form
abbrev pub MatchForm : {A : Type 0} → Result A WordFault → (A → Type 0) → Type 0
MatchForm {A} result Writes =
    MatchResult result Writes (λ fault. (fault ≡ NumberForm) × ((x : A) → Writes x → ⊥))
