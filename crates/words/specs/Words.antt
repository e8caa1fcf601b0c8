-- The words of a line: one blank (byte 32) stands between two.
use Rattle.std.specs.Prelude.{◌≡◌, ◌≢◌, ℕ, zero, suc, ◌<◌, List, [], ◌∷◌, ◌++◌, length, Option, MatchOption}

-- a text without one byte
abbrev pub Without : ℕ → List ℕ → Type 0
Without byte [] = Unit {0}
Without byte (c ∷ cs) = (c ≢ byte) × Without byte cs

-- a byte or more, none of them a blank
pub record IsWord (word : List ℕ) : Type 0 where
  pub some : 0 < length word
  pub whole : Without 32 word

-- a text is a word, a blank and a rest
pub record Leads (word rest text : List ℕ) : Type 0 where
  pub is_word : IsWord word
  pub joined : text ≡ word ++ 32 ∷ rest

-- a line is one word, or a word, a blank and a line of the other words
abbrev pub Words : List (List ℕ) → List ℕ → Type 0
Words [] line = ⊥
Words (word ∷ []) line = IsWord word × (line ≡ word)
Words (word ∷ next ∷ words) line =
    (rest : List ℕ) × Leads word rest line × Words (next ∷ words) rest

-- a text does not begin with a word and a blank
abbrev pub LeadsNowhere : List ℕ → Type 0
LeadsNowhere text = (word rest : List ℕ) → Leads word rest text → ⊥

-- no so many words are such
abbrev pub AreNever : ℕ → (List (List ℕ) → Type 0) → Type 0
AreNever zero Such = ¬ Such []
AreNever (suc count) Such = (word : List ℕ) → AreNever count (λ words. Such (word ∷ words))

-- a text is the words found, so many of them, or where none are found it is not so many words
abbrev pub MatchWords : {A : Type 0} → ℕ → (A → List (List ℕ)) → List ℕ → Option A → Type 0
MatchWords count words_of text result =
    MatchOption result (AreNever count (λ words. Words words text)) (λ found. Words (words_of found) text)
