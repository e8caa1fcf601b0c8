-- The withdrawal of all that is staged: what the store means after it, and what it leaves of the store's memory.
use Rattle.std.specs.Prelude.{◌≡◌, ℕ, zero, suc, Option, is_ok, MatchBool}
use Rattle.store.specs.declared.version.Version.{Version}
use Rattle.store.specs.Meaning.{ReadingMeaning, WritingMeaning, meaning_of}
use Rattle.store.specs.Steps.{withdraw_answer, withdraw_after}

-- what is staged at the entries below n is withdrawn
abbrev pub withdrawn : WritingMeaning → ℕ → WritingMeaning
withdrawn store zero = store
withdrawn store (suc n) = withdraw_after (withdrawn store n) n

module _ {S : Type 0} (reading : S → ReadingMeaning) (staged : S → ℕ → Option Version) (withdraw_leaves : S → ℕ → S → Type 0) where
  -- entry after entry below n, the store's own word on what a withdrawal leaves of it; where nothing is staged, the very store
  abbrev pub WithdrawsBelow : S → ℕ → S → Type 0
  WithdrawsBelow old zero new = new ≡ old
  WithdrawsBelow old (suc n) new =
      (mid : S) × WithdrawsBelow old n mid
      × MatchBool (is_ok (withdraw_answer (withdrawn (meaning_of reading staged old) n) n)) (withdraw_leaves mid n new) (new ≡ mid)

  pub record WithdrawsEach (old new : S) : Type 0 where
    pub means : meaning_of reading staged new ≡ withdrawn (meaning_of reading staged old) (reading old).entries
    pub memory : WithdrawsBelow old (reading old).entries new
