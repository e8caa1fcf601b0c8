-- A text is cut at a byte in one way only.
use Rattle.std.proofs.Common.{◌≡◌, ◌≢◌, ℕ, ◌+◌, ◌<◌, List, [], ◌∷◌, ◌++◌, length, get_or, take, refl}
use Rattle.std.proofs.lemmas.List.{take_more}
use Rattle.words.specs.Words.{Without}

pub without_one_more : (byte : ℕ) (cs : List ℕ) (c : ℕ) → Without byte cs → c ≢ byte → Without byte (cs ++ c ∷ [])
without_one_more byte [] c h ne = (ne, tt)
without_one_more byte (x ∷ xs) c h ne = (h.0, without_one_more byte xs c h.1 ne)

pub without_more : (byte : ℕ) (cs : List ℕ) (i : ℕ) → i < length cs → Without byte (take i cs) → get_or cs i 0 ≢ byte → Without byte (take (i + 1) cs)
without_more byte cs i lt h ne = rw (take_more cs i 0 lt) (without_one_more byte (take i cs) (get_or cs i 0) h ne)

-- the first place of a byte is one place
pub one_cut : (byte : ℕ) (a b x y : List ℕ) → Without byte a → Without byte b → a ++ byte ∷ x ≡ b ++ byte ∷ y → (a ≡ b) × (x ≡ y)
one_cut byte [] [] x y ha hb e = (refl, cc)
one_cut byte [] (d ∷ b) x y ha hb e = absurd (hb.0 cc)
one_cut byte (c ∷ a) [] x y ha hb e = absurd (ha.0 cc)
one_cut byte (c ∷ a) (d ∷ b) x y ha hb e =
    let tails : a ++ byte ∷ x ≡ b ++ byte ∷ y = cc in
    let same = one_cut byte a b x y ha.1 hb.1 tails in
    (cc, same.1)

moved : (byte : ℕ) (s t : List ℕ) → s ≡ t → Without byte s → Without byte t
moved byte s t e h = rw (← e) h

-- a text without a byte is not cut there
pub no_cut : (byte : ℕ) (a x text : List ℕ) → Without byte text → text ≡ a ++ byte ∷ x → ⊥
no_cut byte [] x text h e = (moved byte text (byte ∷ x) e h).0 refl
no_cut byte (c ∷ a) x text h e = no_cut byte a x (a ++ byte ∷ x) (moved byte text (c ∷ (a ++ byte ∷ x)) e h).1 refl
