-- Masks, member by member.
use Rattle.std.proofs.Common.{◌≡◌, ℕ, zero, suc, ◌-◌, ◌^◌, ◌<◌, Bool, true, false, not, ◌&&◌, ◌||◌, eqb, sym, refl, ap, ◌∙◌, ⊎_elim, arith}
use Rattle.std.specs.Int.{w64, bit_at, bit_not}
use Rattle.std.specs.Prelude.{min, max, bit_and, bit_or}
use Rattle.std.proofs.Math.Pow.{pow-lt}
use Rattle.std.proofs.lemmas.Nat.Bits.{bit_at-lt, bit_at_or, bit_at_and, bit_at_not, bit_at-pow_same, bit_at-pow_other, bit_at-zero}
use Rattle.std.proofs.lemmas.Bool.{cases_eq, eq-eqb, ne_eqb, eqb-true}
use Rattle.pool.specs.Masks.{has_member, with_member, without_member, is_subset}

-- the cases of two bits
two_bits : (f g : ℕ → ℕ → Bool) → f 0 0 ≡ g 0 0 → f 0 1 ≡ g 0 1 → f 1 0 ≡ g 1 0 → f 1 1 ≡ g 1 1 → (x y : ℕ) → x < 2 → y < 2 → f x y ≡ g x y
two_bits f g a b c d zero zero hx hy = a
two_bits f g a b c d zero (suc zero) hx hy = b
two_bits f g a b c d (suc zero) zero hx hy = c
two_bits f g a b c d (suc zero) (suc zero) hx hy = d
two_bits f g a b c d (suc (suc x)) y hx hy = absurd (omega arith)
two_bits f g a b c d zero (suc (suc y)) hx hy = absurd (omega arith)
two_bits f g a b c d (suc zero) (suc (suc y)) hx hy = absurd (omega arith)

pub has-or : (m n k : ℕ) → has_member (bit_or m n) k ≡ (has_member m k || has_member n k)
has-or m n k =
    ap (λ (x : ℕ). eqb x 1) (bit_at_or m n k)
    ∙ two_bits (λ x y. eqb (max x y) 1) (λ x y. eqb x 1 || eqb y 1) refl refl refl refl (bit_at m k) (bit_at n k) (bit_at-lt m k) (bit_at-lt n k)

has-and : (m n k : ℕ) → has_member (bit_and m n) k ≡ (has_member m k && has_member n k)
has-and m n k =
    ap (λ (x : ℕ). eqb x 1) (bit_at_and m n k)
    ∙ two_bits (λ x y. eqb (min x y) 1) (λ x y. eqb x 1 && eqb y 1) refl refl refl refl (bit_at m k) (bit_at n k) (bit_at-lt m k) (bit_at-lt n k)

pub has-zero : (k : ℕ) → has_member 0 k ≡ false
has-zero k = ap (λ (x : ℕ). eqb x 1) (bit_at-zero k)

pub has-pow : (p k : ℕ) → has_member (2 ^ p) k ≡ eqb k p
has-pow p k =
    ⊎_elim
    (λ same. ap (λ (x : ℕ). eqb x 1) (ap (λ (i : ℕ). bit_at (2 ^ p) i) same ∙ bit_at-pow_same p) ∙ sym (eq-eqb k p same))
    (λ apart. ap (λ (x : ℕ). eqb x 1) (bit_at-pow_other p k apart) ∙ sym (ne_eqb k p apart))
    (cases_eq k p)

-- the mask with a member, and without one
pub has-with : (m p k : ℕ) → has_member (with_member m p) k ≡ (has_member m k || eqb k p)
has-with m p k = has-or m (2 ^ p) k ∙ ap (λ (b : Bool). has_member m k || b) (has-pow p k)

pub has-without : (m p k : ℕ) → p < 64 → k < 64 → has_member (without_member m p) k ≡ (has_member m k && not (eqb k p))
has-without m p k a b =
    has-and m (bit_not w64 (2 ^ p)) k
    ∙ ap (λ (b : Bool). has_member m k && b) (ap (λ (x : ℕ). eqb x 1) (bit_at_not w64 (2 ^ p) k (pow-lt a) b) ∙ turned (bit_at (2 ^ p) k) (bit_at-lt (2 ^ p) k) ∙ ap not (has-pow p k))
  where
    turned : (x : ℕ) → x < 2 → eqb (1 - x) 1 ≡ not (eqb x 1)
    turned zero h = refl
    turned (suc zero) h = refl
    turned (suc (suc x)) h = absurd (omega arith)

-- a member of a subset is one of the set
pub subset_member : (m n k : ℕ) → is_subset m n ≡ true → has_member m k ≡ true → has_member n k ≡ true
subset_member m n k s h = sym (ap (λ (x : ℕ). has_member x k) (eqb-true (bit_or m n) n s)) ∙ has-or m n k ∙ ap (λ (b : Bool). b || has_member n k) h
