-- Laws of the test for equal numbers, and of counting.
use Rattle.std.proofs.Common.{◌≡◌, ℕ, zero, suc, ◌+◌, ◌<◌, Bool, true, false, cond, eqb, ◌⊎◌, refl, subst, inl, inr, arith}
use Rattle.std.proofs.lemmas.Bool.{eqb-true, eq-eqb, eqb-false, cases_Bool}
use Rattle.promise.specs.Histories.{same}
use Rattle.promise.specs.OneByOne.{count_below}

-- what cannot be
pub no : {A : Type 0} → ◌≡◌ {A = ℕ} 0 1 → A
no z = absurd (omega arith)

pub same_refl : (a : ℕ) → same a a ≡ true
unfolding same
same_refl a = eq-eqb a a refl

pub same_true : (a b : ℕ) → same a b ≡ true → a ≡ b
unfolding same
same_true a b h = eqb-true a b h

-- the test tells whether the numbers are equal
pub same_tells : (a b : ℕ) → ((same a b ≡ true) × (a ≡ b)) ⊎ ((same a b ≡ false) × (a ≡ b → ⊥))
unfolding same
same_tells a b = go (cases_Bool (eqb a b))
  where
    go : (eqb a b ≡ true) ⊎ (eqb a b ≡ false) → ((eqb a b ≡ true) × (a ≡ b)) ⊎ ((eqb a b ≡ false) × (a ≡ b → ⊥))
    go (inl h) = inl (h, eqb-true a b h)
    go (inr h) = inr (h, eqb-false a b h)

pub same_apart : (a b : ℕ) → (a ≡ b → ⊥) → same a b ≡ false
same_apart a b h = grind (arith, same_tells)

-- what holds at one number and at every other holds at each
pub at : (P : ℕ → Type 0) (s : ℕ) → P s → ((x : ℕ) → same s x ≡ false → P x) → (x : ℕ) → P x
at P s here there x = go (cases_Bool (same s x))
  where
    go : (same s x ≡ true) ⊎ (same s x ≡ false) → P x
    go (inl h) = subst P (same_true s x h) here
    go (inr h) = there x h

pub count_ext : (f g : ℕ → Bool) (n : ℕ) → ((x : ℕ) → x < n → f x ≡ g x) → count_below f n ≡ count_below g n
count_ext f g zero h = refl
count_ext f g (suc n) h =
    let a : f n ≡ g n = h n (omega arith) in
    let b : count_below f n ≡ count_below g n = count_ext f g n (λ x l. h x (omega arith)) in cc

pub count_none : (f : ℕ → Bool) (n : ℕ) → ((x : ℕ) → x < n → f x ≡ false) → count_below f n ≡ 0
count_none f zero h = refl
count_none f (suc n) h = rw (h n (omega arith)) (count_none f n (λ x l. h x (omega arith)))

-- two tests that differ at one number at most
pub count_one : (f g : ℕ → Bool) (s n : ℕ) → s < n → ((x : ℕ) → x < n → same s x ≡ false → g x ≡ f x)
    → count_below g n + cond (f s) 1 0 ≡ count_below f n + cond (g s) 1 0
count_one f g s zero l h = omega arith
count_one f g s (suc n) l h = go (λ m. count_one f g s n m (λ x k. h x (omega arith))) (same_tells s n)
  where
    go : (s < n → count_below g n + cond (f s) 1 0 ≡ count_below f n + cond (g s) 1 0) → ((same s n ≡ true) × (s ≡ n)) ⊎ ((same s n ≡ false) × (s ≡ n → ⊥))
        → count_below g (suc n) + cond (f s) 1 0 ≡ count_below f (suc n) + cond (g s) 1 0
    go ih (inl q) =
        let a : count_below g n ≡ count_below f n = count_ext g f n (λ x m. h x (omega arith) (same_apart s x (λ t. omega (arith, q.1)))) in
        rw q.1 (grind arith)
    go ih (inr q) =
        let u : s ≡ n → ⊥ = q.1 in
        let m : s < n = omega arith in
        let b = ih m in
        rw (h n (omega arith) q.0) (grind arith)
