-- Digits write one number.
use Rattle.std.proofs.Common.{inl, inr, ◌≡◌, ◌≢◌, ℕ, ◌+◌, ◌-◌, ◌*◌, ◌^◌, ◌<◌, ◌≤◌, ◌⊎◌, List, [], ◌∷◌, ◌++◌, length, zero, suc, get_or, take, drop, refl, sym, ap, arith, length-append, ◌∙◌}
use Rattle.std.proofs.Math.Seq.{take-length}
use Rattle.std.proofs.Math.Nat.{pow-suc, pow-le-pow_right, mul-le-mul_right}
use Rattle.std.proofs.lemmas.List.{take_more}
use Rattle.std.proofs.Common.{ℤ, pos, negsuc}
use Rattle.words.specs.Numbers.{Digits, Number, Value}

pub digits_more : (cs : List ℕ) (n d : ℕ) → Digits cs n → d < 10 → Digits (cs ++ (48 + d) ∷ []) (10 * n + d)
digits_more [] n d h lt = (d, 0, lt, refl, refl, omega (arith, h))
digits_more (c ∷ cs) n d h lt =
    let grown : 10 ^ length (cs ++ (48 + d) ∷ []) ≡ 10 * 10 ^ length cs =
    ap (λ k. 10 ^ k) (let k : length (cs ++ (48 + d) ∷ []) ≡ suc (length cs) = omega (arith, length-append cs ((48 + d) ∷ [])) in k) ∙ pow-suc 10 (length cs) ∙ omega arith in
    (h.0, 10 * h.1 + d, h.2, h.3, digits_more cs h.1 d h.4 lt, rw (grown, h.5) (omega arith))

pub digits_below : (cs : List ℕ) (n : ℕ) → Digits cs n → n < 10 ^ length cs
digits_below [] n h = omega (arith, h)
digits_below (c ∷ cs) n h =
    let rest : h.1 < 10 ^ length cs = digits_below cs h.1 h.4 in
    let first : h.0 * 10 ^ length cs ≤ 9 * 10 ^ length cs = mul-le-mul_right (10 ^ length cs) (omega (arith, h.2)) in
    rw (pow-suc 10 (length cs), h.5) (omega arith)

pub digits_one : (cs : List ℕ) (n m : ℕ) → Digits cs n → Digits cs m → n ≡ m
digits_one [] n m h k = h ∙ sym k
digits_one (c ∷ cs) n m h k =
    let first : h.0 ≡ k.0 = omega (arith, h.3, k.3) in
    let rest : h.1 ≡ k.1 = digits_one cs h.1 k.1 h.4 k.4 in
    h.5 ∙ rw (first, rest) (sym k.5)

-- each of them is a digit
pub digits_each : (cs : List ℕ) (n i : ℕ) → Digits cs n → i < length cs → (48 ≤ get_or cs i 0) × (get_or cs i 0 < 58)
digits_each [] n i h lt = absurd (omega arith)
digits_each (c ∷ cs) n zero h lt = (omega (arith, h.2, h.3), omega (arith, h.2, h.3))
digits_each (c ∷ cs) n (suc i) h lt = digits_each cs h.1 i h.4 (omega arith)

pub digits_so_far : (cs : List ℕ) (i n b d : ℕ) → i < length cs → Digits (take i cs) n → get_or cs i 0 ≡ b → 48 + d ≡ b → d < 10 → Digits (take (i + 1) cs) (10 * n + d)
digits_so_far cs i n b d lt h byte digit small =
    rw (take_more cs i 0 lt) (let here : 48 + d ≡ get_or cs i 0 = digit ∙ sym byte in rw (← here) (digits_more (take i cs) n d h small))

pub ten_more : (i n d : ℕ) → n < 10 ^ i → d < 10 → 10 * n + d < 10 ^ (i + 1)
ten_more i n d h lt = let grown : 10 ^ suc i ≡ 10 ^ i * 10 = pow-suc 10 i in let next : i + 1 ≡ suc i = omega arith in rw (next, grown) (omega arith)

pub ten_powers : (i : ℕ) → i ≤ 18 → 10 ^ i ≤ 1000000000000000000
ten_powers i h = pow-le-pow_right {n = 10} (omega arith) h

pub digits_small : (cs : List ℕ) (n : ℕ) → Digits cs n → length cs ≤ 18 → n < 1000000000000000000
digits_small cs n h few = omega (arith, digits_below cs n h, ten_powers (length cs) few)

pub not_digits : (cs : List ℕ) (i n : ℕ) → i < length cs → Digits cs n → (get_or cs i 0 < 48) ⊎ (57 < get_or cs i 0) → ⊥
not_digits cs i n lt h far = let each = digits_each cs n i h lt in elim far [ inl below ↦ omega (arith, each.0) | inr above ↦ omega (arith, each.1) ]

-- behind a minus, only the digits of a number other than 0
pub number_one : (most : ℕ) (word : List ℕ) (n m : ℕ) → Number most word n → Number most word m → n ≡ m
number_one most word n m h k = digits_one word n m h.digits k.digits

pub not_below : (word digits : List ℕ) (z : ℤ) → word ≡ 45 ∷ digits → ((n : ℕ) → Number 18 digits (n + 1) → ⊥) → Value word z → ⊥
not_below word digits (pos n) e none h = let each = digits_each word n 0 h.digits h.some in omega (arith, each.0, ap (λ t. get_or t 0 0) e)
not_below word digits (negsuc n) e none h = let same : h.0 ≡ digits = cc (h.1) in none n (rw (← same) h.2)

pub no_minus_zero : (word digits : List ℕ) → word ≡ 45 ∷ digits → Number 18 digits 0 → (z : ℤ) → Value word z → ⊥
no_minus_zero word digits e nought z h = not_below word digits z e (λ n k. omega (arith, number_one 18 digits 0 (n + 1) nought k)) h

pub no_minus : (word : List ℕ) → get_or word 0 0 ≢ 45 → ((n : ℕ) → Number 18 word n → ⊥) → (z : ℤ) → Value word z → ⊥
no_minus word ne none (pos n) h = none n h
no_minus word ne none (negsuc n) h = ne (ap (λ t. get_or t 0 0) h.1)

pub behind_minus : (word : List ℕ) → get_or word 0 0 ≡ 45 → 1 ≤ length word → word ≡ 45 ∷ take (length word - 1) (drop 1 word)
behind_minus [] e h = absurd (omega arith)
behind_minus (c ∷ cs) e h =
    let size : length (c ∷ cs) - 1 ≡ length cs = omega arith in
    let all : take (length cs) cs ≡ cs = take-length cs in
    rw (size, all, e) refl

-- a word writes one value
pub value_one : (word : List ℕ) (y z : ℤ) → Value word y → Value word z → y ≡ z
value_one word (pos n) (pos m) h k = ap pos (number_one 18 word n m h k)
value_one word (pos n) (negsuc m) h k = let each = digits_each word n 0 h.digits h.some in absurd (omega (arith, each.0, ap (λ t. get_or t 0 0) k.1))
value_one word (negsuc n) (pos m) h k = let each = digits_each word m 0 k.digits k.some in absurd (omega (arith, each.0, ap (λ t. get_or t 0 0) h.1))
value_one word (negsuc n) (negsuc m) h k =
    let same : h.0 ≡ k.0 = cc (h.1, k.1) in
    let one : n + 1 ≡ m + 1 = number_one 18 k.0 (n + 1) (m + 1) (rw (← same) h.2) k.2 in ap negsuc (omega (arith, one))
