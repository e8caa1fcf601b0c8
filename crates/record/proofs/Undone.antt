-- Encoding and decoding undo one another.
use Rattle.std.proofs.Common.{◌≡◌, ℕ, ℤ, zero, suc, ◌+◌, ◌/◌, ◌%◌, ◌<◌, ◌≤◌, ◌⊎◌, true, List, [], ◌∷◌, ◌++◌, get_or, take, drop, refl, sym, ap, ◌∙◌, arith, ⊎_elim, to_z, of_z, SFits}
use Rattle.std.proofs.lemmas.Nat.{le_bytes_4, le_bytes_8, from_le_bytes-to_le_bytes_4, from_le_bytes-to_le_bytes_8}
use Rattle.std.proofs.lemmas.Int.{of_z-to_z, to_z-of_z, ints}
use Rattle.std.proofs.lemmas.List.{drop_more, take_all, drop-drop, take-append-drop, places}
use Rattle.std.proofs.lemmas.Bool.{cases_lt, cases_eq, lt-ltb, le-ltb, eq-eqb, ne_eqb, cond-true, cond-false}
use Rattle.std.specs.Int.{w32, w64, to_le_bytes, from_le_bytes}
use Rattle.store.specs.Steps.{is_within}
use Rattle.record.specs.Numbers.{no_place, journal_reach}
use Rattle.record.specs.declared.record.Record.{Record}
use Rattle.record.proofs.Parts.{at_2, at_6, at_12}
use Rattle.record.specs.Bytes.{record_bytes, record_from, value_bytes, value_from, sign, previous_number, previous_from, Fits, IsWhole}

sign_low : (six : List ℕ) → get_or six 5 0 < 128 → sign six ≡ 0
sign_low six low = cond-true _ _ _ (lt-ltb (get_or six 5 0) 128 low)

sign_high : (six : List ℕ) → 128 ≤ get_or six 5 0 → sign six ≡ 255
sign_high six high = cond-false _ _ _ (le-ltb (get_or six 5 0) 128 high)

pub sign_small : (six : List ℕ) → sign six < 256
sign_small six = ⊎_elim (λ low. omega (arith, sign_low six low)) (λ high. omega (arith, sign_high six high)) (cases_lt (get_or six 5 0) 128)

-- the number of a place is read again
pub place_again : (n : ℕ) → previous_number (previous_from n) ≡ n
place_again n =
    ⊎_elim
    (λ (is : n ≡ no_place). ap previous_number (cond-true _ _ _ (eq-eqb n no_place is)) ∙ sym is)
    (λ apart. ap previous_number (cond-false _ _ _ (ne_eqb n no_place apart)))
    (cases_eq n no_place)

module _ (n : ℕ) (fits : n < 18446744073709551616) where
  abbrev six : List ℕ
  six = take 6 (to_le_bytes w64 n)

  above : (s : ℕ) → sign six ≡ s → n / 281474976710656 % 256 ≡ s → n / 72057594037927936 % 256 ≡ s → from_le_bytes w64 (six ++ sign six ∷ sign six ∷ []) ≡ n
  above s is seventh eighth =
      (λ i. from_le_bytes w64 (six ++ (is ∙ sym seventh) i ∷ (is ∙ sym eighth) i ∷ [])) ∙ from_le_bytes-to_le_bytes_8 n fits

  value_number_again : ((n < 140737488355328) ⊎ (18446603336221196288 ≤ n)) → from_le_bytes w64 (six ++ sign six ∷ sign six ∷ []) ≡ n
  value_number_again = ⊎_elim
      (λ low. above 0 (sign_low six (omega arith)) (omega arith) (omega arith))
      (λ high. above 255 (sign_high six (omega arith)) (omega arith) (omega arith))

pub value_again : (z : ℤ) → is_within journal_reach z ≡ true → value_from (value_bytes z) ≡ z
value_again z h =
    let fits : SFits w64 z = grind (arith, ints) in
    let small : of_z w64 z < 18446744073709551616 = omega (arith, ints) in
    let ends : (of_z w64 z < 140737488355328) ⊎ (18446603336221196288 ≤ of_z w64 z) = grind (arith, ints) in
    ap (to_z w64) (value_number_again (of_z w64 z) small ends) ∙ to_z-of_z w64 z fits

pub again : (r : Record) → Fits r → record_from (record_bytes r) ≡ r
unfolding record_from record_bytes
again r fits =
    let value = value_again r.version.value fits.value in
    let serial = from_le_bytes-to_le_bytes_4 r.version.serial fits.serial in
    let previous = ap previous_from (from_le_bytes-to_le_bytes_4 (previous_number r.previous) fits.previous) ∙ fits.none in
    λ i. record { entry = r.entry; version = record { value = value i; seat = r.version.seat; serial = serial i }; previous = previous i }

-- each of the list is a byte
record Small (xs : List ℕ) : Type 0 where
  each : (i : ℕ) → get_or xs i 0 < 256

no_byte : (i : ℕ) → get_or [] i 0 < 256
no_byte zero = omega arith
no_byte (suc i) = omega arith

first_byte : (x : ℕ) (xs : List ℕ) → x < 256 → Small xs → (i : ℕ) → get_or (x ∷ xs) i 0 < 256
first_byte x xs h hs zero = h
first_byte x xs h hs (suc i) = hs.each i

none_small : Small []
none_small = record { each = no_byte }

with_small : {x : ℕ} {xs : List ℕ} → x < 256 → Small xs → Small (x ∷ xs)
with_small {x} {xs} h hs = record { each = first_byte x xs h hs }

module _ (a b c d : ℕ) (ha : a < 256) (hb : b < 256) (hc : c < 256) (hd : d < 256) where
  pub spelled_4 : to_le_bytes w32 (from_le_bytes w32 (a ∷ b ∷ c ∷ d ∷ [])) ≡ a ∷ b ∷ c ∷ d ∷ []
  spelled_4 = le_bytes_4 (a ∷ b ∷ c ∷ d ∷ []) _ refl (with_small ha (with_small hb (with_small hc (with_small hd none_small)))).each refl

  module _ (e f : ℕ) (he : e < 256) (hf : f < 256) where
    abbrev six_bytes : List ℕ
    six_bytes = a ∷ b ∷ c ∷ d ∷ e ∷ f ∷ []

    spelled_above : (s : ℕ) → s < 256 → value_bytes (to_z w64 (from_le_bytes w64 (six_bytes ++ s ∷ s ∷ []))) ≡ six_bytes
    spelled_above s hs =
        let eight = six_bytes ++ s ∷ s ∷ [] in
        let n = from_le_bytes w64 eight in
        let small : n < 18446744073709551616 = omega arith in
        let small_each : Small eight = with_small ha (with_small hb (with_small hc (with_small hd (with_small he (with_small hf (with_small hs (with_small hs none_small))))))) in
        ap (λ m. take 6 (to_le_bytes w64 m)) (of_z-to_z w64 n small) ∙ ap (take 6) (le_bytes_8 eight n refl small_each.each refl)

    pub spelled_6 : value_bytes (value_from six_bytes) ≡ six_bytes
    spelled_6 = spelled_above (sign six_bytes) (sign_small six_bytes)

module _ (bytes : List ℕ) (are : IsWhole bytes) where
  abbrev at : ℕ → ℕ
  at i = get_or bytes i 0

  serial_spelled : to_le_bytes w32 (from_le_bytes w32 (take 4 (drop 2 bytes))) ≡ take 4 (drop 2 bytes)
  serial_spelled =
      ap (λ four. to_le_bytes w32 (from_le_bytes w32 four)) (at_2 bytes are.long)
      ∙ spelled_4 (at 2) (at 3) (at 4) (at 5) (are.small 2) (are.small 3) (are.small 4) (are.small 5)
      ∙ sym (at_2 bytes are.long)

  value_spelled : value_bytes (value_from (take 6 (drop 6 bytes))) ≡ take 6 (drop 6 bytes)
  value_spelled =
      ap (λ six. value_bytes (value_from six)) (at_6 bytes are.long)
      ∙ spelled_6 (at 6) (at 7) (at 8) (at 9) (are.small 6) (are.small 7) (are.small 8) (are.small 9) (at 10) (at 11) (are.small 10) (are.small 11)
      ∙ sym (at_6 bytes are.long)

  place_spelled : to_le_bytes w32 (previous_number (previous_from (from_le_bytes w32 (take 4 (drop 12 bytes))))) ≡ take 4 (drop 12 bytes)
  place_spelled =
      ap (to_le_bytes w32) (place_again (from_le_bytes w32 (take 4 (drop 12 bytes))))
      ∙ ap (λ four. to_le_bytes w32 (from_le_bytes w32 four)) (at_12 bytes are.long)
      ∙ spelled_4 (at 12) (at 13) (at 14) (at 15) (are.small 12) (are.small 13) (are.small 14) (are.small 15)
      ∙ sym (at_12 bytes are.long)

  cut : (i n : ℕ) → drop i bytes ≡ take n (drop i bytes) ++ drop (i + n) bytes
  cut i n = sym (take-append-drop n (drop i bytes)) ∙ ap (λ ys. take n (drop i bytes) ++ ys) (drop-drop n i bytes)

  in_parts : bytes ≡ at 0 ∷ at 1 ∷ (take 4 (drop 2 bytes) ++ (take 6 (drop 6 bytes) ++ take 4 (drop 12 bytes)))
  in_parts =
      drop_more bytes 0 0 (omega (arith, are.long))
      ∙ ap (λ ys. at 0 ∷ ys) (drop_more bytes 1 0 (omega (arith, are.long))
      ∙ ap (λ ys. at 1 ∷ ys) (cut 2 4
      ∙ ap (λ ys. take 4 (drop 2 bytes) ++ ys) (cut 6 6
      ∙ ap (λ ys. take 6 (drop 6 bytes) ++ ys) (sym (take_all 4 (drop 12 bytes) (let long = are.long in grind (arith, places)))))))

  pub spelled : record_bytes (record_from bytes) ≡ bytes
  unfolding record_from record_bytes
  spelled =
      (λ i. at 0 ∷ at 1 ∷ (serial_spelled i ++ (value_spelled i ++ place_spelled i))) ∙ sym in_parts
