-- What is written of a journal is its image.
use Rattle.std.proofs.Common.{◌≡◌, ℕ, zero, suc, ◌+◌, ◌*◌, ◌/◌, ◌<◌, ◌≤◌, List, ◌++◌, length, get_or, Some, Ok, Err, Result, refl, sym, ap, ◌∙◌, arith}
use Rattle.std.specs.Int.{w32, to_le_bytes}
use Rattle.std.proofs.lemmas.List.{length-append}
use Rattle.std.proofs.lemmas.Bool.{cond-true, cond-false, lt-ltb, le-leb, lt-leb}
use Rattle.store.specs.declared.refusal.Refusal.TheVariants.{MemoryTooShort}
use Rattle.record.specs.declared.record.Record.{Record}
use Rattle.record.specs.Bytes.{previous_number}
use Rattle.record.specs.Journals.{last_place, records_bytes, bytes_with}
use Rattle.record.proofs.Written.{written_more, length_records_bytes, length_records}
use Rattle.journal.specs.declared.JournalStore.{JournalStore}
use Rattle.journal.specs.Stores.{records_of, bytes_of}
use Rattle.journal.proofs.Writes.{count_short}
use Rattle.image.specs.Images.{trailer_bytes, trailer_of, places_bytes, tail_bytes}
use Rattle.image.specs.Heads.{numbers_bytes}
use Rattle.std.specs.Result.{OnOk}
use Rattle.record.specs.Numbers.{record_size, place_size}
use Rattle.image.specs.Numbers.{trailer_size}
use Rattle.image.specs.Copies.{image_of, write_answer, entries_of, depth_of}
use Rattle.image.proofs.Tails.{length_places, length_trailer}

module _ (s : JournalStore) where
  abbrev rs : List Record
  rs = records_of s

  abbrev front : List ℕ
  front = records_bytes rs

  pub front_short : length front ≤ 204800
  front_short = omega (arith, length_records_bytes rs, length_records (bytes_of s) s.count, count_short s)

  pub length_of : length (image_of s) ≡ length front + place_size * (entries_of s) + trailer_size
  length_of =
      let tail = tail_bytes (entries_of s) (depth_of s) rs in
      omega (
        arith,
        length-append front tail,
        length-append (places_bytes rs (entries_of s)) (trailer_bytes (trailer_of (length rs) (entries_of s) (depth_of s))),
        length_places rs (entries_of s),
        length_trailer (trailer_of (length rs) (entries_of s) (depth_of s)),
      )

  pub too_short : (out : List ℕ) → 0 < (entries_of s) → length out < length front + place_size * (entries_of s) + trailer_size → Err MemoryTooShort ≡ write_answer s out
  too_short out some short = sym (cond-true _ _ _ (lt-ltb 0 (entries_of s) some) ∙ cond-false _ _ _ (lt-leb (length (image_of s)) (length out) (omega (arith, length_of))))

  pub tells_length : (out : List ℕ) (n : ℕ) → 0 < (entries_of s) → n ≡ length front + place_size * (entries_of s) + trailer_size → n ≤ length out → Ok n ≡ write_answer s out
  tells_length out n some is long =
      ap (λ k. Ok k) (is ∙ sym length_of) ∙ sym (cond-true _ _ _ (lt-ltb 0 (entries_of s) some) ∙ cond-true _ _ _ (le-leb (length (image_of s)) (length out) (omega (arith, length_of))))

  module _ (lasts : List ℕ) (places : (e : ℕ) → e < (entries_of s) → last_place rs e ≡ Some (get_or lasts e 0)) where
    numbers_are : (n : ℕ) → n ≤ (entries_of s) → numbers_bytes lasts n ≡ places_bytes rs n
    numbers_are zero within = refl
    numbers_are (suc n) within = (λ i. numbers_are n (omega arith) i ++ to_le_bytes w32 (previous_number (sym (places n (omega arith)) i)))

    pub copied : (out tail : List ℕ) (p k m d : ℕ) → p ≡ length front → k ≡ length front / record_size → m ≡ (entries_of s) → d ≡ (depth_of s)
        → tail ≡ numbers_bytes lasts m ++ trailer_bytes (record { places = p; count = k; entries = m; depth = d })
        → bytes_with (bytes_with out 0 front) (length front) tail ≡ bytes_with out 0 (image_of s)
    copied out tail p k m d p_is k_is m_is d_is tail_is =
        let p_now : p ≡ record_size * length rs = omega (arith, p_is, length_records_bytes rs) in
        let k_now : k ≡ length rs = omega (arith, k_is, length_records_bytes rs) in
        let same : tail ≡ tail_bytes (entries_of s) (depth_of s) rs = tail_is ∙ (λ i. (ap (numbers_bytes lasts) m_is ∙ numbers_are (entries_of s) (omega arith)) i ++ trailer_bytes (record { places = p_now i; count = k_now i; entries = m_is i; depth = d_is i })) in
        ap (bytes_with (bytes_with out 0 front) (length front)) same ∙ written_more out front (tail_bytes (entries_of s) (depth_of s) rs) (length front) refl

on_ok_any : {T E : Type 0} (P : Type 0) (r : Result T E) → P → OnOk r P
on_ok_any P (Ok x) p = p
on_ok_any P (Err e) p = tt

pub found_on_ok : {T E : Type 0} {P : Type 0} (r : Result T E) → P → OnOk r P
found_on_ok {T} {E} {P} r p = on_ok_any P r p
