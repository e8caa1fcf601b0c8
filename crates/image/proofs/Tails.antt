-- The bytes behind the records of an image.
use Rattle.std.proofs.Common.{◌≡◌, ℕ, zero, suc, ◌+◌, ◌-◌, ◌*◌, ◌<◌, ◌≤◌, true, false, List, ◌++◌, length, get_or, drop, Some, None, ⊎_elim, refl, sym, ap, subst, ◌∙◌, arith, add-one}
use Rattle.std.specs.Int.{w32, to_le_bytes}
use Rattle.std.proofs.lemmas.Nat.{from_le_bytes-to_le_bytes_4, from_le_bytes-to_le_bytes_2}
use Rattle.std.proofs.lemmas.List.{take-append-drop, length-append, append-nil, append_assoc, drop_at, drop_all, drop-drop}
use Rattle.std.proofs.lemmas.Bool.{both_ways, cond-true, cond-false, le-leb, lt-leb, cases_lt}
use Rattle.store.specs.Laying.{sizes_fit, widest_sizes}
use Rattle.record.specs.Numbers.{record_size, place_size}
use Rattle.image.specs.Numbers.{trailer_size, mark}
use Rattle.record.specs.declared.record.Record.{Record}
use Rattle.record.specs.Bytes.{previous_number}
use Rattle.record.specs.Journals.{records, records_bytes, last_place, bytes_with, Journaled}
use Rattle.record.proofs.Kept as kept
use Rattle.record.proofs.Written.{written_more, length_records_bytes, length_records, records_spelled, read_again}
use Rattle.image.specs.declared.trailer.Trailer.{Trailer}
use Rattle.image.specs.Images.{trailer_bytes, trailer_from, trailer_read, trailer_of, places_bytes, tail_bytes, IsImageOf, IsImage, EndsWithMark}
use Rattle.image.specs.Heads.{numbers_bytes, HeadsAre}

pub length_trailer : (t : Trailer) → length (trailer_bytes t) ≡ trailer_size
unfolding trailer_bytes
length_trailer t = refl

pub length_numbers : (ns : List ℕ) (n : ℕ) → length (numbers_bytes ns n) ≡ place_size * n
length_numbers ns zero = refl
length_numbers ns (suc n) = omega (arith, length-append (numbers_bytes ns n) (to_le_bytes w32 (get_or ns n 0)), length_numbers ns n)

pub length_places : (rs : List Record) (n : ℕ) → length (places_bytes rs n) ≡ place_size * n
length_places rs zero = refl
length_places rs (suc n) = omega (arith, length-append (places_bytes rs n) (to_le_bytes w32 (previous_number (last_place rs n))), length_places rs n)

-- what the heads say of the places is what the records say
pub places_are : (rs : List Record) (lens lasts : List ℕ) (m n : ℕ) → HeadsAre rs lens lasts m → n ≤ m → numbers_bytes lasts n ≡ places_bytes rs n
places_are rs lens lasts m zero heads within = refl
places_are rs lens lasts m (suc n) heads within =
    (λ i. places_are rs lens lasts m n heads (omega arith) i ++ to_le_bytes w32 (previous_number (sym (heads n (omega arith)).found i)))

-- one place more
pub place_more : (out : List ℕ) (ns : List ℕ) (e : ℕ) → bytes_with (bytes_with out 0 (numbers_bytes ns e)) (place_size * e) (to_le_bytes w32 (get_or ns e 0)) ≡ bytes_with out 0 (numbers_bytes ns (e + 1))
place_more out ns e =
    written_more out (numbers_bytes ns e) (to_le_bytes w32 (get_or ns e 0)) (place_size * e) (length_numbers ns e)
    ∙ ap (λ n. bytes_with out 0 (numbers_bytes ns n)) (sym (add-one e))

-- what is written over all of some bytes is all that they are then
pub written_whole : (out new : List ℕ) → length out ≡ length new → bytes_with out 0 new ≡ new
written_whole out new long = ap (λ bs. new ++ bs) (drop_all (0 + length new) out (omega arith)) ∙ append-nil new

-- a trailer is read again where its numbers have their bytes
pub trailer_again : (t : Trailer) → t.places < 4294967296 → t.count < 4294967296 → t.entries < 65536 → t.depth < 65536 → trailer_from (trailer_bytes t) ≡ t
unfolding trailer_from trailer_bytes
trailer_again t p n e d =
    (λ i. record {
      places = from_le_bytes-to_le_bytes_4 t.places p i;
      count = from_le_bytes-to_le_bytes_4 t.count n i;
      entries = from_le_bytes-to_le_bytes_2 t.entries e i;
      depth = from_le_bytes-to_le_bytes_2 t.depth d i;
    })

-- what the bytes of an image say of themselves
module _ (bytes : List ℕ) (m d : ℕ) (rs : List Record) (image : IsImageOf bytes m d rs) where
  abbrev n : ℕ
  n = length rs

  fit : sizes_fit widest_sizes m d ≡ true
  fit = kept.sizes image.journal

  pub in_bounds : n ≤ m * d
  in_bounds = kept.room image.journal

  pub sizes_are : sizes_fit widest_sizes m d ≡ true
  sizes_are = fit

  length_tail : length (tail_bytes m d rs) ≡ place_size * m + trailer_size
  length_tail = omega (arith, length-append (places_bytes rs m) (trailer_bytes (trailer_of n m d)), length_places rs m, length_trailer (trailer_of n m d))

  pub length_image : length bytes ≡ record_size * n + place_size * m + trailer_size
  length_image = omega (arith, ap length image.bytes_are, length-append (records_bytes rs) (tail_bytes m d rs), length_records_bytes rs, length_tail)

  pub tail_is : drop (record_size * n) bytes ≡ tail_bytes m d rs
  tail_is = ap (drop (record_size * n)) image.bytes_are ∙ drop_at (records_bytes rs) (tail_bytes m d rs) (record_size * n) (length_records_bytes rs)

  pub records_are : records bytes n ≡ rs
  records_are = ap (λ bs. records bs n) image.bytes_are ∙ read_again m d rs (tail_bytes m d rs) image.journal

  last_sixteen : drop (length bytes - trailer_size) bytes ≡ trailer_bytes (trailer_of n m d)
  last_sixteen =
      let front = records_bytes rs ++ places_bytes rs m in
      let long : length front ≡ length bytes - trailer_size = omega (arith, length_image, length-append (records_bytes rs) (places_bytes rs m), length_records_bytes rs, length_places rs m) in
      ap (drop (length bytes - trailer_size)) (image.bytes_are ∙ sym (append_assoc (records_bytes rs) (places_bytes rs m) (trailer_bytes (trailer_of n m d))))
      ∙ drop_at front (trailer_bytes (trailer_of n m d)) (length bytes - trailer_size) long

  pub trailer_is : trailer_from (drop (length bytes - trailer_size) bytes) ≡ trailer_of n m d
  trailer_is =
      let few = kept.few m d fit in
      let shallow = kept.shallow m d fit in
      let short = kept.short image.journal in
      ap trailer_from last_sixteen ∙ trailer_again (trailer_of n m d) (omega arith) (omega arith) (omega arith) (omega arith)

-- an image ends with the mark
mark_last : (t : Trailer) → drop 12 (trailer_bytes t) ≡ mark
unfolding trailer_bytes
mark_last t = refl

pub no_mark : (bytes : List ℕ) → (EndsWithMark bytes → ⊥) → IsImage bytes → ⊥
no_mark bytes other (m, d, rs, image) =
    let long = length_image bytes m d rs image in
    other (
    ap (λ k. drop k bytes) (omega (arith, long))
    ∙ sym (drop-drop 12 (length bytes - trailer_size) bytes)
    ∙ ap (drop 12) (last_sixteen bytes m d rs image)
    ∙ mark_last (trailer_of (length rs) m d))

-- what is decided of some bytes by the trailer at their end
module _ (bytes : List ℕ) (t : Trailer) (is : t ≡ trailer_from (drop (length bytes - trailer_size) bytes)) where
  count_known : (m d : ℕ) (rs : List Record) → IsImageOf bytes m d rs → t ≡ trailer_of (length rs) m d
  count_known m d rs image = is ∙ trailer_is bytes m d rs image

  pub no_sizes : sizes_fit widest_sizes t.entries t.depth ≡ false → IsImage bytes → ⊥
  no_sizes refused (m, d, rs, image) =
      both_ways _ refused (ap (λ x. sizes_fit widest_sizes x.entries x.depth) (count_known m d rs image) ∙ sizes_are bytes m d rs image)

  pub no_count : t.entries * t.depth < t.count → IsImage bytes → ⊥
  no_count more (m, d, rs, image) =
      let k = count_known m d rs image in
      omega (arith, subst (λ (x : Trailer). x.entries * x.depth < x.count) k more, in_bounds bytes m d rs image)

  pub no_length : (length bytes ≡ record_size * t.count + place_size * t.entries + trailer_size → ⊥) → IsImage bytes → ⊥
  no_length other (m, d, rs, image) =
      other (length_image bytes m d rs image ∙ ap (λ (x : Trailer). record_size * x.count + place_size * x.entries + trailer_size) (sym (count_known m d rs image)))

  pub no_heads : (Journaled t.entries t.depth (records bytes t.count) → ⊥) → IsImage bytes → ⊥
  no_heads refused (m, d, rs, image) =
      refused (subst (λ (x : Trailer). Journaled x.entries x.depth (records bytes x.count)) (sym (count_known m d rs image)) (subst (Journaled m d) (sym (records_are bytes m d rs image)) image.journal))

  abbrev wanted : List ℕ → List ℕ
  wanted lasts = numbers_bytes lasts t.entries ++ trailer_bytes (trailer_of t.count t.entries t.depth)

  tail_of : (lens lasts : List ℕ) → HeadsAre (records bytes t.count) lens lasts t.entries → wanted lasts ≡ tail_bytes t.entries t.depth (records bytes t.count)
  tail_of lens lasts heads =
      (λ i. places_are (records bytes t.count) lens lasts t.entries t.entries heads (omega arith) i ++ trailer_bytes (trailer_of (sym (length_records bytes t.count) i) t.entries t.depth))

  pub no_tail : (lens lasts : List ℕ) → HeadsAre (records bytes t.count) lens lasts t.entries → (drop (record_size * t.count) bytes ≡ wanted lasts → ⊥) → IsImage bytes → ⊥
  no_tail lens lasts heads other (m, d, rs, image) =
      let k = count_known m d rs image in
      let same = records_are bytes m d rs image in
      other (
      ap (λ (x : Trailer). drop (record_size * x.count) bytes) k
      ∙ tail_is bytes m d rs image
      ∙ ap (tail_bytes m d) (sym same)
      ∙ ap (λ (x : Trailer). tail_bytes x.entries x.depth (records bytes x.count)) (sym k)
      ∙ sym (tail_of lens lasts heads))

  pub is_one : ((i : ℕ) → get_or bytes i 0 < 256) → (lens lasts : List ℕ) → HeadsAre (records bytes t.count) lens lasts t.entries → Journaled t.entries t.depth (records bytes t.count) → length bytes ≡ record_size * t.count + place_size * t.entries + trailer_size → drop (record_size * t.count) bytes ≡ wanted lasts → IsImageOf bytes t.entries t.depth (records bytes t.count)
  is_one small lens lasts heads journal long same = record {
    journal = journal;
    bytes_are =
        sym (take-append-drop (record_size * t.count) bytes)
        ∙ (λ i. sym (records_spelled bytes t.count small (omega arith)) i ++ (same ∙ tail_of lens lasts heads) i);
  }

read_last : (bytes : List ℕ) → trailer_size ≤ length bytes → trailer_read bytes ≡ Some (trailer_from (drop (length bytes - trailer_size) bytes))
read_last bytes within = cond-true _ _ _ (le-leb trailer_size (length bytes) within)

-- an image has a trailer
pub no_trailer : (bytes : List ℕ) → trailer_read bytes ≡ None → IsImage bytes → ⊥
no_trailer bytes none (m, d, rs, image) =
    let there = read_last bytes (omega (arith, length_image bytes m d rs image)) in
    absurd (cc)

pub trailer_found : (bytes : List ℕ) (t : Trailer) → Some t ≡ trailer_read bytes → t ≡ trailer_from (drop (length bytes - trailer_size) bytes)
trailer_found bytes t found =
    ⊎_elim
    (λ short.
    let none : trailer_read bytes ≡ None = cond-false _ _ _ (lt-leb trailer_size (length bytes) short) in
    absurd (cc))
    (λ within.
    let there = read_last bytes within in
    cc)
    (cases_lt (length bytes) trailer_size)
