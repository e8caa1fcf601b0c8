-- Records as they lie in bytes, one more at a time.
use Rattle.std.proofs.Common.{◌≡◌, ℕ, zero, suc, ◌+◌, ◌*◌, ◌<◌, ◌≤◌, List, [], ◌∷◌, ◌++◌, length, get_or, take, drop, None, refl, sym, ap, ◌∙◌, arith, add-one, ⊎_elim}
use Rattle.std.proofs.Math.Seq.{take-add}
use Rattle.std.proofs.lemmas.Bool.{cases_lt}
use Rattle.std.proofs.lemmas.Grind.{flat_map-append}
use Rattle.std.proofs.lemmas.List.{length_push, append-nil, take-take, take_at, drop_at, drop-drop, length-take-le, length-drop, length-append, drop-take, get_or-take, get_or-drop, get_or_past, append_assoc}
use Rattle.store.specs.Meaning.{opening}
use Rattle.record.specs.Numbers.{record_size}
use Rattle.record.specs.declared.record.Record.{Record}
use Rattle.record.specs.Bytes.{Fits, IsWhole, record_bytes, record_from}
use Rattle.record.specs.Journals.{records, record_at, records_bytes, bytes_with, entry_record, opening_records, last_place, Journaled, laid_out, published}
use Rattle.record.proofs.Undone.{again, spelled}
use Rattle.record.proofs.Chains.{length_openings}
use Rattle.record.proofs.Kept as kept

pub length_records : (bytes : List ℕ) (n : ℕ) → length (records bytes n) ≡ n
length_records bytes zero = refl
length_records bytes (suc n) = omega (arith, length_push (records bytes n) (record_at bytes n), length_records bytes n)

pub length_record_bytes : (r : Record) → length (record_bytes r) ≡ record_size
unfolding record_bytes
length_record_bytes r = refl

-- a record is in its sixteen bytes
sixteen_same : (xs ys : List ℕ) (k n : ℕ) → record_size * k + record_size ≤ n → take n xs ≡ take n ys → take record_size (drop (record_size * k) xs) ≡ take record_size (drop (record_size * k) ys)
sixteen_same xs ys k n within same =
    sym (drop-take (record_size * k) record_size xs)
    ∙ ap (drop (record_size * k)) (sym (take-take (record_size * k + record_size) n xs within) ∙ ap (take (record_size * k + record_size)) same ∙ take-take (record_size * k + record_size) n ys within)
    ∙ drop-take (record_size * k) record_size ys

pub record_same : (xs ys : List ℕ) (k n : ℕ) → record_size * k + record_size ≤ n → take n xs ≡ take n ys → record_at xs k ≡ record_at ys k
record_same xs ys k n within same = ap record_from (sixteen_same xs ys k n within same)

pub records_same : (xs ys : List ℕ) (k n : ℕ) → record_size * k ≤ n → take n xs ≡ take n ys → records xs k ≡ records ys k
records_same xs ys zero n within same = refl
records_same xs ys (suc k) n within same =
    (λ i. records_same xs ys k n (omega arith) same i ++ record_same xs ys k n (omega arith) same i ∷ [])

pub length_written : (bytes : List ℕ) (at : ℕ) (new : List ℕ) → at + length new ≤ length bytes → length (bytes_with bytes at new) ≡ length bytes
length_written bytes at new within =
    omega (
      arith,
      length-append (take at bytes) (new ++ drop (at + length new) bytes),
      length-append new (drop (at + length new) bytes),
      length-drop (at + length new) bytes,
      length-take-le at bytes (omega arith),
    )

pub take_written : (bytes : List ℕ) (at : ℕ) (new : List ℕ) → at ≤ length bytes → take at (bytes_with bytes at new) ≡ take at bytes
take_written bytes at new within = take_at (take at bytes) (new ++ drop (at + length new) bytes) at (length-take-le at bytes within)

pub at_written : (bytes : List ℕ) (at n : ℕ) (new : List ℕ) → length new ≡ n → at ≤ length bytes → take n (drop at (bytes_with bytes at new)) ≡ new
at_written bytes at n new long within =
    ap (take n) (drop_at (take at bytes) (new ++ drop (at + length new) bytes) at (length-take-le at bytes within))
    ∙ take_at new (drop (at + length new) bytes) n long

-- a record that is written after n others is record n, and the others are as they were
pub records_more : (bytes : List ℕ) (n : ℕ) (r : Record) → Fits r → record_size * n + record_size ≤ length bytes → records (bytes_with bytes (record_size * n) (record_bytes r)) (suc n) ≡ records bytes n ++ r ∷ []
records_more bytes n r fits within =
    let others = records_same (bytes_with bytes (record_size * n) (record_bytes r)) bytes n (record_size * n) (omega arith) (take_written bytes (record_size * n) (record_bytes r) (omega arith)) in
    let last = ap record_from (at_written bytes (record_size * n) record_size (record_bytes r) (length_record_bytes r) (omega arith)) ∙ again r fits in
    (λ i. others i ++ last i ∷ [])

-- the bytes of the records that some bytes begin with are those bytes
sixteen : (bytes : List ℕ) (n : ℕ) → ((i : ℕ) → get_or bytes i 0 < 256) → record_size * n + record_size ≤ length bytes → IsWhole (take record_size (drop (record_size * n) bytes))
sixteen bytes n small within = record {
  long = length-take-le record_size (drop (record_size * n) bytes) (omega (arith, length-drop (record_size * n) bytes));
  small = λ i. ⊎_elim
      (λ below. omega (arith, get_or-take record_size (drop (record_size * n) bytes) i 0 below, get_or-drop (record_size * n) bytes i 0, small (record_size * n + i)))
      (λ past. omega (arith, get_or_past (take record_size (drop (record_size * n) bytes)) i 0 (omega (arith, length-take-le record_size (drop (record_size * n) bytes) (omega (arith, length-drop (record_size * n) bytes))))))
      (cases_lt i record_size);
}

pub records_spelled : (bytes : List ℕ) (n : ℕ) → ((i : ℕ) → get_or bytes i 0 < 256) → record_size * n ≤ length bytes → records_bytes (records bytes n) ≡ take (record_size * n) bytes
records_spelled bytes zero small within = refl
records_spelled bytes (suc n) small within =
    flat_map-append record_bytes (records bytes n) (record_at bytes n ∷ [])
    ∙ (λ i. records_spelled bytes n small (omega arith) i ++ (append-nil (record_bytes (record_at bytes n)) ∙ spelled (take record_size (drop (record_size * n) bytes)) (sixteen bytes n small (omega arith))) i)
    ∙ sym (take-add (record_size * n) record_size bytes)
    ∙ ap (λ k. take k bytes) (omega arith)

-- what is written behind a front that was written is written with it
pub written_more : (bytes front new : List ℕ) (at : ℕ) → length front ≡ at → bytes_with (bytes_with bytes 0 front) at new ≡ bytes_with bytes 0 (front ++ new)
written_more bytes front new at long =
    let rest = drop (0 + length front) bytes in
    let behind : drop (at + length new) (front ++ rest) ≡ drop (0 + length (front ++ new)) bytes =
    sym (drop-drop (length new) at (front ++ rest))
    ∙ ap (drop (length new)) (drop_at front rest at long)
    ∙ drop-drop (length new) (0 + length front) bytes
    ∙ ap (λ k. drop k bytes) (omega (arith, length-append front new)) in
    (λ i. take_at front rest at long i ++ (new ++ behind i)) ∙ sym (append_assoc front new (drop (0 + length (front ++ new)) bytes))

pub bytes_push : (rs : List Record) (r : Record) → records_bytes (rs ++ r ∷ []) ≡ records_bytes rs ++ record_bytes r
bytes_push rs r = flat_map-append record_bytes rs (r ∷ []) ∙ ap (λ bs. records_bytes rs ++ bs) (append-nil (record_bytes r))

pub length_records_bytes : (rs : List Record) → length (records_bytes rs) ≡ record_size * length rs
length_records_bytes [] = refl
length_records_bytes (r ∷ rs) = omega (arith, length-append (record_bytes r) (records_bytes rs), length_record_bytes r, length_records_bytes rs)

-- the records of a journal are read again from their bytes, whatever follows
again_push : (rs : List Record) (r : Record) (tail : List ℕ) (n : ℕ) → length rs ≡ n → ((t : List ℕ) → records (records_bytes rs ++ t) n ≡ rs) → Fits r → records (records_bytes (rs ++ r ∷ []) ++ tail) (suc n) ≡ rs ++ r ∷ []
again_push rs r tail n long before fits =
    let here : drop (record_size * n) (records_bytes rs ++ (record_bytes r ++ tail)) ≡ record_bytes r ++ tail = drop_at (records_bytes rs) (record_bytes r ++ tail) (record_size * n) (omega (arith, length_records_bytes rs, long)) in
    ap (λ bs. records (bs ++ tail) (suc n)) (bytes_push rs r)
    ∙ ap (λ bs. records bs (suc n)) (append_assoc (records_bytes rs) (record_bytes r) tail)
    ∙ (λ i. before (record_bytes r ++ tail) i ++ (ap (λ bs. record_from (take record_size bs)) here ∙ ap record_from (take_at (record_bytes r) tail record_size (length_record_bytes r)) ∙ again r fits) i ∷ [])

openings_again : (n : ℕ) → n ≤ 64 → (tail : List ℕ) → records (records_bytes (opening_records n) ++ tail) n ≡ opening_records n
openings_again zero few tail = refl
openings_again (suc n) few tail =
    again_push (opening_records n) (entry_record n opening None) tail n (length_openings n) (openings_again n (omega arith)) (kept.opening_fits n (omega arith))

journaled_again : {m d : ℕ} {rs : List Record} → Journaled m d rs → (tail : List ℕ) → records (records_bytes rs ++ tail) (length rs) ≡ rs
journaled_again {m} {d} (laid_out fit) tail = ap (records (records_bytes (opening_records m) ++ tail)) (length_openings m) ∙ openings_again m (kept.few m d fit) tail
journaled_again {m} {d} (published rs e v j inside author near room) tail =
    let r = entry_record e v (last_place rs e) in
    let fits = kept.published_fits m rs (kept.few m d (kept.sizes j)) (kept.short j) e v inside author near in
    ap (records (records_bytes (rs ++ r ∷ []) ++ tail)) (length_push rs r ∙ add-one (length rs))
    ∙ again_push rs r tail (length rs) refl (journaled_again j) fits

pub read_again : (m d : ℕ) (rs : List Record) (tail : List ℕ) → Journaled m d rs → records (records_bytes rs ++ tail) (length rs) ≡ rs
read_again m d rs tail j = journaled_again j tail
