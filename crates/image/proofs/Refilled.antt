-- What reading an image into a journal knows, record after record.
use Rattle.std.proofs.Common.{◌≡◌, ℕ, ◌+◌, ◌*◌, ◌<◌, ◌≤◌, cond, eqb, true, List, [], ◌∷◌, ◌++◌, length, is_some, Some, None, Ok, Err, Option, refl, sym, ap, subst, ◌∙◌, ⊎_elim, arith, add-one}
use mathlib.Core.Path.{fun_ext}
use Rattle.std.proofs.lemmas.Bool.{cases_eq, cases_lt, cond-true, cond-false, eq-eqb, ne_eqb, lt-ltb, le-ltb}
use Rattle.store.specs.declared.version.Version.{Version}
use Rattle.store.specs.declared.refusal.Refusal.{Refusal}
use Rattle.store.specs.declared.refusal.Refusal.TheVariants.{NothingStaged}
use Rattle.store.specs.Meaning.{WritingMeaning}
use Rattle.store.specs.Laying.{laid_out_meaning, lay_out_answer, sizes_fit, widest_sizes}
use Rattle.store.specs.Steps.{StoreAnswer, StageMeans, PublishMeans, stage_answer, publish_answer, unless_refused, with_staged, with_published}
use Rattle.record.specs.declared.record.Record.{Record}
use Rattle.record.specs.Bytes.{record_bytes, record_read}
use Rattle.record.proofs.Kept as kept
use Rattle.record.specs.Journals.{chain_in, last_place, records, record_at, records_bytes, bytes_with, opening_records, entry_record}
use Rattle.record.proofs.Chains.{chain_push_same, chain_push_other, chain_openings, chain_openings_past}
use Rattle.record.proofs.Written.{length_records, length_records_bytes, written_more, bytes_push}
use Rattle.journal.specs.declared.JournalStore.{JournalStore}
use Rattle.journal.specs.Stores.{records_of, journal_staged, journal_writing, journal_room, bytes_of, bytes_with_version, records_with_version, AddsRecord, KeepsBytes, WritesOpenings}
use Rattle.image.specs.declared.trailer.Trailer.{Trailer}
use Rattle.std.specs.Option.{IfSome}
use Rattle.record.specs.Numbers.{record_size, journal_reach}
use Rattle.image.specs.declared.image.Contents.{Contents}
use Rattle.image.specs.Images.{IsImageOf}
use Rattle.image.specs.Copies.{filled_meaning, ReadsRecords}
use Rattle.image.proofs.Passes.{MayCome, opens, no_fewer, comes, read_is, read_one}
use Rattle.image.proofs.Tails.{length_image, trailer_is, records_are}

-- with the opening records a store is as just laid out
pub filled_openings : (m d : ℕ) → laid_out_meaning journal_reach m d ≡ filled_meaning m d (opening_records m)
filled_openings m d =
    let chains = fun_ext (λ e. ⊎_elim
    (λ inside. cond-true _ _ _ (lt-ltb e m inside) ∙ sym (chain_openings m e inside))
    (λ past. cond-false _ _ _ (le-ltb e m past) ∙ sym (chain_openings_past m e past))
    (cases_lt e m)) in
    ap (λ (f : ℕ → List Version). record { reading = record { entries = m; depth = d; reach = journal_reach; chains = f }; staged = λ _. None }) chains

-- a store is filled with the first records of an image
pub record IsFilled (before : JournalStore) (m d : ℕ) (image : List ℕ) (k : ℕ) (now : JournalStore) : Type 0 where
  pub means : journal_writing now ≡ filled_meaning m d (records image k)
  pub bytes : bytes_of now ≡ bytes_with (bytes_of before) 0 (records_bytes (records image k))
  pub held : records_of now ≡ records image k

module _ (m d : ℕ) (rs : List Record) (r : Record) (come : MayCome m d rs r) where
  abbrev e : ℕ
  e = r.entry

  abbrev v : Version
  v = r.version

  pub stages_fine : stage_answer (filled_meaning m d rs) e v ≡ Ok tt
  stages_fine =
      cond-true _ _ _ (lt-ltb e m come.inside) ∙ cond-true _ _ _ come.author ∙ cond-true _ _ _ come.near ∙ cond-true _ _ _ (lt-ltb (length (chain_in rs e)) d come.room)

  abbrev beside_it : WritingMeaning
  beside_it = with_staged (filled_meaning m d rs) e (Some v)

  staged_is : beside_it.staged e ≡ Some v
  staged_is = cond-true _ _ _ (eq-eqb e e refl)

  pub spends_fine : publish_answer beside_it e ≡ Ok tt
  spends_fine = cond-true _ _ _ (lt-ltb e m come.inside) ∙ ap (λ (o : Option Version). cond (is_some o) (Ok tt) (Err NothingStaged)) staged_is

  pub published_is : with_published beside_it e (beside_it.staged e) ≡ filled_meaning m d (rs ++ r ∷ [])
  published_is =
      let chains = fun_ext (λ k. ⊎_elim
      (λ (same : k ≡ e). cond-true _ _ _ (eq-eqb k e same) ∙ sym (chain_push_same rs r k (sym same) ∙ ap (λ i. chain_in rs i ++ v ∷ []) same))
      (λ apart. cond-false _ _ _ (ne_eqb k e apart) ∙ sym (chain_push_other rs r k (λ same. apart (sym same))))
      (cases_eq k e)) in
      let none = fun_ext (λ k. ⊎_elim
      (λ (same : k ≡ e). cond-true {A = Option Version} (eqb k e) None (cond (eqb k e) (Some v) None) (eq-eqb k e same))
      (λ apart. cond-false {A = Option Version} (eqb k e) None (cond (eqb k e) (Some v) None) (ne_eqb k e apart) ∙ cond-false {A = Option Version} (eqb k e) (Some v) None (ne_eqb k e apart))
      (cases_eq k e)) in
      ap (with_published beside_it e) staged_is
      ∙ (λ i. record { reading = record { entries = m; depth = d; reach = journal_reach; chains = chains i }; staged = none i })

-- one record more
module _ (before start staged now : JournalStore) (m d : ℕ) (image : List ℕ) (k : ℕ) (filled_so_far : IsFilled before m d image k start)
    (r : Record) (is : r ≡ record_at image k) (come : MayCome m d (records image k) r) where
  abbrev rs : List Record
  rs = records image k

  pub stage_is : (a : StoreAnswer) → StageMeans (journal_writing start) r.entry r.version a (journal_writing staged) → a ≡ Ok tt
  stage_is a h = h.answer ∙ ap (λ w. stage_answer w r.entry r.version) filled_so_far.means ∙ stages_fine m d rs r come

  pub staged_means : StageMeans (journal_writing start) r.entry r.version (Ok tt) (journal_writing staged) → journal_writing staged ≡ with_staged (filled_meaning m d rs) r.entry (Some r.version)
  staged_means h =
      h.leaves
      ∙ ap (λ a. unless_refused a (with_staged (journal_writing start) r.entry (Some r.version)) (journal_writing start)) (sym h.answer)
      ∙ ap (λ w. with_staged w r.entry (Some r.version)) filled_so_far.means

  module _ (staged_is_so : journal_writing staged ≡ with_staged (filled_meaning m d rs) r.entry (Some r.version)) where
    pub publish_is : (a : StoreAnswer) → PublishMeans (journal_writing staged) r.entry a (journal_writing now) → a ≡ Ok tt
    publish_is a h = h.answer ∙ ap (λ w. publish_answer w r.entry) staged_is_so ∙ spends_fine m d rs r come

    now_means : PublishMeans (journal_writing staged) r.entry (Ok tt) (journal_writing now) → journal_writing now ≡ filled_meaning m d (rs ++ r ∷ [])
    now_means h =
        h.leaves
        ∙ ap (λ a. unless_refused a (with_published (journal_writing staged) r.entry ((journal_writing staged).staged r.entry)) (journal_writing staged)) (sym h.answer)
        ∙ ap (λ (w : WritingMeaning). with_published w r.entry (w.staged r.entry)) staged_is_so
        ∙ published_is m d rs r come

    besides : journal_staged staged r.entry ≡ Some r.version
    besides = ap (λ (w : WritingMeaning). w.staged r.entry) staged_is_so ∙ cond-true _ _ _ (eq-eqb r.entry r.entry refl)

    pub filled_more : KeepsBytes start staged
        → PublishMeans (journal_writing staged) r.entry (Ok tt) (journal_writing now)
        → AddsRecord staged r.entry now
        → IsFilled before m d image (k + 1) now
    filled_more same h adds =
        let held = same.records ∙ filled_so_far.held in
        let count : staged.count ≡ k = sym (length_records (bytes_of staged) staged.count) ∙ ap length held ∙ length_records image k in
        let next : rs ++ r ∷ [] ≡ records image (k + 1) = ap (λ q. rs ++ q ∷ []) is ∙ ap (records image) (sym (add-one k)) in
        let added : entry_record r.entry r.version (last_place (records_of staged) r.entry) ≡ r =
        ap (λ xs. entry_record r.entry r.version (last_place xs r.entry)) held ∙ ap (entry_record r.entry r.version) (sym come.behind) in
        let front : length (records_bytes rs) ≡ record_size * k = omega (arith, length_records_bytes rs, length_records image k) in
        record {
          means = now_means h ∙ ap (filled_meaning m d) next;
          bytes =
              adds.bytes
              ∙ ap (bytes_with_version staged r.entry) besides
              ∙ (λ i. bytes_with ((same.bytes ∙ filled_so_far.bytes) i) (record_size * count i) (record_bytes (added i)))
              ∙ written_more (bytes_of before) (records_bytes rs) (record_bytes r) (record_size * k) front
              ∙ ap (bytes_with (bytes_of before) 0) (sym (bytes_push rs r) ∙ ap records_bytes next);
          held =
              adds.records
              ∙ ap (records_with_version staged r.entry) besides
              ∙ (λ i. held i ++ added i ∷ [])
              ∙ next;
        }

-- laying out was refused
pub lay_refused : (before after : JournalStore) (m d : ℕ) (held : List Record) (refusal : Refusal) → sizes_fit widest_sizes m d ≡ true
    → Err refusal ≡ lay_out_answer widest_sizes (journal_room before) m d → after ≡ before → ReadsRecords before m d held (Err refusal) after
lay_refused before after m d held refusal fit answer same =
    record {
      answers = answer ∙ cond-true _ _ _ fit;
      fills = record { means = ap journal_writing same; bytes = ap bytes_of same; records = ap records_of same };
    }

-- laid out, the store has the opening records, which are the image's first
pub lay_filled : (before after : JournalStore) (m d : ℕ) (image : List ℕ) → records image m ≡ opening_records m
    → journal_writing after ≡ laid_out_meaning before.slots.reach m d → WritesOpenings before m after → IsFilled before m d image m after
lay_filled before after m d image first means writes = record {
  means = means ∙ ap (λ reach. laid_out_meaning reach m d) before.reach ∙ filled_openings m d ∙ ap (filled_meaning m d) (sym first);
  bytes = writes.bytes ∙ ap (λ rs. bytes_with (bytes_of before) 0 (records_bytes rs)) (sym first);
  held = writes.records ∙ sym first;
}

pub all_filled : (before now : JournalStore) (m d : ℕ) (image : List ℕ) (n : ℕ) → sizes_fit widest_sizes m d ≡ true → Ok tt ≡ lay_out_answer widest_sizes (journal_room before) m d
    → IsFilled before m d image n now → ReadsRecords before m d (records image n) (Ok tt) now
all_filled before now m d image n fit answer now_filled =
    record { answers = answer ∙ cond-true _ _ _ fit; fills = record { means = now_filled.means; bytes = now_filled.bytes; records = now_filled.held } }

-- what an image says of its records
module _ (image : List ℕ) (m d n : ℕ) (is : IsImageOf image m d (records image n)) where
  pub fit : sizes_fit widest_sizes m d ≡ true
  fit = kept.sizes is.journal

  pub first_are : records image m ≡ opening_records m
  first_are = opens m d image n is.journal

  pub not_fewer : m ≤ n
  not_fewer = no_fewer m d image n is.journal

  pub few_records : n ≤ 12800
  few_records = omega (arith, kept.short is.journal, length_records image n)

  pub lies_within : (k : ℕ) → k < n → record_size * k + record_size ≤ length image
  lies_within k below = omega (arith, length_image image m d (records image n) is, length_records image n)

  pub read_there : (k : ℕ) → k < n → record_read image (record_size * k) ≡ Some (record_at image k)
  read_there k below = read_is image k (lies_within k below)

  pub added_is : (k : ℕ) (r : Record) → k < n → Some r ≡ record_read image (record_size * k) → r ≡ record_at image k
  added_is k r below found_it = read_one image k r (lies_within k below) found_it

  pub it_may : (k : ℕ) (r : Record) → m ≤ k → k < n → r ≡ record_at image k → MayCome m d (records image k) r
  it_may k r past below same = subst (MayCome m d (records image k)) (sym same) (comes m d image n k is.journal past below)

-- two journals with one image are one
pub one_image : (bytes : List ℕ) (m d a b : ℕ) (rs qs : List Record) → IsImageOf bytes m d rs → IsImageOf bytes a b qs → (m ≡ a) × (d ≡ b) × (rs ≡ qs)
one_image bytes m d a b rs qs x y =
    let same = sym (trailer_is bytes m d rs x) ∙ trailer_is bytes a b qs y in (
      ap (λ (t : Trailer). t.entries) same,
      ap (λ (t : Trailer). t.depth) same,
      sym (records_are bytes m d rs x) ∙ ap (λ (t : Trailer). records bytes t.count) same ∙ records_are bytes a b qs y,
    )

-- so what holds of one reading of an image holds of each
pub of_each : (bytes : List ℕ) (a b : ℕ) (qs : List Record) (P : ℕ → ℕ → List Record → Type 0) → IsImageOf bytes a b qs → P a b qs → (m d : ℕ) (rs : List Record) → IsImageOf bytes m d rs
    → P m d rs
of_each bytes a b qs P mine p m d rs image =
    let same = one_image bytes a b m d qs rs mine image in
    subst (λ (n : ℕ). P n d rs) same.0 (subst (λ (k : ℕ). P a k rs) same.1 (subst (λ (xs : List Record). P a b xs) same.2 p))

-- what was found in the bytes
pub found_image : (bytes : List ℕ) (o : Option Contents) (t : Contents) → IfSome o (λ has. IsImageOf bytes has.entries has.depth (records bytes has.count)) → Some t ≡ o
    → IsImageOf bytes t.entries t.depth (records bytes t.count)
found_image bytes o t found is = subst (λ (x : Option Contents). IfSome x (λ has. IsImageOf bytes has.entries has.depth (records bytes has.count))) (sym is) found
