-- The image of a journal that is read into another.
use Rattle.std.proofs.Common.{◌≡◌, ℕ, List, Ok, Err, OnOk, refl, sym, ap, subst, ◌∙◌}
use Rattle.std.proofs.Math.Logic.{∥∥₁_elim, ∥∥₁_map}
use Rattle.std.proofs.Props.{props}
use Rattle.store.specs.Meaning.{ReadingMeaning, WritingMeaning}
use Rattle.store.specs.Steps.{StoreAnswer}
use Rattle.journal.specs.declared.JournalStore.{JournalStore}
use Rattle.journal.specs.Stores.{journal_reading, records_of}
use Rattle.image.specs.Images.{IsImageOf, IsImage}
use Rattle.image.specs.Copies.{ReadsImage, ReadsBack, ReadsRecords, entries_of, depth_of, WritesImages}

pub writes_images : WritesImages
writes_images s some = ∥∥₁_map (s.kept some) (λ j. record { journal = j; bytes_are = refl })

-- two answers are the same in at most one way, and two readings
answer_set : {a b : StoreAnswer} → IsProp (a ≡ b)
answer_set {a} {b} = hlevel props

reading_set : {m n : ReadingMeaning} → IsProp (m ≡ n)
reading_set {m} {n} = hlevel props

-- what is read is what was written
same_reading : (written old new : JournalStore) (result : StoreAnswer) → ReadsRecords old (entries_of written) (depth_of written) (records_of written) result new
    → OnOk result (journal_reading new ≡ journal_reading written)
same_reading written old new (Ok done) reads =
    ap (λ (w : WritingMeaning). w.reading) reads.fills.means
    ∙ ap (λ reach. record { entries = entries_of written; depth = depth_of written; reach = reach; chains = (journal_reading written).chains }) (sym written.reach)
same_reading written old new (Err refusal) reads = tt

reading_prop : (written new : JournalStore) (result : StoreAnswer) → IsProp (OnOk result (journal_reading new ≡ journal_reading written))
reading_prop written new (Ok done) = reading_set
reading_prop written new (Err refusal) = hlevel props

pub read_back : (old : JournalStore) (image : List ℕ) (result : StoreAnswer) (new : JournalStore) → ReadsImage old image result new → ReadsBack old image result new
read_back old image result new reads written laid is =
    let an_image : ∥ IsImageOf image (entries_of written) (depth_of written) (records_of written) ∥₁ =
    subst (λ (bytes : List ℕ). ∥ IsImageOf bytes (entries_of written) (depth_of written) (records_of written) ∥₁) (sym is) (writes_images written laid) in
    record {
      answers = ∥∥₁_elim an_image answer_set (λ h. (reads _ _ _ h).answers);
      reading = ∥∥₁_elim an_image (reading_prop written new result) (λ h. same_reading written old new result (reads _ _ _ h));
    }

-- what is no image is of no records
pub no_records : (old : JournalStore) (image : List ℕ) (result : StoreAnswer) (new : JournalStore) → (IsImage image → ⊥) → ReadsImage old image result new
no_records old image result new none m d held h = absurd (none (m, d, held, h))
