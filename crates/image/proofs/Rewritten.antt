-- An image that is read into a journal and written again.
use Rattle.std.proofs.Common.{◌≡◌, ℕ, ◌≤◌, Bool, true, false, cond, List, length, Ok, Err, Result, refl, sym, ap, subst, ◌∙◌}
use Rattle.std.proofs.lemmas.Bool.{cond-true, lt-ltb, le-leb}
use Rattle.store.specs.declared.refusal.Refusal.{Refusal}
use Rattle.store.specs.Steps.{StoreAnswer}
use Rattle.record.specs.declared.record.Record.{Record}
use Rattle.record.proofs.Kept as kept
use Rattle.journal.specs.declared.JournalStore.{JournalStore}
use Rattle.journal.specs.Stores.{records_of, journal_writing}
use Rattle.image.specs.Images.{IsImageOf, image_bytes}
use Rattle.image.specs.Copies.{entries_of, FillsJournal, ReadsRecords, RewritesRecords, image_of, length_answer, without_length, write_answer, out_after, filled_meaning, has_room}

refused_too : (room : Bool) (refusal other : Refusal) (read : StoreAnswer) (a r : Result ℕ Refusal) → read ≡ cond room (Ok tt) (Err other) → read ≡ Err refusal → r ≡ Err refusal
    → r ≡ cond room a (Err other)
refused_too true refusal other read a r is err err_too = absurd (cc)
refused_too false refusal other read a r is err err_too = cc

room_there : (room : Bool) (other : Refusal) (read : StoreAnswer) → read ≡ Ok tt → read ≡ cond room (Ok tt) (Err other) → room ≡ true
room_there true other read ok is = refl
room_there false other read ok is = absurd (cc)

-- what is not read is not written
pub not_read : (before after : JournalStore) (m d : ℕ) (rs : List Record) (image out : List ℕ) (refusal : Refusal)
    → ReadsRecords before m d rs (Err refusal) after → RewritesRecords before m d rs image out (Err refusal) after out
not_read before after m d rs image out refusal reads =
    record { answers = refused_too (has_room before m d) refusal _ _ (length_answer image out) _ reads.answers refl refl; fills = reads.fills; bytes = refl }

-- a journal with the image's records has that image
image_same : (s : JournalStore) (m d : ℕ) (rs : List Record) (image : List ℕ) → IsImageOf image m d rs → journal_writing s ≡ filled_meaning m d rs → records_of s ≡ rs
    → image_of s ≡ image
image_same s m d rs image is means held = (λ i. image_bytes ((means i).reading.entries) ((means i).reading.depth) (held i)) ∙ sym is.bytes_are

-- what is read is written again, where there is room for it
pub read_and_written : (before after : JournalStore) (m d : ℕ) (rs : List Record) (image out now : List ℕ) (answer : Result ℕ Refusal) → IsImageOf image m d rs → length image ≤ length out
    → ReadsRecords before m d rs (Ok tt) after → answer ≡ write_answer after out → now ≡ out_after (image_of after) out answer
    → RewritesRecords before m d rs image out answer after now
read_and_written before after m d rs image out now answer is long reads answered bytes =
    let same = image_same after m d rs image is reads.fills.means reads.fills.records in
    let some = subst (λ (n : ℕ). 1 ≤ n) (sym (ap (λ w. w.reading.entries) reads.fills.means)) (kept.some_entry m d (kept.sizes is.journal)) in
    let tells : answer ≡ length_answer image out = answered ∙ cond-true _ _ _ (lt-ltb 0 (entries_of after) some) ∙ ap (λ written. length_answer written out) same in
    let accepted : answer ≡ Ok (length image) = tells ∙ cond-true _ _ _ (le-leb (length image) (length out) long) in
    record {
      answers = tells ∙ sym (cond-true _ _ _ (room_there (has_room before m d) _ _ refl reads.answers));
      fills = subst (λ (a : Result ℕ Refusal). FillsJournal before m d rs (without_length a) after) (sym accepted) reads.fills;
      bytes = bytes ∙ ap (λ written. out_after written out answer) same;
    }
