-- Writing the image of a journal, and reading one into a journal.
use Rattle.std.specs.Prelude.{◌≡◌, ℕ, ◌*◌, ◌<◌, ◌≤◌, Bool, if◌then◌else◌, List, length, None, Some, Ok, Err, OnOk, Result, nat_le, nat_lt, slice_index}
use Rattle.store.specs.declared.refusal.Refusal.{Refusal}
use Rattle.store.specs.declared.refusal.Refusal.TheVariants.{SizeOrSetting, MemoryTooShort}
use Rattle.store.specs.Meaning.{WritingMeaning}
use Rattle.store.specs.Steps.{StoreAnswer, unless_refused}
use Rattle.record.specs.declared.record.Record.{Record}
use Rattle.record.specs.Numbers.{journal_reach}
use Rattle.record.specs.Journals.{chain_in, last_place, records_bytes, bytes_with}
use Rattle.journal.specs.declared.JournalStore.{JournalStore}
use Rattle.journal.specs.Stores.{records_of, journal_reading, journal_writing, journal_room, bytes_of}
use Rattle.image.specs.Images.{image_bytes, IsImageOf}

-- the entries and the depth of a journal
abbrev pub entries_of : JournalStore → ℕ
entries_of journal = (journal_reading journal).entries

abbrev pub depth_of : JournalStore → ℕ
depth_of journal = (journal_reading journal).depth

-- the image of a journal
abbrev pub image_of : JournalStore → List ℕ
image_of journal = image_bytes (entries_of journal) (depth_of journal) (records_of journal)

-- the numbers are the places of the last records of its entries
abbrev pub HasLasts : JournalStore → List ℕ → Type 0
HasLasts journal lasts =
    (entry : ℕ) → entry < entries_of journal → last_place (records_of journal) entry ≡ Some (slice_index lasts entry)

-- too few bytes are refused; else the length of the image is told
abbrev pub length_answer : List ℕ → List ℕ → Result ℕ Refusal
length_answer image out = if nat_le (length image) (length out) then Ok (length image) else Err MemoryTooShort

-- nothing laid out is refused before that
abbrev pub write_answer : JournalStore → List ℕ → Result ℕ Refusal
write_answer journal out =
    if nat_lt 0 (entries_of journal) then length_answer (image_of journal) out else Err SizeOrSetting

-- the memory after it: the image from the start on, and every other byte as it was
abbrev pub out_after : List ℕ → List ℕ → Result ℕ Refusal → List ℕ
out_after image out (Ok _) = bytes_with out 0 image
out_after _ out (Err _) = out

-- a store with these records and nothing staged
abbrev pub filled_meaning : ℕ → ℕ → List Record → WritingMeaning
filled_meaning entries depth records = record {
  reading = record { entries = entries; depth = depth; reach = journal_reach; chains = chain_in records };
  staged = λ _. None;
}

-- whether a journal has room for chains of these sizes
abbrev pub has_room : JournalStore → ℕ → ℕ → Bool
has_room journal entries depth = nat_le (entries * depth) (journal_room journal)

-- unless it is refused, a store has these records and nothing staged then, and its memory is as it was behind them
pub record FillsJournal (old : JournalStore) (entries depth : ℕ) (held : List Record) (result : StoreAnswer) (new : JournalStore) : Type 0 where
  pub means : journal_writing new ≡ unless_refused result (filled_meaning entries depth held) (journal_writing old)
  pub bytes : bytes_of new ≡ unless_refused result (bytes_with (bytes_of old) 0 (records_bytes held)) (bytes_of old)
  pub records : records_of new ≡ unless_refused result held (records_of old)

-- reading the image of these records into a store: refused where it has too little memory
pub record ReadsRecords (old : JournalStore) (entries depth : ℕ) (held : List Record) (result : StoreAnswer) (new : JournalStore) : Type 0 where
  pub answers : result ≡ (if has_room old entries depth then Ok tt else Err MemoryTooShort)
  pub fills : FillsJournal old entries depth held result new

-- reading bytes into a store, of whatever records they are the image
abbrev pub ReadsImage : JournalStore → List ℕ → StoreAnswer → JournalStore → Type 0
ReadsImage old image result new =
    (entries depth : ℕ) (held : List Record) → IsImageOf image entries depth held → ReadsRecords old entries depth held result new

-- reading the image of a journal into another: unless there is too little memory that one has the same sizes and chains then
pub record CopiesJournal (written old : JournalStore) (result : StoreAnswer) (new : JournalStore) : Type 0 where
  pub answers : result ≡ (if has_room old (entries_of written) (depth_of written) then Ok tt else Err MemoryTooShort)
  pub reading : OnOk result (journal_reading new ≡ journal_reading written)

-- reading bytes into a store, of whatever journal that is laid out they are the image
abbrev pub ReadsBack : JournalStore → List ℕ → StoreAnswer → JournalStore → Type 0
ReadsBack old image result new =
    (written : JournalStore) → 1 ≤ entries_of written → image ≡ image_of written → CopiesJournal written old result new

-- an answer without what it tells
abbrev pub without_length : Result ℕ Refusal → StoreAnswer
without_length (Ok _) = Ok tt
without_length (Err refusal) = Err refusal

-- reading the image of these records into a store and writing it again: refused where either has too little memory; else the
-- image's very bytes are written, and no other byte changes
pub record RewritesRecords (old : JournalStore) (entries depth : ℕ) (held : List Record) (image out : List ℕ) (result : Result ℕ Refusal) (new : JournalStore) (now : List ℕ) : Type 0 where
  pub answers : result ≡ (if has_room old entries depth then length_answer image out else Err MemoryTooShort)
  pub fills : FillsJournal old entries depth held (without_length result) new
  pub bytes : now ≡ out_after image out result

-- the same of whatever records the bytes are the image
abbrev pub RewritesImage : JournalStore → List ℕ → List ℕ → Result ℕ Refusal → JournalStore → List ℕ → Type 0
RewritesImage old image out result new now =
    (entries depth : ℕ) (held : List Record) → IsImageOf image entries depth held → RewritesRecords old entries depth held image out result new now

-- what a journal that is laid out writes is an image
abbrev pub WritesImages : Type 0
WritesImages =
    (written : JournalStore) → 1 ≤ entries_of written
    → ∥ IsImageOf (image_of written) (entries_of written) (depth_of written) (records_of written) ∥₁
