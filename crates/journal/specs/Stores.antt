-- What a journal store means, and what its memory holds: the records lie at the front of the bytes, in the order in which they came.
use Rattle.std.specs.Prelude.{◌≡◌, ℕ, ◌*◌, ◌/◌, List, [], ◌∷◌, ◌++◌, length, vec_items, Some, None, Option}
use Rattle.store.specs.declared.version.Version.{Version}
use Rattle.store.specs.Meaning.{ReadingMeaning, WritingMeaning}
use Rattle.store.specs.Slots.{staged_at, reading_by, writing_by}
use Rattle.record.specs.declared.record.Record.{Record}
use Rattle.record.specs.Numbers.{record_size}
use Rattle.record.specs.Bytes.{record_bytes}
use Rattle.record.specs.Journals.{chain_in, last_place, records, entry_record, opening_records, records_bytes, bytes_with}
use Rattle.journal.specs.declared.JournalStore.{JournalStore}

-- the bytes that were handed over
abbrev pub bytes_of : JournalStore → List ℕ
bytes_of store = vec_items store.bytes

-- its records
abbrev pub records_of : JournalStore → List Record
records_of store = records (bytes_of store) store.count

-- the chain of an entry
abbrev pub chain_at : JournalStore → ℕ → List Version
chain_at store = chain_in (records_of store)

-- what it means to a reader
abbrev pub journal_reading : JournalStore → ReadingMeaning
journal_reading store = reading_by store.slots (chain_at store)

-- what it has staged, entry by entry
abbrev pub journal_staged : JournalStore → ℕ → Option Version
journal_staged store = staged_at store.slots

-- what it means to a writer
abbrev pub journal_writing : JournalStore → WritingMeaning
journal_writing store = writing_by store.slots (chain_at store)

-- it has room for as many versions as its bytes have room for records
abbrev pub journal_room : JournalStore → ℕ
journal_room store = length (bytes_of store) / record_size

-- the last record of an entry begins at a place
abbrev pub IsLastPlace : JournalStore → ℕ → ℕ → Type 0
IsLastPlace store entry place = last_place (records_of store) entry ≡ Some place

-- the record that a publish of a version adds behind others
abbrev pub added_record : List Record → ℕ → Version → Record
added_record before entry version = entry_record entry version (last_place before entry)

-- the bytes and the records with one more record behind the others, or as they are where there is no version to add
abbrev pub bytes_with_version : JournalStore → ℕ → Option Version → List ℕ
bytes_with_version store _ None = bytes_of store
bytes_with_version store entry (Some version) =
    bytes_with (bytes_of store) (record_size * store.count) (record_bytes (added_record (records_of store) entry version))

abbrev pub records_with_version : JournalStore → ℕ → Option Version → List Record
records_with_version store _ None = records_of store
records_with_version store entry (Some version) = records_of store ++ added_record (records_of store) entry version ∷ []

-- what an accepted call leaves of them: stage and withdraw write none
pub record KeepsBytes (old new : JournalStore) : Type 0 where
  pub bytes : bytes_of new ≡ bytes_of old
  pub records : records_of new ≡ records_of old

-- publish writes a record of what is staged behind the others, and no other byte changes
pub record AddsRecord (old : JournalStore) (entry : ℕ) (new : JournalStore) : Type 0 where
  pub bytes : bytes_of new ≡ bytes_with_version old entry (journal_staged old entry)
  pub records : records_of new ≡ records_with_version old entry (journal_staged old entry)

-- laying out writes the opening record of each entry, in entry order, from the start on, and no other byte changes
pub record WritesOpenings (old : JournalStore) (entries : ℕ) (new : JournalStore) : Type 0 where
  pub bytes : bytes_of new ≡ bytes_with (bytes_of old) 0 (records_bytes (opening_records entries))
  pub records : records_of new ≡ opening_records entries

abbrev pub stage_leaves : JournalStore → ℕ → Version → JournalStore → Type 0
stage_leaves old _ _ new = KeepsBytes old new

abbrev pub publish_leaves : JournalStore → ℕ → JournalStore → Type 0
publish_leaves = AddsRecord

abbrev pub withdraw_leaves : JournalStore → ℕ → JournalStore → Type 0
withdraw_leaves old _ new = KeepsBytes old new

abbrev pub lay_out_leaves : JournalStore → ℕ → ℕ → JournalStore → Type 0
lay_out_leaves old entries _ new = WritesOpenings old entries new
