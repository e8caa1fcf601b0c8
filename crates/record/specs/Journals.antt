-- Which lists of records a journal may hold.
use Rattle.std.specs.Prelude.{◌≡◌, ℕ, zero, suc, ◌+◌, ◌*◌, ◌<◌, true, Bool, if◌then◌else◌, List, [], ◌∷◌, ◌++◌, length, map, filter, take, drop, Some, None, Option, nat_eq}
use Rattle.std.specs.List.{flat_map}
use Rattle.store.specs.declared.version.Version.{Version}
use Rattle.store.specs.Meaning.{opening}
use Rattle.store.specs.Laying.{sizes_fit, widest_sizes}
use Rattle.store.specs.Steps.{has_author, is_within}
use Rattle.record.specs.Numbers.{record_size, journal_reach}
use Rattle.record.specs.Bytes.{record_bytes, record_from}
use Rattle.record.specs.declared.record.Record.{Record}

-- one record
abbrev pub entry_record : ℕ → Version → Option ℕ → Record
entry_record entry version previous = record { entry = entry; version = version; previous = previous }

-- the opening records of so many entries, in entry order
abbrev pub opening_records : ℕ → List Record
opening_records zero = []
opening_records (suc entry) = opening_records entry ++ entry_record entry opening None ∷ []

abbrev pub is_of_entry : ℕ → Record → Bool
is_of_entry entry added = nat_eq added.entry entry

-- the chain of an entry: the versions of its records, in order
abbrev pub chain_in : List Record → ℕ → List Version
chain_in records entry = map (λ added. added.version) (filter (is_of_entry entry) records)

-- the place of the last record of an entry, if it has any, where the first of the records begins at a place
abbrev pub last_from : ℕ → List Record → ℕ → Option ℕ → Option ℕ
last_from _ [] _ found = found
last_from place (added ∷ records) entry found =
    last_from (place + record_size) records entry (if is_of_entry entry added then Some place else found)

abbrev pub last_place : List Record → ℕ → Option ℕ
last_place records entry = last_from 0 records entry None

-- A journal begins with the opening record of each entry, and each publish adds one record: of an entry that it has,
-- by an author, within reach, beside a chain with room, and with the place of the entry's last record as the one before.
pub data Journaled (entries depth : ℕ) : List Record → Type 0 where
  laid_out : sizes_fit widest_sizes entries depth ≡ true → Journaled entries depth (opening_records entries)
  published : (records : List Record) (entry : ℕ) (version : Version) → Journaled entries depth records
      → entry < entries → has_author version ≡ true → is_within journal_reach version.value ≡ true → length (chain_in records entry) < depth
      → Journaled entries depth (records ++ entry_record entry version (last_place records entry) ∷ [])

-- the bytes of records, one after another
abbrev pub records_bytes : List Record → List ℕ
records_bytes = flat_map record_bytes

-- a record of some bytes by its number, counted from 0, and the first records of them
abbrev pub record_at : List ℕ → ℕ → Record
record_at bytes number = record_from (take record_size (drop (record_size * number) bytes))

abbrev pub records : List ℕ → ℕ → List Record
records _ zero = []
records bytes (suc number) = records bytes number ++ record_at bytes number ∷ []

-- bytes with others in place of those from a place on
abbrev pub bytes_with : List ℕ → ℕ → List ℕ → List ℕ
bytes_with bytes place new = take place bytes ++ (new ++ drop (place + length new) bytes)
