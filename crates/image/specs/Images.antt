-- What the image of a journal is.
use Rattle.std.specs.Prelude.{◌≡◌, ℕ, zero, suc, ◌-◌, ◌*◌, if◌then◌else◌, List, [], ◌∷◌, ◌++◌, length, drop, Some, None, Option, nat_le, slice_index}
use Rattle.std.specs.Int.{w16, w32, to_le_bytes, from_le_bytes}
use Rattle.record.specs.declared.record.Record.{Record}
use Rattle.record.specs.Numbers.{record_size}
use Rattle.record.specs.Bytes.{previous_number}
use Rattle.record.specs.Journals.{Journaled, records_bytes, last_place}
use Rattle.image.specs.declared.trailer.Trailer.{Trailer}
use Rattle.image.specs.Numbers.{trailer_size, mark_size, mark}

-- where the places begin, how many records there are, the entries and the depth, and the mark
unfoldable pub trailer_bytes : Trailer → List ℕ
trailer_bytes trailer =
    to_le_bytes w32 trailer.places
    ++ (to_le_bytes w32 trailer.count ++ (to_le_bytes w16 trailer.entries ++ (to_le_bytes w16 trailer.depth ++ mark)))

-- back again; the mark is not looked at
unfoldable pub trailer_from : List ℕ → Trailer
trailer_from bytes = record {
  places = from_le_bytes w32 (slice_index bytes 0 ∷ slice_index bytes 1 ∷ slice_index bytes 2 ∷ slice_index bytes 3 ∷ []);
  count = from_le_bytes w32 (slice_index bytes 4 ∷ slice_index bytes 5 ∷ slice_index bytes 6 ∷ slice_index bytes 7 ∷ []);
  entries = from_le_bytes w16 (slice_index bytes 8 ∷ slice_index bytes 9 ∷ []);
  depth = from_le_bytes w16 (slice_index bytes 10 ∷ slice_index bytes 11 ∷ []);
}

-- the mark stands at the end of some bytes
abbrev pub EndsWithMark : List ℕ → Type 0
EndsWithMark bytes = drop (length bytes - mark_size) bytes ≡ mark

-- the trailer at the end of some bytes, where there are as many
abbrev pub trailer_read : List ℕ → Option Trailer
trailer_read bytes =
    if nat_le trailer_size (length bytes) then Some (trailer_from (drop (length bytes - trailer_size) bytes)) else None

-- the trailer of so many records of so many entries: the places begin behind the records
abbrev pub trailer_of : ℕ → ℕ → ℕ → Trailer
trailer_of count entries depth = record { places = record_size * count; count = count; entries = entries; depth = depth }

-- the place of the last record of each of so many entries
abbrev pub places_bytes : List Record → ℕ → List ℕ
places_bytes _ zero = []
places_bytes records (suc entry) =
    places_bytes records entry ++ to_le_bytes w32 (previous_number (last_place records entry))

-- what stands behind the records
abbrev pub tail_bytes : ℕ → ℕ → List Record → List ℕ
tail_bytes entries depth records =
    places_bytes records entries ++ trailer_bytes (trailer_of (length records) entries depth)

-- the image of a journal with these records: they, the places of the last ones, and the trailer
abbrev pub image_bytes : ℕ → ℕ → List Record → List ℕ
image_bytes entries depth records = records_bytes records ++ tail_bytes entries depth records

-- some journal has these bytes as its image
pub record IsImageOf (bytes : List ℕ) (entries depth : ℕ) (records : List Record) : Type 0 where
  pub journal : Journaled entries depth records
  pub bytes_are : bytes ≡ image_bytes entries depth records

abbrev pub IsImage : List ℕ → Type 0
IsImage bytes = (entries : ℕ) × (depth : ℕ) × (records : List Record) × IsImageOf bytes entries depth records
