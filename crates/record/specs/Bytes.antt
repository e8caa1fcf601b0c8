-- A record as bytes, the lowest byte of each number first.
use Rattle.std.specs.Prelude.{◌≡◌, ℕ, ◌+◌, ◌<◌, true, ℤ, if◌then◌else◌, List, [], ◌∷◌, ◌++◌, length, take, drop, Some, None, Option, nat_lt, nat_le, nat_eq, slice_index}
use Rattle.std.specs.Int.{w32, w64, to_le_bytes, from_le_bytes, cast_unsigned, cast_signed}
use Rattle.store.specs.Steps.{is_within}
use Rattle.record.specs.Numbers.{record_size, value_size, place_size, no_place, journal_reach}
use Rattle.record.specs.declared.record.Record.{Record}

-- a value in two's complement: the lowest six of its eight bytes
abbrev pub value_bytes : ℤ → List ℕ
value_bytes value = take value_size (to_le_bytes w64 (cast_unsigned w64 value))

-- back again: the two bytes above repeat the sign, which the sixth byte tells
abbrev pub sign : List ℕ → ℕ
sign six = if nat_lt (slice_index six 5) 128 then 0 else 255

abbrev pub value_from : List ℕ → ℤ
value_from six = cast_signed w64 (from_le_bytes w64 (six ++ sign six ∷ sign six ∷ []))

-- the place of the record before, or the number that says that there is none
abbrev pub previous_number : Option ℕ → ℕ
previous_number None = no_place
previous_number (Some place) = place

abbrev pub previous_from : ℕ → Option ℕ
previous_from number = if nat_eq number no_place then None else Some number

-- entry, seat, serial, value, and the place of the record before
unfoldable pub record_bytes : Record → List ℕ
record_bytes spelled =
    spelled.entry ∷ spelled.version.seat ∷ []
    ++ to_le_bytes w32 spelled.version.serial
    ++ value_bytes spelled.version.value
    ++ to_le_bytes w32 (previous_number spelled.previous)

unfoldable pub record_from : List ℕ → Record
record_from bytes = record {
  entry = slice_index bytes 0;
  version = record {
    value = value_from (take value_size (drop 6 bytes));
    seat = slice_index bytes 1;
    serial = from_le_bytes w32 (take 4 (drop 2 bytes));
  };
  previous = previous_from (from_le_bytes w32 (take place_size (drop 12 bytes)));
}

-- the record that begins at a place, where as many bytes follow
abbrev pub record_read : List ℕ → ℕ → Option Record
record_read bytes place =
    if nat_le (place + record_size) (length bytes) then Some (record_from (take record_size (drop place bytes))) else None

-- what has such bytes: an entry and a seat of one byte, a serial of four, a value that six hold, a place that is not the one for none
pub record Fits (r : Record) : Type 0 where
  pub entry : r.entry < 256
  pub seat : r.version.seat < 256
  pub serial : r.version.serial < 4294967296
  pub value : is_within journal_reach r.version.value ≡ true
  pub previous : previous_number r.previous < 4294967296
  pub none : previous_from (previous_number r.previous) ≡ r.previous

-- as many bytes as a record has
pub record IsWhole (bytes : List ℕ) : Type 0 where
  pub long : length bytes ≡ record_size
  pub small : (i : ℕ) → slice_index bytes i < 256
