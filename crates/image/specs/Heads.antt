-- The heads of the chains of some records: how long each chain is, and where its last record begins.
use Rattle.std.specs.Prelude.{◌≡◌, ℕ, zero, suc, ◌<◌, false, Bool, ◌&&◌, List, [], ◌++◌, length, Some, None, Option, nat_lt, nat_eq, slice_index}
use Rattle.std.specs.Int.{w32, to_le_bytes}
use Rattle.store.specs.Steps.{has_author, is_within}
use Rattle.record.specs.declared.record.Record.{Record}
use Rattle.record.specs.Numbers.{journal_reach}
use Rattle.record.specs.Journals.{Journaled, chain_in, last_place, records, opening_records}
use Rattle.image.specs.declared.heads.Heads.{Heads}

-- the lengths and the last places have the head of an entry
pub record HeadIs (held : List Record) (lens lasts : List ℕ) (entry : ℕ) : Type 0 where
  pub counted : length (chain_in held entry) ≡ slice_index lens entry
  pub found : last_place held entry ≡ Some (slice_index lasts entry)

-- they have the heads of the first entries
abbrev pub HeadsAre : List Record → List ℕ → List ℕ → ℕ → Type 0
HeadsAre held lens lasts entries = (entry : ℕ) → entry < entries → HeadIs held lens lasts entry

-- the first records of some bytes are the opening ones in entry order, with these heads
abbrev pub OpenWith : List ℕ → ℕ → Heads → Type 0
OpenWith bytes entries heads =
    (records bytes entries ≡ opening_records entries) × HeadsAre (opening_records entries) heads.lens heads.lasts entries

-- the first records of some bytes are a journal's, with these heads
abbrev pub JournaledWith : List ℕ → ℕ → ℕ → ℕ → Heads → Type 0
JournaledWith bytes count entries depth heads =
    Journaled entries depth (records bytes count) × HeadsAre (records bytes count) heads.lens heads.lasts entries

-- the place is this number
abbrev pub is_place : Option ℕ → ℕ → Bool
is_place None _ = false
is_place (Some place) number = nat_eq place number

-- whether a publish may have added the record: of one of the entries, by an author, within reach, behind the last record of its
-- entry, beside a chain with room; by the heads
abbrev pub may_follow : ℕ → ℕ → List ℕ → List ℕ → Record → Bool
may_follow entries depth lens lasts added =
    nat_lt added.entry entries
    && (has_author added.version
    && (is_within journal_reach added.version.value
    && (is_place added.previous (slice_index lasts added.entry)
    && nat_lt (slice_index lens added.entry) depth)))

-- the first numbers of a list, four bytes each
abbrev pub numbers_bytes : List ℕ → ℕ → List ℕ
numbers_bytes _ zero = []
numbers_bytes numbers (suc index) = numbers_bytes numbers index ++ to_le_bytes w32 (slice_index numbers index)
