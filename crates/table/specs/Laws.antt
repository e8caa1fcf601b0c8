-- A table store entry by entry: where its versions stand, and how long a chain is; and the two laws.
-- All here is proved, and no contract rests on its wording: an implementation can name a lemma of specs/ alone.
use Rattle.std.specs.Prelude.{◌≡◌, ℕ, ◌+◌, ◌*◌, ◌<◌, ◌≤◌, length, Some, slice_index_or}
use Rattle.std.proofs.Common.{ap, ◌∙◌, arith, add-zero, ⊎_elim}
use Rattle.std.specs.List.{slice_get}
use Rattle.std.proofs.lemmas.Grind.{common_steps, rows}
use Rattle.std.proofs.lemmas.Option.{slice_get-get_or}
use Rattle.std.proofs.lemmas.Bool.{cases_lt}
use Rattle.store.specs.declared.version.Version.{Version}
use Rattle.store.specs.declared.slots.Slot.{Slot}
use Rattle.store.specs.Meaning.{opening, IsSoundReading, IsSoundWriting}
use Rattle.store.specs.Slots.{len_at}
use Rattle.store.specs.SlotLaws.{slot_past, len_least, len_most, slots_readable, slots_writable}
use Rattle.table.specs.declared.TableStore.{TableStore}
use Rattle.table.specs.Stores.{table_reading, table_writing, cells_of, chain_at}

-- n cells from the first of entry e on end before the first of entry m
pub row_ends : (d e n m : ℕ) → e < m → n ≤ d → e * d + n ≤ m * d
row_ends d e n m before short = grind (arith, rows)

module _ (s : TableStore) where
  -- only an entry has versions
  inside_some : (e i : ℕ) → i < len_at s.slots e → e < s.slots.entries
  inside_some e i below =
      ⊎_elim
      (λ inside. inside)
      (λ past. absurd (omega (arith, ap (λ (slot : Slot). slot.len) (slot_past s.slots e past))))
      (cases_lt e s.slots.entries)

  -- the cells of a chain are within the cells
  chain_ends : (e : ℕ) → e < s.slots.entries → e * s.slots.depth + len_at s.slots e ≤ length (cells_of s)
  chain_ends e inside = omega (arith, row_ends s.slots.depth e (len_at s.slots e) s.slots.entries inside (len_most s.slots e), s.room)

  pub chain_length : (e : ℕ) → length (chain_at s e) ≡ len_at s.slots e
  chain_length e =
      ⊎_elim
      (λ inside.
      let ends = chain_ends e inside in
      grind (arith, common_steps))
      (λ past.
      let none = ap (λ (slot : Slot). slot.len) (slot_past s.slots e past) in
      grind (arith, common_steps))
      (cases_lt e s.slots.entries)

  pub version_place : (e i : ℕ) → i < length (chain_at s e) → e * s.slots.depth + i < length (cells_of s)
  version_place e i below = omega (arith, chain_ends e (inside_some e i (omega (arith, chain_length e))), chain_length e)

  cell_at : (e i : ℕ) (v : Version) → i < len_at s.slots e → slice_index_or (chain_at s e) i v ≡ slice_index_or (cells_of s) (e * s.slots.depth + i) v
  cell_at e i v below = grind (arith, common_steps)

  -- version i of entry e is cell e × depth + i
  pub version_at : (e i : ℕ) (v : Version) → i < length (chain_at s e) → slice_get (chain_at s e) i ≡ Some (slice_index_or (cells_of s) (e * s.slots.depth + i) v)
  version_at e i v below =
      slice_get-get_or (chain_at s e) i v below ∙ ap Some (cell_at e i v (omega (arith, chain_length e)))

  version_first : (e : ℕ) → e < s.slots.entries → slice_index_or (chain_at s e) 0 opening ≡ opening
  version_first e inside = cell_at e 0 opening (len_least s.slots e inside) ∙ simp add-zero (s.first e inside)

-- the laws of a reading store and of a writing store
pub table_readable : (s : TableStore) → IsSoundReading (table_reading s)
table_readable s = slots_readable s.slots (chain_at s) (chain_length s) (omega (arith, s.reach)) (omega (arith, s.reach)) (version_first s)

pub table_writable : (s : TableStore) → IsSoundWriting (table_writing s)
table_writable s = slots_writable s.slots (chain_at s) (chain_length s)
