-- What a table store means, and what its memory holds.
use Rattle.std.specs.Prelude.{◌≡◌, ℕ, List, length, vec_items, Option}
use Rattle.store.specs.declared.version.Version.{Version}
use Rattle.store.specs.Meaning.{ReadingMeaning, WritingMeaning}
use Rattle.store.specs.Slots.{staged_at, reading_by, writing_by}
use Rattle.table.specs.declared.TableStore.{TableStore}
use Rattle.table.specs.Cells.{chain_in, cells_after_publish, cells_laid_out}

-- the cells that were handed over
abbrev pub cells_of : TableStore → List Version
cells_of store = vec_items store.cells

-- the chain of an entry
abbrev pub chain_at : TableStore → ℕ → List Version
chain_at store = chain_in (cells_of store) store.slots

-- what it means to a reader
abbrev pub table_reading : TableStore → ReadingMeaning
table_reading store = reading_by store.slots (chain_at store)

-- what it has staged, entry by entry
abbrev pub table_staged : TableStore → ℕ → Option Version
table_staged store = staged_at store.slots

-- what it means to a writer
abbrev pub table_writing : TableStore → WritingMeaning
table_writing store = writing_by store.slots (chain_at store)

-- it has room for as many versions as cells
abbrev pub table_room : TableStore → ℕ
table_room store = length (cells_of store)

-- what an accepted call leaves of the cells: stage and withdraw write none, publish writes one, laying out one for each entry
abbrev pub stage_leaves : TableStore → ℕ → Version → TableStore → Type 0
stage_leaves old _ _ new = cells_of new ≡ cells_of old

abbrev pub publish_leaves : TableStore → ℕ → TableStore → Type 0
publish_leaves old entry new = cells_of new ≡ cells_after_publish (cells_of old) old.slots entry

abbrev pub withdraw_leaves : TableStore → ℕ → TableStore → Type 0
withdraw_leaves old _ new = cells_of new ≡ cells_of old

abbrev pub lay_out_leaves : TableStore → ℕ → ℕ → TableStore → Type 0
lay_out_leaves old entries depth new = cells_of new ≡ cells_laid_out (cells_of old) entries depth
