-- What version cells hold: version i of entry e is cell e × depth + i.
use Rattle.std.specs.Prelude.{ℕ, zero, suc, ◌+◌, ◌*◌, List, take, drop, Some, None, Option, slice_set}
use Rattle.store.specs.declared.version.Version.{Version}
use Rattle.store.specs.declared.slots.Slots.{Slots}
use Rattle.store.specs.Numbers.{farthest}
use Rattle.store.specs.Meaning.{WritingMeaning, opening}
use Rattle.store.specs.Laying.{laid_out_meaning}
use Rattle.store.specs.Slots.{len_at, staged_at}

-- no value is larger, above zero or below
abbrev pub table_reach : ℕ
table_reach = farthest

-- the chain of an entry: from its first cell on, as many as its length says
abbrev pub chain_in : List Version → Slots → ℕ → List Version
chain_in cells slots entry = take (len_at slots entry) (drop (entry * slots.depth) cells)

-- the cells with a version put into one of them, or as they are where there is none to put
abbrev pub with_cell : List Version → ℕ → Option Version → List Version
with_cell cells _ None = cells
with_cell cells cell (Some version) = slice_set cells cell version

-- the cells after a publish: what is staged goes into the cell after the last of its chain, and no other cell changes
abbrev pub cells_after_publish : List Version → Slots → ℕ → List Version
cells_after_publish cells slots entry = with_cell cells (entry * slots.depth + len_at slots entry) (staged_at slots entry)

-- the cells with the opening version in the first cell of each of so many entries, and every other cell as it was
abbrev pub cells_laid_out : List Version → ℕ → ℕ → List Version
cells_laid_out cells zero depth = cells
cells_laid_out cells (suc entries) depth = slice_set (cells_laid_out cells entries depth) (entries * depth) opening

-- a table just laid out
abbrev pub table_laid_out : ℕ → ℕ → WritingMeaning
table_laid_out = laid_out_meaning table_reach
