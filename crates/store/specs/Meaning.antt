-- What a reading store and a writing store mean, and what every one of them owes.
use Rattle.std.specs.Prelude.{◌≡◌, ℕ, ◌<◌, ◌≤◌, true, List, [], ◌∷◌, length, pos, is_some, None, Option, slice_index_or}
use Rattle.store.specs.declared.version.Version.{Version}
use Rattle.store.specs.Numbers.{most_entries, least_depth, no_seat, farthest}

-- the version that nobody wrote
abbrev pub opening : Version
opening = record { value = pos 0; seat = no_seat; serial = 0 }

-- the last version of a chain; of no chain, the opening version
abbrev pub last_version : List Version → Version
last_version [] = opening
last_version (version ∷ []) = version
last_version (_ ∷ (version ∷ later)) = last_version (version ∷ later)

-- a reading store: its entries are those below a number, each with a chain of versions, the oldest first
pub record ReadingMeaning : Type 0 where
  pub entries : ℕ
  pub depth : ℕ
  pub reach : ℕ
  pub chains : ℕ → List Version

-- a writing store has for each entry one staged version beside the chain, or none
pub record WritingMeaning : Type 0 where
  pub reading : ReadingMeaning
  pub staged : ℕ → Option Version

-- what a store means, by the two members of its trait
abbrev pub meaning_of : {S : Type 0} → (S → ReadingMeaning) → (S → ℕ → Option Version) → S → WritingMeaning
meaning_of reading staged store = record { reading = reading store; staged = staged store }

-- at most 64 entries, depth 2 or more, reach from 1 to 10^17; a chain has from one version to as many as the depth says,
-- the opening version first, and there is no chain past the last entry
pub record IsSoundReading (store : ReadingMeaning) : Type 0 where
  pub entries_most : store.entries ≤ most_entries
  pub depth_least : least_depth ≤ store.depth
  pub reach_least : 1 ≤ store.reach
  pub reach_most : store.reach ≤ farthest
  pub chain_least : (entry : ℕ) → entry < store.entries → 1 ≤ length (store.chains entry)
  pub chain_most : (entry : ℕ) → length (store.chains entry) ≤ store.depth
  pub chain_first : (entry : ℕ) → entry < store.entries → slice_index_or (store.chains entry) 0 opening ≡ opening
  pub chain_none : (entry : ℕ) → store.entries ≤ entry → store.chains entry ≡ []

-- nothing is staged beside a chain that is full, and nothing past the last entry
pub record IsSoundWriting (store : WritingMeaning) : Type 0 where
  pub staged_room : (entry : ℕ) → is_some (store.staged entry) ≡ true → length (store.reading.chains entry) < store.reading.depth
  pub staged_inside : (entry : ℕ) → store.reading.entries ≤ entry → store.staged entry ≡ None
