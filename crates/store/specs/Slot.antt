-- What holds of what a store keeps of an entry beside its memory.
use Rattle.std.specs.Prelude.{◌≡◌, ℕ, ◌<◌, ◌≤◌, true, Some, None}
use Rattle.store.specs.declared.version.Version.{Version}
use Rattle.store.specs.declared.slots.Slot.{Slot}
use Rattle.store.specs.Steps.{has_author, is_within}

-- of no entry
abbrev pub blank_slot : Slot
blank_slot = record { len = 0; staged = None }

-- what may be published beside a chain of some length
pub record MayFollow (depth reach len : ℕ) (version : Version) : Type 0 where
  pub author : has_author version ≡ true
  pub near : is_within reach version.value ≡ true
  pub room : len < depth

-- a chain has from one version to as many as the depth says, and what is staged beside it may be published
pub record IsSoundSlot (depth reach : ℕ) (slot : Slot) : Type 0 where
  pub least : 1 ≤ slot.len
  pub most : slot.len ≤ depth
  pub ready : (version : Version) → slot.staged ≡ Some version → MayFollow depth reach slot.len version
