-- The number of each refusal of a store, and its words.
use Rattle.std.specs.Prelude.{ℕ, List, codes}
use Rattle.store.specs.declared.refusal.Refusal.{Refusal}
use Rattle.store.specs.declared.refusal.Refusal.TheVariants.{NoSuchEntry, ValueBeyondReach, ChainFull, SizeOrSetting, NothingStaged, NoSuchAuthor, NoImage, MemoryTooShort}

abbrev pub refusal_number : Refusal → ℕ
refusal_number NoSuchEntry = 2
refusal_number ValueBeyondReach = 6
refusal_number ChainFull = 7
refusal_number SizeOrSetting = 12
refusal_number NothingStaged = 13
refusal_number NoSuchAuthor = 14
refusal_number NoImage = 15
refusal_number MemoryTooShort = 16

abbrev pub refusal_reason : Refusal → List ℕ
refusal_reason NoSuchEntry = codes "no such entry"
refusal_reason ValueBeyondReach = codes "value beyond the store's reach"
refusal_reason ChainFull = codes "chain full"
refusal_reason SizeOrSetting = codes "size or setting out of range"
refusal_reason NothingStaged = codes "nothing staged"
refusal_reason NoSuchAuthor = codes "no such author"
refusal_reason NoImage = codes "no image"
refusal_reason MemoryTooShort = codes "memory too short"
