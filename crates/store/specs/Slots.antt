-- What a store means by its slots and its chains.
use Rattle.std.specs.Prelude.{◌≡◌, ℕ, ◌+◌, if◌then◌else◌, List, length, Some, None, Option, Result, Ok, Err, ◌==◌, nat_lt, slice_index_or, Bool, nat_le, ◌&&◌}
use Rattle.store.specs.declared.version.Version.{Version}
use Rattle.store.specs.declared.refusal.Refusal.{Refusal}
use Rattle.store.specs.declared.refusal.Refusal.TheVariants.{NoSuchEntry, ValueBeyondReach, ChainFull, SizeOrSetting, NothingStaged, NoSuchAuthor}
use Rattle.store.specs.declared.slots.Slot.{Slot}
use Rattle.store.specs.declared.slots.Slots.{Slots}
use Rattle.store.specs.Numbers.{most_entries, least_depth, most_depth}
use Rattle.store.specs.Meaning.{ReadingMeaning, WritingMeaning}
use Rattle.store.specs.Steps.{StoreAnswer, has_author, is_within}
use Rattle.store.specs.Slot.{blank_slot}

-- the slot of an entry; past the last entry a blank one
abbrev pub slot_at : Slots → ℕ → Slot
slot_at slots entry = if nat_lt entry slots.entries then slice_index_or slots.slots entry blank_slot else blank_slot

-- how many versions the chain of an entry has
abbrev pub len_at : Slots → ℕ → ℕ
len_at slots entry = (slot_at slots entry).len

-- what is staged beside it
abbrev pub staged_at : Slots → ℕ → Option Version
staged_at slots entry = (slot_at slots entry).staged

-- what is staged, as the answer of a publish
abbrev pub staged_answer : Option Version → Result Version Refusal
staged_answer None = Err NothingStaged
staged_answer (Some version) = Ok version

abbrev pub ready_answer : Slots → ℕ → Result Version Refusal
ready_answer slots entry = if nat_lt entry slots.entries then staged_answer (staged_at slots entry) else Err NoSuchEntry

-- an answer without the version that it tells
abbrev pub without_version : Result Version Refusal → StoreAnswer
without_version (Ok _) = Ok tt
without_version (Err refusal) = Err refusal

abbrev pub stage_slots_answer : Slots → ℕ → Version → StoreAnswer
stage_slots_answer slots entry version =
    if nat_lt entry slots.entries then
    if has_author version then
    if is_within slots.reach version.value then
    if nat_lt (len_at slots entry) slots.depth then Ok tt
    else Err ChainFull
    else Err ValueBeyondReach
    else Err NoSuchAuthor
    else Err NoSuchEntry

-- one entry has this length and this staged version now, and nothing else changes
pub record PutsSlot (old : Slots) (entry len : ℕ) (staged : Option Version) (new : Slots) : Type 0 where
  pub same_entries : new.entries ≡ old.entries
  pub same_depth : new.depth ≡ old.depth
  pub same_reach : new.reach ≡ old.reach
  pub lens : (other : ℕ) → len_at new other ≡ (if other == entry then len else len_at old other)
  pub stageds : (other : ℕ) → staged_at new other ≡ (if other == entry then staged else staged_at old other)

-- one entry has this staged version now, or none
abbrev pub Restages : Slots → ℕ → Option Version → Slots → Type 0
Restages old entry staged new = PutsSlot old entry (len_at old entry) staged new

-- what was staged there is one version more of its chain
abbrev pub CountsStaged : Slots → ℕ → Slots → Type 0
CountsStaged old entry new = PutsSlot old entry (len_at old entry + 1) None new

-- sizes that a store may have; with no entries too, as before it is laid out
abbrev pub slots_fit : ℕ → ℕ → Bool
slots_fit entries depth = nat_le entries most_entries && nat_le least_depth depth && nat_le depth most_depth

abbrev pub slots_answer : ℕ → ℕ → StoreAnswer
slots_answer entries depth = if slots_fit entries depth then Ok tt else Err SizeOrSetting

-- each entry has its opening version alone, and nothing is staged
pub record AreLaidOut (reach entries depth : ℕ) (slots : Slots) : Type 0 where
  pub entries_are : slots.entries ≡ entries
  pub depth_is : slots.depth ≡ depth
  pub reach_is : slots.reach ≡ reach
  pub lens : (entry : ℕ) → len_at slots entry ≡ (if nat_lt entry entries then 1 else 0)
  pub stageds : (entry : ℕ) → staged_at slots entry ≡ None

-- what a store with these slots and these chains means to a reader, and to a writer
abbrev pub reading_by : Slots → (ℕ → List Version) → ReadingMeaning
reading_by slots chains = record { entries = slots.entries; depth = slots.depth; reach = slots.reach; chains = chains }

abbrev pub writing_by : Slots → (ℕ → List Version) → WritingMeaning
writing_by slots chains = record { reading = reading_by slots chains; staged = staged_at slots }

-- the chains are as long as the slots say
abbrev pub CountsChains : Slots → (ℕ → List Version) → Type 0
CountsChains slots chains = (entry : ℕ) → length (chains entry) ≡ len_at slots entry
