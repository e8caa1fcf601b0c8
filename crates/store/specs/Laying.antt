-- Laying out a store: which sizes it may have, the answer, and what it means just laid out.
use Rattle.std.specs.Prelude.{◌≡◌, ℕ, ◌*◌, Bool, if◌then◌else◌, ◌&&◌, List, [], ◌∷◌, Option, None, Ok, Err, nat_le, nat_lt}
use Rattle.store.specs.declared.version.Version.{Version}
use Rattle.store.specs.declared.refusal.Refusal.TheVariants.{SizeOrSetting, MemoryTooShort}
use Rattle.store.specs.declared.sizes.SizeLimits.{SizeLimits}
use Rattle.store.specs.Numbers.{most_entries, least_depth, most_depth}
use Rattle.store.specs.Meaning.{ReadingMeaning, WritingMeaning, opening, meaning_of}
use Rattle.store.specs.Steps.{StoreAnswer, unless_refused}

-- from 1 to 64 entries of depth 2 to 200
abbrev pub widest_sizes : SizeLimits
widest_sizes = record { most_entries = most_entries; least_depth = least_depth; most_depth = most_depth }

-- at least one entry and at most so many, of a depth within limits
abbrev pub sizes_fit : SizeLimits → ℕ → ℕ → Bool
sizes_fit limits entries depth =
    nat_le 1 entries && nat_le entries limits.most_entries && nat_le limits.least_depth depth && nat_le depth limits.most_depth

-- wrong sizes are refused first, then room for fewer versions than the chains may have together
abbrev pub lay_out_answer : SizeLimits → ℕ → ℕ → ℕ → StoreAnswer
lay_out_answer limits room entries depth =
    if sizes_fit limits entries depth then
    if nat_le (entries * depth) room then Ok tt
    else Err MemoryTooShort
    else Err SizeOrSetting

-- each of so many chains is the opening version alone
abbrev pub opening_chains : ℕ → ℕ → List Version
opening_chains entries entry = if nat_lt entry entries then opening ∷ [] else []

-- a store just laid out: each chain is the opening version alone, and nothing is staged
abbrev pub laid_out_meaning : ℕ → ℕ → ℕ → WritingMeaning
laid_out_meaning reach entries depth = record {
  reading = record { entries = entries; depth = depth; reach = reach; chains = opening_chains entries };
  staged = λ _. None;
}

-- laying out a store that means something by two members, as its contract says it; a refused call changes nothing
abbrev pub LaysOut : {Store : Type 0} → (Store → ReadingMeaning) → (Store → ℕ → Option Version) → Store → ℕ → ℕ → StoreAnswer → Store → Type 0
LaysOut reading staged old entries depth result new =
    meaning_of reading staged new
    ≡ unless_refused result (laid_out_meaning (reading old).reach entries depth) (meaning_of reading staged old)
