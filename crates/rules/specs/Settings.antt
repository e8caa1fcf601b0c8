-- What a rule with a setting for each entry means.
use Rattle.std.specs.Prelude.{◌≡◌, ℕ, Bool, true, false, ◌&&◌, List, ℤ, nat_lt, slice_get}
use Rattle.std.specs.Option.{option_map_or}
use Rattle.store.specs.Numbers.{most_entries}
use Rattle.rules.specs.House.{Rule}

-- a setting's yes or no to a new value, from the last value of the chain
abbrev pub Permission : Type 0
Permission = ℤ → ℤ → Bool

-- the second says yes wherever the first does
abbrev pub IsAsWide : Permission → Permission → Type 0
IsAsWide narrow wide = (last new : ℤ) → narrow last new ≡ true → wide last new ≡ true

-- how many entries a rule has settings for: as many as a store may have
abbrev pub settings_count : ℕ
settings_count = most_entries

-- the yes or no of the setting of one of these entries, and no to any other
abbrev pub entry_allows : {T : Type 0} → (T → Permission) → List T → Rule
entry_allows permits settings entry last new =
    nat_lt entry settings_count
    && option_map_or (λ setting. permits setting last new) (slice_get settings entry) false
