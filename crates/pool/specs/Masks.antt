-- Sets of numbers below 64, seats or entries, as masks: bit k is 1 where k is in the set.
use Rattle.std.specs.Prelude.{ℕ, ◌^◌, Bool, ◌==◌, bit_and, bit_or}
use Rattle.std.specs.Int.{w64, bit_at, bit_not}

abbrev pub has_member : ℕ → ℕ → Bool
has_member mask member = bit_at mask member == 1

abbrev pub with_member : ℕ → ℕ → ℕ
with_member mask member = bit_or mask (2 ^ member)

abbrev pub without_member : ℕ → ℕ → ℕ
without_member mask member = bit_and mask (bit_not w64 (2 ^ member))

-- each member of the first set is in the second
abbrev pub is_subset : ℕ → ℕ → Bool
is_subset first second = bit_or first second == second
