-- Limits on a value: which may be set, and what lies between them.
use Rattle.std.specs.Prelude.{Bool, ◌&&◌, ℤ, pos, neg_ℤ, int_le}
use Rattle.store.specs.Numbers.{farthest}
use Rattle.store.specs.Steps.{is_within}
use Rattle.rules.specs.declared.limits.Limits.{Limits}

abbrev pub limits_of : ℤ → ℤ → Limits
limits_of smallest largest = record { smallest = smallest; largest = largest }

-- from one end of the values to the other
abbrev pub widest : Limits
widest = limits_of (neg_ℤ (pos farthest)) (pos farthest)

-- what a look-up past the last entry is said to find
abbrev pub zeros : Limits
zeros = limits_of (pos 0) (pos 0)

-- both numbers are within reach of 0, and the smallest is not above the largest
abbrev pub limits_stand : Limits → Bool
limits_stand limits =
    is_within farthest limits.smallest
    && is_within farthest limits.largest
    && int_le limits.smallest limits.largest

-- the value is not below the smallest and not above the largest
abbrev pub is_between : Limits → ℤ → Bool
is_between limits value = int_le limits.smallest value && int_le value limits.largest

-- the new value lies between them, whatever the last one was
abbrev pub limits_permit : Limits → ℤ → ℤ → Bool
limits_permit limits _ new = is_between limits new
