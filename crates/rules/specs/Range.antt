-- A rule by limits, one pair of them for each entry.
use Rattle.std.specs.Prelude.{◌&&◌, List, nat_lt, slice_index_or}
use Rattle.rules.specs.declared.limits.Limits.{Limits}
use Rattle.rules.specs.House.{Rule, SaysTheSame}
use Rattle.rules.specs.Limits.{zeros, is_between}
use Rattle.rules.specs.Settings.{settings_count}

-- yes to a new value between the limits of an entry that has some, whatever the last value was
abbrev pub range_allows : List Limits → Rule
range_allows limits entry _ new =
    nat_lt entry settings_count && is_between (slice_index_or limits entry zeros) new

-- a rule that says yes within these limits, and nowhere else
abbrev pub KeepsToLimits : Rule → List Limits → Type 0
KeepsToLimits rule limits = SaysTheSame rule (range_allows limits)
