-- A rule by steps, one for each entry.
use Rattle.std.specs.Prelude.{ℕ, Bool, ◌&&◌, ◌*◌, List, ℤ, ◌-ℤ◌, nat_le, nat_lt, slice_index_or, unsigned_abs}
use Rattle.store.specs.Numbers.{farthest}
use Rattle.rules.specs.declared.step.Step.{Step}
use Rattle.rules.specs.House.{Rule, SaysTheSame}
use Rattle.rules.specs.Settings.{settings_count}

-- a step by its number
abbrev pub step_of : ℕ → Step
step_of number = record { 0 = number }

-- from one end of the values to the other
abbrev pub longest : ℕ
longest = 2 * farthest

abbrev pub longest_step : Step
longest_step = step_of longest

abbrev pub step_stands : Step → Bool
step_stands step = nat_le step.0 longest

-- the new value is no farther from the last than the step
abbrev pub step_permits : Step → ℤ → ℤ → Bool
step_permits step last new = nat_le (unsigned_abs (new -ℤ last)) step.0

-- yes to a new value that is no farther from the last than the step of an entry that has one
abbrev pub step_allows : List Step → Rule
step_allows steps entry last new =
    nat_lt entry settings_count && step_permits (slice_index_or steps entry (step_of 0)) last new

-- a rule that says yes within these steps, and nowhere else
abbrev pub KeepsToSteps : Rule → List Step → Type 0
KeepsToSteps rule steps = SaysTheSame rule (step_allows steps)
