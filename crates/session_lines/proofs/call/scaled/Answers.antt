use Rattle.std.proofs.Common.{rules, ◌∙◌, to_z, of_z, w64, ◌≡◌, ℤ, ◌*ℤ◌, pos, refl, Option, Some, None, MatchOption}
use Rattle.std.specs.Prelude.{SomeIff}
use Rattle.session_lines.specs.Grammar.{IsInReach, DerivesValue}
use Rattle.session_lines.specs.Scales.{factor}
use Rattle.session_lines.proofs.Derivings.{stops_at_none, stops_at_word}
use Rattle.words.proofs.Numerals.{value_one}
use Rattle.session_lines.proofs.call.scaled.Goals as goal

either : {A : Type 0} (found : Option A) (P : Type 0) (v : A) → SomeIff found P v → MatchOption found (¬ P) (λ x. P × (x ≡ v))
either None P v h = h
either (Some x) P v h = h

pub returns-in_err-value : goal.returns-in_err-value
returns-in_err-value c =
    stops_at_word _ (λ how. (z : ℤ) × DerivesValue c.args.timescale c.args.word.now how z) c.from_residual.result c.in_err-value.field-0.0 c.from_residual.ensures.1 c.in_err-value.ensures
    (λ none. ((pos 0, tt), λ d. none d.1.0 d.1.1))

pub returns-in_err-scaled : goal.returns-in_err-scaled
returns-in_err-scaled c =
    stops_at_none _ _ (λ how. (z : ℤ) × DerivesValue c.args.timescale c.args.word.now how z) c.from_residual-in_err-scaled.result c.within_reach.result c.in_err-scaled.field-0.0 _ c.from_residual-in_err-scaled.ensures.1 c.in_err-scaled.ensures.value (either c.within_reach.result _ _ c.within_reach.ensures)
    (λ none. (
      (c.in_ok-value.value *ℤ pos (factor c.args.timescale), (c.in_ok-value.value, c.in_ok-value.ensures, refl)),
      λ d. none (
          let same : to_z w64 (of_z w64 c.in_ok-value.value) ≡ c.in_ok-value.value = search rules in
          let times : to_z w64 (of_z w64 c.factor.result) ≡ c.factor.result = search rules in
          let one : d.1.0.0 ≡ c.in_ok-value.value = value_one c.args.word.now d.1.0.0 c.in_ok-value.value d.1.0.1 c.in_ok-value.ensures in
          rw (same, times, c.factor.ensures, ← one, ← d.1.0.2) d.1.1),
    ))

pub returns : goal.returns
returns c =
    let found : IsInReach (to_z w64 (of_z w64 c.in_ok-value.value) *ℤ to_z w64 (of_z w64 c.factor.result)) × (c.in_ok-scaled.scaled ≡ to_z w64 (of_z w64 c.in_ok-value.value) *ℤ to_z w64 (of_z w64 c.factor.result)) = rw c.in_ok-scaled.ensures.ok_part at c.within_reach.ensures in
    let same : to_z w64 (of_z w64 c.in_ok-value.value) ≡ c.in_ok-value.value = search rules in
    let times : to_z w64 (of_z w64 c.factor.result) ≡ c.factor.result = search rules in
    let again : to_z w64 (of_z w64 c.in_ok-scaled.scaled) ≡ c.in_ok-scaled.scaled = search rules in
    rw again ((c.in_ok-value.value, c.in_ok-value.ensures, (found.1 ∙ rw (same, times, c.factor.ensures) refl)), rw found.1 found.0)
