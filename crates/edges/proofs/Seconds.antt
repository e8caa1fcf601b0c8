-- What 1 and 2 count at 100 s.
use Rattle.std.proofs.Common.{◌≡◌, ℕ, ◌*◌, ◌^◌, List, slice_index, codes, false, true}
use Rattle.std.proofs.Common.{ℤ, pos, negsuc, ◌*ℤ◌, refl, ap, ◌∙◌, subst, arith}
use Rattle.std.proofs.lemmas.Bool.{false≢true}
use Rattle.store.specs.Numbers.{farthest}
use Rattle.store.specs.Steps.{is_within}
use Rattle.session_lines.specs.Grammar.{DerivesValue, InReach}
use Rattle.session_lines.specs.Scales.{factor}
use Rattle.edges.specs.Edges.{hundred_seconds}

pub one_reads : DerivesValue hundred_seconds (codes "1") InReach (pos (10 ^ 17))
one_reads = (
  (
    pos 1,
    record {
      some = omega arith;
      few = omega arith;
      plain = λ _. refl;
      digits = (1, 0, omega arith, refl, refl, refl);
    },
    refl,
  ),
  refl,
)

pub two_reads_not : (value : ℤ) → ¬ DerivesValue hundred_seconds (codes "2") InReach value
two_reads_not value ((pos n, number, is), near) =
    let digits = number.digits in
    let two : n ≡ 2 = omega arith in
    let far : value ≡ pos (2 * farthest) = is ∙ ap (λ k. pos k *ℤ pos (factor hundred_seconds)) two in
    let beyond : false ≡ true = subst (λ (z : ℤ). is_within farthest z ≡ true) far near in
    absurd (false≢true beyond)
two_reads_not value ((negsuc n, minus, is), near) =
    let heads : ◌≡◌ {A = ℕ} 50 45 = ap (λ (w : List ℕ). slice_index w 0) minus.1 in
    absurd (omega (arith, heads))
