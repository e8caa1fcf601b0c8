use Rattle.std.proofs.lemmas.Bool.{both_ways}
use Rattle.std.proofs.Common.{◌≡◌, ℕ, refl, subst, ◌*◌, sym, ◌∙◌, arith, length-set}
use Rattle.record.specs.Numbers.{record_size}
use Rattle.record.specs.Journals.{records, opening_records}
use Rattle.image.proofs.Passes.{read_is, not_opening, opening_more, place_more, opening_heads}
use Rattle.image.proofs.heads.opening_heads.Goals as goal

pub returns-in_err-first-clause-none : goal.returns-in_err-first-clause-none
returns-in_err-first-clause-none c =
    let there = read_is c.args.bytes.now c.loop-e.e (omega (arith, c.requires.room)) in
    let was = c.in_err-first.was in
    let read = c.read.ensures in
    absurd (cc)

pub returns-then-not-is_opening-clause-none : goal.returns-then-not-is_opening-clause-none
returns-then-not-is_opening-clause-none c =
    not_opening c.args.bytes.now c.args.entries c.loop-e.e c.in_ok-first.first (omega (arith, c.requires.room)) (omega arith) (sym c.in_ok-first.was ∙ c.read.ensures) (λ is. absurd (both_ways _ refl (c.if-not-is_opening.ensures.1 is)))

pub loop-e-preserved : goal.loop-e-preserved
loop-e-preserved c = record {
  opening_ones = opening_more c.args.bytes.now c.loop-e.e c.in_ok-first.first (omega (arith, c.requires.room)) (sym c.in_ok-first.was ∙ c.read.ensures) (c.if-not-is_opening.ensures.0 refl) c.loop-e.invariant.opening_ones;
  long = length-set c.loop-e.lasts c.loop-e.e (record_size * c.loop-e.e) ∙ c.loop-e.invariant.long;
  places = place_more c.loop-e.lasts c.loop-e.e (omega (arith, c.loop-e.invariant.long, c.requires.few)) c.loop-e.invariant.places;
}

pub returns-clause-some : goal.returns-clause-some
returns-clause-some c =
    let m = c.args.entries in
    let last : c.loop-e.e ≡ m = omega arith in (
      subst (λ (n : ℕ). records c.args.bytes.now n ≡ opening_records n) last c.loop-e.invariant.opening_ones,
      opening_heads m c.loop-e.lasts c.requires.few (λ i below. c.loop-e.invariant.places i (omega arith)),
    )
