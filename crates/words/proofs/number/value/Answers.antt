use Rattle.std.proofs.Common.{refl, ◌≡◌, ◌≤◌, ◌-◌, get_or, length, take, drop, arith}
use Rattle.words.specs.Numbers.{Number}
use Rattle.words.proofs.Numerals.{no_minus_zero, behind_minus}
use Rattle.words.proofs.number.value.Goals as goal

pub returns-then-size-eq0 : goal.returns-then-size-eq0
returns-then-size-eq0 c =
    let minus : get_or c.args.word.now 0 0 ≡ 45 = omega arith in
    let some : 1 ≤ length c.args.word.now = omega arith in
    let word = c.args.word.now in
    let digits = take (length c.args.word.now - 1) (drop 1 c.args.word.now) in
    let nought : Number 18 digits 0 = rw (← c.if-size-eq0.true) c.in_ok-size-in-45.ensures.read in
    (refl, no_minus_zero word digits (behind_minus word minus some) nought)
