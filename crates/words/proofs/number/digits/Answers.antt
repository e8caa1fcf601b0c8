use Rattle.std.proofs.Common.{refl, ◌≡◌, ◌+◌, ◌<◌, get_or, arith}
use Rattle.words.proofs.Numerals.{digits_so_far, ten_more}
use Rattle.words.proofs.number.digits.Goals as goal

pub loop-at-preserved : goal.loop-at-preserved
loop-at-preserved c =
    let byte = get_or c.args.word.now c.loop-at.at 0 in
    let digit : 48 + c.from.result ≡ get_or c.args.word.now c.loop-at.at 0 = omega (arith, c.from.ensures, c.if-not-is_ascii_digit.ensures.cases.0) in
    let small : c.from.result < 10 = omega (arith, c.from.ensures, c.if-not-is_ascii_digit.ensures.cases.1) in
    record {
      read = digits_so_far c.args.word.now c.loop-at.at c.loop-at.number byte c.from.result c.loop-at-test.true c.loop-at.invariant.read refl digit small;
      small = ten_more c.loop-at.at c.loop-at.number c.from.result c.loop-at.invariant.small small;
    }
