use Rattle.std.proofs.Common.{refl, ◌≢◌, get_or, arith}
use Rattle.words.proofs.Splits.{word_at}
use Rattle.words.proofs.token.token_at.Goals as goal

pub returns-in-Some-cut : goal.returns-in-Some-cut
returns-in-Some-cut c =
    let not_blank : get_or c.in-Some.rest.now 0 0 ≢ 32 = omega arith in
    (refl, word_at c.args.at c.args.line.now c.in-Some.rest.now c.in-Some-cut.text.now c.in-Some-cut.field-0-1.now c.in-Some.ensures.lookup.0.2 c.in-Some-cut.ensures.0 c.in-Some-cut.ensures.1 not_blank)
