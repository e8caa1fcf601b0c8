use Rattle.std.proofs.Common.{drop}
use Rattle.words.proofs.Splits.{not_three}
use Rattle.words.proofs.token.three_words.Goals as goal

pub returns-in_err-second : goal.returns-in_err-second
returns-in_err-second c =
    rw c.from_residual-in_err-second.ensures
    (not_three c.in_ok-first.first.now (drop c.in_ok-first.next c.args.line.now) (drop c.args.at c.args.line.now) c.in_ok-first.ensures c.in_err-second.ensures)
