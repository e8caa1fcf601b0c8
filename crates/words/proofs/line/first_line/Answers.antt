use Rattle.std.proofs.Common.{refl}
use Rattle.words.proofs.Splits.{line_too_long, no_line}
use Rattle.words.proofs.line.first_line.Goals as goal
use Rattle.words.proofs.line.first_line.Goals.{in_default-via-in-Some+else-line-le-LONGEST_LINE, in_default-via-in_default}

pub returns-in_default : goal.returns-in_default
returns-in_default c =
    elim c.in_default.branch [
      | in_default-via-in-Some+else-line-le-LONGEST_LINE w ↦
          (refl, λ line rest h. line_too_long w.in-Some.line.now line w.in-Some.rest.now rest c.args.text.now w.in-Some.ensures.0 w.in-Some.ensures.1 w.if-line-le-LONGEST_LINE.false h)
      | in_default-via-in_default w ↦ (refl, λ line rest h. no_line line rest c.args.text.now w.in_default.ensures h)
    ]
