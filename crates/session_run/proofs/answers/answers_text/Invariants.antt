use Rattle.std.proofs.Common.{◌≡◌, ◌++◌}
use Rattle.std.specs.String.{string_bytes}
use Rattle.std.specs.Iterator.Adapters.{zip_first, zip_second}
use Rattle.std.specs.Slice.Iter.{iter_rest}
use Rattle.session_run.specs.Texts.{answer_lines}
use Rattle.session_run.proofs.answers.answers_text.Given as goal

-- the text so far, with the lines of the calls and answers that are left, is the whole
abbrev pub invariant-loop-call : goal.invariant-loop-call
invariant-loop-call l =
    string_bytes l.text ++ answer_lines (iter_rest (zip_first l.call-iterator)) (iter_rest (zip_second l.call-iterator))
    ≡ answer_lines l.calls l.answers
