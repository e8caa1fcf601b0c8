-- How the answers of a session are printed.
use Rattle.std.specs.Prelude.{ℕ, List, [], ◌∷◌, ◌++◌, Ok, Err, codes}
use Rattle.std.specs.Fmt.{decimal}
use Rattle.calls.specs.Answers.{Answer}
use Rattle.calls.specs.Texts.{reply_text}
use Rattle.session_lines.specs.Faults.{session_fault_text}
use Rattle.session_lines.specs.declared.fault.Cause.TheVariants.{Pool}
use Rattle.session_file.specs.declared.session.LineCall.{LineCall}

-- a line number with a reply or with a refusal
abbrev pub answer_text : ℕ → Answer → List ℕ
answer_text line (Ok reply) = decimal line ++ codes " " ++ reply_text reply
answer_text line (Err fault) = session_fault_text record { line = line; cause = Pool fault }

-- the answer to each call, under the line of the call
abbrev pub answer_lines : List LineCall → List Answer → List ℕ
answer_lines (call ∷ calls) (answer ∷ answers) =
    (answer_text call.line answer ++ codes "\n") ++ answer_lines calls answers
answer_lines _ _ = []
