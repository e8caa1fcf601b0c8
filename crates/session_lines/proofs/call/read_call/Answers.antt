use Rattle.std.proofs.Common.{sym, ap, ◌∙◌, drop}
use Rattle.words.specs.Words.{Leads}
use Rattle.session_lines.proofs.Derivings.{stops_at_none}
use Rattle.calls.specs.Names.{name_text, name_of}
use Rattle.session_lines.specs.Grammar.{Derivable}
use Rattle.session_lines.specs.Calls.{CallLine}
use Rattle.session_lines.proofs.CallNames.{stops_behind}
use Rattle.calls.specs.declared.call.CallName.TheVariants.{Begin, Read, Write, Prepare, Vote, Decide, Abort, Finish, Close}
use Rattle.words.proofs.Splits.{same_word}
use Rattle.session_lines.proofs.call.read_call.Goals as goal

pub returns-in_err-name : goal.returns-in_err-name
returns-in_err-name c =
    stops_at_none _ _ (Derivable (CallLine c.args.timescale c.args.line.now)) c.from_residual.result c.next_word.result c.in_err-name.field-0.0 _ c.from_residual.ensures.1 c.in_err-name.ensures.value c.next_word.ensures
    (λ none d. none (name_text (name_of d.0)) d.1.0 d.1.1)

pub returns-in_err-ok_or : goal.returns-in_err-ok_or
returns-in_err-ok_or c =
    let leads : Leads c.in_ok-name.name.now (drop c.in_ok-name.at c.args.line.now) c.args.line.now = rw c.in_ok-name.ensures.ok_part at c.next_word.ensures in
    stops_at_none _ _ (Derivable (CallLine c.args.timescale c.args.line.now)) c.from_residual-in_err-ok_or.result c.of_word.result c.in_err-ok_or.field-0.0 _ c.from_residual-in_err-ok_or.ensures.1 c.in_err-ok_or.ensures.value c.of_word.ensures
    (λ none d. none (name_of d.0) (same_word (name_text (name_of d.0)) c.in_ok-name.name.now d.1.0 (drop c.in_ok-name.at c.args.line.now) c.args.line.now d.1.1 leads))

pub returns-in_err-seat-in-Begin : goal.returns-in_err-seat-in-Begin
returns-in_err-seat-in-Begin c =
    stops_behind c.args.timescale Begin c.args.line.now _ _ _ _ (rw c.in_ok-name.ensures.ok_part at c.next_word.ensures) (sym (ap name_text c.in-Begin.is) ∙ rw c.in_ok-ok_or.ensures.ok_part at c.of_word.ensures) c.in_err-seat-in-Begin.ensures c.from_residual-in_err-seat-in-Begin.ensures.1

pub returns-in_err-seat-in-Read : goal.returns-in_err-seat-in-Read
returns-in_err-seat-in-Read c =
    stops_behind c.args.timescale Read c.args.line.now _ _ _ _ (rw c.in_ok-name.ensures.ok_part at c.next_word.ensures) (sym (ap name_text c.in-Read.is) ∙ rw c.in_ok-ok_or.ensures.ok_part at c.of_word.ensures) c.in_err-seat-in-Read.ensures c.from_residual-in_err-seat-in-Read.ensures.1

pub returns-in_err-seat-in-Write : goal.returns-in_err-seat-in-Write
returns-in_err-seat-in-Write c =
    stops_behind c.args.timescale Write c.args.line.now _ _ _ _ (rw c.in_ok-name.ensures.ok_part at c.next_word.ensures) (sym (ap name_text c.in-Write.is) ∙ rw c.in_ok-ok_or.ensures.ok_part at c.of_word.ensures) c.in_err-seat-in-Write.ensures c.from_residual-in_err-seat-in-Write.ensures.1

pub returns-in_err-seat-in-Prepare : goal.returns-in_err-seat-in-Prepare
returns-in_err-seat-in-Prepare c =
    stops_behind c.args.timescale Prepare c.args.line.now _ _ _ _ (rw c.in_ok-name.ensures.ok_part at c.next_word.ensures) (sym (ap name_text c.in-Prepare.is) ∙ rw c.in_ok-ok_or.ensures.ok_part at c.of_word.ensures) c.in_err-seat-in-Prepare.ensures c.from_residual-in_err-seat-in-Prepare.ensures.1

pub returns-in_err-seat-in-Vote : goal.returns-in_err-seat-in-Vote
returns-in_err-seat-in-Vote c =
    stops_behind c.args.timescale Vote c.args.line.now _ _ _ _ (rw c.in_ok-name.ensures.ok_part at c.next_word.ensures) (sym (ap name_text c.in-Vote.is) ∙ rw c.in_ok-ok_or.ensures.ok_part at c.of_word.ensures) c.in_err-seat-in-Vote.ensures c.from_residual-in_err-seat-in-Vote.ensures.1

pub returns-in_err-seat-in-Decide : goal.returns-in_err-seat-in-Decide
returns-in_err-seat-in-Decide c =
    stops_behind c.args.timescale Decide c.args.line.now _ _ _ _ (rw c.in_ok-name.ensures.ok_part at c.next_word.ensures) (sym (ap name_text c.in-Decide.is) ∙ rw c.in_ok-ok_or.ensures.ok_part at c.of_word.ensures) c.in_err-seat-in-Decide.ensures c.from_residual-in_err-seat-in-Decide.ensures.1

pub returns-in_err-seat-in-Abort : goal.returns-in_err-seat-in-Abort
returns-in_err-seat-in-Abort c =
    stops_behind c.args.timescale Abort c.args.line.now _ _ _ _ (rw c.in_ok-name.ensures.ok_part at c.next_word.ensures) (sym (ap name_text c.in-Abort.is) ∙ rw c.in_ok-ok_or.ensures.ok_part at c.of_word.ensures) c.in_err-seat-in-Abort.ensures c.from_residual-in_err-seat-in-Abort.ensures.1

pub returns-in_err-seat-in-Finish : goal.returns-in_err-seat-in-Finish
returns-in_err-seat-in-Finish c =
    stops_behind c.args.timescale Finish c.args.line.now _ _ _ _ (rw c.in_ok-name.ensures.ok_part at c.next_word.ensures) (sym (ap name_text c.in-Finish.is) ∙ rw c.in_ok-ok_or.ensures.ok_part at c.of_word.ensures) c.in_err-seat-in-Finish.ensures c.from_residual-in_err-seat-in-Finish.ensures.1

pub returns-in_err-seat-in-Close : goal.returns-in_err-seat-in-Close
returns-in_err-seat-in-Close c =
    stops_behind c.args.timescale Close c.args.line.now _ _ _ _ (rw c.in_ok-name.ensures.ok_part at c.next_word.ensures) (sym (ap name_text c.in-Close.is) ∙ rw c.in_ok-ok_or.ensures.ok_part at c.of_word.ensures) c.in_err-seat-in-Close.ensures c.from_residual-in_err-seat-in-Close.ensures.1
