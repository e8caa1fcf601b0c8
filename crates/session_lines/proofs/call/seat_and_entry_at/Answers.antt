use Rattle.std.proofs.Common.{ℕ, [], ◌∷◌, drop}
use Rattle.session_lines.specs.Grammar.{Plain, AnyWord, InForm, Arguments}
use Rattle.words.specs.Words.{Words}
use Rattle.session_lines.proofs.Derivings.{stops_at_none, stops_at_word, not_two, read_so}
use Rattle.session_lines.proofs.call.seat_and_entry_at.Goals as goal

pub returns-in_err-seat : goal.returns-in_err-seat
returns-in_err-seat c =
    let text = drop c.args.at c.args.line.now in
    stops_at_none _ _ (λ how. (x : ℕ × ℕ) × Arguments how (Plain x.0 ∷ Plain x.1 ∷ []) text) c.from_residual.result c.two_words.result c.in_err-seat.field-0.0 _ c.from_residual.ensures.1 c.in_err-seat.ensures.value c.two_words.ensures
    (λ none d. not_two AnyWord (Plain d.0.0) (Plain d.0.1) text none d.1)

pub returns-in_err-seat-2 : goal.returns-in_err-seat-2
returns-in_err-seat-2 c =
    let text = drop c.args.at c.args.line.now in
    let ws = c.in_ok-seat.seat.now ∷ c.in_ok-seat.entry.now ∷ [] in
    let words : Words (c.in_ok-seat.seat.now ∷ c.in_ok-seat.entry.now ∷ []) (drop c.args.at c.args.line.now) = rw c.in_ok-seat.ensures.ok_part at c.two_words.ensures in
    stops_at_word _ (λ how. (x : ℕ × ℕ) × Arguments how (Plain x.0 ∷ Plain x.1 ∷ []) text) c.from_residual-in_err-seat-2.result c.in_err-seat-2.field-0.0 c.from_residual-in_err-seat-2.ensures.1 c.in_err-seat-2.ensures
    (λ none. (((0, 0), (ws, words, (tt, (tt, tt)))), λ d. none d.0.0 (read_so InForm (Plain d.0.0 ∷ Plain d.0.1 ∷ []) ws text words d.1).0))

pub returns-in_err-entry : goal.returns-in_err-entry
returns-in_err-entry c =
    let text = drop c.args.at c.args.line.now in
    let ws = c.in_ok-seat.seat.now ∷ c.in_ok-seat.entry.now ∷ [] in
    let words : Words (c.in_ok-seat.seat.now ∷ c.in_ok-seat.entry.now ∷ []) (drop c.args.at c.args.line.now) = rw c.in_ok-seat.ensures.ok_part at c.two_words.ensures in
    stops_at_word _ (λ how. (x : ℕ × ℕ) × Arguments how (Plain x.0 ∷ Plain x.1 ∷ []) text) c.from_residual-in_err-entry.result c.in_err-entry.field-0.0 c.from_residual-in_err-entry.ensures.1 c.in_err-entry.ensures
    (λ none. (((0, 0), (ws, words, (tt, (tt, tt)))), λ d. none d.0.1 (read_so InForm (Plain d.0.0 ∷ Plain d.0.1 ∷ []) ws text words d.1).1.0))

pub returns : goal.returns
returns c = (c.in_ok-seat.seat.now ∷ c.in_ok-seat.entry.now ∷ [], rw c.in_ok-seat.ensures.ok_part at c.two_words.ensures, (c.in_ok-seat-2.ensures, (c.in_ok-entry.ensures, tt)))
