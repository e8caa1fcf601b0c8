use Rattle.std.proofs.Common.{rules, to_z, of_z, w64, ◌≡◌, ℕ, ℤ, pos, [], ◌∷◌, drop}
use Rattle.session_lines.specs.Grammar.{Plain, Scaled, AnyWord, InForm, DerivesValue, Arguments}
use Rattle.words.specs.Words.{Words}
use Rattle.session_lines.proofs.Derivings.{stops_at_none, stops_at_word, stops_at_fault, not_three, read_so, number_reads}
use Rattle.session_lines.proofs.call.edit_at.Goals as goal

pub returns-in_err-seat : goal.returns-in_err-seat
returns-in_err-seat c =
    let text = drop c.args.at c.args.line.now in
    stops_at_none _ _ (λ how. (x : ℕ × ℕ × ℤ) × Arguments how (Plain x.0 ∷ Plain x.1 ∷ Scaled c.args.timescale x.2 ∷ []) text) c.from_residual.result c.three_words.result c.in_err-seat.field-0.0 _ c.from_residual.ensures.1 c.in_err-seat.ensures.value c.three_words.ensures
    (λ none d. not_three AnyWord (Plain d.0.0) (Plain d.0.1) (Scaled c.args.timescale d.0.2) text none d.1)

pub returns-in_err-seat-2 : goal.returns-in_err-seat-2
returns-in_err-seat-2 c =
    let text = drop c.args.at c.args.line.now in
    let ws = c.in_ok-seat.seat.now ∷ c.in_ok-seat.entry.now ∷ c.in_ok-seat.value.now ∷ [] in
    let words : Words (c.in_ok-seat.seat.now ∷ c.in_ok-seat.entry.now ∷ c.in_ok-seat.value.now ∷ []) (drop c.args.at c.args.line.now) = rw c.in_ok-seat.ensures.ok_part at c.three_words.ensures in
    stops_at_word _ (λ how. (x : ℕ × ℕ × ℤ) × Arguments how (Plain x.0 ∷ Plain x.1 ∷ Scaled c.args.timescale x.2 ∷ []) text) c.from_residual-in_err-seat-2.result c.in_err-seat-2.field-0.0 c.from_residual-in_err-seat-2.ensures.1 c.in_err-seat-2.ensures
    (λ none. (((0, 0, pos 0), (ws, words, (tt, (tt, (tt, tt))))), λ d. none d.0.0 (read_so InForm (Plain d.0.0 ∷ Plain d.0.1 ∷ Scaled c.args.timescale d.0.2 ∷ []) ws text words d.1).0))

pub returns-in_err-entry : goal.returns-in_err-entry
returns-in_err-entry c =
    let text = drop c.args.at c.args.line.now in
    let ws = c.in_ok-seat.seat.now ∷ c.in_ok-seat.entry.now ∷ c.in_ok-seat.value.now ∷ [] in
    let words : Words (c.in_ok-seat.seat.now ∷ c.in_ok-seat.entry.now ∷ c.in_ok-seat.value.now ∷ []) (drop c.args.at c.args.line.now) = rw c.in_ok-seat.ensures.ok_part at c.three_words.ensures in
    stops_at_word _ (λ how. (x : ℕ × ℕ × ℤ) × Arguments how (Plain x.0 ∷ Plain x.1 ∷ Scaled c.args.timescale x.2 ∷ []) text) c.from_residual-in_err-entry.result c.in_err-entry.field-0.0 c.from_residual-in_err-entry.ensures.1 c.in_err-entry.ensures
    (λ none. (((0, 0, pos 0), (ws, words, (tt, (tt, (tt, tt))))), λ d. none d.0.1 (read_so InForm (Plain d.0.0 ∷ Plain d.0.1 ∷ Scaled c.args.timescale d.0.2 ∷ []) ws text words d.1).1.0))

pub returns-in_err-value : goal.returns-in_err-value
returns-in_err-value c =
    let text = drop c.args.at c.args.line.now in
    let ws = c.in_ok-seat.seat.now ∷ c.in_ok-seat.entry.now ∷ c.in_ok-seat.value.now ∷ [] in
    let words : Words (c.in_ok-seat.seat.now ∷ c.in_ok-seat.entry.now ∷ c.in_ok-seat.value.now ∷ []) (drop c.args.at c.args.line.now) = rw c.in_ok-seat.ensures.ok_part at c.three_words.ensures in
    stops_at_fault _ (λ how. (z : ℤ) × DerivesValue c.args.timescale c.in_ok-seat.value.now how z) (λ how. (x : ℕ × ℕ × ℤ) × Arguments how (Plain x.0 ∷ Plain x.1 ∷ Scaled c.args.timescale x.2 ∷ []) text) c.from_residual-in_err-value.result c.in_err-value.field-0.0 c.from_residual-in_err-value.ensures.1 c.in_err-value.ensures
    (λ how d. ((c.in_ok-seat-2.seat, c.in_ok-entry.entry, d.0), (ws, words, (number_reads how c.in_ok-seat.seat.now c.in_ok-seat-2.seat c.in_ok-seat-2.ensures, (number_reads how c.in_ok-seat.entry.now c.in_ok-entry.entry c.in_ok-entry.ensures, (d.1, tt))))))
    (λ how d. (d.0.2, (read_so how (Plain d.0.0 ∷ Plain d.0.1 ∷ Scaled c.args.timescale d.0.2 ∷ []) ws text words d.1).1.1.0))

pub returns : goal.returns
returns c =
    let same : to_z w64 (of_z w64 c.in_ok-value.value) ≡ c.in_ok-value.value = search rules in
    rw same (c.in_ok-seat.seat.now ∷ c.in_ok-seat.entry.now ∷ c.in_ok-seat.value.now ∷ [], rw c.in_ok-seat.ensures.ok_part at c.three_words.ensures, (c.in_ok-seat-2.ensures, (c.in_ok-entry.ensures, (c.in_ok-value.ensures, tt))))
