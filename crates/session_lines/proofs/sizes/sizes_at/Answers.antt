use Rattle.std.proofs.Common.{[], ◌∷◌, drop}
use Rattle.session_lines.specs.Grammar.{Plain, AnyWord, InForm, Arguments}
use Rattle.words.specs.Words.{Words}
use Rattle.session_lines.proofs.Derivings.{stops_at_none, stops_at_word, not_three, read_so}
use Rattle.session_lines.specs.Sizes.{size_arguments}
use Rattle.session_lines.specs.declared.sizes.Sizes.{Sizes}
use Rattle.session_lines.proofs.sizes.sizes_at.Goals as goal

pub returns-in_err-seats : goal.returns-in_err-seats
returns-in_err-seats c =
    let text = drop c.args.at c.args.line.now in
    stops_at_none _ _ (λ how. (x : Sizes) × Arguments how (size_arguments x) text) c.from_residual.result c.three_words.result c.in_err-seats.field-0.0 _ c.from_residual.ensures.1 c.in_err-seats.ensures.value c.three_words.ensures
    (λ none d. not_three AnyWord (Plain d.0.seats) (Plain d.0.entries) (Plain d.0.depth) text none d.1)

pub returns-in_err-seats-2 : goal.returns-in_err-seats-2
returns-in_err-seats-2 c =
    let text = drop c.args.at c.args.line.now in
    let ws = c.in_ok-seats.seats.now ∷ c.in_ok-seats.entries.now ∷ c.in_ok-seats.depth.now ∷ [] in
    let words : Words (c.in_ok-seats.seats.now ∷ c.in_ok-seats.entries.now ∷ c.in_ok-seats.depth.now ∷ []) (drop c.args.at c.args.line.now) = rw c.in_ok-seats.ensures.ok_part at c.three_words.ensures in
    stops_at_word _ (λ how. (x : Sizes) × Arguments how (size_arguments x) text) c.from_residual-in_err-seats-2.result c.in_err-seats-2.field-0.0 c.from_residual-in_err-seats-2.ensures.1 c.in_err-seats-2.ensures
    (λ none. ((record { seats = 0; entries = 0; depth = 0 }, (ws, words, (tt, (tt, (tt, tt))))), λ d. none d.0.seats (read_so InForm (size_arguments d.0) ws text words d.1).0))

pub returns-in_err-entries : goal.returns-in_err-entries
returns-in_err-entries c =
    let text = drop c.args.at c.args.line.now in
    let ws = c.in_ok-seats.seats.now ∷ c.in_ok-seats.entries.now ∷ c.in_ok-seats.depth.now ∷ [] in
    let words : Words (c.in_ok-seats.seats.now ∷ c.in_ok-seats.entries.now ∷ c.in_ok-seats.depth.now ∷ []) (drop c.args.at c.args.line.now) = rw c.in_ok-seats.ensures.ok_part at c.three_words.ensures in
    stops_at_word _ (λ how. (x : Sizes) × Arguments how (size_arguments x) text) c.from_residual-in_err-entries.result c.in_err-entries.field-0.0 c.from_residual-in_err-entries.ensures.1 c.in_err-entries.ensures
    (λ none. ((record { seats = 0; entries = 0; depth = 0 }, (ws, words, (tt, (tt, (tt, tt))))), λ d. none d.0.entries (read_so InForm (size_arguments d.0) ws text words d.1).1.0))

pub returns-in_err-depth : goal.returns-in_err-depth
returns-in_err-depth c =
    let text = drop c.args.at c.args.line.now in
    let ws = c.in_ok-seats.seats.now ∷ c.in_ok-seats.entries.now ∷ c.in_ok-seats.depth.now ∷ [] in
    let words : Words (c.in_ok-seats.seats.now ∷ c.in_ok-seats.entries.now ∷ c.in_ok-seats.depth.now ∷ []) (drop c.args.at c.args.line.now) = rw c.in_ok-seats.ensures.ok_part at c.three_words.ensures in
    stops_at_word _ (λ how. (x : Sizes) × Arguments how (size_arguments x) text) c.from_residual-in_err-depth.result c.in_err-depth.field-0.0 c.from_residual-in_err-depth.ensures.1 c.in_err-depth.ensures
    (λ none. ((record { seats = 0; entries = 0; depth = 0 }, (ws, words, (tt, (tt, (tt, tt))))), λ d. none d.0.depth (read_so InForm (size_arguments d.0) ws text words d.1).1.1.0))

pub returns : goal.returns
returns c = (c.in_ok-seats.seats.now ∷ c.in_ok-seats.entries.now ∷ c.in_ok-seats.depth.now ∷ [], rw c.in_ok-seats.ensures.ok_part at c.three_words.ensures, (c.in_ok-seats-2.ensures, (c.in_ok-entries.ensures, (c.in_ok-depth.ensures, tt))))
