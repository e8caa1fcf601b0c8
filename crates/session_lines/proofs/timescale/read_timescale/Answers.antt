use Rattle.std.proofs.Common.{rules, ◌≡◌, [], ◌∷◌, codes, sym}
use Rattle.words.specs.Words.{Words}
use Rattle.session_lines.specs.Grammar.{Derivable, AnyWord, InReach}
use Rattle.session_lines.specs.Scales.{amount_text, unit_text}
use Rattle.session_lines.specs.Timescales.{TimescaleLine}
use Rattle.session_lines.proofs.Derivings.{stops_at_none}
use Rattle.session_lines.proofs.Scales.{same_scale, timescale_words, words_timescale}
use Rattle.session_lines.proofs.timescale.read_timescale.Goals as goal

pub returns-in_err-name : goal.returns-in_err-name
returns-in_err-name c =
    stops_at_none _ _ (Derivable (TimescaleLine c.args.line.now)) c.from_residual.result c.three_words.result c.in_err-name.field-0.0 _ c.from_residual.ensures.1 c.in_err-name.ensures.value c.three_words.ensures
    (λ none d. none (codes "timescale") (amount_text d.0.amount) (unit_text d.0.unit) (timescale_words c.args.line.now AnyWord d.0 d.1))

pub returns-then-ne : goal.returns-then-ne
returns-then-ne c =
    let words : Words (c.in_ok-name.name.now ∷ c.in_ok-name.amount.now ∷ c.in_ok-name.unit.now ∷ []) c.args.line.now = rw c.in_ok-name.ensures.ok_part at c.three_words.ensures in
    let other : c.in_ok-name.name.now ≡ codes "timescale" → ⊥ = search rules in
    rw c.into.ensures (λ d. other (same_scale c.in_ok-name.name.now c.in_ok-name.amount.now c.in_ok-name.unit.now c.args.line.now AnyWord d.0 words d.1).0)

pub returns-in_err-amount : goal.returns-in_err-amount
returns-in_err-amount c =
    let words : Words (c.in_ok-name.name.now ∷ c.in_ok-name.amount.now ∷ c.in_ok-name.unit.now ∷ []) c.args.line.now = rw c.in_ok-name.ensures.ok_part at c.three_words.ensures in
    stops_at_none _ _ (Derivable (TimescaleLine c.args.line.now)) c.from_residual-in_err-amount.result c.of_word.result c.in_err-amount.field-0.0 _ c.from_residual-in_err-amount.ensures.1 c.in_err-amount.ensures.value c.of_word.ensures
    (λ none d. none d.0.amount (sym (same_scale c.in_ok-name.name.now c.in_ok-name.amount.now c.in_ok-name.unit.now c.args.line.now AnyWord d.0 words d.1).1))

pub returns-in_err-unit : goal.returns-in_err-unit
returns-in_err-unit c =
    let words : Words (c.in_ok-name.name.now ∷ c.in_ok-name.amount.now ∷ c.in_ok-name.unit.now ∷ []) c.args.line.now = rw c.in_ok-name.ensures.ok_part at c.three_words.ensures in
    stops_at_none _ _ (Derivable (TimescaleLine c.args.line.now)) c.from_residual-in_err-unit.result c.of_word-2.result c.in_err-unit.field-0.0 _ c.from_residual-in_err-unit.ensures.1 c.in_err-unit.ensures.value c.of_word-2.ensures
    (λ none d. none d.0.unit (sym (same_scale c.in_ok-name.name.now c.in_ok-name.amount.now c.in_ok-name.unit.now c.args.line.now AnyWord d.0 words d.1).2))

pub returns : goal.returns
returns c =
    let words : Words (c.in_ok-name.name.now ∷ c.in_ok-name.amount.now ∷ c.in_ok-name.unit.now ∷ []) c.args.line.now = rw c.in_ok-name.ensures.ok_part at c.three_words.ensures in
    let is : c.in_ok-name.name.now ≡ codes "timescale" = search rules in
    let is_amount : amount_text c.in_ok-amount.amount ≡ c.in_ok-name.amount.now = rw c.in_ok-amount.ensures.ok_part at c.of_word.ensures in
    let is_unit : unit_text c.in_ok-unit.unit ≡ c.in_ok-name.unit.now = rw c.in_ok-unit.ensures.ok_part at c.of_word-2.ensures in
    words_timescale c.args.line.now c.in_ok-name.amount.now c.in_ok-name.unit.now InReach (record { amount = c.in_ok-amount.amount; unit = c.in_ok-unit.unit }) (rw is at words) is_amount is_unit
