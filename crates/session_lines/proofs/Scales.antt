-- The words of a timescale's line.
use Rattle.std.proofs.Common.{◌≡◌, List, ℕ, [], ◌∷◌, codes, sym}
use Rattle.words.specs.Words.{Words}
use Rattle.session_lines.specs.Grammar.{Strictness}
use Rattle.session_lines.specs.Scales.{amount_text, unit_text}
use Rattle.session_lines.specs.Timescales.{TimescaleLine}
use Rattle.session_lines.specs.declared.timescale.Timescale.{Timescale}
use Rattle.session_lines.proofs.Derivings.{same_three}

pub timescale_words : (line : List ℕ) (how : Strictness) (t : Timescale) → TimescaleLine line how t
    → Words (codes "timescale" ∷ amount_text t.amount ∷ unit_text t.unit ∷ []) line
timescale_words line how t (rest, leads, (([]), h, e)) = absurd e
timescale_words line how t (rest, leads, ((a ∷ []), h, e)) = absurd e.1
timescale_words line how t (rest, leads, ((a ∷ b ∷ []), h, e)) = (rest, leads, rw (← e.0, ← e.1.0) h)
timescale_words line how t (rest, leads, ((a ∷ b ∷ c ∷ ws), h, e)) = absurd e.1.1

pub words_timescale : (line a u : List ℕ) (how : Strictness) (t : Timescale) → Words (codes "timescale" ∷ a ∷ u ∷ []) line
    → amount_text t.amount ≡ a → unit_text t.unit ≡ u → TimescaleLine line how t
words_timescale line a u how t h is_amount is_unit = (h.0, h.1, (a ∷ u ∷ [], h.2, (sym is_amount, (sym is_unit, tt))))

-- whoever splits the line has the words of the timescale that it derives
pub same_scale : (n a u line : List ℕ) (how : Strictness) (t : Timescale) → Words (n ∷ a ∷ u ∷ []) line → TimescaleLine line how t
    → (n ≡ codes "timescale") × (a ≡ amount_text t.amount) × (u ≡ unit_text t.unit)
same_scale n a u line how t h d =
    same_three (codes "timescale") (amount_text t.amount) (unit_text t.unit) n a u line (timescale_words line how t d) h
