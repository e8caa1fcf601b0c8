-- A law of the text of a chain.
use Rattle.std.proofs.Common.{◌≡◌, ◌+◌, ℕ, List, [], ◌∷◌, ◌++◌, take, Some, ap, ◌∙◌, sym}
use Rattle.std.proofs.lemmas.List.{take_more, flat_map_more}
use Rattle.std.proofs.lemmas.Option.{slice_get_within, get_or_from_slice_get}
use Rattle.std.specs.List.{slice_get}
use Rattle.store.specs.declared.version.Version.{Version}
use Rattle.store.specs.Texts.{chain_text, version_line}

-- with one more version of the chain, one more line
pub next_line : (vs : List Version) (i : ℕ) (v : Version) (before after : List ℕ) → before ≡ chain_text (take i vs) → slice_get vs i ≡ Some v
    → after ≡ before ++ version_line v → after ≡ chain_text (take (i + 1) vs)
next_line vs i v before after so_far found written =
    let more : take (i + 1) vs ≡ take i vs ++ v ∷ [] =
    take_more vs i v (slice_get_within vs i v found) ∙ ap (λ w. take i vs ++ w ∷ []) (get_or_from_slice_get vs i v v found) in
    written ∙ ap (λ bs. bs ++ version_line v) so_far ∙ flat_map_more version_line [] (take i vs) v ∙ ap chain_text (sym more)
