-- Laws of the last version of a chain.
use Rattle.std.proofs.Common.{◌≡◌, ◌-◌, List, [], ◌∷◌, ◌++◌, length, Some, refl, ap, ◌∙◌, arith}
use Rattle.std.specs.List.{slice_get}
use Rattle.std.specs.Option.{unwrap_or}
use Rattle.store.specs.declared.version.Version.{Version}
use Rattle.store.specs.Meaning.{last_version, opening}

nth_last : (v : Version) (vs : List Version) → slice_get (v ∷ vs) (length vs) ≡ Some (last_version (v ∷ vs))
nth_last v [] = refl
nth_last v (w ∷ vs) = nth_last w vs

-- what a look-up at the last place finds is the last version; where it finds nothing there is none
pub last_or_opening : (vs : List Version) → unwrap_or (slice_get vs (length vs - 1)) opening ≡ last_version vs
last_or_opening [] = refl
last_or_opening (w ∷ vs) =
    let at : length (w ∷ vs) - 1 ≡ length vs = omega arith in
    ap (λ o. unwrap_or o opening) (ap (slice_get (w ∷ vs)) at ∙ nth_last w vs)

-- the last of a chain followed by a version is that version
pub last_push : (vs : List Version) (v : Version) → last_version (vs ++ v ∷ []) ≡ v
last_push [] v = refl
last_push (w ∷ []) v = refl
last_push (w ∷ (x ∷ vs)) v = last_push (x ∷ vs) v
