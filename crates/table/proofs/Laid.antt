-- What a table just laid out holds and means.
use Rattle.std.proofs.Common.{◌≡◌, ℕ, zero, suc, ◌*◌, ◌<◌, ◌≤◌, cond, ltb, List, [], ◌∷◌, length, get_or, take, drop, refl, sym, ap, ◌∙◌, ⊎_elim, arith, add-zero, length-set, length-drop, get_or-drop}
use Rattle.std.specs.Prelude.{Vec}
use Rattle.std.specs.Vec.{with_items}
use Rattle.std.proofs.lemmas.Grind.{common_steps}
use Rattle.std.proofs.lemmas.List.{take_more, with_items_is}
use Rattle.std.proofs.lemmas.Bool.{cases_lt, cond-true, cond-false, lt-ltb, le-ltb}
use Rattle.store.specs.declared.slots.Slots.{Slots}
use Rattle.store.specs.Laying.{opening_chains}
use Rattle.store.specs.Slots.{AreLaidOut, writing_by}
use Rattle.store.proofs.SlotMeans.{laid_out_means}
use Rattle.store.specs.declared.version.Version.{Version}
use Rattle.store.specs.Meaning.{opening}
use Rattle.table.specs.Cells.{chain_in, cells_laid_out, table_reach, table_laid_out}
use Rattle.table.specs.Laws.{row_ends}

pub opened_length : (cells : List Version) (n d : ℕ) → length (cells_laid_out cells n d) ≡ length cells
opened_length cells zero d = refl
opened_length cells (suc n) d = length-set (cells_laid_out cells n d) (n * d) opening ∙ opened_length cells n d

pub opened_first : (cells : List Version) (n d e : ℕ) → e < n → e * d < length cells → get_or (cells_laid_out cells n d) (e * d) opening ≡ opening
opened_first cells zero d e inside within = absurd (omega arith)
opened_first cells (suc n) d e inside within =
    let long = opened_length cells n d in
    let earlier : e < n → get_or (cells_laid_out cells n d) (e * d) opening ≡ opening = λ before. opened_first cells n d e before within in
    grind (arith, common_steps)

-- a vector whose cells have become those of a table just laid out
module _ {Z : Type 0} (v : Vec Version Z) (cells : List Version) (slots : Slots) (m d : ℕ) (opens : cells ≡ cells_laid_out v.items m d) (laid : AreLaidOut table_reach m d slots) (fits : m * d ≤ v.len) where
  abbrev now : List Version
  now = (with_items v cells).items

  is : now ≡ cells_laid_out v.items m d
  is = with_items_is v cells (omega (arith, ap length opens, opened_length v.items m d, v.ok.0)) ∙ opens

  pub laid_room : slots.entries * slots.depth ≤ length now
  laid_room =
      let same : slots.entries * slots.depth ≡ m * d = λ i. laid.entries_are i * laid.depth_is i in
      omega (arith, same, ap length is, opened_length v.items m d, v.ok.0)

  module _ (deep : 2 ≤ d) where
    first_within : (e : ℕ) → e < m → e * d < length now
    first_within e inside =
        omega (arith, row_ends d e 1 m inside (omega arith), ap length is, opened_length v.items m d, v.ok.0)

    first : (e : ℕ) → e < m → get_or now (e * d) opening ≡ opening
    first e inside =
        rw is (opened_first v.items m d e inside (omega (arith, first_within e inside, ap length is, opened_length v.items m d)))

    pub laid_first : (e : ℕ) → e < slots.entries → get_or now (e * slots.depth) opening ≡ opening
    laid_first e inside =
        ap (λ k. get_or now (e * k) opening) laid.depth_is ∙ first e (omega (arith, laid.entries_are))

    laid_chain : (e : ℕ) → chain_in now slots e ≡ opening_chains m e
    laid_chain e =
        let at : chain_in now slots e ≡ take (cond (ltb e m) 1 0) (drop (e * d) now) = λ i. take (laid.lens e i) (drop (e * laid.depth_is i) now) in
        ⊎_elim
        (λ inside.
        let yes = lt-ltb e m inside in
        at ∙ ap (λ n. take n (drop (e * d) now)) (cond-true _ _ _ yes)
        ∙ take_more (drop (e * d) now) 0 opening (omega (arith, length-drop (e * d) now, first_within e inside))
        ∙ ap (λ v. v ∷ []) (get_or-drop (e * d) now 0 opening ∙ ap (λ k. get_or now k opening) (add-zero (e * d)) ∙ first e inside)
        ∙ sym (cond-true _ _ _ yes))
        (λ past.
        let no = le-ltb e m past in
        at ∙ ap (λ n. take n (drop (e * d) now)) (cond-false _ _ _ no) ∙ sym (cond-false _ _ _ no))
        (cases_lt e m)

    pub laid_means : writing_by slots (chain_in now slots) ≡ table_laid_out m d
    laid_means = laid_out_means table_reach m d slots (chain_in now slots) laid laid_chain
