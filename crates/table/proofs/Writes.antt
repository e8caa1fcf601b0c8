-- What staging and publishing do to the chains of a table.
use Rattle.std.proofs.Common.{◌≡◌, ℕ, ◌+◌, ◌-◌, ◌*◌, ◌<◌, ◌≤◌, cond, eqb, ◌≢◌, List, [], ◌∷◌, ◌++◌, length, get_or, take, drop, set, Ok, Err, Option, None, OnOk, OnErr, sym, ap, ◌∙◌, ⊎_elim, arith, length-drop, drop-set-lt, get_or-set_other}
use mathlib.Core.Path.{fun_ext}
use lib.Seq.{drop-set-add, take-set-le}
use Rattle.std.proofs.lemmas.Grind.{common_steps}
use Rattle.std.proofs.lemmas.List.{take_more_set}
use Rattle.std.proofs.lemmas.Bool.{cases_eq, cases_lt, cond-true, cond-false, eq-eqb, ne_eqb}
use Rattle.store.specs.declared.version.Version.{Version}
use Rattle.store.specs.declared.slots.Slots.{Slots}
use Rattle.store.specs.Meaning.{opening}
use Rattle.store.specs.Steps.{StoreAnswer, PublishMeans}
use Rattle.store.specs.Slots.{len_at, ready_answer, PutsSlot, writing_by}
use Rattle.store.specs.SlotLaws.{len_least, len_most}
use Rattle.store.proofs.SlotMeans.{lens_kept, ready_inside, ready_room, publish_means}
use Rattle.table.specs.declared.TableStore.{TableStore}
use Rattle.table.specs.Cells.{chain_in}
use Rattle.table.specs.Stores.{table_writing, cells_of, chain_at}
use Rattle.table.specs.Laws.{row_ends}

-- where no length changes the chains are as they were
pub chains_kept : (s : TableStore) (new : Slots) (entry : ℕ) (staged : Option Version) (result : StoreAnswer)
    → OnOk result (PutsSlot s.slots entry (len_at s.slots entry) staged new) → OnErr result (new ≡ s.slots) → chain_in (cells_of s) new ≡ chain_at s
chains_kept s new entry staged (Ok done) puts kept =
    fun_ext (λ k. λ i. take (lens_kept s.slots new entry staged puts k i) (drop (k * puts.same_depth i) (cells_of s)))
chains_kept s new entry staged (Err refusal) puts kept = ap (chain_in (cells_of s)) kept

-- a write behind the first n cells from a on, or before them, leaves them as they are
write_behind : (cells : List Version) (a n p : ℕ) (v : Version) → a + n ≤ p → take n (drop a (set cells p v)) ≡ take n (drop a cells)
write_behind cells a n p v behind =
    let at : p ≡ a + (p - a) = omega arith in
    let put = drop-set-add a cells (p - a) v in
    let kept = take-set-le n (drop a cells) (p - a) v (omega arith) in
    grind (arith, common_steps)

module _ (s : TableStore) (entry : ℕ) (version : Version) (ready : Ok version ≡ ready_answer s.slots entry) where
  abbrev depth : ℕ
  depth = s.slots.depth

  abbrev len : ℕ
  len = len_at s.slots entry

  -- the cell that is written
  abbrev next : ℕ
  next = entry * depth + len

  abbrev now : List Version
  now = set (cells_of s) next version

  inside : entry < s.slots.entries
  inside = ready_inside s.slots entry version ready

  short : len < depth
  short = ready_room s.slots entry version ready

  pub next_inside : next < length (cells_of s)
  next_inside = omega (arith, row_ends depth entry (len + 1) s.slots.entries inside (omega (arith, short)), s.room)

  -- the new version is no entry's first
  no_first : (k : ℕ) → k * depth ≡ next → ⊥
  no_first k is =
      let least = len_least s.slots entry inside in
      ⊎_elim
      (λ before. omega (arith, is, row_ends depth k 1 entry before (omega (arith, s.slots.deep))))
      (λ after.
      ⊎_elim
      (λ (same : k ≡ entry). omega (arith, is, ap (λ i. i * depth) same, least))
      (λ apart. omega (arith, is, row_ends depth entry (len + 1) k (omega (arith, after, apart)) (omega (arith, short))))
      (cases_eq k entry))
      (cases_lt k entry)

  pub first_kept : (k : ℕ) → k < s.slots.entries → get_or now (k * depth) opening ≡ opening
  first_kept k there = get_or-set_other (cells_of s) next (k * depth) version opening (no_first k) ∙ s.first k there

  other_kept : (k : ℕ) → k ≢ entry → take (len_at s.slots k) (drop (k * depth) now) ≡ chain_at s k
  other_kept k apart =
      ⊎_elim
      (λ before. write_behind (cells_of s) (k * depth) (len_at s.slots k) next version (omega (arith, row_ends depth k (len_at s.slots k) entry before (len_most s.slots k))))
      (λ after. ap (take (len_at s.slots k)) (drop-set-lt (k * depth) (cells_of s) next version (omega (arith, row_ends depth entry (len + 1) k (omega (arith, apart)) (omega (arith, short))))))
      (cases_lt k entry)

  own_grown : take (len + 1) (drop (entry * depth) now) ≡ chain_at s entry ++ version ∷ []
  own_grown =
      let room = row_ends depth entry depth s.slots.entries inside (omega arith) in
      let put = drop-set-add (entry * depth) (cells_of s) len version in
      let more = take_more_set (drop (entry * depth) (cells_of s)) len version (omega (arith, length-drop (entry * depth) (cells_of s), s.room, short)) in
      grind (arith, common_steps)

  module _ (new : Slots) (puts : PutsSlot s.slots entry (len + 1) None new) where
    chains_grown : (k : ℕ) → chain_in now new k ≡ cond (eqb k entry) (chain_at s entry ++ version ∷ []) (chain_at s k)
    chains_grown k =
        let width = puts.same_depth in
        ⊎_elim
        (λ (same : k ≡ entry).
        (λ i. take ((puts.lens k ∙ cond-true _ _ _ (eq-eqb k entry same)) i) (drop (same i * width i) now))
        ∙ own_grown ∙ sym (cond-true _ _ _ (eq-eqb k entry same)))
        (λ apart.
        (λ i. take ((puts.lens k ∙ cond-false _ _ _ (ne_eqb k entry apart)) i) (drop (k * width i) now))
        ∙ other_kept k apart ∙ sym (cond-false _ _ _ (ne_eqb k entry apart)))
        (cases_eq k entry)

    pub publishes : PublishMeans (table_writing s) entry (Ok tt) (writing_by new (chain_in now new))
    publishes = publish_means s.slots new entry (chain_at s) (chain_in now new) version ready puts chains_grown
