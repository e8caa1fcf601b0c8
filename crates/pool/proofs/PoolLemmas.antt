-- A pool with the same store, rule and table is the same pool, and what a finish and a withdrawal of all leave.
use Rattle.std.proofs.Common.{◌≡◌, ℕ, ◌≤◌, sym, ap₂, subst}
use Rattle.std.proofs.Props.{props}
use Rattle.store.specs.declared.reading.ReadingStore as reading_store
use Rattle.store.specs.declared.writing.WritingStore as writing_store
use Rattle.rules.specs.declared.house.HouseRule as house_rule
use Rattle.pool.specs.declared.pool.Pool.{Pool}
use Rattle.pool.specs.declared.table.InnerTable.{InnerTable}
use Rattle.pool.specs.Tables.{IsSoundTable}

sound_once : (t : InnerTable) → IsProp (IsSoundTable t)
sound_once t = hlevel props

few_once : (n : ℕ) → IsProp (n ≤ 64)
few_once n = hlevel props

module _ {S R : Type 0} {w : writing_store.Ghosts S} {s : reading_store.Ghosts S} {r : house_rule.Ghosts R} where
  pub same_pool : (p : Pool S R w s r) (store : S) (few : (s.reading store).entries ≤ 64) (sound : IsSoundTable p.table) → store ≡ p.store
      → ◌≡◌ {A = Pool S R w s r} (record { store = store; rule = p.rule; table = p.table; few = few; sound = sound }) p
  same_pool p store few sound e =
      subst
      (λ (x : S). (f : (s.reading x).entries ≤ 64) → ◌≡◌ {A = Pool S R w s r} (record { store = x; rule = p.rule; table = p.table; few = f; sound = sound }) p)
      (sym e)
      (λ f. ap₂ (λ (f : (s.reading p.store).entries ≤ 64) (g : IsSoundTable p.table). record { store = p.store; rule = p.rule; table = p.table; few = f; sound = g })
      (few_once _ f p.few) (sound_once p.table sound p.sound))
      few
