-- Locks that are shared, claimed and released: who holds them then.
use Rattle.std.proofs.Common.{◌≡◌, ℕ, ◌<◌, Bool, true, false, cond, not, ◌&&◌, ◌||◌, eqb, ◌⊎◌, is_some, Some, None, Ok, Err, Option, sym, refl, ap, ◌∙◌, subst, ap₂, inl, inr, arith}
use Rattle.std.specs.Int.Bits.{and_zero_l}
use Rattle.std.specs.Int.{w64, bit_not}
use Rattle.std.specs.Prelude.{◌^◌}
use Rattle.std.proofs.lemmas.Bool.{eq-eqb, ne_eqb, eqb-true}
use Rattle.calls.specs.declared.fault.Fault.TheVariants.{LockInTheWay}
use Rattle.pool.specs.declared.table.Row.{Row}
use Rattle.pool.specs.Masks.{has_member, with_member, without_member}
use Rattle.pool.specs.Locks.{row, is_lock, by_writer, is_writer, holds, shared_row, claimed_row, released_row}
use Rattle.pool.proofs.MaskLemmas.{has-zero, has-with, has-without}

-- what cannot be
pub no : {A : Type 0} → ◌≡◌ {A = ℕ} 0 1 → A
no z = absurd (omega arith)

-- a lock that is put for a seat: the seat holds it, and every other seat holds as before
pub record PutFor (old : Row) (seat : ℕ) (new : Row) : Type 0 where
  pub lock : is_lock new ≡ true
  pub own : holds new seat ≡ true
  pub others : (q : ℕ) → q < 64 → (q ≡ seat → ⊥) → holds new q ≡ holds old q

self_writer : (p : ℕ) → cond (eqb p p) true false ≡ true
self_writer p = ap (λ (b : Bool). cond b true false) (eq-eqb p p refl)

other_writer : (p q : ℕ) → (q ≡ p → ⊥) → cond (eqb p q) true false ≡ false
other_writer p q n = ap (λ (b : Bool). cond b true false) (ne_eqb p q (λ e. n (sym e)))

or_true : (b : Bool) → (b || true) ≡ true
or_true true = refl
or_true false = refl

or_false : (b : Bool) → (b || false) ≡ b
or_false true = refl
or_false false = refl

and_true : (b : Bool) → (b && true) ≡ b
and_true true = refl
and_true false = refl

pub shared_put : (old new : Row) (p : ℕ) → shared_row old p ≡ Ok new
    → PutFor old p new × (new ≡ row old.writer (cond (is_writer old p) old.readers (with_member old.readers p))) × ((is_some old.writer && not (is_writer old p)) ≡ false)
shared_put old new p h = go (is_lock old) refl old.writer refl h
  where
    go : (b : Bool) → is_lock old ≡ b → (w : Option ℕ) → old.writer ≡ w
        → cond b (by_writer w p (Ok old) (Err LockInTheWay) (Ok (row None (with_member old.readers p)))) (Err LockInTheWay) ≡ Ok new
        → PutFor old p new × (new ≡ row old.writer (cond (is_writer old p) old.readers (with_member old.readers p))) × ((is_some old.writer && not (is_writer old p)) ≡ false)
    go false l w e h = no (cc)
    go true l None e h =
        let n : row None (with_member old.readers p) ≡ new = cc in
        subst (λ (r : Row). PutFor old p r × (r ≡ row old.writer (cond (is_writer old p) old.readers (with_member old.readers p))) × ((is_some old.writer && not (is_writer old p)) ≡ false)) n (
          (record {
            lock = refl;
            own = has-with old.readers p p ∙ ap (λ (b : Bool). has_member old.readers p || b) (eq-eqb p p refl) ∙ or_true (has_member old.readers p);
            others = λ q _ a. has-with old.readers p q ∙ ap (λ (b : Bool). has_member old.readers q || b) (ne_eqb q p a) ∙ or_false (has_member old.readers q)
                ∙ sym (ap (λ (v : Option ℕ). by_writer v q true false false || has_member old.readers q) e);
          }),
          sym (ap (λ (v : Option ℕ). row v (cond (by_writer v p true false false) old.readers (with_member old.readers p))) e),
          ap (λ (v : Option ℕ). is_some v && not (by_writer v p true false false)) e,
        )
    go true l (Some w) e h = to (eqb w p) refl h
      where
        to : (c : Bool) → eqb w p ≡ c → cond c (Ok old) (Err LockInTheWay) ≡ Ok new
            → PutFor old p new × (new ≡ row old.writer (cond (is_writer old p) old.readers (with_member old.readers p))) × ((is_some old.writer && not (is_writer old p)) ≡ false)
        to false k h = no (cc)
        to true k h =
            let n : old ≡ new = cc in
            let w_is : is_writer old p ≡ true = ap (λ (v : Option ℕ). by_writer v p true false false) e ∙ ap (λ (b : Bool). cond b true false) k in
            subst (λ (r : Row). PutFor old p r × (r ≡ row old.writer (cond (is_writer old p) old.readers (with_member old.readers p))) × ((is_some old.writer && not (is_writer old p)) ≡ false)) n (
              (record { lock = l; own = ap (λ (b : Bool). b || has_member old.readers p) w_is; others = λ q _ a. refl }),
              sym (ap (λ (b : Bool). row old.writer (cond b old.readers (with_member old.readers p))) w_is),
              ap₂ (λ (v : Option ℕ) (b : Bool). is_some v && not b) e w_is,
            )

-- readers without a seat
member_gone : (m p : ℕ) → p < 64 → has_member (without_member m p) p ≡ false
member_gone m p l = has-without m p p l l ∙ ap (λ (b : Bool). has_member m p && not b) (eq-eqb p p refl) ∙ and_false (has_member m p)
  where
    and_false : (b : Bool) → (b && false) ≡ false
    and_false true = refl
    and_false false = refl

member_kept : (m p q : ℕ) → p < 64 → q < 64 → (q ≡ p → ⊥) → has_member (without_member m p) q ≡ has_member m q
member_kept m p q l b a = has-without m p q l b ∙ ap (λ (b : Bool). has_member m q && not b) (ne_eqb q p a) ∙ and_true (has_member m q)

pub claimed_put : (old new : Row) (p : ℕ) → p < 64 → claimed_row old p ≡ Ok new
    → PutFor old p new × (new ≡ row (Some p) 0) × ((old.writer ≡ None) ⊎ (old.writer ≡ Some p))
claimed_put old new p l h = go (is_lock old) refl old.writer refl h
  where
    claimed : Row
    claimed = row (Some p) 0

    -- where every other seat holds nothing
    put : ((q : ℕ) → q < 64 → (q ≡ p → ⊥) → holds old q ≡ false) → PutFor old p (row (Some p) 0)
    put none = record {
      lock = refl;
      own = ap (λ (b : Bool). b || has_member 0 p) (self_writer p);
      others = λ q b a. ap₂ (λ (x y : Bool). x || y) (other_writer p q a) (has-zero q) ∙ sym (none q b a);
    }

    go : (b : Bool) → is_lock old ≡ b → (w : Option ℕ) → old.writer ≡ w
        → cond b (cond (by_writer w p false true (not (eqb (without_member old.readers p) 0))) (Err LockInTheWay) (Ok (row (Some p) 0))) (Err LockInTheWay) ≡ Ok new
        → PutFor old p new × (new ≡ row (Some p) 0) × ((old.writer ≡ None) ⊎ (old.writer ≡ Some p))
    go false k w e h = no (cc)
    go true k None e h = to (eqb (without_member old.readers p) 0) refl h
      where
        to : (c : Bool) → eqb (without_member old.readers p) 0 ≡ c → cond (not c) (Err LockInTheWay) (Ok (row (Some p) 0)) ≡ Ok new
            → PutFor old p new × (new ≡ row (Some p) 0) × ((old.writer ≡ None) ⊎ (old.writer ≡ Some p))
        to false z h = no (cc)
        to true z h =
            let n : row (Some p) 0 ≡ new = cc in
            let none = λ (q : ℕ) (b : q < 64) (a : q ≡ p → ⊥).
            ap (λ (v : Option ℕ). by_writer v q true false false || has_member old.readers q) e
            ∙ sym (member_kept old.readers p q l b a)
            ∙ ap (λ (m : ℕ). has_member m q) (eqb-true (without_member old.readers p) 0 z) ∙ has-zero q in
            subst (λ (r : Row). PutFor old p r × (r ≡ row (Some p) 0) × ((old.writer ≡ None) ⊎ (old.writer ≡ Some p))) n (put none, refl, inl e)
    go true k (Some w) e h = to (eqb w p) refl h
      where
        to : (c : Bool) → eqb w p ≡ c → cond (cond c false true) (Err LockInTheWay) (Ok (row (Some p) 0)) ≡ Ok new
            → PutFor old p new × (new ≡ row (Some p) 0) × ((old.writer ≡ None) ⊎ (old.writer ≡ Some p))
        to false z h = no (cc)
        to true z h =
            let n : row (Some p) 0 ≡ new = cc in
            let same : w ≡ p = eqb-true w p z in
            let writer_is : old.writer ≡ Some p = e ∙ ap Some same in
            let unread : old.readers ≡ 0 = eqb-true old.readers 0 (not_read old.writer (old.readers) writer_is k) in
            let none = λ (q : ℕ) (b : q < 64) (a : q ≡ p → ⊥).
            ap₂ (λ (v : Option ℕ) (m : ℕ). by_writer v q true false false || has_member m q) writer_is unread
            ∙ ap₂ (λ (x y : Bool). x || y) (other_writer p q a) (has-zero q) in
            subst (λ (r : Row). PutFor old p r × (r ≡ row (Some p) 0) × ((old.writer ≡ None) ⊎ (old.writer ≡ Some p))) n (put none, refl, inr writer_is)
          where
            not_read : (v : Option ℕ) (m : ℕ) → v ≡ Some p → not (is_some v && not (eqb m 0)) ≡ true → eqb m 0 ≡ true
            not_read None m e h = no (cc)
            not_read (Some v) m e h = grind arith

-- a lock without a seat: it does not hold, and every other seat holds as before
pub record LetGo (old : Row) (seat : ℕ) (new : Row) : Type 0 where
  pub lock : is_lock old ≡ true → is_lock new ≡ true
  pub own : holds new seat ≡ false
  pub others : (q : ℕ) → q < 64 → (q ≡ seat → ⊥) → holds new q ≡ holds old q

pub released_let_go : (old : Row) (p : ℕ) → p < 64 → LetGo old p (released_row old p)
released_let_go old p l = go old.writer old.readers
  where
    go : (w : Option ℕ) (m : ℕ) → LetGo (row w m) p (released_row (row w m) p)
    go None m = record { lock = λ _. refl; own = member_gone m p l; others = λ q b a. member_kept m p q l b a }
    go (Some w) m = to (eqb w p) refl
      where
        to : (c : Bool) → eqb w p ≡ c → LetGo (row (Some w) m) p (released_row (row (Some w) m) p)
        to true k = record {
          lock = λ _. ap (λ (b : Bool). is_lock (row (cond (cond b true false) None (Some w)) (without_member m p))) k;
          own = ap (λ (b : Bool). holds (row (cond (cond b true false) None (Some w)) (without_member m p)) p) k ∙ member_gone m p l;
          others = λ q b a.
              ap (λ (b : Bool). holds (row (cond (cond b true false) None (Some w)) (without_member m p)) q) k ∙ member_kept m p q l b a
              ∙ sym (ap (λ (x : Bool). x || has_member m q) (ap (λ (v : ℕ). cond (eqb v q) true false) (eqb-true w p k) ∙ other_writer p q a));
        }
        to false k = record {
          lock = λ h. ap (λ (b : Bool). is_lock (row (cond (cond b true false) None (Some w)) (without_member m p))) k ∙ still m h;
          own = ap (λ (b : Bool). holds (row (cond (cond b true false) None (Some w)) (without_member m p)) p) k
              ∙ ap₂ (λ (x y : Bool). cond x true false || y) k (member_gone m p l);
          others = λ q b a.
              ap (λ (b : Bool). holds (row (cond (cond b true false) None (Some w)) (without_member m p)) q) k
              ∙ ap (λ (x : Bool). cond (eqb w q) true false || x) (member_kept m p q l b a);
        }
          where
            still : (m : ℕ) → not (true && not (eqb m 0)) ≡ true → not (true && not (eqb (without_member m p) 0)) ≡ true
            still m h =
                let z : m ≡ 0 = eqb-true m 0 (grind arith) in
                ap (λ (n : ℕ). not (true && not (eqb (without_member n p) 0))) z
                ∙ ap (λ (n : ℕ). not (true && not (eqb n 0))) (and_zero_l (bit_not w64 (2 ^ p)))
