-- An edit that was closed before another began stands before it: what one more event leaves of that. Below, x is an event and h what came before it.
use Rattle.std.proofs.Common.{◌≡◌, ℕ, ◌<◌, Bool, true, false, ◌&&◌, ◌||◌, ltb, ◌⊎◌, List, ◌∷◌, sym, refl, ◌∙◌, subst, inl, inr, arith}
use Rattle.std.proofs.lemmas.Bool.{cases_Bool, ltb-true, and_parts}
use Rattle.promise.specs.Histories.{Event, Edit, is_close, is_decision, latest_edit, edits_begun, is_part_of, is_closed_before}
use Rattle.promise.specs.OneByOne.{edits_by_decision, is_same_edit, is_among, edits_before}
use Rattle.promise.proofs.Sames.{no, same_true}
use Rattle.promise.proofs.Edits.{same_edit_refl, same_edit_true}
use Rattle.promise.proofs.Views.{TimeIsKept}

either : (a b : Bool) → (a || b) ≡ true → (a ≡ true) ⊎ (b ≡ true)
either true b q = inl refl
either false b q = inr q

-- an edit that an event is part of is the latest of its seat
part_latest : (c : Edit) (x : Event) (h : List Event) → is_part_of c x h ≡ true → c ≡ latest_edit x.seat h
part_latest c x h q = same_edit_true c (latest_edit x.seat h) (go (same_true x.seat c.seat (grind arith)))
  where
    go : x.seat ≡ c.seat → is_same_edit c (latest_edit x.seat h) ≡ true
    go s =
        let n : edits_begun c.seat h ≡ c.serial = same_true (edits_begun c.seat h) c.serial (grind arith) in
        subst (λ (p : ℕ). is_same_edit c (latest_edit p h) ≡ true) (sym s) (rw n (same_edit_refl c))

module _ (x : Event) (h : List Event) (t : TimeIsKept h (edits_by_decision h)) where
  -- an event that closes nothing
  closed_more : (c d : Edit) → is_close x.action ≡ false → is_closed_before c d (x ∷ h) ≡ true → is_closed_before c d h ≡ true
  closed_more c d f q = go (either (is_part_of c x h && is_close x.action && ltb (edits_begun d.seat h) d.serial) (is_closed_before c d h) q)
    where
      go : ((is_part_of c x h && is_close x.action && ltb (edits_begun d.seat h) d.serial) ≡ true) ⊎ (is_closed_before c d h ≡ true) → is_closed_before c d h ≡ true
      go (inl a) = let z : true ≡ false = sym (and_parts (is_part_of c x h) (is_close x.action) (and_parts (is_part_of c x h && is_close x.action) (ltb (edits_begun d.seat h) d.serial) a).0).1 ∙ f in no (cc)
      go (inr a) = a

  -- an event that decides and closes nothing
  pub time_kept : is_decision x.action ≡ false → is_close x.action ≡ false → TimeIsKept (x ∷ h) (edits_by_decision (x ∷ h))
  time_kept f g = rw f (record { closed = λ c d q. t.closed c d (closed_more c d g q); before = λ c d m q. t.before c d m (closed_more c d g q) })

  -- a decision of an edit that was undecided
  pub time_decided : is_decision x.action ≡ true → is_close x.action ≡ false → TimeIsKept (x ∷ h) (edits_by_decision (x ∷ h))
  time_decided f g =
      rw f
      (record {
        closed = λ c d q. let k = t.closed c d (closed_more c d g q) in rw k (grind arith);
        before = λ c d m q.
            let k = closed_more c d g q in
            go c d (t.closed c d k) (λ n. t.before c d n k) m (cases_Bool (is_same_edit d (latest_edit x.seat h)));
      })
    where
      go : (c d : Edit) → is_among c (edits_by_decision h) ≡ true
          → (is_among d (edits_by_decision h) ≡ true → is_among c (edits_before d (edits_by_decision h)) ≡ true)
          → is_among d (latest_edit x.seat h ∷ edits_by_decision h) ≡ true
          → (is_same_edit d (latest_edit x.seat h) ≡ true) ⊎ (is_same_edit d (latest_edit x.seat h) ≡ false)
          → is_among c (edits_before d (latest_edit x.seat h ∷ edits_by_decision h)) ≡ true
      go c d k n m (inl s) = rw s k
      go c d k n m (inr s) = let a : is_among d (edits_by_decision h) ≡ true = grind arith in rw (s, a) (n a)

  -- a close of an edit that was decided
  pub time_closed : is_decision x.action ≡ false → is_among (latest_edit x.seat h) (edits_by_decision h) ≡ true
      → ((s n : ℕ) → edits_begun s h < n → is_among (record { seat = s; serial = n }) (edits_by_decision h) ≡ false) → TimeIsKept (x ∷ h) (edits_by_decision (x ∷ h))
  time_closed f m ahead = rw f (record { closed = λ c d q. closed c d (split c d q); before = λ c d n q. before c d n (split c d q) })
    where
      split : (c d : Edit) → is_closed_before c d (x ∷ h) ≡ true
          → ((is_part_of c x h && is_close x.action && ltb (edits_begun d.seat h) d.serial) ≡ true) ⊎ (is_closed_before c d h ≡ true)
      split c d q = either (is_part_of c x h && is_close x.action && ltb (edits_begun d.seat h) d.serial) (is_closed_before c d h) q

      closed : (c d : Edit) → ((is_part_of c x h && is_close x.action && ltb (edits_begun d.seat h) d.serial) ≡ true) ⊎ (is_closed_before c d h ≡ true)
          → is_among c (edits_by_decision h) ≡ true
      closed c d (inl a) = subst (λ (k : Edit). is_among k (edits_by_decision h) ≡ true) (sym (part_latest c x h (and_parts _ _ (and_parts _ _ a).0).0)) m
      closed c d (inr a) = t.closed c d a

      before : (c d : Edit) → is_among d (edits_by_decision h) ≡ true
          → ((is_part_of c x h && is_close x.action && ltb (edits_begun d.seat h) d.serial) ≡ true) ⊎ (is_closed_before c d h ≡ true)
          → is_among c (edits_before d (edits_by_decision h)) ≡ true
      before c d n (inl a) =
          let z : true ≡ false = sym n ∙ ahead d.seat d.serial (ltb-true (edits_begun d.seat h) d.serial (and_parts (is_part_of c x h && is_close x.action) (ltb (edits_begun d.seat h) d.serial) a).1) in no (cc)
      before c d n (inr a) = t.before c d n a
