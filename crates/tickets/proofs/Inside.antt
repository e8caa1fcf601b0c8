-- In a pool that was opened and then called, no seat holds anything past the last entry.
use Rattle.std.proofs.Common.{◌≡◌, ℕ, zero, suc, ◌<◌, ◌^◌, Bool, true, false, not, eqb, ltb, List, [], ◌∷◌, get_or, set, sym, refl, ap, ◌∙◌, subst, ⊎_elim, arith}
use Rattle.std.specs.Prelude.{min, bit_and, is_ok}
use Rattle.std.specs.Int.{w64, bit_at, bit_not}
use Rattle.std.proofs.lemmas.Bool.{eqb-true, ltb-true, or_cases}
use Rattle.std.proofs.lemmas.Nat.Bits.{bit_at-lt, bit_at_and}
use Rattle.calls.specs.declared.answer.Reply.TheVariants as A
use Rattle.calls.specs.declared.call.Call.{Call}
use Rattle.calls.specs.declared.call.Call.TheVariants as C
use Rattle.calls.specs.declared.call.CallName.TheVariants as N
use Rattle.calls.specs.declared.fault.Fault.TheVariants.{NoLock, VotesMissing, LocksRemain}
use Rattle.calls.specs.declared.state.State.{State}
use Rattle.calls.specs.declared.state.State.TheVariants.{Idle, Editing, Voting, Commit, Abort}
use Rattle.store.specs.Meaning.{WritingMeaning}
use Rattle.store.specs.Steps.{stage_answer, stage_after, publish_answer, publish_after, withdraw_answer, withdraw_after}
use Rattle.pool.specs.declared.table.SeatStatus.{SeatStatus}
use Rattle.pool.specs.declared.table.Row.{Row}
use Rattle.pool.specs.Admissions.{admitted}
use Rattle.pool.specs.Masks.{has_member, with_member, is_subset}
use Rattle.pool.specs.Locks.{shared_row, claimed_row, holds, is_writer}
use Rattle.pool.specs.Tables.{seat_status, row_at, idle_seat, with_held_row, status_without}
use Rattle.pool.specs.Calls.{Rule, PoolState, state_after, perform, has_entry, admitted_at, from_store, version_of, let_go, begin, read, write, prepare, vote, decide, abort, finish, finish_write, close}
use Rattle.pool.proofs.MaskLemmas.{has-zero, has-with}
use Rattle.pool.proofs.TableLemmas.{fresh_status}
use Rattle.promise.specs.Histories.{Operation}
use Rattle.promise.proofs.Sames.{no}
use Rattle.runner.specs.Runs.{Reached, opened, called}
use Rattle.runner.proofs.Entries.{reached_entries}
use Rattle.runner.proofs.Parts.{by_result, by_test, unless}
use Rattle.runner.proofs.States.{admitted_ok}
use Rattle.runner.proofs.Whole.{opens, may_open}
use Rattle.tickets.proofs.Others.{as_reply}

-- what holds of an element that is set, and of each that was there, holds of each
set_each : {A : Type 0} (P : A → Type 0) (xs : List A) (i j : ℕ) (x d : A) → P x → ((k : ℕ) → P (get_or xs k d)) → P (get_or (set xs i x) j d)
set_each P [] i j x d a b = b j
set_each P (y ∷ ys) zero zero x d a b = a
set_each P (y ∷ ys) zero (suc j) x d a b = b (suc j)
set_each P (y ∷ ys) (suc i) zero x d a b = b zero
set_each P (y ∷ ys) (suc i) (suc j) x d a b = set_each P ys i j x d a (λ k. b (suc k))

-- a member of a mask without some is a member of the mask
first_of_two : (m n k : ℕ) → has_member (bit_and m n) k ≡ true → has_member m k ≡ true
first_of_two m n k h = go (bit_at m k) (bit_at n k) (bit_at-lt m k) (bit_at-lt n k) (sym (ap (λ (x : ℕ). eqb x 1) (bit_at_and m n k)) ∙ h)
  where
    go : (x y : ℕ) → x < 2 → y < 2 → eqb (min x y) 1 ≡ true → eqb x 1 ≡ true
    go (suc zero) y a b h = refl
    go zero zero a b h = h
    go zero (suc zero) a b h = h
    go zero (suc (suc y)) a b h = absurd (omega arith)
    go (suc (suc x)) y a b h = absurd (omega arith)

-- what a seat holds lies below n
abbrev pub HoldsBelow : ℕ → SeatStatus → Type 0
HoldsBelow n status = (k : ℕ) → has_member status.held k ≡ true → k < n

-- and so for each seat
pub record IsInside (n : ℕ) (s : PoolState) : Type 0 where
  pub each : (p : ℕ) → HoldsBelow n (seat_status s.table p)

module _ (allows : Rule) (n : ℕ) (s : PoolState) (entries : s.store.reading.entries ≡ n) (i : IsInside n s) where
  abbrev Inside : PoolState → Type 0
  Inside = IsInside n

  -- a status that holds what it held
  restated : (p : ℕ) (x : SeatStatus) (m : PoolState) → m.table.statuses ≡ set s.table.statuses p x → HoldsBelow n x → Inside m
  restated p x m e h = record {
    each = λ q. subst (λ (statuses : List SeatStatus). HoldsBelow n (get_or statuses q idle_seat)) (sym e) (set_each (HoldsBelow n) s.table.statuses p q x idle_seat h i.each);
  }

  locked : (p e : ℕ) (r : Row) (m : WritingMeaning) → has_entry s e ≡ true → Inside (record { store = m; table = with_held_row s.table p e r })
  locked p e r m l =
      restated p (record (seat_status s.table p) { held = with_member (seat_status s.table p).held e }) _ refl
      (λ k h. ⊎_elim (i.each p k) (λ t. let same : k ≡ e = eqb-true k e t in omega (arith, ltb-true e s.store.reading.entries l))
      (or_cases (has_member (seat_status s.table p).held k) (eqb k e) (sym (has-with (seat_status s.table p).held e k) ∙ h)))

  unlocked : (p e : ℕ) (m : WritingMeaning) → Inside (let_go s p e m)
  unlocked p e m =
      restated p (status_without (seat_status s.table p) e) _ refl
      (λ k h. i.each p k (first_of_two (seat_status s.table p).held (bit_not w64 (2 ^ e)) k h))

  finished : (p e : ℕ) (q : State) → Inside (state_after (finish_write s p e q) s)
  finished p e Commit = by_result s Inside i (from_store (publish_answer s.store e)) _ (λ _ _. unlocked p e (publish_after s.store e))
  finished p e Abort = by_result s Inside i (from_store (withdraw_answer s.store e)) _ (λ _ _. unlocked p e (withdraw_after s.store e))
  finished p e Idle = by_result s Inside i (from_store (withdraw_answer s.store e)) _ (λ _ _. unlocked p e (withdraw_after s.store e))
  finished p e Editing = by_result s Inside i (from_store (withdraw_answer s.store e)) _ (λ _ _. unlocked p e (withdraw_after s.store e))
  finished p e Voting = by_result s Inside i (from_store (withdraw_answer s.store e)) _ (λ _ _. unlocked p e (withdraw_after s.store e))

  step : (c : Call) → Inside (state_after (perform allows c s) s)
  step (C.Begin p) =
      as_reply s Inside A.Serial (begin s p)
      (by_result s Inside i (admitted s.table N.Begin p true) _ (λ q _.
      by_test s Inside i (ltb (seat_status s.table p).serial 1000000) _ _ (λ _. restated p _ _ refl (i.each p)) (λ _. i)))
  step (C.Read p e) =
      as_reply s Inside A.Value (read s p e)
      (by_result s Inside i (admitted_at s N.Read p e) _ (λ q a.
      by_result s Inside i (shared_row (row_at s.table e) p) _ (λ row _. locked p e row s.store (admitted_ok s.table N.Read p (has_entry s e) q a).1)))
  step (C.Write p e v) =
      as_reply s Inside (λ _. A.Done) (write s p e v)
      (by_result s Inside i (admitted_at s N.Write p e) _ (λ q a.
      by_result s Inside i (claimed_row (row_at s.table e) p) _ (λ row _.
      by_result s Inside i (from_store (stage_answer s.store e (version_of s p v))) _ (λ _ _.
      locked p e row (stage_after s.store e (version_of s p v)) (admitted_ok s.table N.Write p (has_entry s e) q a).1))))
  step (C.Prepare p) =
      as_reply s Inside (λ _. A.Done) (prepare s p) (by_result s Inside i (admitted s.table N.Prepare p true) _ (λ _ _. restated p _ _ refl (i.each p)))
  step (C.Vote p e) =
      as_reply s Inside A.Voted (vote allows s p e)
      (by_result s Inside i (admitted_at s N.Vote p e) _ (λ _ _.
      unless s Inside i (holds (row_at s.table e) p) NoLock _ (λ _.
      by_test s Inside i (has_member (seat_status s.table p).voted e) _ _ (λ _. i) (λ _. restated p _ _ refl (i.each p)))))
  step (C.Decide p) =
      as_reply s Inside A.Decided (decide s p)
      (by_result s Inside i (admitted s.table N.Decide p true) _ (λ _ _.
      by_test s Inside i (not (eqb (seat_status s.table p).against 0)) _ _ (λ _. restated p _ _ refl (i.each p))
      (λ _. unless s Inside i (is_subset (seat_status s.table p).held (seat_status s.table p).voted) VotesMissing _ (λ _. restated p _ _ refl (i.each p)))))
  step (C.Abort p) =
      as_reply s Inside (λ _. A.Done) (abort s p) (by_result s Inside i (admitted s.table N.Abort p true) _ (λ _ _. restated p _ _ refl (i.each p)))
  step (C.Finish p e) =
      as_reply s Inside (λ _. A.Done) (finish s p e)
      (by_result s Inside i (admitted_at s N.Finish p e) _ (λ q _.
      unless s Inside i (holds (row_at s.table e) p) NoLock _ (λ _.
      by_test s Inside i (is_writer (row_at s.table e) p) _ _ (λ _. finished p e q) (λ _. unlocked p e s.store))))
  step (C.Close p) =
      as_reply s Inside (λ _. A.Done) (close s p)
      (by_result s Inside i (admitted s.table N.Close p true) _ (λ _ _.
      unless s Inside i (eqb (seat_status s.table p).held 0) LocksRemain _ (λ _. restated p _ _ refl (i.each p))))

pub reached_inside : (allows : Rule) (initial : PoolState) (seats : ℕ) {h : List Operation} {s : PoolState} → Reached allows initial seats h s → IsInside initial.store.reading.entries s
reached_inside allows initial seats (opened q) = start (may_open initial seats) q
  where
    start : (b : Bool) → is_ok (opens initial seats b) ≡ true → IsInside initial.store.reading.entries (state_after (opens initial seats b) initial)
    start false q = no (cc)
    start true q = record {
      each = λ p k h. let none : false ≡ true = sym (ap (λ (x : SeatStatus). has_member x.held k) (fresh_status seats p) ∙ has-zero k) ∙ h in no (cc);
    }
reached_inside allows initial seats (called {past} {state} r c) =
    step allows initial.store.reading.entries state (reached_entries allows initial seats r) (reached_inside allows initial seats r) c
