-- In every state of an opened pool each serial and mask is within its bounds, each writer is a seat below 16, and nothing is staged where
-- no seat writes.
use Rattle.std.proofs.Common.{◌≡◌, ℕ, zero, suc, ◌^◌, ◌<◌, ◌≤◌, Bool, true, false, cond, not, eqb, ltb, List, length, get_or, set, is_some, Some, None, Ok, Err, Option, Result, sym, refl, ap, ◌∙◌, subst, ⊎_elim, inl, inr, ◌⊎◌, arith, get_or-set_same, get_or-set_other}
use Rattle.std.specs.Prelude.{is_ok}
use Rattle.std.proofs.Math.Pow.{pow-lt}
use Rattle.std.proofs.lemmas.Nat.{or_lt, and_le_l}
use Rattle.std.proofs.lemmas.Bool.{ltb-true, lt-ltb, ne_eqb, eq-eqb, cases_eq, cases_lt}
use Rattle.std.specs.Int.{w64, bit_not}
use Rattle.calls.specs.declared.fault.Fault.{Fault}
use Rattle.calls.specs.declared.fault.Fault.TheVariants.{NoLock, VotesMissing, LocksRemain}
use Rattle.calls.specs.declared.answer.Reply.{Reply}
use Rattle.calls.specs.declared.answer.Reply.TheVariants as A
use Rattle.calls.specs.declared.call.Call.{Call}
use Rattle.calls.specs.declared.call.Call.TheVariants as C
use Rattle.calls.specs.declared.call.CallName.TheVariants as N
use Rattle.calls.specs.declared.state.State.{State}
use Rattle.calls.specs.declared.state.State.TheVariants.{Idle, Editing, Voting, Commit, Abort}
use Rattle.store.specs.declared.refusal.Refusal.TheVariants.{NoSuchEntry, NothingStaged}
use Rattle.store.specs.declared.version.Version.{Version}
use Rattle.store.specs.Meaning.{ReadingMeaning, WritingMeaning, IsSoundWriting}
use Rattle.store.specs.Steps.{unless_refused, stage_answer, stage_after, with_staged, publish_answer, withdraw_answer, withdraw_after}
use Rattle.pool.specs.declared.table.SeatStatus.{SeatStatus}
use Rattle.pool.specs.declared.table.Row.{Row}
use Rattle.pool.specs.Masks.{has_member, with_member, without_member, is_subset}
use Rattle.pool.specs.Tables.{idle_seat, seat_status, row_at, with_status, with_row, with_state, status_without}
use Rattle.pool.specs.Admissions.{admitted}
use Rattle.pool.specs.Locks.{unlocked_row, is_writer, holds, shared_row, claimed_row, released_row}
use Rattle.pool.specs.Withdrawals.{withdrawn}
use Rattle.pool.specs.Calls.{Rule, PoolState, Accepted, state_after, replied, perform, has_entry, admitted_at, from_store, version_of, let_go, begin, read, write, prepare, vote, decide, abort, finish, finish_write, close}
use Rattle.pool.proofs.LockLemmas.{shared_put, claimed_put}
use Rattle.pool.proofs.TableLemmas.{fresh_status, fresh_row}
use Rattle.promise.specs.Histories.{Operation}
use Rattle.promise.proofs.Sames.{no, same_refl}
use Rattle.promise.proofs.Views.{is_live}
use Rattle.runner.specs.Runs.{Reached, opened, called}
use Rattle.runner.proofs.Replies.{replied_leaves}
use Rattle.runner.proofs.Parts.{by_result, by_test, unless, stage_ok, publish_ok, withdraw_ok, Leaves}
use Rattle.runner.proofs.States.{Sized, turned, admitted_ok, next_prepare, next_decide, next_abort, next_close}
use Rattle.runner.proofs.Whole.{opens, may_open, withdrawn-reading, held}

-- a mask of 64 bits
abbrev pub IsMask : ℕ → Type 0
IsMask m = m < 2 ^ 64

with_mask : (m e : ℕ) → e < 64 → IsMask m → IsMask (with_member m e)
with_mask m e l k = or_lt 64 m (2 ^ e) k (pow-lt l)

without_mask : (m e : ℕ) → IsMask m → IsMask (without_member m e)
without_mask m e k = omega (arith, and_le_l m (bit_not w64 (2 ^ e)))

-- a seat: its serial is 1 or more while an edit is under way, and never above 1,000,000
pub record IsStatus (x : SeatStatus) : Type 0 where
  pub least : is_live x.state ≡ true → 1 ≤ x.serial
  pub most : x.serial ≤ 1000000
  pub held : IsMask x.held
  pub voted : IsMask x.voted
  pub against : IsMask x.against

-- what is so of the table and of what is staged
pub record IsSound (s : PoolState) : Type 0 where
  pub writers : (e w : ℕ) → (row_at s.table e).writer ≡ Some w → w < 16
  pub readers : (e : ℕ) → IsMask (row_at s.table e).readers
  pub statuses : (p : ℕ) → IsStatus (seat_status s.table p)
  pub written : (e : ℕ) → is_some (s.store.staged e) ≡ true → is_some (row_at s.table e).writer ≡ true

-- what holds of one element that is set, and of the others as they were, holds of each
set_each : {A : Type 0} (P : ℕ → A → Type 0) (xs : List A) (i j : ℕ) (x d : A) → i < length xs → P i x → ((j ≡ i → ⊥) → P j (get_or xs j d)) → P j (get_or (set xs i x) j d)
set_each {A} P xs i j x d l a b =
    ⊎_elim
    (λ q. subst (λ (n : ℕ). P n (get_or (set xs i x) n d)) (sym q) (subst (P i) (sym (get_or-set_same xs i x d l)) a))
    (λ n. subst (P j) (sym (get_or-set_other xs i j x d n)) (b n))
    (cases_eq j i)

module _ (allows : Rule) (s : PoolState) (z : Sized s) (k : IsSound s) where
  below : (e : ℕ) → has_entry s e ≡ true → e < 64
  below e q = let l = ltb-true e s.store.reading.entries q in omega (arith, z.entries)

  -- a seat's status set
  restated : (p : ℕ) (x : SeatStatus) → p < 16 → IsStatus x → IsSound (record s { table = with_status s.table p x })
  restated p x l m =
      record {
        writers = k.writers;
        readers = k.readers;
        statuses = λ q. set_each (λ _ y. IsStatus y) s.table.statuses p q x idle_seat (omega (arith, z.table.statuses)) m (λ _. k.statuses q);
        written = k.written;
      }

  -- a seat that goes to another state, and has an edit under way only where it had one
  moved : (p : ℕ) (q : State) → p < 16 → (is_live q ≡ true → is_live (seat_status s.table p).state ≡ true) → IsSound (record s { table = with_state s.table p q })
  moved p q l m =
      let old = k.statuses p in
      restated p _ l record { least = λ t. old.least (m t); most = old.most; held = old.held; voted = old.voted; against = old.against }

  -- a status, a row and the store set, by what is staged there and elsewhere
  rowed : (p e : ℕ) (x : SeatStatus) (r : Row) (m : WritingMeaning) → p < 16 → e < 64 → IsStatus x → ((w : ℕ) → r.writer ≡ Some w → w < 16) → IsMask r.readers
      → (is_some (m.staged e) ≡ true → is_some r.writer ≡ true) → ((y : ℕ) → (y ≡ e → ⊥) → m.staged y ≡ s.store.staged y)
      → IsSound (record { store = m; table = with_row (with_status s.table p x) e r })
  rowed p e x r m a l b low few own others =
      let there : e < length s.table.rows = omega (arith, z.table.rows) in
      record {
        writers = λ y. set_each (λ _ r. (w : ℕ) → r.writer ≡ Some w → w < 16) s.table.rows e y r unlocked_row there low (λ _. k.writers y);
        readers = λ y. set_each (λ _ r. IsMask r.readers) s.table.rows e y r unlocked_row there few (λ _. k.readers y);
        statuses = (restated p x a b).statuses;
        written = λ y t. set_each (λ n r. is_some (m.staged n) ≡ true → is_some r.writer ≡ true) s.table.rows e y r unlocked_row there own
            (λ a b. k.written y (sym (ap is_some (others y a)) ∙ b)) t;
      }

  holding : (p e : ℕ) → e < 64 → IsStatus (record (seat_status s.table p) { held = with_member (seat_status s.table p).held e })
  holding p e l = let old = k.statuses p in record { least = old.least; most = old.most; held = with_mask _ e l old.held; voted = old.voted; against = old.against }

  letting : (p e : ℕ) → IsStatus (status_without (seat_status s.table p) e)
  letting p e =
      let old = k.statuses p in
      record { least = old.least; most = old.most; held = without_mask _ e old.held; voted = without_mask _ e old.voted; against = without_mask _ e old.against }

  -- a row without a seat has the writer that it had, or none
  let_writer : (r : Row) (p w : ℕ) → (released_row r p).writer ≡ Some w → r.writer ≡ Some w
  let_writer r p w q = go (is_writer r p) q
    where
      go : (b : Bool) → cond b None r.writer ≡ Some w → r.writer ≡ Some w
      go true q = no (cc)
      go false q = q

  -- a finish that leaves this of the store
  finished : (p e : ℕ) (m : WritingMeaning) → p < 16 → e < 64 → (is_some (m.staged e) ≡ true → is_some (released_row (row_at s.table e) p).writer ≡ true)
      → ((y : ℕ) → (y ≡ e → ⊥) → m.staged y ≡ s.store.staged y) → IsSound (let_go s p e m)
  finished p e m a l own others = rowed p e _ _ m a l (letting p e) (λ w q. k.writers e w (let_writer (row_at s.table e) p w q)) (without_mask _ p (k.readers e)) own others

  spent : (p e : ℕ) {chain : List Version} {m : WritingMeaning} → p < 16 → e < 64 → Leaves s.store e chain m → IsSound (let_go s p e m)
  spent p e {chain} {m} a l n =
      finished p e m a l (λ t. no (let u = n.staged e in let v = same_refl e in cc))
      (λ y x. n.staged y ∙ ap (λ (b : Bool). cond b None (s.store.staged y)) (sym (turned e y) ∙ ne_eqb y e x))

  as_reply : {T : Type 0} (reply : T → Reply) (d : Result (Accepted T) Fault) → IsSound (state_after d s) → IsSound (state_after (replied reply d) s)
  as_reply reply d m = subst IsSound (replied_leaves reply d s) m

  finish_written : (p e : ℕ) (q : State) → p < 16 → e < 64 → IsSound (state_after (finish_write s p e q) s)
  finish_written p e Commit a l = by_result s IsSound k (from_store (publish_answer s.store e)) _ (λ _ g. spent p e a l (publish_ok s.store e g))
  finish_written p e Abort a l = by_result s IsSound k (from_store (withdraw_answer s.store e)) _ (λ _ g. spent p e a l (withdraw_ok s.store e g))
  finish_written p e Idle a l = by_result s IsSound k (from_store (withdraw_answer s.store e)) _ (λ _ g. spent p e a l (withdraw_ok s.store e g))
  finish_written p e Editing a l = by_result s IsSound k (from_store (withdraw_answer s.store e)) _ (λ _ g. spent p e a l (withdraw_ok s.store e g))
  finish_written p e Voting a l = by_result s IsSound k (from_store (withdraw_answer s.store e)) _ (λ _ g. spent p e a l (withdraw_ok s.store e g))

  step : (c : Call) → IsSound (state_after (perform allows c s) s)
  step (C.Begin p) =
      as_reply A.Serial (begin s p)
      (by_result s IsSound k (admitted s.table N.Begin p true) _ (λ q c.
      by_test s IsSound k (ltb (seat_status s.table p).serial 1000000) _ _
      (λ t.
      let old = k.statuses p in
      let l = ltb-true (seat_status s.table p).serial 1000000 t in
      restated p _ (admitted_ok s.table N.Begin p true q c).0
      record { least = λ _. omega arith; most = omega arith; held = old.held; voted = old.voted; against = old.against })
      (λ _. k)))
  step (C.Read p e) =
      as_reply A.Value (read s p e)
      (by_result s IsSound k (admitted_at s N.Read p e) _ (λ q c.
      by_result s IsSound k (shared_row (row_at s.table e) p) _ (λ r d.
      let l = admitted_ok s.table N.Read p (has_entry s e) q c in
      let put = shared_put (row_at s.table e) r p d in
      let w : r.writer ≡ (row_at s.table e).writer = ap (λ (x : Row). x.writer) put.1 in
      rowed p e _ r s.store l.0 (below e l.1) (holding p e (below e l.1)) (λ v q. k.writers e v (sym w ∙ q)) (shared_mask r (is_writer (row_at s.table e) p) l.0 (ap (λ (x : Row). x.readers) put.1)) (λ t. ap is_some w ∙ k.written e t) (λ _ _. refl))))
    where
      shared_mask : (r : Row) (b : Bool) → p < 16 → r.readers ≡ cond b (row_at s.table e).readers (with_member (row_at s.table e).readers p) → IsMask r.readers
      shared_mask r true l q = subst IsMask (sym q) (k.readers e)
      shared_mask r false l q = subst IsMask (sym q) (with_mask _ p (omega arith) (k.readers e))
  step (C.Write p e v) =
      as_reply (λ _. A.Done) (write s p e v)
      (by_result s IsSound k (admitted_at s N.Write p e) _ (λ q c.
      by_result s IsSound k (claimed_row (row_at s.table e) p) _ (λ r d.
      by_result s IsSound k (from_store (stage_answer s.store e (version_of s p v))) _ (λ _ g.
      let l = admitted_ok s.table N.Write p (has_entry s e) q c in
      let put = claimed_put (row_at s.table e) r p (omega (arith, l.0)) d in
      let w : r.writer ≡ Some p = ap (λ (x : Row). x.writer) put.1 in
      let n : stage_after s.store e (version_of s p v) ≡ with_staged s.store e (Some (version_of s p v)) = stage_ok s.store e (version_of s p v) g in
      rowed p e _ r (stage_after s.store e (version_of s p v)) l.0 (below e l.1) (holding p e (below e l.1))
      (λ x t. let same_writer : p ≡ x = cc in subst (λ (y : ℕ). y < 16) same_writer l.0)
      (subst IsMask (sym (ap (λ (x : Row). x.readers) put.1)) (omega arith))
      (λ _. ap is_some w)
      (λ y a. ap (λ (x : WritingMeaning). x.staged y) n ∙ ap (λ (b : Bool). cond b (Some (version_of s p v)) (s.store.staged y)) (ne_eqb y e a))))))
  step (C.Prepare p) =
      as_reply (λ _. A.Done) (prepare s p)
      (by_result s IsSound k (admitted s.table N.Prepare p true) _ (λ q c.
      let l = admitted_ok s.table N.Prepare p true q c in
      moved p q l.0 (λ _. ap is_live (next_prepare (seat_status s.table p).state q l.2).0)))
  step (C.Vote p e) =
      as_reply A.Voted (vote allows s p e)
      (by_result s IsSound k (admitted_at s N.Vote p e) _ (λ q c.
      unless s IsSound k (holds (row_at s.table e) p) NoLock _ (λ _.
      by_test s IsSound k (has_member (seat_status s.table p).voted e) _ _ (λ _. k)
      (λ _.
      let l = admitted_ok s.table N.Vote p (has_entry s e) q c in
      let old = k.statuses p in
      restated p _ l.0
      record { least = old.least; most = old.most; held = old.held; voted = with_mask _ e (below e l.1) old.voted; against = voted_against _ (seat_status s.table p).against e (below e l.1) old.against }))))
    where
      voted_against : (b : Bool) (m e : ℕ) → e < 64 → IsMask m → IsMask (cond b (without_member m e) (with_member m e))
      voted_against true m e l k = without_mask m e k
      voted_against false m e l k = with_mask m e l k
  step (C.Decide p) =
      as_reply A.Decided (decide s p)
      (by_result s IsSound k (admitted s.table N.Decide p true) _ (λ q c.
      let l = admitted_ok s.table N.Decide p true q c in
      let live : is_live (seat_status s.table p).state ≡ true = ap is_live (next_decide (seat_status s.table p).state q l.2).0 in
      by_test s IsSound k (not (eqb (seat_status s.table p).against 0)) _ _
      (λ _. moved p Abort l.0 (λ _. live))
      (λ _. unless s IsSound k (is_subset (seat_status s.table p).held (seat_status s.table p).voted) VotesMissing _ (λ _. moved p q l.0 (λ _. live)))))
  step (C.Abort p) =
      as_reply (λ _. A.Done) (abort s p)
      (by_result s IsSound k (admitted s.table N.Abort p true) _ (λ q c.
      let l = admitted_ok s.table N.Abort p true q c in
      moved p q l.0 (λ _. ⊎_elim (λ t. ap is_live t) (λ t. ap is_live t) (next_abort (seat_status s.table p).state q l.2).0)))
  step (C.Finish p e) =
      as_reply (λ _. A.Done) (finish s p e)
      (by_result s IsSound k (admitted_at s N.Finish p e) _ (λ q c.
      let l = admitted_ok s.table N.Finish p (has_entry s e) q c in
      unless s IsSound k (holds (row_at s.table e) p) NoLock _ (λ _.
      by_test s IsSound k (is_writer (row_at s.table e) p) _ _
      (λ _. finish_written p e q l.0 (below e l.1))
      (λ w. finished p e s.store l.0 (below e l.1) (λ t. ap is_some (ap (λ (b : Bool). cond b None (row_at s.table e).writer) w) ∙ k.written e t) (λ _ _. refl)))))
  step (C.Close p) =
      as_reply (λ _. A.Done) (close s p)
      (by_result s IsSound k (admitted s.table N.Close p true) _ (λ q c.
      let l = admitted_ok s.table N.Close p true q c in
      unless s IsSound k (eqb (seat_status s.table p).held 0) LocksRemain _
      (λ _. moved p q l.0 (λ t. no (let u = (next_close (seat_status s.table p).state q l.2).1 in cc)))))

-- ------------------------------------------------------------ opening

-- a withdrawal leaves nothing staged at its entry, and nothing where nothing was
withdraw_none : (m : WritingMeaning) (e y : ℕ) → ((y ≡ e) × (e < m.reading.entries)) ⊎ (m.staged y ≡ None) → (withdraw_after m e).staged y ≡ None
withdraw_none m e y h = go (ltb e m.reading.entries) refl (m.staged e) refl
  where
    other : (b : Bool) → ltb e m.reading.entries ≡ b → (none : m.staged e ≡ None) → m.staged y ≡ None
    other b q f = ⊎_elim (λ t. ap m.staged t.0 ∙ f) (λ t. t) h

    go : (b : Bool) → ltb e m.reading.entries ≡ b → (o : Option Version) → m.staged e ≡ o
        → (unless_refused (cond b (cond (is_some o) (Ok tt) (Err NothingStaged)) (Err NoSuchEntry)) (with_staged m e None) m).staged y ≡ None
    go true q (Some v) f = to (eqb y e) refl
      where
        to : (c : Bool) → eqb y e ≡ c → cond c None (m.staged y) ≡ None
        to true d = refl
        to false d = ⊎_elim (λ t. no (let u = eq-eqb y e t.0 in cc)) (λ t. t) h
    go true q None f = other true q f
    go false q o f = ⊎_elim (λ t. no (let u = lt-ltb e m.reading.entries t.1 in cc)) (λ t. t) h

withdrawn_none : (m : WritingMeaning) (n y : ℕ) → n ≤ m.reading.entries → (y < n) ⊎ (m.staged y ≡ None) → (withdrawn m n).staged y ≡ None
withdrawn_none m zero y l h = ⊎_elim (λ t. no (omega arith)) (λ t. t) h
withdrawn_none m (suc n) y l h =
    let few : n < (withdrawn m n).reading.entries = omega (arith, ap (λ (x : ReadingMeaning). x.entries) (withdrawn-reading m n)) in
    withdraw_none (withdrawn m n) n y
    (⊎_elim (λ t. inl (t, few))
    (λ t. inr (withdrawn_none m n y (omega arith) (⊎_elim (λ a. inl (omega (arith, a, t))) (λ a. inr a) h)))
    (cases_eq y n))

module _ (allows : Rule) (initial : PoolState) (seats : ℕ) (few : initial.store.reading.entries ≤ 64) (w : IsSoundWriting initial.store) where
  start : (b : Bool) → is_ok (opens initial seats b) ≡ true → IsSound (state_after (opens initial seats b) initial)
  start false q = no (cc)
  start true q =
      record {
        writers = λ e x t. no (let u = ap (λ (r : Row). r.writer) (fresh_row seats e) in cc);
        readers = λ e. subst (λ (r : Row). IsMask r.readers) (sym (fresh_row seats e)) (omega arith);
        statuses = λ p. subst IsStatus (sym (fresh_status seats p)) (record { least = λ t. no (cc); most = omega arith; held = omega arith; voted = omega arith; against = omega arith });
        written = λ e t. no (let u = withdrawn_none initial.store initial.store.reading.entries e (omega arith) (staged_out e) in cc);
      }
    where
      staged_out : (e : ℕ) → (e < initial.store.reading.entries) ⊎ (initial.store.staged e ≡ None)
      staged_out e = ⊎_elim (λ l. inl l) (λ l. inr (w.staged_inside e l)) (cases_lt e initial.store.reading.entries)

  pub sound : {h : List Operation} {s : PoolState} → Reached allows initial seats h s → IsSound s
  sound (opened q) = start (may_open initial seats) q
  sound (called {past} {state} r c) = step allows state (held allows initial seats few r).1 (sound r) c
