-- Each call of a pool, refused or accepted, keeps the invariant of its history.
use Rattle.std.proofs.Common.{◌≡◌, ℕ, ◌+◌, ◌<◌, ◌≤◌, Bool, true, false, cond, not, ◌&&◌, ◌||◌, eqb, ltb, ◌⊎◌, List, ◌∷◌, set, ℤ, is_some, Some, None, Ok, Err, Result, sym, refl, ap, ◌∙◌, subst, ap₂, inl, inr, ⊎_elim, arith}
use Rattle.std.proofs.lemmas.Bool.{ltb-true, lt-ltb, le-ltb, eqb-true, cases_lt}
use Rattle.calls.specs.declared.fault.Fault.{Fault}
use Rattle.calls.specs.declared.fault.Fault.TheVariants.{SerialsUsedUp, NoLock, VotedAlready, VotesMissing, LocksRemain}
use Rattle.calls.specs.declared.call.Call.{Call}
use Rattle.calls.specs.declared.call.Call.TheVariants as C
use Rattle.calls.specs.declared.call.CallName.TheVariants as N
use Rattle.calls.specs.declared.answer.Reply.{Reply}
use Rattle.calls.specs.declared.answer.Reply.TheVariants as A
use Rattle.calls.specs.declared.state.State.{State}
use Rattle.calls.specs.declared.state.State.TheVariants.{Idle, Editing, Voting, Commit, Abort}
use Rattle.store.specs.Meaning.{WritingMeaning}
use Rattle.store.specs.Steps.{stage_answer, stage_after, with_staged, publish_answer, publish_after, withdraw_answer, withdraw_after}
use Rattle.pool.specs.declared.table.SeatStatus.{SeatStatus}
use Rattle.pool.specs.declared.table.Row.{Row}
use Rattle.pool.specs.declared.table.InnerTable.{InnerTable}
use Rattle.pool.specs.Masks.{has_member, with_member, without_member, is_subset}
use Rattle.pool.specs.Tables.{seat_status, row_at, idle_seat, with_status, with_row, with_state, with_held_row, voted_status, status_without}
use Rattle.pool.specs.Admissions.{admitted}
use Rattle.pool.specs.Locks as L
use Rattle.pool.specs.Calls.{Rule, PoolState, Accepted, accepted, and_then, answer_of, state_after, replied, has_entry, admitted_at, begin, read, write, prepare, vote, decide, abort, finish, close, let_go, finish_write, last_value, vote_of, from_store, version_of}
use Rattle.pool.proofs.MaskLemmas.{has-zero, has-with, has-without, subset_member}
use Rattle.pool.proofs.LockLemmas.{shared_put, claimed_put}
use Rattle.pool.proofs.TableLemmas.{shared_sound, claimed_sound, released_sound, status_sound}
use Rattle.promise.specs.Histories.{Operation, same}
use Rattle.promise.specs.OneByOne.{Chains}
use Rattle.promise.proofs.Sames.{no, same_refl, same_tells, same_apart, at}
use Rattle.promise.proofs.Views.{Inv, is_seat, holds, is_decided}
use Rattle.promise.proofs.Steps as S
use Rattle.promise.proofs.Law.{Alike, alike}
use Rattle.runner.proofs.Parts.{value_or_as, stage_ok, publish_ok, withdraw_ok, at_own}
use Rattle.runner.proofs.States.{view, Sized, held_as, turned, get_set, writes_as, admitted_ok, next_begin, next_read, next_write, next_prepare, next_vote, next_decide, next_abort, next_finish, next_close}

-- two tests of which one fails
elsewhere : {B : Type 0} (a b : Bool) (x y : B) → b ≡ false → y ≡ cond (a && b) x y
elsewhere true b x y t = rw t
elsewhere false b x y t = refl

-- two tests of which the second holds
beside : {B : Type 0} (a b : Bool) (x y : B) → b ≡ true → cond a x y ≡ cond (a && b) x y
beside true b x y t = rw t
beside false b x y t = refl

-- a member more, and one less, by the test of the histories
more : (b : Bool) (m p q : ℕ) → (has_member m q || eqb q p) ≡ cond (same p q) true (has_member m q)
more b m p q = ap (λ (c : Bool). has_member m q || c) (turned p q) ∙ go (has_member m q) (same p q)
  where
    go : (h c : Bool) → (h || c) ≡ cond c true h
    go true true = refl
    go true false = refl
    go false true = refl
    go false false = refl

with_as : (m p q : ℕ) → has_member (with_member m p) q ≡ cond (same p q) true (has_member m q)
with_as m p q = has-with m p q ∙ more true m p q

without_as : (m p q : ℕ) → p < 64 → q < 64 → has_member (without_member m p) q ≡ cond (same p q) false (has_member m q)
without_as m p q a b = has-without m p q a b ∙ ap (λ (c : Bool). has_member m q && not c) (turned p q) ∙ go (has_member m q) (same p q)
  where
    go : (h c : Bool) → (h && not c) ≡ cond c false h
    go true true = refl
    go true false = refl
    go false true = refl
    go false false = refl

-- a bit of a seat's mask at an entry below 64, after it is set to this at one entry
masked : (e y : ℕ) (b now old : Bool) → e < 64 → (y < 64 → now ≡ cond (same e y) b old) → (ltb y 64 && now) ≡ cond (same e y) b (ltb y 64 && old)
masked e y b now old l k = ⊎_elim inside outside (cases_lt y 64)
  where
    inside : y < 64 → (ltb y 64 && now) ≡ cond (same e y) b (ltb y 64 && old)
    inside m = ap₂ (λ (c d : Bool). c && d) (lt-ltb y 64 m) (k m) ∙ ap (λ (c : Bool). cond (same e y) b (c && old)) (sym (lt-ltb y 64 m))

    outside : 64 ≤ y → (ltb y 64 && now) ≡ cond (same e y) b (ltb y 64 && old)
    outside m =
        ap (λ (c : Bool). c && now) (le-ltb y 64 m)
        ∙ sym (ap₂ (λ (c d : Bool). cond c b (d && old)) (same_apart e y (λ q. omega arith)) (le-ltb y 64 m))

both : (a b c : Bool) → (a && b) ≡ true → (b ≡ true → c ≡ true) → (a && c) ≡ true
both true true c h k = k refl
both true false c h k = no (cc)
both false b c h k = no (cc)

-- the readers of a lock that is shared
shared_reader : (w v : Bool) → w ≡ v → (m p e x : ℕ) → has_member (cond w m (with_member m p)) x ≡ cond (same p x && same e e) (cond v (has_member m p) true) (has_member m x)
shared_reader w v q m p e x = go w v q (same_tells p x)
  where
    go : (w v : Bool) → w ≡ v → ((same p x ≡ true) × (p ≡ x)) ⊎ ((same p x ≡ false) × (p ≡ x → ⊥))
        → has_member (cond w m (with_member m p)) x ≡ cond (same p x && same e e) (cond v (has_member m p) true) (has_member m x)
    go true true q (inl t) = rw (t.0, same_refl e) (ap (has_member m) (sym t.1))
    go true true q (inr t) = rw t.0
    go false false q (inl t) = with_as m p x ∙ rw (t.0, same_refl e)
    go false false q (inr t) = with_as m p x ∙ rw t.0
    go true false q t = no (cc)
    go false true q t = no (cc)

against_as : (b : Bool) (m p x : ℕ) → p < 64 → x < 64 → has_member (cond b (without_member m p) (with_member m p)) x ≡ cond (same p x) (not b) (has_member m x)
against_as true m p x l k = without_as m p x l k
against_as false m p x l k = with_as m p x

-- what is set at a seat and an entry, where the seat's is told first
at_both : (p w e y : ℕ) (b : Bool) (f : ℕ → Bool) → cond (same p w) (cond (same e y) b (f p)) (f w) ≡ cond (same p w && same e y) b (f w)
at_both p w e y b f = go (same_tells p w) (same e y)
  where
    go : ((same p w ≡ true) × (p ≡ w)) ⊎ ((same p w ≡ false) × (p ≡ w → ⊥)) → (c : Bool) → cond (same p w) (cond c b (f p)) (f w) ≡ cond (same p w && c) b (f w)
    go (inl t) c = rw t.0 (ap (λ (k : ℕ). cond c b (f k)) t.1)
    go (inr t) c = rw t.0

and_false : (b : Bool) → (b && false) ≡ false
and_false true = refl
and_false false = refl

module _ (allows : Rule) (o : Chains) (s : PoolState) (h : List Operation) (i : Inv allows o (view s) h) (z : Sized s) where
  -- what a call that does this leads to
  abbrev Tied : {T : Type 0} → Call → (T → Reply) → Result (Accepted T) Fault → Type 0
  Tied c f r = Inv allows o (view (state_after r s)) (record { call = c; answer = answer_of (replied f r) } ∷ h) × Sized (state_after r s)

  refused : {T : Type 0} (c : Call) (f : T → Reply) (x : Fault) → Tied c f (Err x)
  refused c f x = (S.refused_step allows o (view s) h i c x, z)

  -- by whether a part of the call is refused, and by a test
  by_result : {A T : Type 0} (c : Call) (f : T → Reply) (r : Result A Fault) (go : A → Result (Accepted T) Fault) → ((a : A) → r ≡ Ok a → Tied c f (go a)) → Tied c f (and_then r go)
  by_result c f (Ok a) go k = k a refl
  by_result c f (Err x) go k = refused c f x

  by_test : {T : Type 0} (c : Call) (f : T → Reply) (b : Bool) (x y : Result (Accepted T) Fault) → (b ≡ true → Tied c f x) → (b ≡ false → Tied c f y) → Tied c f (cond b x y)
  by_test c f true x y k m = k refl
  by_test c f false x y k m = m refl

  unless : {T : Type 0} (c : Call) (f : T → Reply) (b : Bool) (x : Fault) (y : Result (Accepted T) Fault) → (b ≡ true → Tied c f y) → Tied c f (cond (not b) (Err x) y)
  unless c f true x y k = k refl
  unless c f false x y k = refused c f x

  -- ------------------------------------------------------------ calls that change a seat's status alone

  -- a field of the seats' statuses once one is set
  status_set : {B : Type 0} (f : SeatStatus → B) (p : ℕ) (x : SeatStatus) → p < 16 → (y : ℕ)
      → f (seat_status (with_status s.table p x) y) ≡ cond (same p y) (f x) (f (seat_status s.table y))
  status_set f p x l y = get_set f s.table.statuses p y x idle_seat (omega (arith, z.table.statuses))

  -- one that is as it was at that seat
  status_kept : {B : Type 0} (f : SeatStatus → B) (p : ℕ) (x : SeatStatus) → p < 16 → f x ≡ f (seat_status s.table p) → (y : ℕ)
      → f (seat_status (with_status s.table p x) y) ≡ f (seat_status s.table y)
  status_kept f p x l same_there y = status_set f p x l y ∙ go (same_tells p y)
    where
      go : ((same p y ≡ true) × (p ≡ y)) ⊎ ((same p y ≡ false) × (p ≡ y → ⊥)) → cond (same p y) (f x) (f (seat_status s.table y)) ≡ f (seat_status s.table y)
      go (inl t) = rw t.0 (same_there ∙ ap (λ (k : ℕ). f (seat_status s.table k)) t.1)
      go (inr t) = rw t.0

  -- a status with the masks that it had
  restated : (p : ℕ) (x : SeatStatus) → p < 16 → x.held ≡ (seat_status s.table p).held → Sized (record s { table = with_status s.table p x })
  restated p x l q = record { table = status_sound s.table p x z.table l q; entries = z.entries }

  -- a seat that goes to another state
  moved : (p : ℕ) (q : State) → p < 16 → Alike (view (record s { table = with_state s.table p q })) (S.with_state (view s) p q)
  moved p q l =
      let x : SeatStatus = record (seat_status s.table p) { state = q } in
      record {
        state = λ y _. status_set (λ x. x.state) p x l y;
        serial = λ y _. status_kept (λ x. x.serial) p x l refl y;
        writer = λ _. refl;
        reads = λ _ _ _. refl;
        voted = λ e y _. status_kept (λ x. ltb e 64 && has_member x.voted e) p x l refl y;
        against = λ e y _. status_kept (λ x. ltb e 64 && has_member x.against e) p x l refl y;
        staged = λ _. refl;
        chains = λ _. refl;
      }

  pub begin_tied : (p : ℕ) → Tied (C.Begin p) A.Serial (begin s p)
  begin_tied p =
      by_result (C.Begin p) A.Serial (admitted s.table N.Begin p true) _ (λ q e.
      by_test (C.Begin p) A.Serial (ltb (seat_status s.table p).serial 1000000) _ _
      (λ _.
      let k = admitted_ok s.table N.Begin p true q e in
      let m = next_begin (seat_status s.table p).state q k.2 in
      let x : SeatStatus = record (seat_status s.table p) { state = q; serial = (seat_status s.table p).serial + 1 } in (
        alike allows o _ (S.begun_view (view s) p) _
            (record {
              state = λ y _. status_set (λ x. x.state) p x k.0 y ∙ rw m.1;
              serial = λ y _. status_set (λ x. x.serial) p x k.0 y;
              writer = λ _. refl;
              reads = λ _ _ _. refl;
              voted = λ e y _. status_kept (λ x. ltb e 64 && has_member x.voted e) p x k.0 refl y;
              against = λ e y _. status_kept (λ x. ltb e 64 && has_member x.against e) p x k.0 refl y;
              staged = λ _. refl;
              chains = λ _. refl;
            })
            (S.begin_step allows o (view s) h i p ((seat_status s.table p).serial + 1) k.0 m.0),
        restated p x k.0 refl,
      ))
      (λ _. refused (C.Begin p) A.Serial SerialsUsedUp))

  pub prepare_tied : (p : ℕ) → Tied (C.Prepare p) (λ _. A.Done) (prepare s p)
  prepare_tied p =
      by_result (C.Prepare p) (λ _. A.Done) (admitted s.table N.Prepare p true) _ (λ q e.
      let k = admitted_ok s.table N.Prepare p true q e in
      let m = next_prepare (seat_status s.table p).state q k.2 in
      (alike allows o _ (S.with_state (view s) p q) _ (moved p q k.0) (rw m.1 (S.prepare_step allows o (view s) h i p k.0 m.0)), restated p _ k.0 refl))

  pub abort_tied : (p : ℕ) → Tied (C.Abort p) (λ _. A.Done) (abort s p)
  abort_tied p =
      by_result (C.Abort p) (λ _. A.Done) (admitted s.table N.Abort p true) _ (λ q e.
      let k = admitted_ok s.table N.Abort p true q e in
      let m = next_abort (seat_status s.table p).state q k.2 in
      (alike allows o _ (S.with_state (view s) p q) _ (moved p q k.0) (rw m.1 (S.abort_step allows o (view s) h i p k.0 m.0)), restated p _ k.0 refl))

  -- holding a row, as the table has it and as the view has it
  holds_as : (e p : ℕ) → L.holds (row_at s.table e) p ≡ holds (view s) e p
  holds_as e p = ap (λ (b : Bool). b || has_member (row_at s.table e).readers p) (writes_as (row_at s.table e).writer p)

  pub close_tied : (p : ℕ) → Tied (C.Close p) (λ _. A.Done) (close s p)
  close_tied p =
      by_result (C.Close p) (λ _. A.Done) (admitted s.table N.Close p true) _ (λ q e.
      unless (C.Close p) (λ _. A.Done) (eqb (seat_status s.table p).held 0) LocksRemain _ (λ f.
      let k = admitted_ok s.table N.Close p true q e in
      let m = next_close (seat_status s.table p).state q k.2 in (
        alike allows o _ (S.with_state (view s) p q) _ (moved p q k.0)
            (rw m.1 (S.close_step allows o (view s) h i p k.0 m.0 (λ y. sym (holds_as y p) ∙ held_as s z p y k.0 ∙ none f y))),
        restated p _ k.0 refl,
      )))
    where
      none : eqb (seat_status s.table p).held 0 ≡ true → (y : ℕ) → (ltb y 64 && has_member (seat_status s.table p).held y) ≡ false
      none f y = ap (λ (n : ℕ). ltb y 64 && has_member n y) (eqb-true (seat_status s.table p).held 0 f) ∙ ap (λ (b : Bool). ltb y 64 && b) (has-zero y) ∙ and_false (ltb y 64)

  pub decide_tied : (p : ℕ) → Tied (C.Decide p) A.Decided (decide s p)
  decide_tied p =
      by_result (C.Decide p) A.Decided (admitted s.table N.Decide p true) _ (λ q e.
      let k = admitted_ok s.table N.Decide p true q e in
      let m = next_decide (seat_status s.table p).state q k.2 in
      by_test (C.Decide p) A.Decided (not (eqb (seat_status s.table p).against 0)) _ _
      (λ _. (alike allows o _ (S.with_state (view s) p Abort) _ (moved p Abort k.0) (S.decide_abort_step allows o (view s) h i p k.0 m.0), restated p _ k.0 refl))
      (λ f. unless (C.Decide p) A.Decided (is_subset (seat_status s.table p).held (seat_status s.table p).voted) VotesMissing _ (λ g. (
        alike allows o _ (S.with_state (view s) p q) _ (moved p q k.0)
            (rw m.1 (S.commit_step allows o (view s) h i p k.0 m.0 (voted k.0 g) (unopposed f))),
        restated p _ k.0 refl,
      ))))
    where
      unopposed : not (eqb (seat_status s.table p).against 0) ≡ false → (y : ℕ) → (ltb y 64 && has_member (seat_status s.table p).against y) ≡ false
      unopposed f y =
          ap (λ (n : ℕ). ltb y 64 && has_member n y) (eqb-true (seat_status s.table p).against 0 (grind arith)) ∙ ap (λ (b : Bool). ltb y 64 && b) (has-zero y) ∙ and_false (ltb y 64)

      voted : p < 16 → is_subset (seat_status s.table p).held (seat_status s.table p).voted ≡ true
          → (y : ℕ) → is_seat (row_at s.table y).writer p ≡ true → (ltb y 64 && has_member (seat_status s.table p).voted y) ≡ true
      voted l g y w =
          let holder : L.holds (row_at s.table y) p ≡ true = ap (λ (b : Bool). b || has_member (row_at s.table y).readers p) (writes_as (row_at s.table y).writer p ∙ w) in
          let there : (ltb y 64 && has_member (seat_status s.table p).held y) ≡ true = sym (held_as s z p y l) ∙ holder in
          both (ltb y 64) (has_member (seat_status s.table p).held y) (has_member (seat_status s.table p).voted y) there (subset_member (seat_status s.table p).held (seat_status s.table p).voted y g)

  -- ------------------------------------------------------------ calls that change a row too

  below : (e : ℕ) → has_entry s e ≡ true → e < 64
  below e q = omega (arith, ltb-true e s.store.reading.entries q, z.entries)

  -- a field of the rows once one is set, by what it is to be at that entry and at every other
  rows_as : {B : Type 0} (f : Row → B) (g : ℕ → B) (t : InnerTable) (e : ℕ) (r : Row) → t.rows ≡ s.table.rows → e < 64 → f r ≡ g e
      → ((y : ℕ) → same e y ≡ false → f (row_at s.table y) ≡ g y) → (y : ℕ) → f (row_at (with_row t e r) y) ≡ g y
  rows_as f g t e r w l here there =
      at (λ (y : ℕ). f (row_at (with_row t e r) y) ≡ g y) e
      (set_at e ∙ ap (λ (b : Bool). cond b (f r) (f (row_at s.table e))) (same_refl e) ∙ here)
      (λ y n. set_at y ∙ ap (λ (b : Bool). cond b (f r) (f (row_at s.table y))) n ∙ there y n)
    where
      set_at : (y : ℕ) → f (row_at (with_row t e r) y) ≡ cond (same e y) (f r) (f (row_at s.table y))
      set_at y =
          ap (λ (rows : List Row). f (row_at (record t { rows = set rows e r }) y)) w
          ∙ get_set f s.table.rows e y r L.unlocked_row (omega (arith, z.table.rows))

  rows_kept : {B : Type 0} (f : Row → B) (t : InnerTable) (e : ℕ) (r : Row) → t.rows ≡ s.table.rows → e < 64 → f r ≡ f (row_at s.table e)
      → (y : ℕ) → f (row_at (with_row t e r) y) ≡ f (row_at s.table y)
  rows_kept f t e r w l here = rows_as f (λ y. f (row_at s.table y)) t e r w l here (λ y n. refl)

  -- what a lock that is put for a seat leaves of the seats' statuses: a bit of its mask of held entries, which the view does not show
  lock_kept : {B : Type 0} (f : SeatStatus → B) (p e : ℕ) (r : Row) → p < 16
      → f (record (seat_status s.table p) { held = with_member (seat_status s.table p).held e }) ≡ f (seat_status s.table p)
      → (y : ℕ) → f (seat_status (with_held_row s.table p e r) y) ≡ f (seat_status s.table y)
  lock_kept f p e r l q y = status_kept f p (record (seat_status s.table p) { held = with_member (seat_status s.table p).held e }) l q y

  pub read_tied : (p e : ℕ) → Tied (C.Read p e) A.Value (read s p e)
  read_tied p e =
      by_result (C.Read p e) A.Value (admitted_at s N.Read p e) _ (λ q c.
      by_result (C.Read p e) A.Value (L.shared_row (row_at s.table e) p) _ (λ r d.
      let k = admitted_ok s.table N.Read p (has_entry s e) q c in
      let m = shared_put (row_at s.table e) r p d in
      let l : e < 64 = below e k.1 in
      let t : InnerTable = with_status s.table p (record (seat_status s.table p) { held = with_member (seat_status s.table p).held e }) in (
        alike allows o _ (S.read_view (view s) p e) _
            (record {
              state = λ y _. lock_kept (λ x. x.state) p e r k.0 refl y;
              serial = λ y _. lock_kept (λ x. x.serial) p e r k.0 refl y;
              writer = rows_kept (λ r. r.writer) t e r refl l (ap (λ r. r.writer) m.1);
              reads = λ y x b. rows_as (λ r. has_member r.readers x) (λ y. (S.read_view (view s) p e).reads y x) t e r refl l
                  (ap (λ r. has_member r.readers x) m.1 ∙ shared_reader (L.is_writer (row_at s.table e) p) _ (writes_as (row_at s.table e).writer p) (row_at s.table e).readers p e x)
                  (λ y n. elsewhere (same p x) (same e y) _ (has_member (row_at s.table y).readers x) n) y;
              voted = λ y x _. lock_kept (λ x. ltb y 64 && has_member x.voted y) p e r k.0 refl x;
              against = λ y x _. lock_kept (λ x. ltb y 64 && has_member x.against y) p e r k.0 refl x;
              staged = λ _. refl;
              chains = λ _. refl;
            })
            (S.read_step allows o (view s) h i p e _ k.0 (next_read (seat_status s.table p).state q k.2)
            (ap (λ (b : Bool). is_some (row_at s.table e).writer && not b) (sym (writes_as (row_at s.table e).writer p)) ∙ m.2)
            (ap₂ (λ (b : Bool) (v : ℤ). cond b v (last_value s e)) (ap (λ r. L.is_writer r p) m.1 ∙ writes_as (row_at s.table e).writer p) (value_or_as (s.store.staged e) (s.store.reading.chains e)))),
        record { table = shared_sound s.table p e z.table k.0 l r d; entries = z.entries },
      )))

  pub write_tied : (p e : ℕ) (v : ℤ) → Tied (C.Write p e v) (λ _. A.Done) (write s p e v)
  write_tied p e v =
      by_result (C.Write p e v) (λ _. A.Done) (admitted_at s N.Write p e) _ (λ q c.
      by_result (C.Write p e v) (λ _. A.Done) (L.claimed_row (row_at s.table e) p) _ (λ r d.
      by_result (C.Write p e v) (λ _. A.Done) (from_store (stage_answer s.store e (version_of s p v))) _ (λ _ g.
      let k = admitted_ok s.table N.Write p (has_entry s e) q c in
      let m = claimed_put (row_at s.table e) r p (omega (arith, k.0)) d in
      let l : e < 64 = below e k.1 in
      let t : InnerTable = with_status s.table p (record (seat_status s.table p) { held = with_member (seat_status s.table p).held e }) in
      let n : stage_after s.store e (version_of s p v) ≡ with_staged s.store e (Some (version_of s p v)) = stage_ok s.store e (version_of s p v) g in (
        alike allows o _ (S.written_view (view s) p e v) _
            (record {
              state = λ y _. lock_kept (λ x. x.state) p e r k.0 refl y;
              serial = λ y _. lock_kept (λ x. x.serial) p e r k.0 refl y;
              writer = rows_as (λ r. r.writer) (S.written_view (view s) p e v).writer t e r refl l (ap (λ r. r.writer) m.1 ∙ rw (same_refl e)) (λ y n. rw n);
              reads = λ y x _. rows_as (λ r. has_member r.readers x) (λ y. (S.written_view (view s) p e v).reads y x) t e r refl l
                  (ap (λ r. has_member r.readers x) m.1 ∙ has-zero x ∙ rw (same_refl e)) (λ y n. rw n) y;
              voted = λ y x _. lock_kept (λ x. ltb y 64 && has_member x.voted y) p e r k.0 refl x;
              against = λ y x _. lock_kept (λ x. ltb y 64 && has_member x.against y) p e r k.0 refl x;
              staged = λ y. ap (λ (w : WritingMeaning). w.staged y) n ∙ ap (λ (b : Bool). cond b (Some (version_of s p v)) (s.store.staged y)) (turned e y);
              chains = λ y. ap (λ (w : WritingMeaning). w.reading.chains y) n;
            })
            (S.write_step allows o (view s) h i p e v k.0 (next_write (seat_status s.table p).state q k.2) m.2
            (λ x b n. sym (holds_as e x) ∙ sym (m.0.others x (omega (arith, b)) (apart p x n)) ∙ free x m.1 n)),
        record {
          table = claimed_sound s.table p e z.table k.0 l r d;
          entries = subst (λ (n : ℕ). n ≤ 64) (sym (ap (λ (w : WritingMeaning). w.reading.entries) n)) z.entries;
        },
      ))))
    where
      apart : (p x : ℕ) → same p x ≡ false → x ≡ p → ⊥
      apart p x n q = no (let u = same_refl p in let w : same p p ≡ false = subst (λ (k : ℕ). same p k ≡ false) q n in cc)

      free : {r : Row} (x : ℕ) → r ≡ L.row (Some p) 0 → same p x ≡ false → L.holds r x ≡ false
      free {r} x m n = ap (λ (r : Row). L.holds r x) m ∙ ap₂ (λ (a b : Bool). a || b) (writes_as (Some p) x ∙ n) (has-zero x)

  pub vote_tied : (p e : ℕ) → Tied (C.Vote p e) A.Voted (vote allows s p e)
  vote_tied p e =
      by_result (C.Vote p e) A.Voted (admitted_at s N.Vote p e) _ (λ q c.
      unless (C.Vote p e) A.Voted (L.holds (row_at s.table e) p) NoLock _ (λ d.
      by_test (C.Vote p e) A.Voted (has_member (seat_status s.table p).voted e) _ _
      (λ _. refused (C.Vote p e) A.Voted VotedAlready)
      (λ _.
      let k = admitted_ok s.table N.Vote p (has_entry s e) q c in
      let l : e < 64 = below e k.1 in
      let b : Bool = vote_of allows s p e in
      let x : SeatStatus = voted_status (seat_status s.table p) e b in (
        alike allows o _ (S.voted_view (view s) p e b) _
            (record {
              state = λ y _. status_kept (λ x. x.state) p x k.0 refl y;
              serial = λ y _. status_kept (λ x. x.serial) p x k.0 refl y;
              writer = λ _. refl;
              reads = λ _ _ _. refl;
              voted = λ y w _. status_set (λ x. ltb y 64 && has_member x.voted y) p x k.0 w
                  ∙ ap (λ (n : Bool). cond (same p w) n (ltb y 64 && has_member (seat_status s.table w).voted y)) (masked e y true _ (has_member (seat_status s.table p).voted y) l (λ _. with_as (seat_status s.table p).voted e y))
                  ∙ at_both p w e y true (λ k. ltb y 64 && has_member (seat_status s.table k).voted y);
              against = λ y w _. status_set (λ x. ltb y 64 && has_member x.against y) p x k.0 w
                  ∙ ap (λ (n : Bool). cond (same p w) n (ltb y 64 && has_member (seat_status s.table w).against y)) (masked e y (not b) _ (has_member (seat_status s.table p).against y) l (λ m. against_as b (seat_status s.table p).against e y l m))
                  ∙ at_both p w e y (not b) (λ k. ltb y 64 && has_member (seat_status s.table k).against y);
              staged = λ _. refl;
              chains = λ _. refl;
            })
            (S.vote_step allows o (view s) h i p e b k.0 (next_vote (seat_status s.table p).state q k.2) (sym (holds_as e p) ∙ d)
            (ap₂ (λ (w : Bool) (v : ℤ). cond w (allows e (last_value s e) v) true) (writes_as (row_at s.table e).writer p) (value_or_as (s.store.staged e) (s.store.reading.chains e)))),
        restated p x k.0 refl,
      ))))

  -- a finish, by what it leaves of the store
  finished : (p e : ℕ) (m : WritingMeaning) → p < 16 → e < 64 → is_decided (seat_status s.table p).state ≡ true → L.holds (row_at s.table e) p ≡ true
      → m.reading.entries ≡ s.store.reading.entries
      → ((y : ℕ) → m.staged y ≡ (S.finished_view (view s) p e).staged y) → ((y : ℕ) → m.reading.chains y ≡ (S.finished_view (view s) p e).chains y)
      → Tied {T = Unit {0}} (C.Finish p e) (λ _. A.Done) (accepted tt (let_go s p e m))
  finished p e m k l a d n staged chains = (
    alike allows o _ (S.finished_view (view s) p e) _
        (record {
          state = λ y _. status_kept (λ x. x.state) p x k refl y;
          serial = λ y _. status_kept (λ x. x.serial) p x k refl y;
          writer = rows_as (λ r. r.writer) (S.finished_view (view s) p e).writer t e r refl l
              (ap (λ (b : Bool). cond b None (row_at s.table e).writer) (writes_as (row_at s.table e).writer p) ∙ rw (same_refl e)) (λ y n. rw n);
          reads = λ y w b. rows_as (λ r. has_member r.readers w) (λ y. (S.finished_view (view s) p e).reads y w) t e r refl l
              (without_as (row_at s.table e).readers p w (omega (arith, k)) (omega (arith, b)) ∙ beside (same p w) (same e e) false (has_member (row_at s.table e).readers w) (same_refl e))
              (λ y n. elsewhere (same p w) (same e y) false (has_member (row_at s.table y).readers w) n) y;
          voted = λ y w _. status_set (λ x. ltb y 64 && has_member x.voted y) p x k w
              ∙ ap (λ (n : Bool). cond (same p w) n (ltb y 64 && has_member (seat_status s.table w).voted y)) (masked e y false _ (has_member (seat_status s.table p).voted y) l (λ m. without_as (seat_status s.table p).voted e y l m))
              ∙ at_both p w e y false (λ k. ltb y 64 && has_member (seat_status s.table k).voted y);
          against = λ y w _. status_set (λ x. ltb y 64 && has_member x.against y) p x k w
              ∙ ap (λ (n : Bool). cond (same p w) n (ltb y 64 && has_member (seat_status s.table w).against y)) (masked e y false _ (has_member (seat_status s.table p).against y) l (λ m. without_as (seat_status s.table p).against e y l m))
              ∙ at_both p w e y false (λ k. ltb y 64 && has_member (seat_status s.table k).against y);
          staged = staged;
          chains = chains;
        })
        (S.finish_step allows o (view s) h i p e k a (sym (holds_as e p) ∙ d)),
    record { table = released_sound s.table p e z.table k l; entries = subst (λ (n : ℕ). n ≤ 64) (sym n) z.entries },
  )
    where
      x : SeatStatus
      x = status_without (seat_status s.table p) e

      t : InnerTable
      t = with_status s.table p (status_without (seat_status s.table p) e)

      r : Row
      r = L.released_row (row_at s.table e) p

  pub finish_tied : (p e : ℕ) → Tied (C.Finish p e) (λ _. A.Done) (finish s p e)
  finish_tied p e =
      by_result (C.Finish p e) (λ _. A.Done) (admitted_at s N.Finish p e) _ (λ q c.
      let k = admitted_ok s.table N.Finish p (has_entry s e) q c in
      let m = next_finish (seat_status s.table p).state q k.2 in
      let l : e < 64 = below e k.1 in
      unless (C.Finish p e) (λ _. A.Done) (L.holds (row_at s.table e) p) NoLock _ (λ d.
      by_test (C.Finish p e) (λ _. A.Done) (L.is_writer (row_at s.table e) p) _ _
      (λ w. written q k.0 m.0 l d (sym (writes_as (row_at s.table e).writer p) ∙ w) m.1)
      (λ w.
      let v : is_seat (row_at s.table e).writer p ≡ false = sym (writes_as (row_at s.table e).writer p) ∙ w in
      finished p e s.store k.0 l m.0 d refl
      (λ y. at_own s.store.staged e y ∙ rw v)
      (λ y. at_own s.store.reading.chains e y ∙ rw v))))
    where
      written : (q : State) → p < 16 → is_decided (seat_status s.table p).state ≡ true → e < 64 → L.holds (row_at s.table e) p ≡ true
          → is_seat (row_at s.table e).writer p ≡ true → q ≡ (seat_status s.table p).state → Tied (C.Finish p e) (λ _. A.Done) (finish_write s p e q)
      written Commit k a l d v is =
          by_result (C.Finish p e) (λ _. A.Done) (from_store (publish_answer s.store e)) _ (λ _ g.
          let n = publish_ok s.store e g in
          finished p e (publish_after s.store e) k l a d n.entries (λ y. n.staged y ∙ rw v) (λ y. n.chains y ∙ rw (v, sym is)))
      written Abort k a l d v is =
          by_result (C.Finish p e) (λ _. A.Done) (from_store (withdraw_answer s.store e)) _ (λ _ g.
          let n = withdraw_ok s.store e g in
          finished p e (withdraw_after s.store e) k l a d n.entries (λ y. n.staged y ∙ rw v) (λ y. n.chains y ∙ rw (v, sym is)))
      written Idle k a l d v is = no (let u = ap is_decided is in cc)
      written Editing k a l d v is = no (let u = ap is_decided is in cc)
      written Voting k a l d v is = no (let u = ap is_decided is in cc)
