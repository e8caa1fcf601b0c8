-- In every state of an opened pool its writers have staged, its store refuses for three reasons only, and a call that passes its checks is
-- refused exactly where the table of calls says.
use Rattle.std.proofs.Common.{◌≡◌, ◌↔◌, ℕ, zero, suc, ◌<◌, ◌≤◌, ◌^◌, Bool, true, false, cond, not, ◌&&◌, ◌||◌, eqb, ltb, List, length, ℤ, is_some, Some, None, Ok, Err, Option, Result, sym, refl, ap, ◌∙◌, ap₂, ⊎_elim, ◌⊎◌, inl, inr, arith}
use Rattle.std.specs.Prelude.{is_ok}
use Rattle.std.proofs.lemmas.Nat.{or_lt, and_le_r}
use Rattle.std.proofs.lemmas.Nat.Bits.{same_from_bits_below, bit_at-lt, bit_at_above}
use Rattle.std.proofs.lemmas.Bool.{ltb-true, lt-ltb, le-leb, eqb-true, eq-eqb, ne_eqb, and_parts, cases_eq, cases_lt}
use Rattle.std.specs.Int.{w64, bit_at, bit_not}
use Rattle.std.specs.Prelude.{bit_or}
use Rattle.calls.specs.declared.fault.Fault.{Fault}
use Rattle.calls.specs.declared.fault.Fault.TheVariants.{NoSuchSeat, LockInTheWay, NoLock, VotedAlready, VotesMissing, LocksRemain, Store}
use Rattle.calls.specs.declared.call.Call.{Call}
use Rattle.calls.specs.declared.call.Call.TheVariants as C
use Rattle.calls.specs.declared.answer.Reply.{Reply}
use Rattle.calls.specs.declared.answer.Reply.TheVariants as A
use Rattle.calls.specs.declared.answer.Decision.{Decision}
use Rattle.calls.specs.declared.state.State.{State}
use Rattle.calls.specs.declared.state.State.TheVariants.{Idle, Editing, Voting, Commit, Abort}
use Rattle.calls.specs.declared.call.CallName.{CallName}
use Rattle.calls.specs.declared.call.CallName.TheVariants as N
use Rattle.calls.specs.States.{next_state}
use Rattle.store.specs.declared.refusal.Refusal.{Refusal}
use Rattle.store.specs.declared.refusal.Refusal.TheVariants.{NoSuchEntry, ValueBeyondReach, ChainFull, NoSuchAuthor, NothingStaged}
use Rattle.store.specs.declared.version.Version.{Version}
use Rattle.store.specs.Meaning.{WritingMeaning, IsSoundWriting}
use Rattle.store.specs.Steps.{StoreAnswer, has_author, is_within, stage_answer, publish_answer, withdraw_answer}
use Rattle.pool.specs.declared.table.Row.{Row}
use Rattle.pool.specs.declared.table.InnerTable.{InnerTable}
use Rattle.pool.specs.Masks.{has_member, with_member, without_member, is_subset}
use Rattle.pool.specs.Tables.{seat_status, row_at}
use Rattle.pool.specs.Admissions.{admitted, stepped_to}
use Rattle.pool.specs.Locks.{row, is_lock, by_writer, is_writer, holds, is_held_by_another, shared_row, claimed_row}
use Rattle.pool.specs.Calls.{Rule, PoolState, Accepted, accepted, and_then, answer_of, replied, perform, has_entry, admitted_at, version_of, from_store, finish_write, let_go}
use Rattle.pool.proofs.MaskLemmas.{has-zero, has-or, has-without, subset_member}
use Rattle.promise.specs.Histories.{Operation, events_of}
use Rattle.promise.specs.OneByOne.{Chains, added}
use Rattle.promise.proofs.Sames.{no}
use Rattle.promise.proofs.Views.{Inv, history_at, as_list, is_seat, is_live}
use Rattle.runner.specs.Runs.{Reached, chains}
use Rattle.runner.specs.Soundness.{Writes, Holds, HasNoneAgainst, HoldsSome, LacksAVote, IsStagedBy, is_expected, IsSoundState}
use Rattle.runner.proofs.States.{view, Sized, row_past, writes_as, admitted_ok, next_write}
use Rattle.runner.proofs.Sound.{IsSound, IsMask, sound}
use Rattle.runner.proofs.Whole.{held}

-- ------------------------------------------------------------ what is staged

-- what an edit wrote to an entry is what is staged there
staged_is : (o : Option Version) (z : Option ℤ) (p n k m : ℕ) → is_some z ≡ true → as_list o ≡ added (record { seat = p; serial = n }) k z → m ≡ n
    → (x : ℤ) × (o ≡ Some (record { value = x; seat = p; serial = m }))
staged_is (Some v) (Some x) p n k m t e q = (x, cc)
staged_is None (Some x) p n k m t e q = no (cc)
staged_is o None p n k m t e q = no (cc)

-- the seat that writes is the row's writer
writer_is : (w : Option ℕ) (p : ℕ) → by_writer w p true false false ≡ true → w ≡ Some p
writer_is (Some w) p h = ap Some (eqb-true w p (go (eqb w p) h))
  where
    go : (b : Bool) → cond b true false ≡ true → b ≡ true
    go true h = refl
    go false h = no (cc)
writer_is None p h = no (cc)

some_writer : (w : Option ℕ) → is_some w ≡ true → (p : ℕ) × (by_writer w p true false false ≡ true)
some_writer (Some p) t = (p, ap (λ (b : Bool). cond b true false) (eq-eqb p p refl))
some_writer None t = no (cc)

module _ (allows : Rule) (o : Chains) (s : PoolState) (h : List Operation) (i : Inv allows o (view s) h) where
  staged_by : (p e : ℕ) → p < 16 → Writes s p e → IsStagedBy s p e
  staged_by p e l w =
      let agree = i.agree p e l in
      let v : is_seat (row_at s.table e).writer p ≡ true = sym (writes_as (row_at s.table e).writer p) ∙ w in
      let wrote = sym agree.wrote ∙ v in
      staged_is (s.store.staged e) _ p _ (history_at o (events_of h) p e).rank _ (and_parts _ _ (and_parts _ _ wrote).0).1 (agree.staged v) agree.serial

-- ------------------------------------------------------------ refusals by the store

-- where this is refused by the store, the refusal may come
abbrev Fair : {T : Type 0} → Result T Fault → Type 0
Fair x = (r : Refusal) → x ≡ Err (Store r) → is_expected r ≡ true

fair_reply : {T : Type 0} (f : T → Reply) (d : Result (Accepted T) Fault) → Fair d → Fair (answer_of (replied f d))
fair_reply f (Ok d) k r q = no (cc)
fair_reply f (Err x) k r q = k r (cc)

fair_then : {A T : Type 0} (x : Result A Fault) (go : A → Result (Accepted T) Fault) → Fair x → ((a : A) → x ≡ Ok a → Fair (go a)) → Fair (and_then x go)
fair_then (Ok a) go k m = m a refl
fair_then (Err x) go k m = λ r q. k r (cc)

fair_test : {T : Type 0} (b : Bool) (x y : Result T Fault) → (b ≡ true → Fair x) → (b ≡ false → Fair y) → Fair (cond b x y)
fair_test true x y k m = k refl
fair_test false x y k m = m refl

fair_done : {T : Type 0} (d : T) → Fair (Ok d)
fair_done d r q = no (cc)

admitted_fair : (t : InnerTable) (name : CallName) (p : ℕ) (b : Bool) → Fair (admitted t name p b)
admitted_fair t name p b = go (ltb p t.seats && ltb p 16) b (next_state name (seat_status t p).state)
  where
    go : (c b : Bool) (o : Option State) → Fair (cond c (cond b (stepped_to o) (Err (Store NoSuchEntry))) (Err NoSuchSeat))
    go true true (Some x) r q = no (cc)
    go true true None r q = no (cc)
    go true false o r q = ap is_expected (let u : NoSuchEntry ≡ r = cc in sym u)
    go false b o r q = no (cc)

shared_fair : (old : Row) (p : ℕ) → Fair (shared_row old p)
shared_fair old p = fair_test (is_lock old) _ _ (λ _. go old.writer) (λ _ r q. no (cc))
  where
    go : (w : Option ℕ) → Fair (by_writer w p (Ok old) (Err LockInTheWay) (Ok (row None (with_member old.readers p))))
    go None = fair_done _
    go (Some w) = fair_test (eqb w p) _ _ (λ _. fair_done _) (λ _ r q. no (cc))

claimed_fair : (old : Row) (p : ℕ) → Fair (claimed_row old p)
claimed_fair old p = fair_test (is_lock old) _ _ (λ _. fair_test (is_held_by_another old p) _ _ (λ _ r q. no (cc)) (λ _. fair_done _)) (λ _ r q. no (cc))

stage_fair : (m : WritingMeaning) (e : ℕ) (v : Version) → has_author v ≡ true → Fair (from_store (stage_answer m e v))
stage_fair m e v a = go (ltb e m.reading.entries) (has_author v) a (is_within m.reading.reach v.value) (ltb (length (m.reading.chains e)) m.reading.depth)
  where
    go : (b c : Bool) → c ≡ true → (d f : Bool)
        → Fair (from_store (cond b (cond c (cond d (cond f (Ok tt) (Err ChainFull)) (Err ValueBeyondReach)) (Err NoSuchAuthor)) (Err NoSuchEntry)))
    go true true a true true r q = no (cc)
    go true true a true false r q = ap is_expected (let u : ChainFull ≡ r = cc in sym u)
    go true true a false f r q = ap is_expected (let u : ValueBeyondReach ≡ r = cc in sym u)
    go true false a d f r q = no (cc)
    go false c a d f r q = ap is_expected (let u : NoSuchEntry ≡ r = cc in sym u)

-- publish and withdraw of what is staged
spend_fair : (b : Bool) (o : Option Version) (v : Version) → o ≡ Some v → Fair (from_store (cond b (cond (is_some o) (Ok tt) (Err NothingStaged)) (Err NoSuchEntry)))
spend_fair true (Some x) v s r q = no (cc)
spend_fair true None v s r q = no (cc)
spend_fair false o v s r q = ap is_expected (let u : NoSuchEntry ≡ r = cc in sym u)

module _ (allows : Rule) (s : PoolState) (k : IsSound s) (st : (p e : ℕ) → Writes s p e → IsStagedBy s p e) where
  author : (p : ℕ) (z : ℤ) → p < 16 → (seat_status s.table p).state ≡ Editing → has_author (version_of s p z) ≡ true
  author p z l q =
      rw (lt-ltb p 16 l, le-leb 1 (seat_status s.table p).serial ((k.statuses p).least (ap is_live q)), le-leb (seat_status s.table p).serial 1000000 (k.statuses p).most)

  finish_fair : (p e : ℕ) (q : State) (v : Version) → s.store.staged e ≡ Some v → Fair (finish_write s p e q)
  finish_fair p e Commit v w = fair_then (from_store (publish_answer s.store e)) _ (spend_fair (ltb e s.store.reading.entries) (s.store.staged e) v w) (λ _ _. fair_done _)
  finish_fair p e Abort v w = fair_then (from_store (withdraw_answer s.store e)) _ (spend_fair (ltb e s.store.reading.entries) (s.store.staged e) v w) (λ _ _. fair_done _)
  finish_fair p e Idle v w = fair_then (from_store (withdraw_answer s.store e)) _ (spend_fair (ltb e s.store.reading.entries) (s.store.staged e) v w) (λ _ _. fair_done _)
  finish_fair p e Editing v w = fair_then (from_store (withdraw_answer s.store e)) _ (spend_fair (ltb e s.store.reading.entries) (s.store.staged e) v w) (λ _ _. fair_done _)
  finish_fair p e Voting v w = fair_then (from_store (withdraw_answer s.store e)) _ (spend_fair (ltb e s.store.reading.entries) (s.store.staged e) v w) (λ _ _. fair_done _)

  fair : (c : Call) → Fair (answer_of (perform allows c s))
  fair (C.Begin p) =
      fair_reply A.Serial _ (fair_then (admitted s.table N.Begin p true) _ (admitted_fair s.table N.Begin p true) (λ q c.
      fair_test (ltb (seat_status s.table p).serial 1000000) _ _ (λ _. fair_done _) (λ _ r t. no (cc))))
  fair (C.Read p e) =
      fair_reply A.Value _ (fair_then (admitted_at s N.Read p e) _ (admitted_fair s.table N.Read p (has_entry s e)) (λ q c.
      fair_then (shared_row (row_at s.table e) p) _ (shared_fair (row_at s.table e) p) (λ _ _. fair_done _)))
  fair (C.Write p e z) =
      fair_reply (λ _. A.Done) _ (fair_then (admitted_at s N.Write p e) _ (admitted_fair s.table N.Write p (has_entry s e)) (λ q c.
      let l = admitted_ok s.table N.Write p (has_entry s e) q c in
      fair_then (claimed_row (row_at s.table e) p) _ (claimed_fair (row_at s.table e) p) (λ _ _.
      fair_then (from_store (stage_answer s.store e (version_of s p z))) _
      (stage_fair s.store e (version_of s p z) (author p z l.0 (next_write (seat_status s.table p).state q l.2))) (λ _ _. fair_done _))))
  fair (C.Prepare p) =
      fair_reply (λ _. A.Done) _ (fair_then (admitted s.table N.Prepare p true) _ (admitted_fair s.table N.Prepare p true) (λ _ _. fair_done _))
  fair (C.Vote p e) =
      fair_reply A.Voted _ (fair_then (admitted_at s N.Vote p e) _ (admitted_fair s.table N.Vote p (has_entry s e)) (λ _ _.
      fair_test (not (holds (row_at s.table e) p)) _ _ (λ _ r t. no (cc))
      (λ _. fair_test (has_member (seat_status s.table p).voted e) _ _ (λ _ r t. no (cc)) (λ _. fair_done _))))
  fair (C.Decide p) =
      fair_reply A.Decided _ (fair_then (admitted s.table N.Decide p true) _ (admitted_fair s.table N.Decide p true) (λ _ _.
      fair_test (not (eqb (seat_status s.table p).against 0)) _ _ (λ _. fair_done _)
      (λ _. fair_test (not (is_subset (seat_status s.table p).held (seat_status s.table p).voted)) _ _ (λ _ r t. no (cc)) (λ _. fair_done _))))
  fair (C.Abort p) =
      fair_reply (λ _. A.Done) _ (fair_then (admitted s.table N.Abort p true) _ (admitted_fair s.table N.Abort p true) (λ _ _. fair_done _))
  fair (C.Finish p e) =
      fair_reply (λ _. A.Done) _ (fair_then (admitted_at s N.Finish p e) _ (admitted_fair s.table N.Finish p (has_entry s e)) (λ q _.
      fair_test (not (holds (row_at s.table e) p)) _ _ (λ _ r t. no (cc))
      (λ _. fair_test (is_writer (row_at s.table e) p) _ _ (λ w. finish_fair p e q _ (st p e w).1) (λ _. fair_done _))))
  fair (C.Close p) =
      fair_reply (λ _. A.Done) _ (fair_then (admitted s.table N.Close p true) _ (admitted_fair s.table N.Close p true) (λ _ _.
      fair_test (not (eqb (seat_status s.table p).held 0)) _ _ (λ _ r t. no (cc)) (λ _. fair_done _)))

-- ------------------------------------------------------------ locks in the way

-- a read of a row that is a lock, by its writer
shared_met : (old : Row) (p : ℕ) (does : Row → Accepted ℤ) → is_lock old ≡ true
    → (answer_of (replied A.Value (and_then (shared_row old p) (λ x. Ok (does x)))) ≡ Err LockInTheWay) ↔ ((q : ℕ) × (is_writer old q ≡ true) × (q ≡ p → ⊥))
shared_met old p does k = go (is_lock old) k old.writer
  where
    go : (b : Bool) → b ≡ true → (w : Option ℕ)
        → (answer_of (replied A.Value (and_then (cond b (by_writer w p (Ok old) (Err LockInTheWay) (Ok (row None (with_member old.readers p)))) (Err LockInTheWay)) (λ x. Ok (does x)))) ≡ Err LockInTheWay)
        ↔ ((q : ℕ) × (by_writer w q true false false ≡ true) × (q ≡ p → ⊥))
    go false k w = no (cc)
    go true k None = ((λ h. no (cc)), (λ o. no (let u = o.1 in cc)))
    go true k (Some w) = to (eqb w p) refl
      where
        to : (c : Bool) → eqb w p ≡ c
            → (answer_of (replied A.Value (and_then (cond c (Ok old) (Err LockInTheWay)) (λ x. Ok (does x)))) ≡ Err LockInTheWay)
            ↔ ((q : ℕ) × (by_writer (Some w) q true false false ≡ true) × (q ≡ p → ⊥))
        to true u = ((λ h. no (cc)), (λ o. absurd (o.2 (let a = writer_is (Some w) o.0 o.1 in let b = eqb-true w p u in cc))))
        to false u = ((λ h. (w, ap (λ (b : Bool). cond b true false) (eq-eqb w w refl), (λ e. no (let v = eq-eqb w p e in cc)))), (λ o. refl))

-- a number below n where the test passes, or none
found_below : (f : ℕ → Bool) (n : ℕ) → ((q : ℕ) × (q < n) × (f q ≡ true)) ⊎ ((q : ℕ) → q < n → f q ≡ false)
found_below f zero = inr (λ q l. absurd (omega arith))
found_below f (suc n) = go (f n) refl (found_below f n)
  where
    go : (b : Bool) → f n ≡ b → ((q : ℕ) × (q < n) × (f q ≡ true)) ⊎ ((q : ℕ) → q < n → f q ≡ false)
        → ((q : ℕ) × (q < suc n) × (f q ≡ true)) ⊎ ((q : ℕ) → q < suc n → f q ≡ false)
    go true e below = inl (n, omega arith, e)
    go false e below =
        ⊎_elim (λ o. inl (o.0, omega (arith, o.1), o.2)) (λ k. inr (λ q l. ⊎_elim (λ same. ap f same ∙ e) (λ a. k q (omega (arith, a))) (cases_eq q n))) below

-- masks of 64 bits with the same members are the same
same_mask : (m n : ℕ) → IsMask m → IsMask n → ((q : ℕ) → q < 64 → has_member m q ≡ has_member n q) → m ≡ n
same_mask m n a b k = same_from_bits_below 64 m n a b (λ q l. same_digit (bit_at m q) (bit_at n q) (bit_at-lt m q) (bit_at-lt n q) (k q l))
  where
    same_digit : (x y : ℕ) → x < 2 → y < 2 → eqb x 1 ≡ eqb y 1 → x ≡ y
    same_digit zero zero a b e = refl
    same_digit zero (suc zero) a b e = no (cc)
    same_digit (suc zero) zero a b e = no (cc)
    same_digit (suc zero) (suc zero) a b e = refl
    same_digit (suc (suc x)) y a b e = absurd (omega arith)
    same_digit zero (suc (suc y)) a b e = absurd (omega arith)
    same_digit (suc zero) (suc (suc y)) a b e = absurd (omega arith)

-- a mask that is not empty has a member
member_found : (m : ℕ) → IsMask m → not (eqb m 0) ≡ true → (q : ℕ) × (q < 64) × (has_member m q ≡ true)
member_found m a h =
    ⊎_elim (λ o. o)
    (λ none. no (let z = same_mask m 0 a (omega arith) (λ q l. none q l ∙ sym (has-zero q)) in let u = eq-eqb m 0 z in cc))
    (found_below (has_member m) 64)

-- another holder, and the test for one
member_small : (m q : ℕ) → IsMask m → has_member m q ≡ true → q < 64
member_small m q a h = ⊎_elim (λ l. l) (λ l. no (let u = bit_at_above m 64 q a l in cc)) (cases_lt q 64)

other_holder : (old : Row) (p : ℕ) → is_lock old ≡ true → IsMask old.readers → p < 64 → (is_held_by_another old p ≡ true) ↔ ((q : ℕ) × (holds old q ≡ true) × (q ≡ p → ⊥))
other_holder old p k mask l = go old.writer old.readers k mask
  where
    go : (w : Option ℕ) (m : ℕ) → not (is_some w && not (eqb m 0)) ≡ true → IsMask m
        → (by_writer w p false true (not (eqb (without_member m p) 0)) ≡ true) ↔ ((q : ℕ) × ((by_writer w q true false false || has_member m q) ≡ true) × (q ≡ p → ⊥))
    go None m _ mask = (found, there)
      where
        few : IsMask (without_member m p)
        few = omega (arith, and_le_r m (bit_not w64 (2 ^ p)), ones)
          where
            ones : bit_not w64 (2 ^ p) < 2 ^ 64
            ones = omega arith

        found : not (eqb (without_member m p) 0) ≡ true → (q : ℕ) × (has_member m q ≡ true) × (q ≡ p → ⊥)
        found h =
            let o = member_found (without_member m p) few h in
            let both = sym (has-without m p o.0 l o.1) ∙ o.2 in
            let parts = and_parts (has_member m o.0) (not (eqb o.0 p)) both in
            (o.0, parts.0, (λ e. no (let u = eq-eqb o.0 p e in let v = parts.1 in cc)))

        there : ((q : ℕ) × (has_member m q ≡ true) × (q ≡ p → ⊥)) → not (eqb (without_member m p) 0) ≡ true
        there o =
            let small : o.0 < 64 = member_small m o.0 mask o.1 in
            let kept : has_member (without_member m p) o.0 ≡ true
            = has-without m p o.0 l small ∙ ap₂ (λ (a b : Bool). a && not b) o.1 (ne_eqb o.0 p o.2) in
            ⊎_elim (λ z. no (let u = ap (λ (n : ℕ). has_member n o.0) z ∙ has-zero o.0 in cc)) (λ n. ap not (ne_eqb (without_member m p) 0 n)) (cases_eq (without_member m p) 0)
    go (Some w) m h mask = to (eqb w p) refl
      where
        none : (q : ℕ) → has_member m q ≡ false
        none q = ap (λ (x : ℕ). has_member x q) (eqb-true m 0 (grind arith)) ∙ has-zero q

        or_first : (a b : Bool) → b ≡ false → (a || b) ≡ true → a ≡ true
        or_first true b e h = refl
        or_first false b e h = no (cc)

        to : (c : Bool) → eqb w p ≡ c → (cond c false true ≡ true) ↔ ((q : ℕ) × ((by_writer (Some w) q true false false || has_member m q) ≡ true) × (q ≡ p → ⊥))
        to true u = (
          (λ h. no (cc)),
          (λ o. absurd (o.2 (let a = writer_is (Some w) o.0 (or_first _ _ (none o.0) o.1) in let b = eqb-true w p u in cc))),
        )
        to false u = ((λ h. (w, ap (λ (b : Bool). cond b true false || has_member m w) (eq-eqb w w refl), (λ e. no (let v = eq-eqb w p e in cc)))), (λ o. refl))

-- a write of a row that is a lock, by its other holders
claimed_met : (old : Row) (p : ℕ) (stages : StoreAnswer) (does : Row → Accepted (Unit {0})) → is_lock old ≡ true
    → (answer_of (replied (λ _. A.Done) (and_then (claimed_row old p) (λ x. and_then (from_store stages) (λ _. Ok (does x))))) ≡ Err LockInTheWay) ↔ (is_held_by_another old p ≡ true)
claimed_met old p stages does k = go (is_lock old) k (is_held_by_another old p) stages
  where
    go : (b : Bool) → b ≡ true → (c : Bool) (a : StoreAnswer)
        → (answer_of (replied (λ _. A.Done) (and_then (cond b (cond c (Err LockInTheWay) (Ok (row (Some p) 0))) (Err LockInTheWay)) (λ x. and_then (from_store a) (λ _. Ok (does x))))) ≡ Err LockInTheWay)
        ↔ (c ≡ true)
    go false k c a = no (cc)
    go true k true a = ((λ _. refl), (λ _. refl))
    go true k false (Ok x) = ((λ h. no (cc)), (λ h. no (cc)))
    go true k false (Err x) = ((λ h. no (cc)), (λ h. no (cc)))

-- ------------------------------------------------------------ refusals by who holds and who has voted

-- a part that is accepted, of which the rest is asked
admitted_then : {A T : Type 0} (x : Result A Fault) (go : A → Result (Accepted T) Fault) (f : T → Reply) (fault : Fault) (P : Type 0) → is_ok x ≡ true
    → ((a : A) → x ≡ Ok a → (answer_of (replied f (go a)) ≡ Err fault) ↔ P) → (answer_of (replied f (and_then x go)) ≡ Err fault) ↔ P
admitted_then (Ok a) go f fault P q k = k a refl
admitted_then (Err x) go f fault P q k = no (cc)

-- refused where the seat does not hold, or after that as the rest is
with_released_row : {T : Type 0} (b : Bool) (f : T → Reply) (rest : Result (Accepted T) Fault) → (b ≡ true → answer_of (replied f rest) ≡ Err NoLock → ⊥)
    → (answer_of (replied f (cond (not b) (Err NoLock) rest)) ≡ Err NoLock) ↔ (b ≡ false)
with_released_row true f rest k = ((λ h. absurd (k refl h)), (λ h. no (cc)))
with_released_row false f rest k = ((λ h. refl), (λ h. refl))

vote_again : (b c : Bool) (rest : Result (Accepted Bool) Fault) → (answer_of (replied A.Voted rest) ≡ Err VotedAlready → ⊥)
    → (answer_of (replied A.Voted (cond (not b) (Err NoLock) (cond c (Err VotedAlready) rest))) ≡ Err VotedAlready) ↔ ((b ≡ true) × (c ≡ true))
vote_again true true rest k = ((λ h. (refl, refl)), (λ h. refl))
vote_again true false rest k = ((λ h. absurd (k h)), (λ h. no (let u = h.1 in cc)))
vote_again false c rest k = ((λ h. no (cc)), (λ h. no (let u = h.0 in cc)))

decide_missing : (a b : Bool) (x y : Accepted Decision) → (answer_of (replied A.Decided (cond a (Ok x) (cond b (Err VotesMissing) (Ok y)))) ≡ Err VotesMissing) ↔ ((a ≡ false) × (b ≡ true))
decide_missing true b x y = ((λ h. no (cc)), (λ h. no (let u = h.0 in cc)))
decide_missing false true x y = ((λ h. (refl, refl)), (λ h. refl))
decide_missing false false x y = ((λ h. no (cc)), (λ h. no (let u = h.1 in cc)))

close_missing : (b : Bool) (y : Accepted (Unit {0})) → (answer_of (replied (λ _. A.Done) (cond b (Err LocksRemain) (Ok y))) ≡ Err LocksRemain) ↔ (b ≡ true)
close_missing true y = ((λ h. refl), (λ h. refl))
close_missing false y = ((λ h. no (cc)), (λ h. no (cc)))

false_of : (b : Bool) → not b ≡ true → b ≡ false
false_of true h = no (cc)
false_of false h = refl

joined : (a b : Bool) → (a && not b) ≡ false → (a || b) ≡ b
joined true true h = refl
joined true false h = no (cc)
joined false b h = refl

both_ways : {A B C : Type 0} → A ↔ B → (B → C) → (C → B) → A ↔ C
both_ways t f g = ((λ a. f (t.0 a)), (λ c. t.1 (g c)))

module _ (allows : Rule) (s : PoolState) (z : Sized s) (k : IsSound s) where
  below : (e : ℕ) → has_entry s e ≡ true → e < 64
  below e q = let l = ltb-true e s.store.reading.entries q in omega (arith, z.entries)

  -- past the last row nobody holds
  held_small : (p e : ℕ) → Holds s p e → e < 64
  held_small p e h = ⊎_elim (λ l. l) (λ l. no (let u = ap (λ (r : Row). holds r p) (row_past s z e l) ∙ has-zero p in cc)) (cases_lt e 64)

  -- a spending of what is staged is not refused for the want of a lock
  never : (a : StoreAnswer) (x : Accepted (Unit {0})) → answer_of (replied (λ _. A.Done) (and_then (from_store a) (λ _. Ok x))) ≡ Err NoLock → ⊥
  never (Ok d) x h = no (cc)
  never (Err r) x h = no (cc)

  finish_never : (p e : ℕ) (q : State) → answer_of (replied (λ _. A.Done) (finish_write s p e q)) ≡ Err NoLock → ⊥
  finish_never p e Commit h = never (publish_answer s.store e) _ h
  finish_never p e Abort h = never (withdraw_answer s.store e) _ h
  finish_never p e Idle h = never (withdraw_answer s.store e) _ h
  finish_never p e Editing h = never (withdraw_answer s.store e) _ h
  finish_never p e Voting h = never (withdraw_answer s.store e) _ h

  finish_rest : (p e : ℕ) (q : State) (b : Bool)
      → answer_of (replied (λ _. A.Done) (cond b (finish_write s p e q) (accepted tt (let_go s p e s.store)))) ≡ Err NoLock → ⊥
  finish_rest p e q true h = finish_never p e q h
  finish_rest p e q false h = no (cc)

  -- one vote more is no refusal
  vote_rest : (p e : ℕ) (c : Bool) (x : Accepted Bool) → answer_of (replied A.Voted (cond c (Err VotedAlready) (Ok x))) ≡ Err NoLock → ⊥
  vote_rest p e true x h = no (cc)
  vote_rest p e false x h = no (cc)

  not_false : (b : Bool) → not b ≡ false → b ≡ true
  not_false true h = refl
  not_false false h = no (cc)

  -- nobody voted no, by the mask and entry by entry
  unopposed : (p : ℕ) → (not (eqb (seat_status s.table p).against 0) ≡ false) ↔ HasNoneAgainst s p
  unopposed p = (
    (λ h e _. ap (λ (n : ℕ). has_member n e) (eqb-true (seat_status s.table p).against 0 (not_false _ h)) ∙ has-zero e),
    (λ f. ap not (eq-eqb _ _ (same_mask (seat_status s.table p).against 0 (k.statuses p).against (omega arith) (λ q l. f q l ∙ sym (has-zero q))))),
  )

  -- an entry that is held and not voted on, by the masks and in the table
  lacking : (p : ℕ) → p < 16 → (not (is_subset (seat_status s.table p).held (seat_status s.table p).voted) ≡ true) ↔ LacksAVote s p
  lacking p l = (found, there)
    where
      found : not (is_subset (seat_status s.table p).held (seat_status s.table p).voted) ≡ true → LacksAVote s p
      found h =
          ⊎_elim
          (λ o.
          let parts = and_parts (has_member (seat_status s.table p).held o.0) (not (has_member (seat_status s.table p).voted o.0)) o.2 in
          (o.0, (sym (z.table.held p o.0 l o.1) ∙ parts.0), false_of (has_member (seat_status s.table p).voted o.0) parts.1))
          (λ none. no (let same = same_mask (bit_or (seat_status s.table p).held (seat_status s.table p).voted) (seat_status s.table p).voted (or_lt 64 _ _ (k.statuses p).held (k.statuses p).voted) (k.statuses p).voted
          (λ q b. has-or (seat_status s.table p).held (seat_status s.table p).voted q ∙ joined (has_member (seat_status s.table p).held q) (has_member (seat_status s.table p).voted q) (none q b)) in
          let u = eq-eqb _ _ same in cc))
          (found_below (λ q. has_member (seat_status s.table p).held q && not (has_member (seat_status s.table p).voted q)) 64)

      there : LacksAVote s p → not (is_subset (seat_status s.table p).held (seat_status s.table p).voted) ≡ true
      there o =
          let small = held_small p o.0 o.1 in
          let has : has_member (seat_status s.table p).held o.0 ≡ true = z.table.held p o.0 l small ∙ o.1 in
          by (is_subset (seat_status s.table p).held (seat_status s.table p).voted) (λ sub. no (let v = subset_member (seat_status s.table p).held (seat_status s.table p).voted o.0 sub has in let w = o.2 in cc))
        where
          by : (b : Bool) → (b ≡ true → ⊥) → not b ≡ true
          by true n = absurd (n refl)
          by false n = refl

  -- some entry is held, by the mask and in the table
  holding : (p : ℕ) → p < 16 → (not (eqb (seat_status s.table p).held 0) ≡ true) ↔ HoldsSome s p
  holding p l = (
    (λ h. let o = member_found (seat_status s.table p).held (k.statuses p).held h in (o.0, (sym (z.table.held p o.0 l o.1) ∙ o.2))),
    (λ o.
        let has : has_member (seat_status s.table p).held o.0 ≡ true = z.table.held p o.0 l (held_small p o.0 o.1) ∙ o.1 in
        ⊎_elim (λ q. no (let u = ap (λ (n : ℕ). has_member n o.0) q ∙ has-zero o.0 in cc)) (λ n. ap not (ne_eqb _ _ n)) (cases_eq (seat_status s.table p).held 0)),
  )

pub sound_state : (allows : Rule) (initial : PoolState) (seats : ℕ) {h : List Operation} {s : PoolState} → initial.store.reading.entries ≤ 64 → IsSoundWriting initial.store
    → Reached allows initial seats h s → IsSoundState allows s
sound_state allows initial seats {h} {s} few w r =
    let k = sound allows initial seats few w r in
    let all = held allows initial seats few r in
    let z = all.1 in
    let st = λ (p e : ℕ) (x : Writes s p e). staged_by allows (chains initial) s h all.0 p e (k.writers e p (writer_is (row_at s.table e).writer p x)) x in
    record {
      locks = z.table.locks;
      staged = st;
      written = λ e t. some_writer (row_at s.table e).writer (k.written e t);
      refusals = fair allows s k st;
      read_meets_a_writer = λ p e ok. admitted_then (admitted_at s N.Read p e) _ A.Value LockInTheWay _ ok (λ q c. shared_met (row_at s.table e) p _ (z.table.locks e));
      write_meets_a_holder = λ p e v ok. admitted_then (admitted_at s N.Write p e) _ (λ _. A.Done) LockInTheWay _ ok (λ q c.
          let l = (admitted_ok s.table N.Write p (has_entry s e) q c).0 in
          let test = claimed_met (row_at s.table e) p (stage_answer s.store e (version_of s p v)) _ (z.table.locks e) in
          let other = other_holder (row_at s.table e) p (z.table.locks e) (k.readers e) (omega (arith, l)) in
          both_ways test other.0 other.1);
      vote_wants_a_lock = λ p e ok. admitted_then (admitted_at s N.Vote p e) _ A.Voted NoLock _ ok (λ q c.
          with_released_row (holds (row_at s.table e) p) A.Voted _ (λ _. vote_rest allows s z k p e (has_member (seat_status s.table p).voted e) _));
      vote_comes_once = λ p e ok. admitted_then (admitted_at s N.Vote p e) _ A.Voted VotedAlready _ ok (λ q c.
          vote_again (holds (row_at s.table e) p) (has_member (seat_status s.table p).voted e) _ (λ t. no (cc)));
      decide_wants_every_vote = λ p ok. admitted_then (admitted s.table N.Decide p true) _ A.Decided VotesMissing _ ok (λ q c.
          let l = (admitted_ok s.table N.Decide p true q c).0 in
          let a = unopposed allows s z k p in
          let b = lacking allows s z k p l in
          both_ways (decide_missing (not (eqb (seat_status s.table p).against 0)) (not (is_subset (seat_status s.table p).held (seat_status s.table p).voted)) _ _)
          (λ t. (a.0 t.0, b.0 t.1)) (λ t. (a.1 t.0, b.1 t.1)));
      finish_wants_a_lock = λ p e ok. admitted_then (admitted_at s N.Finish p e) _ (λ _. A.Done) NoLock _ ok (λ q c.
          with_released_row (holds (row_at s.table e) p) (λ _. A.Done) _ (λ _. finish_rest allows s z k p e q (is_writer (row_at s.table e) p)));
      close_wants_no_lock = λ p ok. admitted_then (admitted s.table N.Close p true) _ (λ _. A.Done) LocksRemain _ ok (λ q c.
          let l = (admitted_ok s.table N.Close p true q c).0 in
          let b = holding allows s z k p l in
          both_ways (close_missing (not (eqb (seat_status s.table p).held 0)) _) b.0 b.1);
    }
