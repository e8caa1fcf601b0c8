-- On a pool that was opened and then called, no call of a ticket is refused, and its seat is free afterwards.
use Rattle.std.proofs.Common.{◌≡◌, ℕ, zero, suc, ◌<◌, ◌≤◌, Bool, true, false, cond, not, ◌&&◌, eqb, ltb, List, [], ◌∷◌, ◌++◌, length, get_or, set, ℤ, is_some, Some, None, Ok, Option, Result, sym, refl, ap, ◌∙◌, subst, ⊎_elim, arith, get_or-set_same}
use Rattle.std.specs.Prelude.{max}
use Rattle.std.specs.Int.{bit_at}
use Rattle.std.proofs.lemmas.Bool.{and_parts, and_right, or_right, not-true, ltb-true, lt-ltb, eq-eqb, cases_eq, cases_lt, false_from_ne_true, not_from_true, not-false}
use Rattle.std.proofs.lemmas.Nat.Bits.{bit_at-lt, bit_at-zero, bit_at_or, same_from_bits}
use Rattle.calls.specs.declared.answer.Decision.TheVariants as D
use Rattle.calls.specs.declared.answer.Reply.{Reply}
use Rattle.calls.specs.declared.answer.Reply.TheVariants as A
use Rattle.calls.specs.declared.call.Call.{Call}
use Rattle.calls.specs.declared.call.Call.TheVariants as C
use Rattle.calls.specs.declared.call.CallName.{CallName}
use Rattle.calls.specs.declared.call.CallName.TheVariants as N
use Rattle.calls.specs.declared.fault.Fault.{Fault}
use Rattle.calls.specs.declared.state.State.{State}
use Rattle.calls.specs.declared.state.State.TheVariants.{Idle, Editing, Voting, Commit, Abort}
use Rattle.calls.specs.States.{next_state}
use Rattle.store.specs.declared.version.Version.{Version}
use Rattle.store.specs.Meaning.{WritingMeaning}
use Rattle.store.specs.Steps.{publish_after, withdraw_after}
use Rattle.pool.specs.declared.table.InnerTable.{InnerTable}
use Rattle.pool.specs.declared.table.SeatStatus.{SeatStatus}
use Rattle.pool.specs.declared.table.Row.{Row}
use Rattle.pool.specs.Admissions.{admitted}
use Rattle.pool.specs.Masks.{has_member, is_subset}
use Rattle.pool.specs.Locks.{holds, is_writer, unlocked_row, released_row}
use Rattle.pool.specs.Tables.{seat_status, row_at, idle_seat, has_seat, with_state, with_vote, voted_status, status_without}
use Rattle.pool.specs.Calls.{Rule, PoolState, Accepted, answer_of, state_after, perform, has_entry, with_table, let_go, vote_of}
use Rattle.pool.proofs.MaskLemmas.{has-zero, has-with}
use Rattle.pool.proofs.LockLemmas.{released_let_go}
use Rattle.promise.specs.Histories.{Operation, Edit, events_of}
use Rattle.promise.specs.OneByOne.{added}
use Rattle.promise.proofs.Sames.{no}
use Rattle.promise.proofs.Views.{as_list, is_decided, is_seat, history_at}
use Rattle.runner.specs.Runs.{Reached, called, chains}
use Rattle.runner.proofs.Entries.{reached_entries}
use Rattle.runner.proofs.States.{Sized, writes_as}
use Rattle.runner.proofs.Whole.{held}
use Rattle.tickets.specs.Lists.{state_after_calls, calls_for_each}
use Rattle.tickets.specs.Endings.{holds_lock, owes_vote, votes_left, finishes_left, finish_and_close, vote_and_decide, settling_calls, giving_up_calls, IsFree}
use Rattle.tickets.proofs.Made.{LeavesOthers}
use Rattle.tickets.proofs.Others.{Beside, BesideVotes, set_kept, vote_elsewhere, finish_elsewhere, prepare_beside, abort_beside, decide_beside, votes_beside, beside_on, same_finishes, same_vote_and_decide}
use Rattle.tickets.proofs.Inside.{reached_inside}

-- ------------------------------------------------------------ calls that are accepted, one after another

module _ (allows : Rule) where
  -- each of the calls is accepted, and this holds of what they leave
  abbrev pub Leads : (PoolState → Type 0) → List Call → PoolState → Type 0
  Leads Q [] s = Q s
  Leads Q (c ∷ calls) s = (done : Accepted Reply) × (perform allows c s ≡ Ok done) × Leads Q calls done.leaves

  leads_then : (P Q : PoolState → Type 0) (xs ys : List Call) (s : PoolState) → Leads P xs s → ((m : PoolState) → P m → Leads Q ys m) → Leads Q (xs ++ ys) s
  leads_then P Q [] ys s l k = k s l
  leads_then P Q (x ∷ xs) ys s l k = (l.0, l.1, leads_then P Q xs ys (l.0).leaves l.2 k)

  leads_as : (P Q : PoolState → Type 0) (calls : List Call) (s : PoolState) → ((m : PoolState) → P m → Q m) → Leads P calls s → Leads Q calls s
  leads_as P Q [] s k l = k s l
  leads_as P Q (c ∷ calls) s k l = (l.0, l.1, leads_as P Q calls (l.0).leaves k l.2)

  -- what they leave is the state after them
  leads_state : (P : PoolState → Type 0) (calls : List Call) (s : PoolState) → Leads P calls s → Leads (λ m. P m × (m ≡ state_after_calls allows calls s)) calls s
  leads_state P [] s l = (l, refl)
  leads_state P (c ∷ calls) s l = (
    l.0,
    l.1,
    subst (λ (n : PoolState). Leads (λ m. P m × (m ≡ state_after_calls allows calls n)) calls (l.0).leaves)
        (sym (ap (λ (d : Result (Accepted Reply) Fault). state_after d s) l.1)) (leads_state P calls (l.0).leaves l.2),
  )

  pub leads_end : (P : PoolState → Type 0) (calls : List Call) (s : PoolState) → Leads P calls s → P (state_after_calls allows calls s)
  leads_end P [] s l = l
  leads_end P (c ∷ calls) s l =
      subst (λ (n : PoolState). P (state_after_calls allows calls n)) (sym (ap (λ (d : Result (Accepted Reply) Fault). state_after d s) l.1))
      (leads_end P calls (l.0).leaves l.2)

-- ------------------------------------------------------------ parts of what is accepted

passes : (t : InnerTable) (name : CallName) (p : ℕ) (b : Bool) (q : State) → has_seat t p ≡ true → b ≡ true → next_state name (seat_status t p).state ≡ Some q
    → admitted t name p b ≡ Ok q
passes t name p b q x y z = rw (x, y, z)

third : (a b c : Bool) → (a && b && c) ≡ true → c ≡ true
third a b c h = grind arith

-- an edit wrote the entry, so something is staged there
staged_is : (o : Option Version) (z : Option ℤ) (edit : Edit) (rank : ℕ) → is_some z ≡ true → as_list o ≡ added edit rank z → is_some o ≡ true
staged_is (Some v) z edit rank t e = refl
staged_is None (Some x) edit rank t e = no (cc)
staged_is None None edit rank t e = no (cc)

middle : (a b c : Bool) → (a && b && c) ≡ true → b ≡ true
middle a b c h = grind arith

-- a bit that is not 1 is 0
bit_zero : (x : ℕ) → x < 2 → eqb x 1 ≡ false → x ≡ 0
bit_zero zero l h = refl
bit_zero (suc zero) l h = no (cc)
bit_zero (suc (suc x)) l h = absurd (omega arith)

bit_more : (x y : ℕ) → x < 2 → y < 2 → (eqb x 1 ≡ true → eqb y 1 ≡ true) → max x y ≡ y
bit_more zero zero a b h = refl
bit_more zero (suc zero) a b h = refl
bit_more (suc zero) (suc zero) a b h = refl
bit_more (suc zero) zero a b h = let t : false ≡ true = h refl in no (cc)
bit_more (suc (suc x)) y a b h = absurd (omega arith)
bit_more zero (suc (suc y)) a b h = absurd (omega arith)
bit_more (suc zero) (suc (suc y)) a b h = absurd (omega arith)

past_end : {A : Type 0} (xs : List A) (k : ℕ) (d : A) → length xs ≤ k → get_or xs k d ≡ d
past_end [] k d l = refl
past_end (x ∷ xs) zero d l = absurd (omega arith)
past_end (x ∷ xs) (suc k) d l = past_end xs k d (omega arith)

module _ (allows : Rule) (initial : PoolState) (seats : ℕ) (few : initial.store.reading.entries ≤ 64) (p : ℕ) where
  abbrev entries : ℕ
  entries = initial.store.reading.entries

  -- the pool was opened and then called, and the seat is there in this state
  pub record At (q : State) (m : PoolState) : Type 0 where
    pub past : List Operation
    pub reached : Reached allows initial seats past m
    pub there : has_seat m.table p ≡ true
    pub state : (seat_status m.table p).state ≡ q

  module _ {q : State} {m : PoolState} (a : At q m) where
    low : p < 16
    low = ltb-true p 16 (and_parts (ltb p m.table.seats) (ltb p 16) a.there).1

    sized : Sized m
    sized = (held allows initial seats few a.reached).1

    has_it : (k : ℕ) → k < entries → has_entry m k ≡ true
    has_it k l = lt-ltb k m.store.reading.entries (let e = reached_entries allows initial seats a.reached in omega (arith, e))

    status_there : p < length m.table.statuses
    status_there = let n = sized.table.statuses in let l = low in omega (arith, n, l)

    row_there : (k : ℕ) → k < entries → k < length m.table.rows
    row_there k l = let n = sized.table.rows in omega (arith, n, few)

    staged_there : (k : ℕ) → is_writer (row_at m.table k) p ≡ true → is_some (m.store.staged k) ≡ true
    staged_there k w =
        let agree = (held allows initial seats few a.reached).0.agree p k low in
        let v : is_seat (row_at m.table k).writer p ≡ true = sym (writes_as (row_at m.table k).writer p) ∙ w in
        staged_is (m.store.staged k) _ _ (history_at (chains initial) (events_of a.past) p k).rank (middle _ _ _ (sym agree.wrote ∙ v)) (agree.staged v)

    -- after an accepted call that leaves the seat there
    pub at_after : (c : Call) (done : Accepted Reply) (x : State) → perform allows c m ≡ Ok done → has_seat done.leaves.table p ≡ true
        → (seat_status done.leaves.table p).state ≡ x → At x done.leaves
    at_after c done x e there state = record {
      past = record { call = c; answer = answer_of (perform allows c m) } ∷ a.past;
      reached = subst (λ (n : PoolState). Reached allows initial seats (record { call = c; answer = answer_of (perform allows c m) } ∷ a.past) n) (ap (λ (d : Result (Accepted Reply) Fault). state_after d m) e) (called a.reached c);
      there = there;
      state = state;
    }

    state_set : (x : State) → (seat_status (with_state m.table p x) p).state ≡ x
    state_set x = ap (λ (status : SeatStatus). status.state) (get_or-set_same m.table.statuses p _ idle_seat status_there)

    -- the seat holds nothing, where it holds no entry of the store
    unheld : ((k : ℕ) → k < entries → holds_lock m p k ≡ false) → (k : ℕ) → has_member (seat_status m.table p).held k ≡ false
    unheld none k =
        false_from_ne_true _ (λ h.
        let l : k < entries = (reached_inside allows initial seats a.reached).each p k h in
        let below : k < 64 = omega (arith, few) in
        let holder : holds (row_at m.table k) p ≡ true = sym (sized.table.held p k low below) ∙ h in
        let lock : holds_lock m p k ≡ true = rw (lt-ltb p 16 low, lt-ltb k 64 below, holder) in
        let wrong : true ≡ false = sym lock ∙ none k l in no (cc))

    held_zero : ((k : ℕ) → k < entries → holds_lock m p k ≡ false) → (seat_status m.table p).held ≡ 0
    held_zero none =
        same_from_bits (seat_status m.table p).held 0
        (λ k. bit_zero (bit_at (seat_status m.table p).held k) (bit_at-lt (seat_status m.table p).held k) (unheld none k) ∙ sym (bit_at-zero k))

    rows_free : ((k : ℕ) → k < entries → holds_lock m p k ≡ false) → (k : ℕ) → holds (row_at m.table k) p ≡ false
    rows_free none k =
        ⊎_elim
        (λ below. sym (sized.table.held p k low below) ∙ unheld none k)
        (λ past. ap (λ (r : Row). holds r p) (past_end m.table.rows k unlocked_row (let n = sized.table.rows in omega (arith, n))) ∙ has-zero p)
        (cases_lt k 64)

    -- every vote is in, where none is owed on an entry of the store
    all_voted : ((k : ℕ) → k < entries → owes_vote m p k ≡ false) → is_subset (seat_status m.table p).held (seat_status m.table p).voted ≡ true
    all_voted none =
        eq-eqb _ _ (same_from_bits _ _ (λ k. bit_at_or (seat_status m.table p).held (seat_status m.table p).voted k
        ∙ bit_more (bit_at (seat_status m.table p).held k) (bit_at (seat_status m.table p).voted k) (bit_at-lt _ k) (bit_at-lt _ k) (λ h.
        let l : k < entries = (reached_inside allows initial seats a.reached).each p k h in
        let below : k < 64 = omega (arith, few) in
        let holder : holds (row_at m.table k) p ≡ true = sym (sized.table.held p k low below) ∙ h in
        let lock : holds_lock m p k ≡ true = rw (lt-ltb p 16 low, lt-ltb k 64 below, holder) in
        let paid : not (has_member (seat_status m.table p).voted k) ≡ false
        = sym (ap (λ (b : Bool). b && not (has_member (seat_status m.table p).voted k)) lock) ∙ none k l in
        not-false (has_member (seat_status m.table p).voted k) paid)))

  -- ------------------------------------------------------------ each call

  -- the call is accepted, and this holds of what it leaves
  abbrev Takes : (PoolState → Type 0) → Call → PoolState → Type 0
  Takes Q c m = (done : Accepted Reply) × (perform allows c m ≡ Ok done) × Q done.leaves

  -- a call that only leads to another state
  prepare_accepted : {m : PoolState} → At Editing m → Takes (At Voting) (C.Prepare p) m
  prepare_accepted {m} a =
      let done : Accepted Reply = record { answer = A.Done; leaves = with_table m (with_state m.table p Voting) } in
      let e : perform allows (C.Prepare p) m ≡ Ok done = rw (a.there, ap (next_state N.Prepare) a.state) in
      (done, e, at_after a (C.Prepare p) done Voting e a.there (state_set a Voting))

  abort_accepted : {q : State} {m : PoolState} → At q m → next_state N.Abort q ≡ Some Abort → Takes (At Abort) (C.Abort p) m
  abort_accepted {q} {m} a n =
      let done : Accepted Reply = record { answer = A.Done; leaves = with_table m (with_state m.table p Abort) } in
      let e : perform allows (C.Abort p) m ≡ Ok done = rw (a.there, ap (next_state N.Abort) a.state ∙ n) in
      (done, e, at_after a (C.Abort p) done Abort e a.there (state_set a Abort))

  vote_accepted : {m : PoolState} → At Voting m → (k : ℕ) → k < entries → owes_vote m p k ≡ true
      → Takes (λ n. At Voting n × (owes_vote n p k ≡ false)) (C.Vote p k) m
  vote_accepted {m} a k l owed =
      let parts = and_parts (holds_lock m p k) (not (has_member (seat_status m.table p).voted k)) owed in
      let ok : Bool = vote_of allows m p k in
      let x : SeatStatus = voted_status (seat_status m.table p) k ok in
      let done : Accepted Reply = record { answer = A.Voted ok; leaves = with_table m (with_vote m.table p k ok) } in
      let holder : holds (row_at m.table k) p ≡ true = third (ltb p 16) (ltb k 64) (holds (row_at m.table k) p) parts.0 in
      let e : perform allows (C.Vote p k) m ≡ Ok done
      = rw (a.there, has_it a k l, ap (next_state N.Vote) a.state, holder, not-true (has_member (seat_status m.table p).voted k) parts.1) in
      let voted : has_member (get_or (set m.table.statuses p x) p idle_seat).voted k ≡ true
      = ap (λ (status : SeatStatus). has_member status.voted k) (get_or-set_same m.table.statuses p x idle_seat (status_there a))
      ∙ has-with (seat_status m.table p).voted k k ∙ or_right (has_member (seat_status m.table p).voted k) (eqb k k) (eq-eqb k k refl) in (
        done,
        e,
        (
          at_after a (C.Vote p k) done Voting e a.there (set_kept (λ (status : SeatStatus). status.state) m.table.statuses p p x idle_seat refl ∙ a.state),
          and_right (holds_lock done.leaves p k) _ (not_from_true _ voted),
        ),
      )

  -- no vote aborts, and with none missing the edit commits
  decide_accepted : {m : PoolState} → At Voting m → ((k : ℕ) → k < entries → owes_vote m p k ≡ false)
      → Takes (λ n. (q : State) × At q n × (is_decided q ≡ true)) (C.Decide p) m
  decide_accepted {m} a none = go (eqb (seat_status m.table p).against 0) refl
    where
      go : (b : Bool) → eqb (seat_status m.table p).against 0 ≡ b → Takes (λ n. (q : State) × At q n × (is_decided q ≡ true)) (C.Decide p) m
      go false t =
          let done : Accepted Reply = record { answer = A.Decided D.Abort; leaves = with_table m (with_state m.table p Abort) } in
          let e : perform allows (C.Decide p) m ≡ Ok done = rw (a.there, ap (next_state N.Decide) a.state, t) in
          (done, e, (Abort, at_after a (C.Decide p) done Abort e a.there (state_set a Abort), refl))
      go true t =
          let done : Accepted Reply = record { answer = A.Decided D.Commit; leaves = with_table m (with_state m.table p Commit) } in
          let e : perform allows (C.Decide p) m ≡ Ok done = rw (a.there, ap (next_state N.Decide) a.state, t, all_voted a none) in
          (done, e, (Commit, at_after a (C.Decide p) done Commit e a.there (state_set a Commit), refl))

  -- what a finish leaves
  finished : {q : State} {m : PoolState} → At q m → (k : ℕ) → k < entries → (store : WritingMeaning)
      → perform allows (C.Finish p k) m ≡ Ok (record { answer = A.Done; leaves = let_go m p k store })
      → Takes (λ n. At q n × (holds_lock n p k ≡ false)) (C.Finish p k) m
  finished {q} {m} a k l store e =
      let x : SeatStatus = status_without (seat_status m.table p) k in
      let r : Row = released_row (row_at m.table k) p in
      let done : Accepted Reply = record { answer = A.Done; leaves = let_go m p k store } in
      let small = low a in
      let free : holds (get_or (set m.table.rows k r) k unlocked_row) p ≡ false
      = ap (λ (row : Row). holds row p) (get_or-set_same m.table.rows k r unlocked_row (row_there a k l)) ∙ (released_let_go (row_at m.table k) p (omega (arith, small))).own in (
        done,
        e,
        (
          at_after a (C.Finish p k) done q e a.there (set_kept (λ (status : SeatStatus). status.state) m.table.statuses p p x idle_seat refl ∙ a.state),
          ap (λ (b : Bool). ltb p 16 && ltb k 64 && b) free ∙ none (ltb p 16) (ltb k 64),
        ),
      )
    where
      none : (b c : Bool) → (b && c && false) ≡ false
      none true true = refl
      none true false = refl
      none false c = refl

  finish_accepted : {q : State} {m : PoolState} → is_decided q ≡ true → At q m → (k : ℕ) → k < entries → holds_lock m p k ≡ true
      → Takes (λ n. At q n × (holds_lock n p k ≡ false)) (C.Finish p k) m
  finish_accepted {q} {m} d a k l h = go q d a (is_writer (row_at m.table k) p) refl
    where
      holder : holds (row_at m.table k) p ≡ true
      holder = third (ltb p 16) (ltb k 64) (holds (row_at m.table k) p) h

      go : (q : State) → is_decided q ≡ true → At q m → (b : Bool) → is_writer (row_at m.table k) p ≡ b → Takes (λ n. At q n × (holds_lock n p k ≡ false)) (C.Finish p k) m
      go Commit d a true w =
          finished a k l (publish_after m.store k) (rw (a.there, has_it a k l, ap (next_state N.Finish) a.state, holder, w, staged_there a k w, has_it a k l))
      go Abort d a true w =
          finished a k l (withdraw_after m.store k) (rw (a.there, has_it a k l, ap (next_state N.Finish) a.state, holder, w, staged_there a k w, has_it a k l))
      go Commit d a false w = finished a k l m.store (rw (a.there, has_it a k l, ap (next_state N.Finish) a.state, holder, w))
      go Abort d a false w = finished a k l m.store (rw (a.there, has_it a k l, ap (next_state N.Finish) a.state, holder, w))
      go Idle d a b w = no (cc)
      go Editing d a b w = no (cc)
      go Voting d a b w = no (cc)

  close_accepted : {q : State} {m : PoolState} → is_decided q ≡ true → At q m → ((k : ℕ) → k < entries → holds_lock m p k ≡ false)
      → Takes (λ n. IsFree n p) (C.Close p) m
  close_accepted {q} {m} d a none =
      let done : Accepted Reply = record { answer = A.Done; leaves = with_table m (with_state m.table p Idle) } in
      let e : perform allows (C.Close p) m ≡ Ok done = rw (a.there, ap (next_state N.Close) a.state ∙ closes q d, held_zero a none) in
      (done, e, record { idle = state_set a Idle; unlocked = rows_free a none })
    where
      closes : (q : State) → is_decided q ≡ true → next_state N.Close q ≡ Some Idle
      closes q d = grind arith

  -- ------------------------------------------------------------ a call for each entry

  -- a call on each entry that passes a test leaves no entry that passes it
  module _ (q : State) (test : PoolState → ℕ → Bool) (call : ℕ → Call) (others : LeavesOthers test call)
      (accepts : (m : PoolState) → At q m → (k : ℕ) → k < entries → test m k ≡ true → Takes (λ n. At q n × (test n k ≡ false)) (call k) m) (s : PoolState) where
    record Through (n : ℕ) (m : PoolState) : Type 0 where
      pub at : At q m
      pub before : (k : ℕ) → k < n → test m k ≡ false
      pub after : (k : ℕ) → n ≤ k → test m k ≡ test s k

    one_more : (n : ℕ) → n < entries → (m : PoolState) → Through n m → (b : Bool) → test s n ≡ b → Leads allows (Through (suc n)) (cond b (call n ∷ []) []) m
    one_more n l m t true e =
        let taken = accepts m t.at n l (t.after n (omega arith) ∙ e) in
        let still = λ (k : ℕ) (apart : k ≡ n → ⊥).
        ap (λ (d : Result (Accepted Reply) Fault). test (state_after d m) k) (sym taken.1) ∙ others allows m n k apart in (
          taken.0,
          taken.1,
          record {
            at = taken.2.0;
            before = λ k i. ⊎_elim
                (λ x. ap (test (taken.0).leaves) x ∙ taken.2.1)
                (λ x. still k x ∙ t.before k (omega (arith, x))) (cases_eq k n);
            after = λ k i. still k (λ x. omega arith) ∙ t.after k (omega arith);
          },
        )
    one_more n l m t false e = record {
      at = t.at;
      before = λ k i. ⊎_elim (λ x. ap (test m) x ∙ t.after n (omega arith) ∙ e) (λ x. t.before k (omega (arith, x))) (cases_eq k n);
      after = λ k i. t.after k (omega arith);
    }

    through : At q s → (n : ℕ) → n ≤ entries → Leads allows (Through n) (calls_for_each (test s) call n) s
    through a zero l = record { at = a; before = λ k i. absurd (omega arith); after = λ k i. refl }
    through a (suc n) l =
        leads_then allows (Through n) (Through (suc n)) (calls_for_each (test s) call n) (cond (test s n) (call n ∷ []) []) s (through a n (omega arith))
        (λ m t. one_more n (omega arith) m t (test s n) refl)

    -- the entries of the store are those of the pool as it was opened
    all_through : At q s → Leads allows (λ m. At q m × ((k : ℕ) → k < entries → test m k ≡ false)) (calls_for_each (test s) call s.store.reading.entries) s
    all_through a =
        subst (λ (n : ℕ). Leads allows (λ m. At q m × ((k : ℕ) → k < entries → test m k ≡ false)) (calls_for_each (test s) call n) s) (sym (reached_entries allows initial seats a.reached))
        (leads_as allows (Through entries) _ (calls_for_each (test s) call entries) s (λ m t. (t.at, t.before)) (through a entries (omega arith)))

  -- ------------------------------------------------------------ the calls of a ticket

  decided_leads : {q : State} {s : PoolState} → is_decided q ≡ true → At q s → Leads allows (λ n. IsFree n p) (finish_and_close s p) s
  decided_leads {q} {s} d a =
      leads_then allows _ (λ n. IsFree n p) (finishes_left s p) (C.Close p ∷ []) s
      (all_through q (λ m. holds_lock m p) (C.Finish p) (finish_elsewhere p) (λ m. finish_accepted {m = m} d) s a)
      (λ m t. close_accepted d t.0 t.1)

  voting_leads : {s : PoolState} → At Voting s → Leads allows (λ n. IsFree n p) (vote_and_decide s p) s
  voting_leads {s} a =
      leads_then allows _ (λ n. IsFree n p) (votes_left s p) (C.Decide p ∷ finish_and_close s p) s
      (leads_state allows _ (votes_left s p) s (all_through Voting (λ m. owes_vote m p) (C.Vote p) (vote_elsewhere p) (λ m. vote_accepted {m = m}) s a))
      (λ m t.
      let taken = decide_accepted t.0.0 t.0.1 in
      let voted : Beside p s m = subst (Beside p s) (sym t.1) (votes_beside allows s p) in
      let decided : Beside p m (taken.0).leaves
      = subst (Beside p m) (ap (λ (d : Result (Accepted Reply) Fault). state_after d m) taken.1) (decide_beside allows m p) in (
        taken.0,
        taken.1,
        subst (λ (calls : List Call). Leads allows (λ n. IsFree n p) calls (taken.0).leaves) (same_finishes p (beside_on voted decided))
            (decided_leads taken.2.2 taken.2.1),
      ))

  editing_leads : {s : PoolState} → At Editing s → Leads allows (λ n. IsFree n p) (C.Prepare p ∷ vote_and_decide s p) s
  editing_leads {s} a =
      let taken = prepare_accepted a in (
        taken.0,
        taken.1,
        subst (λ (calls : List Call). Leads allows (λ n. IsFree n p) calls (taken.0).leaves)
            (same_vote_and_decide p (subst (BesideVotes p s) (ap (λ (d : Result (Accepted Reply) Fault). state_after d s) taken.1) (prepare_beside allows s p)))
            (voting_leads taken.2),
      )

  aborting_leads : {q : State} {s : PoolState} → At q s → next_state N.Abort q ≡ Some Abort → Leads allows (λ n. IsFree n p) (C.Abort p ∷ finish_and_close s p) s
  aborting_leads {q} {s} a n =
      let taken = abort_accepted a n in (
        taken.0,
        taken.1,
        subst (λ (calls : List Call). Leads allows (λ n. IsFree n p) calls (taken.0).leaves)
            (same_finishes p (subst (Beside p s) (ap (λ (d : Result (Accepted Reply) Fault). state_after d s) taken.1) (abort_beside allows s p)))
            (decided_leads refl taken.2),
      )

  pub settling_leads : (q : State) (s : PoolState) → (q ≡ Idle → ⊥) → At q s → Leads allows (λ n. IsFree n p) (settling_calls s p q) s
  settling_leads Idle s live a = absurd (live refl)
  settling_leads Editing s live a = editing_leads a
  settling_leads Voting s live a = voting_leads a
  settling_leads Commit s live a = decided_leads refl a
  settling_leads Abort s live a = decided_leads refl a

  pub giving_up_leads : (q : State) (s : PoolState) → (q ≡ Idle → ⊥) → At q s → Leads allows (λ n. IsFree n p) (giving_up_calls s p q) s
  giving_up_leads Idle s live a = absurd (live refl)
  giving_up_leads Editing s live a = aborting_leads a refl
  giving_up_leads Voting s live a = aborting_leads a refl
  giving_up_leads Commit s live a = decided_leads refl a
  giving_up_leads Abort s live a = decided_leads refl a
