-- Each call, as what it does to a view, keeps the invariant. Below, p is the seat that calls, s any seat, e and y entries, and H what is told of the operations h.
use Rattle.std.proofs.Common.{◌≡◌, ℕ, ◌+◌, ◌<◌, Bool, true, false, cond, not, ◌&&◌, ◌⊎◌, List, [], ◌∷◌, ◌++◌, ℤ, is_some, Some, None, Ok, Err, Option, sym, refl, ap, ◌∙◌, subst, ap₂, inl, inr, append-nil, arith}
use Rattle.std.proofs.lemmas.Bool.{cases_Bool}
use Rattle.std.specs.Prelude.{is_ok}
use Rattle.calls.specs.declared.state.State.{State}
use Rattle.calls.specs.declared.state.State.TheVariants.{Idle, Editing, Voting, Commit, Abort}
use Rattle.calls.specs.declared.call.Call.{Call}
use Rattle.calls.specs.declared.call.Call.TheVariants as C
use Rattle.calls.specs.declared.fault.Fault.{Fault}
use Rattle.calls.specs.declared.answer.Reply.TheVariants.{Serial, Value, Voted, Decided, Done}
use Rattle.calls.specs.Answers.{Answer}
use Rattle.calls.specs.declared.answer.Decision.{Decision}
use Rattle.calls.specs.declared.answer.Decision.TheVariants as D
use Rattle.store.specs.declared.version.Version.{Version}
use Rattle.store.specs.Meaning.{last_version}
use Rattle.calls.specs.Names.{seat_of}
use Rattle.promise.specs.Histories.{Operation, Event, Edit, Action, begins, reads, writes, prepares, decides, finishes, closes, nothing, events_of, same, is_begin, is_close, is_decision, is_commit, is_under_way_after, edits_begun, is_under_way, latest_edit, is_part_of, actions_of, has_used, is_use_of, has_finished, is_committed, value_written}
use Rattle.promise.specs.OneByOne.{Chains, edits_by_decision, commit_rank, added, additions, chain_after, unfinished_versions, is_same_edit, is_among, value_or_last, read_answer, locks_granted, locks_released, count_below}
use Rattle.promise.specs.Promise.{Rule}
use Rattle.promise.proofs.Sames.{no, same_refl, same_tells, at, count_ext, count_one}
use Rattle.promise.proofs.Edits.{begun_more, actions_ahead, is_telling, is_within_edit, Stands, same_edit_refl, additions_as, chain_kept, unfinished_kept, unfinished_done, allowed_kept, chain_before_kept, stands_kept, before_all}
use Rattle.promise.proofs.Views.{View, PoolAt, history_with, Agree, AgreeAt, pool_at, ReadsStand, TimeIsKept, InvOf, Inv, is_seat, holds, as_list, value_staged_or_last, is_live, is_decided, is_commit as is_commit_state}
use Rattle.promise.proofs.Agreements as A
use Rattle.promise.proofs.Times.{time_kept, time_decided, time_closed}

abbrev valued : ℤ → Answer
valued z = Ok (Value z)

-- ------------------------------------------------------------ what an event may do to the reads before it

-- a write and a decision come from an edit not yet decided, a begin and a close from a seat with none,
-- and what a decided edit adds is in use by no other undecided edit
pub record Calm (x : Event) (h : List Event) : Type 0 where
  pub undecided : is_telling x.action ≡ true → is_among (latest_edit x.seat h) (edits_by_decision h) ≡ false
  pub within : is_under_way x.seat h ≡ true → is_among (latest_edit x.seat h) (edits_by_decision h) ≡ false → is_within_edit x.action ≡ true
  pub apart : is_decision x.action ≡ true → (s e : ℕ) → s < 16 → same x.seat s ≡ false → is_under_way s h ≡ true
      → is_among (latest_edit s h) (edits_by_decision h) ≡ false → has_used e (actions_of (latest_edit s h) h) ≡ true → additions (x ∷ h) (latest_edit x.seat h) e ≡ []

module _ (o : Chains) (x : Event) (h : List Event) (c : Calm x h) where
  unless_own : (s n : ℕ) → n ≡ edits_begun s h → is_same_edit (record { seat = s; serial = n }) (latest_edit x.seat h) ≡ false → same x.seat s ≡ false
  unless_own s n q f = go (same_tells x.seat s)
    where
      go : ((same x.seat s ≡ true) × (x.seat ≡ s)) ⊎ ((same x.seat s ≡ false) × (x.seat ≡ s → ⊥)) → same x.seat s ≡ false
      go (inl t) =
          let a : is_same_edit (latest_edit s h) (latest_edit s h) ≡ false = subst (λ (y : ℕ). is_same_edit (latest_edit s h) (latest_edit y h) ≡ false) t.1 (rw q at f) in
          let z : true ≡ false = sym (same_edit_refl (latest_edit s h)) ∙ a in cc
      go (inr t) = t.0

  nothing_added : (s n e : ℕ) → s < 16 → Stands (record { seat = s; serial = n }) e h → is_decision x.action ≡ true
      → is_same_edit (record { seat = s; serial = n }) (latest_edit x.seat h) ≡ false → is_among (record { seat = s; serial = n }) (edits_by_decision h) ≡ false
      → additions (x ∷ h) (latest_edit x.seat h) e ≡ []
  nothing_added s n e l (inl a) t i m = let z : true ≡ false = sym a ∙ m in cc
  nothing_added s n e l (inr a) t i m = c.apart t s e l (unless_own s n a.0 i) a.1 (rw a.0 at m) (rw a.0 at a.2)

  pub reads_kept : (operations : List Operation) → ReadsStand o h operations → ReadsStand o (x ∷ h) operations
  reads_kept [] k = tt
  reads_kept (y ∷ past) k = (
    (λ s e q a.
        let r = k.0 s e q a in
        let d = latest_edit s (events_of past) in (
          r.0,
          (r.1 ∙ ap (λ (l : List Version). valued (value_or_last (value_written e (actions_of d (events_of past))) l))
              (sym (chain_before_kept x h c.undecided o d e (nothing_added s (edits_begun s (events_of past)) e r.0 r.2)))),
          stands_kept x h c.undecided d e (λ _. c.within) r.2,
        )),
    reads_kept past k.1,
  )

-- ------------------------------------------------------------ what the calls do to a view

abbrev pub upd : {A : Type 0} → (ℕ → A) → ℕ → A → ℕ → A
upd f k a j = cond (same k j) a (f j)

-- at one entry and seat
abbrev pub upd2 : {A : Type 0} → (ℕ → ℕ → A) → ℕ → ℕ → A → ℕ → ℕ → A
upd2 f e s a y x = cond (same s x && same e y) a (f y x)

abbrev pub with_state : View → ℕ → State → View
with_state v p q = record v { state = upd v.state p q }

abbrev pub begun_view : View → ℕ → View
begun_view v p = record v { state = upd v.state p Editing; serial = upd v.serial p (v.serial p + 1) }

abbrev pub read_view : View → ℕ → ℕ → View
read_view v p e = record v { reads = upd2 v.reads e p (cond (is_seat (v.writer e) p) (v.reads e p) true) }

abbrev pub written_view : View → ℕ → ℕ → ℤ → View
written_view v p e z =
    record v {
      writer = upd v.writer e (Some p);
      reads = upd v.reads e (λ _. false);
      staged = upd v.staged e (Some (record { value = z; seat = p; serial = v.serial p }));
    }

abbrev pub voted_view : View → ℕ → ℕ → Bool → View
voted_view v p e b = record v { voted = upd2 v.voted e p true; against = upd2 v.against e p (not b) }

abbrev pub finished_view : View → ℕ → ℕ → View
finished_view v p e =
    record v {
      writer = upd v.writer e (cond (is_seat (v.writer e) p) None (v.writer e));
      reads = upd2 v.reads e p false;
      voted = upd2 v.voted e p false;
      against = upd2 v.against e p false;
      staged = upd v.staged e (cond (is_seat (v.writer e) p) None (v.staged e));
      chains = upd v.chains e (cond (is_seat (v.writer e) p && is_commit_state (v.state p)) (v.chains e ++ as_list (v.staged e)) (v.chains e));
    }

-- ------------------------------------------------------------ what an event changes of what the history says

-- the event that the seat did this
abbrev did : ℕ → Action → Event
did p x = record { seat = p; action = x }

apart_sym : (a b : ℕ) → same a b ≡ false → same b a ≡ false
apart_sym a b q = grind (arith, same_tells)

-- the same agreement, where the history says the same in other words, and at any rank among the commits
said_as : {allows : Rule} {s e : ℕ} (pool : PoolAt) {n n' : ℕ} {u u' dc dc' : Bool} {k k' : ℕ} {xs xs' : List Action} {un un' ch ch' : List Version}
    → n ≡ n' → u ≡ u' → dc ≡ dc' → xs ≡ xs' → un ≡ un' → ch ≡ ch'
    → Agree allows s e pool (history_with e n' u' dc' k' xs' un' ch') → Agree allows s e pool (history_with e n u dc k xs un ch)
said_as pool {k = k} a b c d f g m = rw (a, b, c, d, f, g) (A.placed m k)

-- an event of another seat leaves what the history says of this one
module _ (allows : Rule) (o : Chains) (x : Event) (h : List Event) (v : View) (s e : ℕ) where
  other : same x.seat s ≡ false
      → Agree allows s e (pool_at v s e)
      (history_with e (edits_begun s h) (is_under_way s h) (is_among (latest_edit s h) (edits_by_decision h)) (commit_rank h (latest_edit s h)) (actions_of (latest_edit s h) h)
      (unfinished_versions (x ∷ h) (edits_by_decision (x ∷ h)) e) (chain_after o (x ∷ h) (edits_by_decision (x ∷ h)) e))
      → AgreeAt allows o v (x ∷ h) s e
  other t m =
      let n : edits_begun s (x ∷ h) ≡ edits_begun s h = rw t in
      let ds : actions_of (latest_edit s h) (x ∷ h) ≡ actions_of (latest_edit s h) h = rw t in
      let dc : is_among (latest_edit s h) (edits_by_decision (x ∷ h)) ≡ is_among (latest_edit s h) (edits_by_decision h) = let r = apart_sym x.seat s t in grind arith in
      said_as (pool_at v s e) n (rw t) (ap (λ (k : ℕ). is_among (record { seat = s; serial = k }) (edits_by_decision (x ∷ h))) n ∙ dc)
      (ap (λ (k : ℕ). actions_of (record { seat = s; serial = k }) (x ∷ h)) n ∙ ds) refl refl m

actions_own : (p : ℕ) (d : Action) (h : List Event) → is_under_way p h ≡ true → actions_of (latest_edit p h) (did p d ∷ h) ≡ d ∷ actions_of (latest_edit p h) h
actions_own p d h u = rw (same_refl p, u, same_refl (edits_begun p h))

-- an event of the seat itself, while its edit is under way
module _ (allows : Rule) (o : Chains) (p : ℕ) (d : Action) (h : List Event) (v : View) (e : ℕ) where
  own : is_under_way p h ≡ true → is_begin d ≡ false
      → Agree allows p e (pool_at v p e)
      (history_with e (edits_begun p h) (is_under_way_after d (is_under_way p h)) (is_among (latest_edit p h) (edits_by_decision (did p d ∷ h))) (commit_rank h (latest_edit p h)) (d ∷ actions_of (latest_edit p h) h)
      (unfinished_versions (did p d ∷ h) (edits_by_decision (did p d ∷ h)) e) (chain_after o (did p d ∷ h) (edits_by_decision (did p d ∷ h)) e))
      → AgreeAt allows o v (did p d ∷ h) p e
  own u q m =
      let x : Event = did p d in
      let n : edits_begun p (x ∷ h) ≡ edits_begun p h = rw (same_refl p, q) in
      said_as (pool_at v p e) n (rw (same_refl p)) (ap (λ (k : ℕ). is_among (record { seat = p; serial = k }) (edits_by_decision (x ∷ h))) n)
      (ap (λ (k : ℕ). actions_of (record { seat = p; serial = k }) (x ∷ h)) n ∙ actions_own p d h u) refl refl m

-- an action that nothing in what the history says of an edit hangs on
abbrev is_quiet : Action → Bool
is_quiet prepares = true
is_quiet nothing = true
is_quiet _ = false

-- an event with such an action, of whatever seat
module _ (allows : Rule) (o : Chains) (p : ℕ) (d : Action) (h : List Event) (v : View) (s e : ℕ) (q : is_quiet d ≡ true) where
  abbrev none : Event
  none = did p d

  quiet : AgreeAt allows o v h s e → AgreeAt allows o v (none ∷ h) s e
  quiet m = go (cases_Bool (is_part_of (latest_edit s h) none h))
    where
      same_order : edits_by_decision (none ∷ h) ≡ edits_by_decision h
      same_order = grind arith

      as_it_was : (xs : List Action) → actions_of (latest_edit s h) (none ∷ h) ≡ xs
          → Agree allows s e (pool_at v s e)
          (history_with e (edits_begun s h) (is_under_way s h) (is_among (latest_edit s h) (edits_by_decision h)) (commit_rank h (latest_edit s h)) xs
          (unfinished_versions h (edits_by_decision h) e) (chain_after o h (edits_by_decision h) e))
          → AgreeAt allows o v (none ∷ h) s e
      as_it_was xs t c =
          let n : edits_begun s (none ∷ h) ≡ edits_begun s h = grind arith in
          said_as (pool_at v s e) n (grind arith) (ap₂ (λ (k : ℕ) (l : List Edit). is_among (record { seat = s; serial = k }) l) n same_order)
          (ap (λ (k : ℕ). actions_of (record { seat = s; serial = k }) (none ∷ h)) n ∙ t)
          (ap (λ (l : List Edit). unfinished_versions (none ∷ h) l e) same_order ∙ unfinished_kept none h (edits_by_decision h) e (λ t. grind arith) (grind arith))
          (ap (λ (l : List Edit). chain_after o (none ∷ h) l e) same_order ∙ chain_kept none h o (edits_by_decision h) e (λ t. grind arith)) c

      go : (is_part_of (latest_edit s h) none h ≡ true) ⊎ (is_part_of (latest_edit s h) none h ≡ false) → AgreeAt allows o v (none ∷ h) s e
      go (inl b) = as_it_was (d ∷ actions_of (latest_edit s h) h) (rw b) (unchanged d (actions_of (latest_edit s h) h) q m)
        where
          unchanged : {pool : PoolAt} {n k : ℕ} {u dc : Bool} {un ch : List Version} (d : Action) (xs : List Action) → is_quiet d ≡ true
              → Agree allows s e pool (history_with e n u dc k xs un ch) → Agree allows s e pool (history_with e n u dc k (d ∷ xs) un ch)
          unchanged prepares xs q m = m
          unchanged nothing xs q m = m
          unchanged begins xs q m = no (cc)
          unchanged (reads _) xs q m = no (cc)
          unchanged (writes _ _) xs q m = no (cc)
          unchanged (decides _) xs q m = no (cc)
          unchanged (finishes _) xs q m = no (cc)
          unchanged closes xs q m = no (cc)
      go (inr b) = as_it_was (actions_of (latest_edit s h) h) (rw b) m

-- an edit with a larger serial is not the seat's latest
beyond : (s n p : ℕ) (h : List Event) → edits_begun s h < n → is_same_edit (record { seat = s; serial = n }) (latest_edit p h) ≡ false
beyond s n p h l = go (same_tells s p)
  where
    go : ((same s p ≡ true) × (s ≡ p)) ⊎ ((same s p ≡ false) × (s ≡ p → ⊥)) → is_same_edit (record { seat = s; serial = n }) (latest_edit p h) ≡ false
    go (inl t) = let a : edits_begun p h < n = subst (λ (y : ℕ). edits_begun y h < n) t.1 l in rw t.0 (grind (arith, same_tells))
    go (inr t) = rw t.0

granted_as : (p y : ℕ) (d : Action) (h : List Event) {b : Bool} → is_use_of y d ≡ b
    → locks_granted y (did p d ∷ h) ≡ cond (b && not (has_used y (actions_of (latest_edit p h) h))) (locks_granted y h + 1) (locks_granted y h)
granted_as p y d h q = ap (λ (b : Bool). cond (b && not (has_used y (actions_of (latest_edit p h) h))) (locks_granted y h + 1) (locks_granted y h)) q

-- what the seat's latest edit adds once it is decided so
abbrev decided_additions : List Event → ℕ → Decision → ℕ → List Version
decided_additions h p c e = cond (is_commit (decides c)) (added (latest_edit p h) (commit_rank h (latest_edit p h)) (value_written e (actions_of (latest_edit p h) h))) []

-- an event by which nothing is written or decided, and no edit begun or closed
calm_within : (x : Event) (h : List Event) → is_telling x.action ≡ false → is_within_edit x.action ≡ true → Calm x h
calm_within x h q t = record { undecided = λ l. grind arith; within = λ _ _. t; apart = λ d. grind arith }

-- ------------------------------------------------------------ the calls, one by one

module _ (allows : Rule) (o : Chains) (v : View) (h : List Operation) (i : Inv allows o v h) where
  abbrev H : List Event
  H = events_of h

  abbrev order : List Edit
  order = edits_by_decision (events_of h)

  -- what is the same for every call that decides nothing
  plain : (x : Operation) (y : Event) (w : View) → is_decision y.action ≡ false → Calm y H → TimeIsKept (y ∷ H) (edits_by_decision (y ∷ H))
      → ((s e : ℕ) → s < 16 → AgreeAt allows o w (y ∷ H) s e)
      → ((s e : ℕ) → x.call ≡ C.Read s e → is_ok x.answer ≡ true
      → (s < 16) × (x.answer ≡ valued (read_answer o (y ∷ H) (edits_by_decision (y ∷ H)) H s e)) × Stands (latest_edit s H) e (y ∷ H))
      → ((e : ℕ) → locks_granted e (y ∷ H) ≡ locks_released e (y ∷ H) + count_below (holds w e) 16)
      → InvOf allows o w (y ∷ H) (x ∷ h)
  plain x y w q c time agree fresh locks =
      record {
        agree = agree;
        ahead = λ s n m. rw q (i.ahead s n (omega (arith, begun_more s y H)));
        reads = (fresh, reads_kept o y H c h i.reads);
        allowed = λ e. rw q (allowed_kept y H allows o order e c.undecided (i.allowed e));
        locks = locks;
        time = time;
      }

  -- and the same where it is no read, and closes nothing
  no_read : (x : Operation) (y : Event) (w : View) → is_decision y.action ≡ false → is_close y.action ≡ false → Calm y H
      → ((s e : ℕ) → x.call ≡ C.Read s e → is_ok x.answer ≡ true → ⊥)
      → ((s e : ℕ) → s < 16 → AgreeAt allows o w (y ∷ H) s e)
      → ((e : ℕ) → locks_granted e (y ∷ H) ≡ locks_released e (y ∷ H) + count_below (holds w e) 16)
      → InvOf allows o w (y ∷ H) (x ∷ h)
  no_read x y w q k c none agree locks = plain x y w q c (time_kept y H i.time q k) agree (λ s e r t. absurd (none s e r t)) locks

  live_at : (p : ℕ) → p < 16 → is_live (v.state p) ≡ true → is_under_way p H ≡ true
  live_at p l a = (i.agree p 0 l).live ∙ a

  undecided_at : (p : ℕ) → p < 16 → is_live (v.state p) ≡ true → is_decided (v.state p) ≡ false → is_among (latest_edit p H) order ≡ false
  undecided_at p l a b = (i.agree p 0 l).decided (live_at p l a) ∙ b

  pub begin_step : (p n : ℕ) → p < 16 → v.state p ≡ Idle → Inv allows o (begun_view v p) (record { call = C.Begin p; answer = Ok (Serial n) } ∷ h)
  begin_step p n l a =
      let x : Event = did p begins in
      let q : is_telling begins ≡ true → is_among (latest_edit p H) order ≡ false = λ t. grind arith in
      let idle : is_under_way p H ≡ false = (i.agree p 0 l).live ∙ ap is_live a in
      let k : edits_begun p (x ∷ H) ≡ edits_begun p H + 1 = rw (same_refl p) in
      let u : is_under_way p (x ∷ H) ≡ true = rw (same_refl p) in
      let none : actions_of (record { seat = p; serial = edits_begun p H + 1 }) (x ∷ H) ≡ []
      = rw (same_refl p, idle) (actions_ahead (record { seat = p; serial = edits_begun p H + 1 }) H (omega arith)) in
      no_read (record { call = C.Begin p; answer = Ok (Serial n) }) x (begun_view v p) refl refl
      (record { undecided = q; within = λ u m. grind arith; apart = λ t. grind arith })
      (λ s e r _. no (cc))
      (at (λ (s : ℕ). (e : ℕ) → s < 16 → AgreeAt allows o (begun_view v p) (x ∷ H) s e) p
      (λ e _. said_as (pool_at (begun_view v p) p e) {k' = 0} k u (ap (λ (y : ℕ). is_among (record { seat = p; serial = y }) order) k ∙ i.ahead p (edits_begun p H + 1) (omega arith))
      (ap (λ (y : ℕ). actions_of (record { seat = p; serial = y }) (x ∷ H)) k ∙ none)
      (unfinished_kept x H order e q refl) (chain_kept x H o order e q) (rw (same_refl p) (A.begin_own (i.agree p e l) 0 a)))
      (λ s t e m. other allows o x H (begun_view v p) s e t (rw (t, unfinished_kept x H order e q refl, chain_kept x H o order e q) (i.agree s e m))))
      i.locks

  pub refused_step : (c : Call) (f : Fault) → Inv allows o v (record { call = c; answer = Err f } ∷ h)
  refused_step c f =
      no_read (record { call = c; answer = Err f }) (did (seat_of c) nothing) v refl refl (calm_within (did (seat_of c) nothing) H refl refl) (λ s e r t. no (cc))
      (λ s e m. quiet allows o (seat_of c) nothing H v s e refl (i.agree s e m)) i.locks

  pub prepare_step : (p : ℕ) → p < 16 → v.state p ≡ Editing → Inv allows o (with_state v p Voting) (record { call = C.Prepare p; answer = Ok Done } ∷ h)
  prepare_step p l a =
      let x : Event = did p prepares in
      let w : View = with_state v p Voting in
      no_read (record { call = C.Prepare p; answer = Ok Done }) x w refl refl (calm_within x H refl refl) (λ s e r _. no (cc))
      (at (λ (s : ℕ). (e : ℕ) → s < 16 → AgreeAt allows o w (x ∷ H) s e) p
      (λ e m. quiet allows o p prepares H w p e refl (rw (same_refl p) (A.prepare_own (i.agree p e m) a)))
      (λ s t e m. quiet allows o p prepares H w s e refl (rw t (i.agree s e m))))
      i.locks

  pub vote_step : (p e : ℕ) (b : Bool) → p < 16 → v.state p ≡ Voting → holds v e p ≡ true
      → b ≡ cond (is_seat (v.writer e) p) (allows e (last_version (v.chains e)).value (value_staged_or_last (v.staged e) (v.chains e))) true
      → Inv allows o (voted_view v p e b) (record { call = C.Vote p e; answer = Ok (Voted b) } ∷ h)
  vote_step p e b l a f g =
      let x : Event = did p nothing in
      let w : View = voted_view v p e b in
      no_read (record { call = C.Vote p e; answer = Ok (Voted b) }) x w refl refl (calm_within x H refl refl) (λ s e r _. no (cc))
      (at (λ (s : ℕ). (y : ℕ) → s < 16 → AgreeAt allows o w (x ∷ H) s y) p
      (at (λ (y : ℕ). p < 16 → AgreeAt allows o w (x ∷ H) p y) e
      (λ m. quiet allows o p nothing H w p e refl (rw (same_refl p, same_refl e) (A.vote_own (i.agree p e m) b a f g)))
      (λ y t m. quiet allows o p nothing H w p y refl (rw (same_refl p, t) (i.agree p y m))))
      (λ s t y m. quiet allows o p nothing H w s y refl (rw t (i.agree s y m))))
      i.locks

  -- the locks of an entry that a seat which edits reads or writes
  granting : (w : View) (p e : ℕ) → p < 16 → v.state p ≡ Editing → holds w e p ≡ true → ((s : ℕ) → s < 16 → same p s ≡ false → holds w e s ≡ holds v e s)
      → cond (not (has_used e (actions_of (latest_edit p H) H))) (locks_granted e H + 1) (locks_granted e H) ≡ locks_released e H + count_below (holds w e) 16
  granting w p e l a t f =
      let one : count_below (holds w e) 16 + cond (holds v e p) 1 0 ≡ count_below (holds v e) 16 + 1
      = subst (λ (b : Bool). count_below (holds w e) 16 + cond (holds v e p) 1 0 ≡ count_below (holds v e) 16 + cond b 1 0) t (count_one (holds v e) (holds w e) p 16 l f) in
      A.grant_sum (i.agree p e l) (locks_granted e H) (locks_released e H) (count_below (holds v e) 16) (count_below (holds w e) 16) a (i.locks e) one

  -- the locks of an entry at which every seat holds as before
  holding : (w : View) (e : ℕ) → ((s : ℕ) → s < 16 → holds w e s ≡ holds v e s) → locks_granted e H ≡ locks_released e H + count_below (holds w e) 16
  holding w e f = i.locks e ∙ ap (λ (n : ℕ). locks_released e H + n) (sym (count_ext (holds w e) (holds v e) 16 f))

  pub read_step : (p e : ℕ) (z : ℤ) → p < 16 → v.state p ≡ Editing → (is_some (v.writer e) && not (is_seat (v.writer e) p)) ≡ false
      → z ≡ cond (is_seat (v.writer e) p) (value_staged_or_last (v.staged e) (v.chains e)) (last_version (v.chains e)).value
      → Inv allows o (read_view v p e) (record { call = C.Read p e; answer = Ok (Value z) } ∷ h)
  read_step p e z l a f r =
      let x : Event = did p (reads e) in
      let w : View = read_view v p e in
      let q : is_telling (reads e) ≡ true → is_among (latest_edit p H) order ≡ false = λ t. grind arith in
      let u : is_under_way p H ≡ true = live_at p l (ap is_live a) in
      let m : is_among (latest_edit p H) order ≡ false = undecided_at p l (ap is_live a) (ap is_decided a) in
      plain (record { call = C.Read p e; answer = Ok (Value z) }) x w refl (calm_within x H refl refl) (time_kept x H i.time refl refl)
      (at (λ (s : ℕ). (y : ℕ) → s < 16 → AgreeAt allows o w (x ∷ H) s y) p
      (at (λ (y : ℕ). p < 16 → AgreeAt allows o w (x ∷ H) p y) e
      (λ k. own allows o p (reads e) H w e u refl
      (rw (same_refl p, same_refl e, unfinished_kept x H order e q refl, chain_kept x H o order e q) (A.read_own (i.agree p e k) a f)))
      (λ y t k. own allows o p (reads e) H w y u refl
      (rw (same_refl p, t, unfinished_kept x H order y q refl, chain_kept x H o order y q) (i.agree p y k))))
      (λ s t y k. other allows o x H w s y t
      (rw (t, unfinished_kept x H order y q refl, chain_kept x H o order y q) (i.agree s y k))))
      (λ s y c _.
      let b : p ≡ s = cc in
      let d : e ≡ y = cc in
      subst (λ (s : ℕ). (s < 16) × (valued z ≡ valued (read_answer o (x ∷ H) order H s y)) × Stands (latest_edit s H) y (x ∷ H)) b
      (subst (λ (y : ℕ). (p < 16) × (valued z ≡ valued (read_answer o (x ∷ H) order H p y)) × Stands (latest_edit p H) y (x ∷ H)) d (
        l,
        ap valued (r ∙ A.answer_own (i.agree p e l) a f
            ∙ ap (λ (c : List Version). value_or_last (value_written e (actions_of (latest_edit p H) H)) c)
            (sym (chain_kept x H o order e q) ∙ ap (λ (ds : List Edit). chain_after o (x ∷ H) ds e) (sym (before_all (latest_edit p H) order m)))),
        inr (rw (same_refl p), rw (same_refl p) u, rw (same_refl p, u, same_refl (edits_begun p H), same_refl e)),
      )))
      (at (λ (y : ℕ). locks_granted y (x ∷ H) ≡ locks_released y (x ∷ H) + count_below (holds w y) 16) e
      (granted_as p e (reads e) H (same_refl e) ∙ granting w p e l a (rw (same_refl p, same_refl e) (grind arith)) (λ s _ t. rw t))
      (λ y t. granted_as p y (reads e) H t ∙ holding w y (at (λ (s : ℕ). s < 16 → holds w y s ≡ holds v y s) p (λ _. rw (same_refl p, t)) (λ s k _. rw k))))

  pub write_step : (p e : ℕ) (z : ℤ) → p < 16 → v.state p ≡ Editing → (v.writer e ≡ None) ⊎ (v.writer e ≡ Some p)
      → ((s : ℕ) → s < 16 → same p s ≡ false → holds v e s ≡ false)
      → Inv allows o (written_view v p e z) (record { call = C.Write p e z; answer = Ok Done } ∷ h)
  write_step p e z l a g f =
      let x : Event = did p (writes e z) in
      let w : View = written_view v p e z in
      let u : is_under_way p H ≡ true = live_at p l (ap is_live a) in
      let q : is_telling (writes e z) ≡ true → is_among (latest_edit p H) order ≡ false = λ _. undecided_at p l (ap is_live a) (ap is_decided a) in
      no_read (record { call = C.Write p e z; answer = Ok Done }) x w refl refl (record { undecided = q; within = λ _ _. refl; apart = λ t. grind arith }) (λ s e r _. no (cc))
      (at (λ (s : ℕ). (y : ℕ) → s < 16 → AgreeAt allows o w (x ∷ H) s y) p
      (at (λ (y : ℕ). p < 16 → AgreeAt allows o w (x ∷ H) p y) e
      (λ k. own allows o p (writes e z) H w e u refl
      (rw (same_refl e, unfinished_kept x H order e q refl, chain_kept x H o order e q) (A.write_own (i.agree p e k) z a g)))
      (λ y t k. own allows o p (writes e z) H w y u refl
      (rw (t, unfinished_kept x H order y q refl, chain_kept x H o order y q) (i.agree p y k))))
      (λ s t. at (λ (y : ℕ). s < 16 → AgreeAt allows o w (x ∷ H) s y) e
      (λ k. other allows o x H w s e t
      (rw (same_refl e, unfinished_kept x H order e q refl, chain_kept x H o order e q)
      (A.write_other (i.agree s e k) p _ t (f s k t) (A.write_empty (i.agree p e l) a g))))
      (λ y m k. other allows o x H w s y t
      (rw (m, unfinished_kept x H order y q refl, chain_kept x H o order y q) (i.agree s y k)))))
      (at (λ (y : ℕ). locks_granted y (x ∷ H) ≡ locks_released y (x ∷ H) + count_below (holds w y) 16) e
      (granted_as p e (writes e z) H (same_refl e) ∙ granting w p e l a (rw (same_refl e, same_refl p)) (λ s k t. sym (f s k t ∙ rw (same_refl e, t))))
      (λ y t. granted_as p y (writes e z) H t ∙ holding w y (λ s _. rw t)))

  -- what is the same for every decision
  deciding : (x : Operation) (w : View) (p : ℕ) (c : Decision) → ((s e : ℕ) → x.call ≡ C.Read s e → ⊥) → Calm (did p (decides c)) H
      → ((s e : ℕ) → s < 16 → AgreeAt allows o w (did p (decides c) ∷ H) s e)
      → ((e : ℕ) (y : Version) → additions (did p (decides c) ∷ H) (latest_edit p H) e ≡ y ∷ []
      → allows e (last_version (chain_after o H order e)).value y.value ≡ true)
      → ((e : ℕ) → count_below (holds w e) 16 ≡ count_below (holds v e) 16)
      → InvOf allows o w (did p (decides c) ∷ H) (x ∷ h)
  deciding x w p c f k agree new same_holds =
      let y : Event = did p (decides c) in
      record {
        agree = agree;
        ahead = λ s n m.
            let a : edits_begun s H < n = omega (arith, begun_more s y H) in
            let b : is_among (record { seat = s; serial = n }) order ≡ false = i.ahead s n a in
            let d : is_same_edit (record { seat = s; serial = n }) (latest_edit p H) ≡ false = beyond s n p H a in
            rw (d, b);
        reads = ((λ s e r _. absurd (f s e r)), reads_kept o y H k h i.reads);
        allowed = λ e. ((λ z q. rw (chain_kept y H o order e k.undecided) (new e z q)), allowed_kept y H allows o order e k.undecided (i.allowed e));
        locks = λ e. i.locks e ∙ ap (λ (n : ℕ). locks_released e H + n) (sym (same_holds e));
        time = time_decided y H i.time refl refl;
      }

  -- the decisions: the seat's edit is undecided, and what it adds is in use by no other undecided edit
  module _ (p : ℕ) (c : Decision) (l : p < 16) (a : (v.state p ≡ Editing) ⊎ (v.state p ≡ Voting)) where
    abbrev decision : Event
    decision = did p (decides c)

    lives : is_under_way p H ≡ true
    lives = live_at p l (grind arith)

    open_yet : is_among (latest_edit p H) order ≡ false
    open_yet = undecided_at p l (grind arith) (grind arith)

    additions_now : (e : ℕ) → additions (decision ∷ H) (latest_edit p H) e ≡ decided_additions H p c e
    additions_now e =
        let d : actions_of (latest_edit p H) (decision ∷ H) ≡ decides c ∷ actions_of (latest_edit p H) H = actions_own p (decides c) H lives in
        let k : is_committed (actions_of (latest_edit p H) H) ≡ false = (i.agree p e l).committed lives ∙ grind arith in
        additions_as (decision ∷ H) (latest_edit p H) (commit_rank H (latest_edit p H)) e
        ∙ ap (λ (xs : List Action). cond (is_committed xs) (added (latest_edit p H) (commit_rank H (latest_edit p H)) (value_written e xs)) []) d
        ∙ rw k (grind arith)

    unfinished_now : (e : ℕ) → unfinished_versions (decision ∷ H) (edits_by_decision (decision ∷ H)) e ≡ unfinished_versions H order e ++ decided_additions H p c e
    unfinished_now e =
        let d : actions_of (latest_edit p H) (decision ∷ H) ≡ decides c ∷ actions_of (latest_edit p H) H = actions_own p (decides c) H lives in
        let k : has_finished e (actions_of (latest_edit p H) H) ≡ false = (i.agree p e l).unfinished_yet lives open_yet in
        let f : has_finished e (actions_of (latest_edit p H) (decision ∷ H)) ≡ false = rw d k in
        ap₂ (λ (a b : List Version). a ++ b) (unfinished_kept decision H order e (λ _. open_yet) refl)
        (ap₂ (λ (b : Bool) (m : List Version). cond b [] m) f (additions_now e))

    chain_now : (e : ℕ) → chain_after o (decision ∷ H) (edits_by_decision (decision ∷ H)) e ≡ chain_after o H order e ++ decided_additions H p c e
    chain_now e = ap₂ (λ (a b : List Version). a ++ b) (chain_kept decision H o order e (λ _. open_yet)) (additions_now e)

    -- what the seat adds to an entry is there by its write lock
    unless_writer : (e : ℕ) → (added (latest_edit p H) (commit_rank H (latest_edit p H)) (value_written e (actions_of (latest_edit p H) H)) ≡ []) ⊎ (v.writer e ≡ Some p)
    unless_writer e = A.adds_own (i.agree p e l) (commit_rank H (latest_edit p H)) lives open_yet

    calm_decided : Calm decision H
    calm_decided =
        record {
          undecided = λ _. open_yet;
          within = λ _ _. refl;
          apart = λ _ s e k t u m b. additions_now e ∙ go s e k t u m b (unless_writer e);
        }
      where
        go : (s e : ℕ) → s < 16 → same p s ≡ false → is_under_way s H ≡ true → is_among (latest_edit s H) order ≡ false
            → has_used e (actions_of (latest_edit s H) H) ≡ true
            → (added (latest_edit p H) (commit_rank H (latest_edit p H)) (value_written e (actions_of (latest_edit p H) H)) ≡ []) ⊎ (v.writer e ≡ Some p)
            → decided_additions H p c e ≡ []
        go s e k t u m b (inl q) = rw q (grind arith)
        go s e k t u m b (inr q) = absurd (A.used_apart (i.agree s e k) p u m b q t)

    -- the seats other than the deciding one
    others : (q : State) (s e : ℕ) → same p s ≡ false → s < 16 → AgreeAt allows o (with_state v p q) (decision ∷ H) s e
    others q s e t k =
        other allows o decision H (with_state v p q) s e t
        (rw (t, unfinished_now e, chain_now e)
        (A.commit_other (i.agree s e k) p (decided_additions H p c e) (go (unless_writer e))))
      where
        go : (added (latest_edit p H) (commit_rank H (latest_edit p H)) (value_written e (actions_of (latest_edit p H) H)) ≡ []) ⊎ (v.writer e ≡ Some p)
            → (decided_additions H p c e ≡ []) ⊎ ((v.writer e ≡ Some p) × (same p s ≡ false))
        go (inl q) = inl (rw q (grind arith))
        go (inr q) = inr (q, t)

  pub commit_step : (p : ℕ) → p < 16 → v.state p ≡ Voting → ((e : ℕ) → is_seat (v.writer e) p ≡ true → v.voted e p ≡ true) → ((e : ℕ) → v.against e p ≡ false)
      → Inv allows o (with_state v p Commit) (record { call = C.Decide p; answer = Ok (Decided D.Commit) } ∷ h)
  commit_step p l a f g =
      let x : Event = did p (decides D.Commit) in
      let w : View = with_state v p Commit in
      let u : is_under_way p H ≡ true = lives p D.Commit l (inr a) in
      let now : is_among (latest_edit p H) (edits_by_decision (x ∷ H)) ≡ true = rw (same_edit_refl (latest_edit p H)) in
      deciding (record { call = C.Decide p; answer = Ok (Decided D.Commit) }) w p D.Commit (λ s e r. no (cc))
      (calm_decided p D.Commit l (inr a))
      (at (λ (s : ℕ). (e : ℕ) → s < 16 → AgreeAt allows o w (x ∷ H) s e) p
      (λ e k. own allows o p (decides D.Commit) H w e u refl
      (said_as (pool_at w p e) {k' = commit_rank H (latest_edit p H)} {xs = decides D.Commit ∷ actions_of (latest_edit p H) H} refl refl now refl (unfinished_now p D.Commit l (inr a) e) (chain_now p D.Commit l (inr a) e)
      (rw (same_refl p) (A.commit_own (i.agree p e k) (inr a)))))
      (λ s t e k. others p D.Commit l (inr a) Commit s e t k))
      (λ e y q. agreed_value e y (value_written e (actions_of (latest_edit p H) H)) refl (sym (additions_now p D.Commit l (inr a) e) ∙ q))
      (λ e. refl)
    where
      agreed_value : (e : ℕ) (y : Version) (z : Option ℤ) → value_written e (actions_of (latest_edit p H) H) ≡ z → added (latest_edit p H) (commit_rank H (latest_edit p H)) z ≡ y ∷ []
          → allows e (last_version (chain_after o H order e)).value y.value ≡ true
      agreed_value e y None r k = no (cc)
      agreed_value e y (Some z) r k =
          let b : record { value = z; seat = p; serial = edits_begun p H } ≡ y = cc in
          let d : z ≡ y.value = ap (λ (x : Version). x.value) b in
          subst (λ (z : ℤ). allows e (last_version (chain_after o H order e)).value z ≡ true) d
          (A.allowed_own (i.agree p e l) z (lives p D.Commit l (inr a)) (open_yet p D.Commit l (inr a)) (f e) (g e) r)

  -- by a decide that finds a no, or by an abort
  aborting : (x : Operation) → ((s e : ℕ) → x.call ≡ C.Read s e → ⊥) → (p : ℕ) → p < 16 → (v.state p ≡ Editing) ⊎ (v.state p ≡ Voting)
      → InvOf allows o (with_state v p Abort) (did p (decides D.Abort) ∷ H) (x ∷ h)
  aborting x f p l a =
      let y : Event = did p (decides D.Abort) in
      let w : View = with_state v p Abort in
      let u : is_under_way p H ≡ true = lives p D.Abort l a in
      let now : is_among (latest_edit p H) (edits_by_decision (y ∷ H)) ≡ true = rw (same_edit_refl (latest_edit p H)) in
      deciding x w p D.Abort f (calm_decided p D.Abort l a)
      (at (λ (s : ℕ). (e : ℕ) → s < 16 → AgreeAt allows o w (y ∷ H) s e) p
      (λ e k. own allows o p (decides D.Abort) H w e u refl
      (said_as (pool_at w p e) {k' = commit_rank H (latest_edit p H)} {xs = decides D.Abort ∷ actions_of (latest_edit p H) H} refl refl now refl (unfinished_now p D.Abort l a e ∙ append-nil _) (chain_now p D.Abort l a e ∙ append-nil _)
      (rw (same_refl p) (A.abort_own (i.agree p e k) a))))
      (λ s t e k. others p D.Abort l a Abort s e t k))
      (λ e z q. no (let n : [] ≡ z ∷ [] = sym (additions_now p D.Abort l a e) ∙ q in cc))
      (λ e. refl)

  pub decide_abort_step : (p : ℕ) → p < 16 → v.state p ≡ Voting → Inv allows o (with_state v p Abort) (record { call = C.Decide p; answer = Ok (Decided D.Abort) } ∷ h)
  decide_abort_step p l a = aborting (record { call = C.Decide p; answer = Ok (Decided D.Abort) }) (λ s e r. no (cc)) p l (inr a)

  pub abort_step : (p : ℕ) → p < 16 → (v.state p ≡ Editing) ⊎ (v.state p ≡ Voting) → Inv allows o (with_state v p Abort) (record { call = C.Abort p; answer = Ok Done } ∷ h)
  abort_step p l a = aborting (record { call = C.Abort p; answer = Ok Done }) (λ s e r. no (cc)) p l a

  pub close_step : (p : ℕ) → p < 16 → is_decided (v.state p) ≡ true → ((e : ℕ) → holds v e p ≡ false)
      → Inv allows o (with_state v p Idle) (record { call = C.Close p; answer = Ok Done } ∷ h)
  close_step p l a f =
      let x : Event = did p closes in
      let w : View = with_state v p Idle in
      let q : is_telling closes ≡ true → is_among (latest_edit p H) order ≡ false = λ t. grind arith in
      let u : is_under_way p H ≡ true = live_at p l (grind arith) in
      let m : is_among (latest_edit p H) order ≡ true = (i.agree p 0 l).decided u ∙ a in
      plain (record { call = C.Close p; answer = Ok Done }) x w refl
      (record { undecided = q; within = λ _ n. no (let z : true ≡ false = sym m ∙ n in cc); apart = λ t. grind arith })
      (time_closed x H i.time refl m i.ahead)
      (at (λ (s : ℕ). (e : ℕ) → s < 16 → AgreeAt allows o w (x ∷ H) s e) p
      (λ e k. own allows o p closes H w e u refl
      (rw (same_refl p, unfinished_kept x H order e q refl, chain_kept x H o order e q) (A.close_own (i.agree p e k) a (f e))))
      (λ s t e k. other allows o x H w s e t (rw (t, unfinished_kept x H order e q refl, chain_kept x H o order e q) (i.agree s e k))))
      (λ s e r. no (cc))
      i.locks

  pub finish_step : (p e : ℕ) → p < 16 → is_decided (v.state p) ≡ true → holds v e p ≡ true
      → Inv allows o (finished_view v p e) (record { call = C.Finish p e; answer = Ok Done } ∷ h)
  finish_step p e l a f =
      let x : Event = did p (finishes e) in
      let w : View = finished_view v p e in
      let c : AgreeAt allows o v H p e = i.agree p e l in
      let q : is_telling (finishes e) ≡ true → is_among (latest_edit p H) order ≡ false = λ t. grind arith in
      let u : is_under_way p H ≡ true = live_at p l (grind arith) in
      let none : unfinished_versions (x ∷ H) order e ≡ [] = unfinished_done p e H u order ∙ A.finish_none c a f in
      no_read (record { call = C.Finish p e; answer = Ok Done }) x w refl refl (calm_within x H refl refl) (λ s e r _. no (cc))
      (at (λ (s : ℕ). (y : ℕ) → s < 16 → AgreeAt allows o w (x ∷ H) s y) p
      (at (λ (y : ℕ). p < 16 → AgreeAt allows o w (x ∷ H) p y) e
      (λ k. own allows o p (finishes e) H w e u refl
      (rw (none, chain_kept x H o order e q, same_refl p, same_refl e) (A.finish_own c a f)))
      (λ y t k. own allows o p (finishes e) H w y u refl
      (rw (unfinished_kept x H order y q t, chain_kept x H o order y q, same_refl p, t) (i.agree p y k))))
      (λ s t. at (λ (y : ℕ). s < 16 → AgreeAt allows o w (x ∷ H) s y) e
      (λ k. other allows o x H w s e t
      (rw (none, chain_kept x H o order e q, t, same_refl e, A.finish_unwritten c f) (A.finish_other (i.agree s e k) _ _ (A.finish_writer c s f t) (A.finish_joined c a f))))
      (λ y m k. other allows o x H w s y t (rw (unfinished_kept x H order y q m, chain_kept x H o order y q, t, m) (i.agree s y k)))))
      (at (λ (y : ℕ). locks_granted y (x ∷ H) ≡ locks_released y (x ∷ H) + count_below (holds w y) 16) e
      (releasing w (rw (same_refl p, same_refl e) (A.finish_free c f))
      (λ s k t. rw (same_refl e, t) (A.finish_others c s (v.reads e s) f t)) ∙ ap (λ (b : Bool). cond b (locks_released e H + 1) (locks_released e H) + count_below (holds w e) 16) (sym (same_refl e)))
      (λ y t. holding w y (at (λ (s : ℕ). s < 16 → holds w y s ≡ holds v y s) p (λ _. rw (same_refl p, t)) (λ s k _. rw (k, t)))
      ∙ ap (λ (b : Bool). cond b (locks_released y H + 1) (locks_released y H) + count_below (holds w y) 16) (sym t)))
    where
      releasing : (w : View) → holds w e p ≡ false → ((s : ℕ) → s < 16 → same p s ≡ false → holds w e s ≡ holds v e s)
          → locks_granted e H ≡ (locks_released e H + 1) + count_below (holds w e) 16
      releasing w t g =
          let one : count_below (holds w e) 16 + cond (holds v e p) 1 0 ≡ count_below (holds v e) 16 + cond (holds w e p) 1 0 = count_one (holds v e) (holds w e) p 16 l g in
          let two : count_below (holds w e) 16 + 1 ≡ count_below (holds v e) 16 + 0 = rw (f, t) at one in
          omega (arith, two, i.locks e)
