-- What settling and giving up end in, by the calls that were made and the answer that was given.
use Rattle.std.proofs.Common.{ltb, ◌≡◌, ℕ, suc, zero, ◌≤◌, Bool, true, false, cond, ◌&&◌, eqb, List, [], ◌∷◌, ◌++◌, Result, sym, refl, ap, ◌∙◌, subst, ⊎_elim, inl, inr, ◌⊎◌, arith}
use Rattle.std.specs.Prelude.{All, IsOk}
use Rattle.std.proofs.lemmas.Bool.{and_parts, ltb-true}
use Rattle.calls.specs.declared.answer.Reply.{Reply}
use Rattle.calls.specs.declared.call.Call.{Call}
use Rattle.calls.specs.declared.call.Call.TheVariants as C
use Rattle.calls.specs.declared.fault.Fault.{Fault}
use Rattle.calls.specs.declared.state.State.{State}
use Rattle.calls.specs.declared.state.State.TheVariants.{Idle, Editing, Voting, Commit, Abort}
use Rattle.calls.specs.Names.{seat_of}
use Rattle.store.specs.declared.reading.ReadingStore as reading_store
use Rattle.store.specs.declared.writing.WritingStore as writing_store
use Rattle.rules.specs.declared.house.HouseRule as house_rule
use Rattle.pool.specs.declared.pool.Pool.{Pool}
use Rattle.pool.specs.Tables.{has_seat, seat_status}
use Rattle.pool.specs.Calls.{Rule, PoolState, Accepted, answer_of, state_after, perform}
use Rattle.pool.specs.Pools.{state_of, rule_of}
use Rattle.promise.specs.Histories.{Operation}
use Rattle.promise.proofs.Sames.{no}
use Rattle.runner.specs.Runs.{Reached, called}
use Rattle.runner.proofs.Lists.{each_reached}
use Rattle.runner.proofs.Stays.{few_entries}
use Rattle.runner.proofs.Entries.{reached_entries}
use Rattle.runner.proofs.Whole.{alone}
use Rattle.tickets.specs.declared.outcome.Outcome.{Outcome}
use Rattle.tickets.specs.declared.outcome.Outcome.TheVariants as O
use Rattle.tickets.specs.declared.ticket.Ticket.{Ticket}
use Rattle.tickets.specs.Lists.{MakesCalls, answers_to, calls_for_each}
use Rattle.tickets.specs.Endings.{holds_lock, owes_vote, votes_left, finishes_left, edit_state, finish_and_close, vote_and_decide, settling_calls, giving_up_calls, calls_to_settle, calls_to_give_up, IsFree, IsUnderWay, CanBeEnded, EndsBy}
use Rattle.tickets.proofs.Made.{each_leaves, makes_none}
use Rattle.tickets.proofs.Apart.{KeepsSeat, other_kept, same_to_give_up, same_to_settle}
use Rattle.tickets.proofs.Accepted.{At, Leads, leads_end, settling_leads, giving_up_leads}

-- ------------------------------------------------------------ each element

pub all_none : {A : Type 0} (P : A → Type 0) → All P []
all_none P k d l = absurd (omega arith)

pub all_more : {A : Type 0} (P : A → Type 0) (x : A) (xs : List A) → P x → All P xs → All P (x ∷ xs)
all_more P x xs a b zero d l = a
all_more P x xs a b (suc k) d l = b k d (omega arith)

pub all-++ : {A : Type 0} (P : A → Type 0) (xs ys : List A) → All P xs → All P ys → All P (xs ++ ys)
all-++ P [] ys a b = b
all-++ P (x ∷ xs) ys a b = all_more P x (xs ++ ys) (a 0 x (omega arith)) (all-++ P xs ys (λ k d l. a (suc k) d (omega arith)) b)

-- calls that lead on are accepted
leads_accepted : (allows : Rule) (P : PoolState → Type 0) (calls : List Call) (s : PoolState) → Leads allows P calls s → All IsOk (answers_to allows calls s)
leads_accepted allows P [] s l = all_none IsOk
leads_accepted allows P (c ∷ calls) s l =
    all_more IsOk (answer_of (perform allows c s)) (answers_to allows calls (state_after (perform allows c s) s))
    (subst (λ (d : Result (Accepted Reply) Fault). IsOk (answer_of d)) (sym l.1) refl)
    (subst (λ (n : PoolState). All IsOk (answers_to allows calls n)) (sym (ap (λ (d : Result (Accepted Reply) Fault). state_after d s) l.1))
    (leads_accepted allows P calls (l.0).leaves l.2))

-- ------------------------------------------------------------ the seat that makes the calls

abbrev OfSeat : ℕ → List Call → Type 0
OfSeat p calls = All (λ call. seat_of call ≡ p) calls

module _ (p : ℕ) where
  of_none : OfSeat p []
  of_none = all_none (λ call. seat_of call ≡ p)

  of_more : (c : Call) (calls : List Call) → seat_of c ≡ p → OfSeat p calls → OfSeat p (c ∷ calls)
  of_more = all_more (λ call. seat_of call ≡ p)

  of_each : (test : ℕ → Bool) (call : ℕ → Call) → ((k : ℕ) → seat_of (call k) ≡ p) → (n : ℕ) → OfSeat p (calls_for_each test call n)
  of_each test call own zero = of_none
  of_each test call own (suc n) =
      all-++ (λ call. seat_of call ≡ p) (calls_for_each test call n) (cond (test n) (call n ∷ []) []) (of_each test call own n) (go (test n))
    where
      go : (b : Bool) → OfSeat p (cond b (call n ∷ []) [])
      go true = of_more (call n) [] (own n) of_none
      go false = of_none

  of_finishes : (s : PoolState) → OfSeat p (finish_and_close s p)
  of_finishes s =
      all-++ (λ call. seat_of call ≡ p) (finishes_left s p) (C.Close p ∷ []) (of_each (holds_lock s p) (C.Finish p) (λ _. refl) s.store.reading.entries)
      (of_more (C.Close p) [] refl of_none)

  of_votes : (s : PoolState) → OfSeat p (vote_and_decide s p)
  of_votes s =
      all-++ (λ call. seat_of call ≡ p) (votes_left s p) (C.Decide p ∷ finish_and_close s p) (of_each (owes_vote s p) (C.Vote p) (λ _. refl) s.store.reading.entries)
      (of_more (C.Decide p) (finish_and_close s p) refl (of_finishes s))

  of_settling : (s : PoolState) (q : State) → OfSeat p (settling_calls s p q)
  of_settling s Idle = of_none
  of_settling s Editing = of_more (C.Prepare p) (vote_and_decide s p) refl (of_votes s)
  of_settling s Voting = of_votes s
  of_settling s Commit = of_finishes s
  of_settling s Abort = of_finishes s

  of_giving_up : (s : PoolState) (q : State) → OfSeat p (giving_up_calls s p q)
  of_giving_up s Idle = of_none
  of_giving_up s Editing = of_more (C.Abort p) (finish_and_close s p) refl (of_finishes s)
  of_giving_up s Voting = of_more (C.Abort p) (finish_and_close s p) refl (of_finishes s)
  of_giving_up s Commit = of_finishes s
  of_giving_up s Abort = of_finishes s

-- ------------------------------------------------------------ an edit can always be ended

module _ (allows : Rule) (s : PoolState) (p : ℕ) (u : IsUnderWay allows s p) where
  few : u.initial.store.reading.entries ≤ 64
  few = subst (λ (n : ℕ). n ≤ 64) (reached_entries allows u.initial u.seats u.reached) u.few

  at : At allows u.initial u.seats few p (seat_status s.table p).state s
  at = record { past = u.past; reached = u.reached; there = u.there; state = refl }

  -- no call changes how many entries there are
  as_many : (call : Call) → (state_after (perform allows call s) s).store.reading.entries ≡ s.store.reading.entries
  as_many call = reached_entries allows u.initial u.seats (called u.reached call) ∙ sym (reached_entries allows u.initial u.seats u.reached)

  other : (call : Call) → (p ≡ seat_of call → ⊥) → KeepsSeat p s (state_after (perform allows call s) s)
  other call = other_kept allows s p (ltb-true p 16 (and_parts (ltb p s.table.seats) (ltb p 16) u.there).1) call

  ended_by : (calls : PoolState → ℕ → List Call) → OfSeat p (calls s p) → Leads allows (λ n. IsFree n p) (calls s p) s
      → ((call : Call) → (p ≡ seat_of call → ⊥) → calls (state_after (perform allows call s) s) p ≡ calls s p) → CanBeEnded allows calls s p
  ended_by calls own leads others = record {
    its_own_seat_makes_each_call = own;
    each_call_is_accepted = leads_accepted allows (λ n. IsFree n p) (calls s p) s leads;
    then_the_seat_is_idle_and_holds_nothing = leads_end allows (λ n. IsFree n p) (calls s p) s leads;
    no_call_of_another_seat_changes_them = others;
  }

  pub ended_by_giving_up : CanBeEnded allows calls_to_give_up s p
  ended_by_giving_up =
      ended_by calls_to_give_up (of_giving_up p s (seat_status s.table p).state)
      (giving_up_leads allows u.initial u.seats few p (seat_status s.table p).state s u.begun at) (λ call n. same_to_give_up (other call n) (as_many call))

  pub ended_by_settling : CanBeEnded allows calls_to_settle s p
  ended_by_settling =
      ended_by calls_to_settle (of_settling p s (seat_status s.table p).state)
      (settling_leads allows u.initial u.seats few p (seat_status s.table p).state s u.begun at) (λ call n. same_to_settle (other call n) (as_many call))

-- ------------------------------------------------------------ the edit of a ticket

idle_or_not : (q : State) → (q ≡ Idle) ⊎ (q ≡ Idle → ⊥)
idle_or_not Idle = inl refl
idle_or_not Editing = inr (λ e. no (cc))
idle_or_not Voting = inr (λ e. no (cc))
idle_or_not Commit = inr (λ e. no (cc))
idle_or_not Abort = inr (λ e. no (cc))

-- an edit that is not gone is the one that its seat has
under_way : (s : PoolState) (p serial : ℕ) → (edit_state s p serial ≡ Idle → ⊥) → (has_seat s.table p ≡ true) × ((seat_status s.table p).state ≡ edit_state s p serial)
under_way s p serial n = go (has_seat s.table p && eqb (seat_status s.table p).serial serial) refl n
  where
    go : (b : Bool) → (has_seat s.table p && eqb (seat_status s.table p).serial serial) ≡ b → (cond b (seat_status s.table p).state Idle ≡ Idle → ⊥)
        → (has_seat s.table p ≡ true) × ((seat_status s.table p).state ≡ cond b (seat_status s.table p).state Idle)
    go true e n = ((and_parts _ _ e).0, refl)
    go false e n = absurd (n refl)

module _ {S R : Type 0} {w : writing_store.Ghosts S} {s : reading_store.Ghosts S} {r : house_rule.Ghosts R}
    (old : Pool S R w s r) (ticket : Ticket) (calls : State → List Call) (outcomes : State → Outcome) (idle : calls Idle ≡ []) (gone_idle : outcomes Idle ≡ O.Gone)
    (leads : (initial : PoolState) (seats : ℕ) (few : initial.store.reading.entries ≤ 64) (q : State) → (q ≡ Idle → ⊥) → At (rule_of old) initial seats few ticket.seat q (state_of old)
    → Leads (rule_of old) (λ n. IsFree n ticket.seat) (calls q) (state_of old)) where
  abbrev edit : State
  edit = edit_state (state_of old) ticket.seat ticket.serial

  -- of an edit that is not gone
  leads_on : (edit ≡ Idle → ⊥) → (initial : PoolState) (seats : ℕ) (past : List Operation) → Reached (rule_of old) initial seats past (state_of old)
      → Leads (rule_of old) (λ n. IsFree n ticket.seat) (calls edit) (state_of old)
  leads_on n initial seats past k =
      let found = under_way (state_of old) ticket.seat ticket.serial n in
      leads initial seats (few_entries old (rule_of old) initial seats past k) edit n record { past = past; reached = k; there = found.0; state = found.1 }

  pub ends : {new : Pool S R w s r} (outcome : Outcome) → MakesCalls old (calls edit) new → outcome ≡ outcomes edit → (outcome ≡ O.Gone → new ≡ old)
      → EndsBy old ticket (calls edit) outcome new
  ends {new} outcome made is gone =
      let left = each_leaves old new (calls edit) made.answers made.performs in
      let reached = each_reached old new (calls edit) made.answers made.performs in
      record {
        answers = made.answers;
        performs = made.performs;
        leaves = left.0;
        answered = left.1;
        rule = left.2;
        gone = gone;
        accepted = λ initial seats past k. subst (All IsOk) (sym left.1)
            (⊎_elim
            (λ e. subst (λ (cs : List Call). All IsOk (answers_to (rule_of old) cs (state_of old))) (sym (ap calls e ∙ idle)) (all_none IsOk))
            (λ n. leads_accepted (rule_of old) (λ n. IsFree n ticket.seat) (calls edit) (state_of old) (leads_on n initial seats past k))
            (idle_or_not edit));
        reached = λ initial seats past k. reached (rule_of old) initial seats past refl k;
        alone = λ initial seats past k. alone (rule_of old) initial seats (few_entries old (rule_of old) initial seats past k) (reached (rule_of old) initial seats past refl k);
        free = λ initial seats past k n. subst (λ (m : PoolState). IsFree m ticket.seat) (sym left.0)
            (leads_end (rule_of old) (λ n. IsFree n ticket.seat) (calls edit) (state_of old) (leads_on (λ e. n (is ∙ ap outcomes e ∙ gone_idle)) initial seats past k));
      }

  -- of an edit that is gone
  pub ends_gone : edit ≡ Idle → EndsBy old ticket (calls edit) O.Gone old
  ends_gone e =
      ends O.Gone (subst (λ (cs : List Call). MakesCalls old cs old) (sym (ap calls e ∙ idle)) makes_none) (sym (ap outcomes e ∙ gone_idle)) (λ _. refl)
