-- What a call of a ticket leaves as it was: the other entries of a vote and a finish, and the calls that are left after it.
use Rattle.std.proofs.Common.{◌≡◌, ℕ, zero, suc, Bool, true, false, not, ◌&&◌, ◌||◌, eqb, ltb, List, [], ◌∷◌, ◌++◌, get_or, set, Result, refl, ap, ◌∙◌, subst, ap₂, get_or-set_other}
use Rattle.std.proofs.lemmas.Bool.{ne_eqb}
use Rattle.calls.specs.declared.answer.Reply.{Reply}
use Rattle.calls.specs.declared.answer.Reply.TheVariants as A
use Rattle.calls.specs.declared.call.Call.{Call}
use Rattle.calls.specs.declared.call.Call.TheVariants as C
use Rattle.calls.specs.declared.call.CallName.TheVariants as N
use Rattle.calls.specs.declared.fault.Fault.{Fault}
use Rattle.calls.specs.declared.fault.Fault.TheVariants.{NoLock, VotesMissing}
use Rattle.calls.specs.declared.state.State.{State}
use Rattle.calls.specs.declared.state.State.TheVariants.{Idle, Editing, Voting, Commit, Abort}
use Rattle.store.specs.Meaning.{WritingMeaning}
use Rattle.store.specs.Steps.{publish_answer, publish_after, withdraw_answer, withdraw_after}
use Rattle.pool.specs.declared.table.SeatStatus.{SeatStatus}
use Rattle.pool.specs.declared.table.Row.{Row}
use Rattle.pool.specs.Masks.{has_member, with_member, is_subset}
use Rattle.pool.specs.Locks.{holds, is_writer, unlocked_row, released_row}
use Rattle.pool.specs.Admissions.{admitted}
use Rattle.pool.specs.Tables.{seat_status, row_at, idle_seat, voted_status, with_vote}
use Rattle.pool.specs.Calls.{Rule, PoolState, Accepted, with_table, state_after, replied, perform, admitted_at, from_store, prepare, vote, decide, abort, finish, finish_write, let_go, vote_of}
use Rattle.pool.proofs.MaskLemmas.{has-with}
use Rattle.runner.proofs.Replies.{replied_leaves}
use Rattle.runner.proofs.Parts.{by_result, by_test, unless}
use Rattle.tickets.specs.Lists.{state_after_calls, calls_for_each}
use Rattle.tickets.specs.Endings.{holds_lock, owes_vote, votes_left, finish_and_close, vote_and_decide}
use Rattle.tickets.proofs.Made.{each_keeps, each_same, LeavesOthers}

-- a field of an element of a list after a set that leaves the field of its own element
pub set_kept : {A B : Type 0} (f : A → B) (xs : List A) (i j : ℕ) (x d : A) → f x ≡ f (get_or xs i d) → f (get_or (set xs i x) j d) ≡ f (get_or xs j d)
set_kept f [] i j x d q = refl
set_kept f (a ∷ xs) zero zero x d q = q
set_kept f (a ∷ xs) zero (suc j) x d q = refl
set_kept f (a ∷ xs) (suc i) zero x d q = refl
set_kept f (a ∷ xs) (suc i) (suc j) x d q = set_kept f xs i j x d q

module _ (s : PoolState) (P : PoolState → Type 0) where
  pub as_reply : {T : Type 0} (reply : T → Reply) (d : Result (Accepted T) Fault) → P (state_after d s) → P (state_after (replied reply d) s)
  as_reply reply d k = subst P (replied_leaves reply d s) k

-- ------------------------------------------------------------ the other entries

or_false : (b : Bool) → (b || false) ≡ b
or_false true = refl
or_false false = refl

-- a test of the entry says the same
record SaysAs (test : PoolState → ℕ → Bool) (k : ℕ) (s m : PoolState) : Type 0 where
  pub same : test m k ≡ test s k

module _ (allows : Rule) (p : ℕ) (s : PoolState) (e k : ℕ) (apart : k ≡ e → ⊥) where
  abbrev SameVote : PoolState → Type 0
  SameVote = SaysAs (λ m. owes_vote m p) k s

  abbrev SameLock : PoolState → Type 0
  SameLock = SaysAs (λ m. holds_lock m p) k s

  voted_says : (ok : Bool) → SameVote (with_table s (with_vote s.table p e ok))
  voted_says ok =
      let still : has_member (with_member (seat_status s.table p).voted e) k ≡ has_member (seat_status s.table p).voted k
      = has-with (seat_status s.table p).voted e k ∙ ap (λ (b : Bool). has_member (seat_status s.table p).voted k || b) (ne_eqb k e apart)
      ∙ or_false (has_member (seat_status s.table p).voted k) in
      let kept : has_member (get_or (set s.table.statuses p (voted_status (seat_status s.table p) e ok)) p idle_seat).voted k ≡ has_member (seat_status s.table p).voted k
      = set_kept (λ (x : SeatStatus). has_member x.voted k) s.table.statuses p p (voted_status (seat_status s.table p) e ok) idle_seat still in
      record { same = ap (λ (b : Bool). holds_lock s p k && not b) kept }

  vote_says : SameVote (state_after (perform allows (C.Vote p e) s) s)
  vote_says =
      as_reply s SameVote A.Voted (vote allows s p e)
      (by_result s SameVote record { same = refl } (admitted_at s N.Vote p e) _ (λ _ _.
      unless s SameVote record { same = refl } (holds (row_at s.table e) p) NoLock _ (λ _.
      by_test s SameVote record { same = refl } (has_member (seat_status s.table p).voted e) _ _ (λ _. record { same = refl })
      (λ _. voted_says (vote_of allows s p e)))))

  other_row : (r : Row) → (ltb p 16 && ltb k 64 && holds (get_or (set s.table.rows e r) k unlocked_row) p) ≡ holds_lock s p k
  other_row r = ap (λ (x : Row). ltb p 16 && ltb k 64 && holds x p) (get_or-set_other s.table.rows e k r unlocked_row apart)

  let_go_says : (m : WritingMeaning) → SameLock (let_go s p e m)
  let_go_says m = record { same = other_row (released_row (row_at s.table e) p) }

  written : (q : State) → SameLock (state_after (finish_write s p e q) s)
  written Commit = by_result s SameLock record { same = refl } (from_store (publish_answer s.store e)) _ (λ _ _. let_go_says (publish_after s.store e))
  written Abort = by_result s SameLock record { same = refl } (from_store (withdraw_answer s.store e)) _ (λ _ _. let_go_says (withdraw_after s.store e))
  written Idle = by_result s SameLock record { same = refl } (from_store (withdraw_answer s.store e)) _ (λ _ _. let_go_says (withdraw_after s.store e))
  written Editing = by_result s SameLock record { same = refl } (from_store (withdraw_answer s.store e)) _ (λ _ _. let_go_says (withdraw_after s.store e))
  written Voting = by_result s SameLock record { same = refl } (from_store (withdraw_answer s.store e)) _ (λ _ _. let_go_says (withdraw_after s.store e))

  finish_says : SameLock (state_after (perform allows (C.Finish p e) s) s)
  finish_says =
      as_reply s SameLock (λ _. A.Done) (finish s p e)
      (by_result s SameLock record { same = refl } (admitted_at s N.Finish p e) _ (λ q _.
      unless s SameLock record { same = refl } (holds (row_at s.table e) p) NoLock _ (λ _.
      by_test s SameLock record { same = refl } (is_writer (row_at s.table e) p) _ _ (λ _. written q) (λ _. let_go_says s.store))))

pub vote_elsewhere : (p : ℕ) → LeavesOthers (λ m. owes_vote m p) (C.Vote p)
vote_elsewhere p allows s e k apart = (vote_says allows p s e k apart).same

pub finish_elsewhere : (p : ℕ) → LeavesOthers (λ m. holds_lock m p) (C.Finish p)
finish_elsewhere p allows s e k apart = (finish_says allows p s e k apart).same

-- ------------------------------------------------------------ calls that leave the lists of later ones as they are

-- rows, store, and what the seat has voted on as they were
pub record Beside (p : ℕ) (s m : PoolState) : Type 0 where
  pub rows : m.table.rows ≡ s.table.rows
  pub store : m.store ≡ s.store

pub record BesideVotes (p : ℕ) (s m : PoolState) : Type 0 where
  pub beside : Beside p s m
  pub voted : (seat_status m.table p).voted ≡ (seat_status s.table p).voted

abbrev beside_itself : (p : ℕ) (s : PoolState) → Beside p s s
beside_itself p s = record { rows = refl; store = refl }

pub prepare_beside : (allows : Rule) (s : PoolState) (p : ℕ) → BesideVotes p s (state_after (perform allows (C.Prepare p) s) s)
prepare_beside allows s p =
    as_reply s (BesideVotes p s) (λ _. A.Done) (prepare s p)
    (by_result s (BesideVotes p s) record { beside = beside_itself p s; voted = refl } (admitted s.table N.Prepare p true) _ (λ _ _.
    record { beside = record { rows = refl; store = refl }; voted = set_kept (λ (x : SeatStatus). x.voted) s.table.statuses p p _ idle_seat refl }))

pub abort_beside : (allows : Rule) (s : PoolState) (p : ℕ) → Beside p s (state_after (perform allows (C.Abort p) s) s)
abort_beside allows s p =
    as_reply s (Beside p s) (λ _. A.Done) (abort s p)
    (by_result s (Beside p s) (beside_itself p s) (admitted s.table N.Abort p true) _ (λ _ _. record { rows = refl; store = refl }))

pub decide_beside : (allows : Rule) (s : PoolState) (p : ℕ) → Beside p s (state_after (perform allows (C.Decide p) s) s)
decide_beside allows s p =
    as_reply s (Beside p s) A.Decided (decide s p)
    (by_result s (Beside p s) (beside_itself p s) (admitted s.table N.Decide p true) _ (λ _ _.
    by_test s (Beside p s) (beside_itself p s) (not (eqb (seat_status s.table p).against 0)) _ _ (λ _. record { rows = refl; store = refl })
    (λ _. unless s (Beside p s) (beside_itself p s) (is_subset (seat_status s.table p).held (seat_status s.table p).voted) VotesMissing _
    (λ _. record { rows = refl; store = refl }))))

vote_beside : (allows : Rule) (s : PoolState) (p e : ℕ) → Beside p s (state_after (perform allows (C.Vote p e) s) s)
vote_beside allows s p e =
    as_reply s (Beside p s) A.Voted (vote allows s p e)
    (by_result s (Beside p s) (beside_itself p s) (admitted_at s N.Vote p e) _ (λ _ _.
    unless s (Beside p s) (beside_itself p s) (holds (row_at s.table e) p) NoLock _ (λ _.
    by_test s (Beside p s) (beside_itself p s) (has_member (seat_status s.table p).voted e) _ _ (λ _. beside_itself p s) (λ _. record { rows = refl; store = refl }))))

pub beside_on : {p : ℕ} {s m n : PoolState} → Beside p s m → Beside p m n → Beside p s n
beside_on a b = record { rows = b.rows ∙ a.rows; store = b.store ∙ a.store }

pub votes_beside : (allows : Rule) (s : PoolState) (p : ℕ) → Beside p s (state_after_calls allows (votes_left s p) s)
votes_beside allows s p = each_keeps allows (Beside p s) _ _ (λ m k b. beside_on b (vote_beside allows m p k)) s.store.reading.entries s (beside_itself p s)

-- the calls that are left
pub same_finishes : {s m : PoolState} (p : ℕ) → Beside p s m → finish_and_close m p ≡ finish_and_close s p
same_finishes p b =
    ap₂ (λ (rows : List Row) (store : WritingMeaning). calls_for_each (λ e. ltb p 16 && ltb e 64 && holds (get_or rows e unlocked_row) p) (C.Finish p) store.reading.entries ++ C.Close p ∷ [])
    b.rows b.store

pub same_votes : {s m : PoolState} (p : ℕ) → BesideVotes p s m → votes_left m p ≡ votes_left s p
same_votes {s} {m} p b =
    ap (λ (store : WritingMeaning). calls_for_each (owes_vote m p) (C.Vote p) store.reading.entries) b.beside.store
    ∙ each_same (owes_vote m p) (owes_vote s p) (C.Vote p) s.store.reading.entries
    (λ e. ap₂ (λ (rows : List Row) (voted : ℕ). ltb p 16 && ltb e 64 && holds (get_or rows e unlocked_row) p && not (has_member voted e)) b.beside.rows b.voted)

pub same_vote_and_decide : {s m : PoolState} (p : ℕ) → BesideVotes p s m → vote_and_decide m p ≡ vote_and_decide s p
same_vote_and_decide p b = ap₂ (λ (xs ys : List Call). xs ++ C.Decide p ∷ ys) (same_votes p b) (same_finishes p b.beside)
