-- A call of another seat leaves what is left of a seat's edit as it is.
use Rattle.std.proofs.Common.{◌≡◌, ℕ, ◌<◌, Bool, true, not, ◌&&◌, eqb, ltb, List, [], ◌∷◌, ◌++◌, get_or, set, refl, ap, ap₂, ◌∙◌, arith, get_or-set_other}
use Rattle.calls.specs.declared.answer.Reply.TheVariants as A
use Rattle.calls.specs.declared.call.Call.{Call}
use Rattle.calls.specs.declared.call.Call.TheVariants as C
use Rattle.calls.specs.declared.call.CallName.TheVariants as N
use Rattle.calls.specs.declared.fault.Fault.TheVariants.{NoLock, VotesMissing, LocksRemain}
use Rattle.calls.specs.declared.state.State.{State}
use Rattle.calls.specs.declared.state.State.TheVariants.{Idle, Editing, Voting, Commit, Abort}
use Rattle.calls.specs.Names.{seat_of}
use Rattle.store.specs.Meaning.{WritingMeaning}
use Rattle.store.specs.Steps.{stage_answer, stage_after, publish_answer, publish_after, withdraw_answer, withdraw_after}
use Rattle.pool.specs.declared.table.SeatStatus.{SeatStatus}
use Rattle.pool.specs.declared.table.Row.{Row}
use Rattle.pool.specs.Admissions.{admitted}
use Rattle.pool.specs.Masks.{has_member, with_member, is_subset}
use Rattle.pool.specs.Locks.{shared_row, claimed_row, holds, is_writer, released_row, unlocked_row}
use Rattle.pool.specs.Tables.{seat_status, row_at, idle_seat, with_status, with_held_row, status_without}
use Rattle.pool.specs.Calls.{Rule, PoolState, state_after, perform, has_entry, admitted_at, from_store, version_of, let_go, begin, read, write, prepare, vote, decide, abort, finish, finish_write, close}
use Rattle.pool.proofs.LockLemmas.{shared_put, claimed_put, released_let_go}
use Rattle.runner.proofs.Parts.{by_result, by_test, unless}
use Rattle.runner.proofs.States.{admitted_ok}
use Rattle.tickets.specs.Lists.{calls_for_each}
use Rattle.tickets.specs.Endings.{holds_lock, owes_vote, finish_and_close, vote_and_decide, settling_calls, giving_up_calls, calls_to_settle, calls_to_give_up}
use Rattle.tickets.proofs.Made.{each_same}
use Rattle.tickets.proofs.Others.{as_reply, set_kept}

-- what the pool keeps of a seat, and what the seat holds, as they were
pub record KeepsSeat (p : ℕ) (s m : PoolState) : Type 0 where
  pub status : seat_status m.table p ≡ seat_status s.table p
  pub holds : (k : ℕ) → holds (row_at m.table k) p ≡ holds (row_at s.table k) p

module _ (allows : Rule) (s : PoolState) (p : ℕ) (low : p < 16) where
  abbrev Kept : PoolState → Type 0
  Kept = KeepsSeat p s

  same_seat : Kept s
  same_seat = record { status = refl; holds = λ _. refl }

  module _ (q : ℕ) (apart : p ≡ q → ⊥) where
    status_of_other : (x : SeatStatus) → get_or (set s.table.statuses q x) p idle_seat ≡ seat_status s.table p
    status_of_other x = get_or-set_other s.table.statuses q p x idle_seat apart

    restated : (x : SeatStatus) → Kept (record s { table = with_status s.table q x })
    restated x = record { status = status_of_other x; holds = λ _. refl }

    relocked : (e : ℕ) (x : SeatStatus) (r : Row) (m : WritingMeaning) → holds r p ≡ holds (row_at s.table e) p
        → Kept (record { store = m; table = record s.table { statuses = set s.table.statuses q x; rows = set s.table.rows e r } })
    relocked e x r m h = record { status = status_of_other x; holds = λ k. set_kept (λ (row : Row). holds row p) s.table.rows e k r unlocked_row h }

    locked : (e : ℕ) (r : Row) (m : WritingMeaning) → holds r p ≡ holds (row_at s.table e) p → Kept (record { store = m; table = with_held_row s.table q e r })
    locked e r m h = relocked e (record (seat_status s.table q) { held = with_member (seat_status s.table q).held e }) r m h

    unlocked : (e : ℕ) (m : WritingMeaning) → q < 16 → Kept (let_go s q e m)
    unlocked e m l =
        relocked e (status_without (seat_status s.table q) e) (released_row (row_at s.table e) q) m
        ((released_let_go (row_at s.table e) q (omega (arith, l))).others p (omega (arith, low)) apart)

    finished : (e : ℕ) (x : State) → q < 16 → Kept (state_after (finish_write s q e x) s)
    finished e Commit l = by_result s Kept same_seat (from_store (publish_answer s.store e)) _ (λ _ _. unlocked e (publish_after s.store e) l)
    finished e Abort l = by_result s Kept same_seat (from_store (withdraw_answer s.store e)) _ (λ _ _. unlocked e (withdraw_after s.store e) l)
    finished e Idle l = by_result s Kept same_seat (from_store (withdraw_answer s.store e)) _ (λ _ _. unlocked e (withdraw_after s.store e) l)
    finished e Editing l = by_result s Kept same_seat (from_store (withdraw_answer s.store e)) _ (λ _ _. unlocked e (withdraw_after s.store e) l)
    finished e Voting l = by_result s Kept same_seat (from_store (withdraw_answer s.store e)) _ (λ _ _. unlocked e (withdraw_after s.store e) l)

  pub other_kept : (c : Call) → (p ≡ seat_of c → ⊥) → Kept (state_after (perform allows c s) s)
  other_kept (C.Begin q) n =
      as_reply s Kept A.Serial (begin s q)
      (by_result s Kept same_seat (admitted s.table N.Begin q true) _ (λ _ _.
      by_test s Kept same_seat (ltb (seat_status s.table q).serial 1000000) _ _ (λ _. restated q n _) (λ _. same_seat)))
  other_kept (C.Read q e) n =
      as_reply s Kept A.Value (read s q e)
      (by_result s Kept same_seat (admitted_at s N.Read q e) _ (λ _ _.
      by_result s Kept same_seat (shared_row (row_at s.table e) q) _ (λ row h.
      locked q n e row s.store ((shared_put (row_at s.table e) row q h).0.others p (omega (arith, low)) n))))
  other_kept (C.Write q e v) n =
      as_reply s Kept (λ _. A.Done) (write s q e v)
      (by_result s Kept same_seat (admitted_at s N.Write q e) _ (λ x a.
      by_result s Kept same_seat (claimed_row (row_at s.table e) q) _ (λ row h.
      by_result s Kept same_seat (from_store (stage_answer s.store e (version_of s q v))) _ (λ _ _.
      let l = (admitted_ok s.table N.Write q (has_entry s e) x a).0 in
      locked q n e row (stage_after s.store e (version_of s q v)) ((claimed_put (row_at s.table e) row q (omega (arith, l)) h).0.others p (omega (arith, low)) n)))))
  other_kept (C.Prepare q) n =
      as_reply s Kept (λ _. A.Done) (prepare s q) (by_result s Kept same_seat (admitted s.table N.Prepare q true) _ (λ _ _. restated q n _))
  other_kept (C.Vote q e) n =
      as_reply s Kept A.Voted (vote allows s q e)
      (by_result s Kept same_seat (admitted_at s N.Vote q e) _ (λ _ _.
      unless s Kept same_seat (holds (row_at s.table e) q) NoLock _ (λ _.
      by_test s Kept same_seat (has_member (seat_status s.table q).voted e) _ _ (λ _. same_seat) (λ _. restated q n _))))
  other_kept (C.Decide q) n =
      as_reply s Kept A.Decided (decide s q)
      (by_result s Kept same_seat (admitted s.table N.Decide q true) _ (λ _ _.
      by_test s Kept same_seat (not (eqb (seat_status s.table q).against 0)) _ _ (λ _. restated q n _)
      (λ _. unless s Kept same_seat (is_subset (seat_status s.table q).held (seat_status s.table q).voted) VotesMissing _ (λ _. restated q n _))))
  other_kept (C.Abort q) n =
      as_reply s Kept (λ _. A.Done) (abort s q) (by_result s Kept same_seat (admitted s.table N.Abort q true) _ (λ _ _. restated q n _))
  other_kept (C.Finish q e) n =
      as_reply s Kept (λ _. A.Done) (finish s q e)
      (by_result s Kept same_seat (admitted_at s N.Finish q e) _ (λ x a.
      let l = (admitted_ok s.table N.Finish q (has_entry s e) x a).0 in
      unless s Kept same_seat (holds (row_at s.table e) q) NoLock _ (λ _.
      by_test s Kept same_seat (is_writer (row_at s.table e) q) _ _ (λ _. finished q n e x l) (λ _. unlocked q n e s.store l))))
  other_kept (C.Close q) n =
      as_reply s Kept (λ _. A.Done) (close s q)
      (by_result s Kept same_seat (admitted s.table N.Close q true) _ (λ _ _.
      unless s Kept same_seat (eqb (seat_status s.table q).held 0) LocksRemain _ (λ _. restated q n _)))

-- and so the calls that are left
module _ {p : ℕ} {s m : PoolState} (kept : KeepsSeat p s m) (entries : m.store.reading.entries ≡ s.store.reading.entries) where
  same_lock : (k : ℕ) → holds_lock m p k ≡ holds_lock s p k
  same_lock k = ap (λ (b : Bool). ltb p 16 && ltb k 64 && b) (kept.holds k)

  same_debt : (k : ℕ) → owes_vote m p k ≡ owes_vote s p k
  same_debt k = ap₂ (λ (b : Bool) (status : SeatStatus). b && not (has_member status.voted k)) (same_lock k) kept.status

  same_each : (test other : ℕ → Bool) (call : ℕ → Call) → ((k : ℕ) → test k ≡ other k)
      → calls_for_each test call m.store.reading.entries ≡ calls_for_each other call s.store.reading.entries
  same_each test other call same = each_same test other call m.store.reading.entries same ∙ ap (calls_for_each other call) entries

  same_finish_and_close : finish_and_close m p ≡ finish_and_close s p
  same_finish_and_close = ap (λ (calls : List Call). calls ++ C.Close p ∷ []) (same_each (holds_lock m p) (holds_lock s p) (C.Finish p) same_lock)

  same_vote_and_decide : vote_and_decide m p ≡ vote_and_decide s p
  same_vote_and_decide =
      ap₂ (λ (votes calls : List Call). votes ++ C.Decide p ∷ calls) (same_each (owes_vote m p) (owes_vote s p) (C.Vote p) same_debt) same_finish_and_close

  same_giving_up : (q : State) → giving_up_calls m p q ≡ giving_up_calls s p q
  same_giving_up Idle = refl
  same_giving_up Editing = ap (λ (calls : List Call). C.Abort p ∷ calls) same_finish_and_close
  same_giving_up Voting = ap (λ (calls : List Call). C.Abort p ∷ calls) same_finish_and_close
  same_giving_up Commit = same_finish_and_close
  same_giving_up Abort = same_finish_and_close

  same_settling : (q : State) → settling_calls m p q ≡ settling_calls s p q
  same_settling Idle = refl
  same_settling Editing = ap (λ (calls : List Call). C.Prepare p ∷ calls) same_vote_and_decide
  same_settling Voting = same_vote_and_decide
  same_settling Commit = same_finish_and_close
  same_settling Abort = same_finish_and_close

  pub same_to_give_up : calls_to_give_up m p ≡ calls_to_give_up s p
  same_to_give_up = same_giving_up (seat_status m.table p).state ∙ ap (λ (status : SeatStatus). giving_up_calls s p status.state) kept.status

  pub same_to_settle : calls_to_settle m p ≡ calls_to_settle s p
  same_to_settle = same_settling (seat_status m.table p).state ∙ ap (λ (status : SeatStatus). settling_calls s p status.state) kept.status
