-- No call changes how many entries a store has.
use Rattle.std.proofs.Common.{◌≡◌, ℕ, Bool, true, false, not, ltb, eqb, List, Result, refl, ap, ◌∙◌, subst}
use Rattle.std.specs.Prelude.{is_ok}
use Rattle.calls.specs.declared.fault.Fault.{Fault}
use Rattle.calls.specs.declared.fault.Fault.TheVariants.{NoLock, VotesMissing, LocksRemain}
use Rattle.calls.specs.declared.answer.Reply.{Reply}
use Rattle.calls.specs.declared.answer.Reply.TheVariants as A
use Rattle.calls.specs.declared.call.Call.{Call}
use Rattle.calls.specs.declared.call.Call.TheVariants as C
use Rattle.calls.specs.declared.call.CallName.TheVariants as N
use Rattle.calls.specs.declared.state.State.{State}
use Rattle.calls.specs.declared.state.State.TheVariants.{Idle, Editing, Voting, Commit, Abort}
use Rattle.store.specs.Meaning.{ReadingMeaning, WritingMeaning}
use Rattle.store.specs.Steps.{stage_answer, publish_answer, withdraw_answer}
use Rattle.pool.specs.Masks.{has_member, is_subset}
use Rattle.pool.specs.Tables.{seat_status, row_at}
use Rattle.pool.specs.Admissions.{admitted}
use Rattle.pool.specs.Locks.{shared_row, claimed_row, holds, is_writer}
use Rattle.pool.specs.Calls.{Rule, PoolState, Accepted, state_after, replied, perform, admitted_at, from_store, version_of, begin, read, write, prepare, vote, decide, abort, finish, finish_write, close}
use Rattle.promise.specs.Histories.{Operation}
use Rattle.promise.proofs.Sames.{no}
use Rattle.runner.specs.Runs.{Reached, opened, called}
use Rattle.runner.proofs.Replies.{replied_leaves}
use Rattle.runner.proofs.Parts.{by_result, by_test, unless, stage_ok, publish_ok, withdraw_ok}
use Rattle.runner.proofs.Whole.{withdrawn-reading, opens, may_open}

abbrev entries : PoolState → ℕ
entries s = s.store.reading.entries

module _ (allows : Rule) (s : PoolState) where
  abbrev Kept : PoolState → Type 0
  Kept t = entries t ≡ entries s

  as_reply : {T : Type 0} (reply : T → Reply) (d : Result (Accepted T) Fault) → Kept (state_after d s) → Kept (state_after (replied reply d) s)
  as_reply reply d k = subst Kept (replied_leaves reply d s) k

  finished : (p e : ℕ) (q : State) → Kept (state_after (finish_write s p e q) s)
  finished p e Commit = by_result s Kept refl (from_store (publish_answer s.store e)) _ (λ _ g. (publish_ok s.store e g).entries)
  finished p e Abort = by_result s Kept refl (from_store (withdraw_answer s.store e)) _ (λ _ g. (withdraw_ok s.store e g).entries)
  finished p e Idle = by_result s Kept refl (from_store (withdraw_answer s.store e)) _ (λ _ g. (withdraw_ok s.store e g).entries)
  finished p e Editing = by_result s Kept refl (from_store (withdraw_answer s.store e)) _ (λ _ g. (withdraw_ok s.store e g).entries)
  finished p e Voting = by_result s Kept refl (from_store (withdraw_answer s.store e)) _ (λ _ g. (withdraw_ok s.store e g).entries)

  step : (c : Call) → Kept (state_after (perform allows c s) s)
  step (C.Begin p) =
      as_reply A.Serial (begin s p)
      (by_result s Kept refl (admitted s.table N.Begin p true) _ (λ q _.
      by_test s Kept refl (ltb (seat_status s.table p).serial 1000000) _ _ (λ _. refl) (λ _. refl)))
  step (C.Read p e) =
      as_reply A.Value (read s p e)
      (by_result s Kept refl (admitted_at s N.Read p e) _ (λ _ _. by_result s Kept refl (shared_row (row_at s.table e) p) _ (λ _ _. refl)))
  step (C.Write p e v) =
      as_reply (λ _. A.Done) (write s p e v)
      (by_result s Kept refl (admitted_at s N.Write p e) _ (λ _ _.
      by_result s Kept refl (claimed_row (row_at s.table e) p) _ (λ _ _.
      by_result s Kept refl (from_store (stage_answer s.store e (version_of s p v))) _ (λ _ g.
      ap (λ (m : WritingMeaning). m.reading.entries) (stage_ok s.store e (version_of s p v) g)))))
  step (C.Prepare p) = as_reply (λ _. A.Done) (prepare s p) (by_result s Kept refl (admitted s.table N.Prepare p true) _ (λ _ _. refl))
  step (C.Vote p e) =
      as_reply A.Voted (vote allows s p e)
      (by_result s Kept refl (admitted_at s N.Vote p e) _ (λ _ _.
      unless s Kept refl (holds (row_at s.table e) p) NoLock _ (λ _.
      by_test s Kept refl (has_member (seat_status s.table p).voted e) _ _ (λ _. refl) (λ _. refl))))
  step (C.Decide p) =
      as_reply A.Decided (decide s p)
      (by_result s Kept refl (admitted s.table N.Decide p true) _ (λ _ _.
      by_test s Kept refl (not (eqb (seat_status s.table p).against 0)) _ _ (λ _. refl)
      (λ _. unless s Kept refl (is_subset (seat_status s.table p).held (seat_status s.table p).voted) VotesMissing _ (λ _. refl))))
  step (C.Abort p) = as_reply (λ _. A.Done) (abort s p) (by_result s Kept refl (admitted s.table N.Abort p true) _ (λ _ _. refl))
  step (C.Finish p e) =
      as_reply (λ _. A.Done) (finish s p e)
      (by_result s Kept refl (admitted_at s N.Finish p e) _ (λ q _.
      unless s Kept refl (holds (row_at s.table e) p) NoLock _ (λ _.
      by_test s Kept refl (is_writer (row_at s.table e) p) _ _ (λ _. finished p e q) (λ _. refl))))
  step (C.Close p) =
      as_reply (λ _. A.Done) (close s p)
      (by_result s Kept refl (admitted s.table N.Close p true) _ (λ _ _.
      unless s Kept refl (eqb (seat_status s.table p).held 0) LocksRemain _ (λ _. refl)))

pub reached_entries : (allows : Rule) (initial : PoolState) (seats : ℕ) {h : List Operation} {s : PoolState} → Reached allows initial seats h s → entries s ≡ entries initial
reached_entries allows initial seats (opened q) = start (may_open initial seats) q
  where
    start : (b : Bool) → is_ok (opens initial seats b) ≡ true → entries (state_after (opens initial seats b) initial) ≡ entries initial
    start false q = no (cc)
    start true q = ap (λ (r : ReadingMeaning). r.entries) (withdrawn-reading initial.store initial.store.reading.entries)
reached_entries allows initial seats (called {past} {state} r c) = step allows state c ∙ reached_entries allows initial seats r
