-- Every pool that was opened and then called keeps the promise.
use Rattle.std.proofs.Common.{◌≡◌, ℕ, zero, suc, ◌+◌, ◌≤◌, Bool, true, false, cond, ◌&&◌, ◌||◌, eqb, ltb, leb, List, [], ◌∷◌, None, Ok, Err, Result, sym, refl, ap, ◌∙◌, subst}
use Rattle.std.specs.Prelude.{is_ok}
use Rattle.calls.specs.declared.fault.Fault.{Fault}
use Rattle.calls.specs.declared.fault.Fault.TheVariants.{CannotOpen}
use Rattle.calls.specs.declared.answer.Reply.{Reply}
use Rattle.calls.specs.declared.answer.Reply.TheVariants as A
use Rattle.calls.specs.declared.call.Call.{Call}
use Rattle.calls.specs.declared.call.Call.TheVariants as C
use Rattle.store.specs.Meaning.{ReadingMeaning, WritingMeaning}
use Rattle.store.specs.Steps.{StoreAnswer, unless_refused, with_staged, withdraw_answer, withdraw_after}
use Rattle.pool.specs.declared.table.SeatStatus.{SeatStatus}
use Rattle.pool.specs.declared.table.Row.{Row}
use Rattle.pool.specs.Masks.{has_member}
use Rattle.pool.specs.Tables.{fresh_table, row_at}
use Rattle.pool.specs.Withdrawals.{withdrawn}
use Rattle.pool.specs.Calls.{Rule, PoolState, Accepted, accepted, answer_of, state_after, replied, perform, begin, read, write, prepare, vote, decide, abort, finish, close}
use Rattle.pool.proofs.MaskLemmas.{has-zero}
use Rattle.pool.proofs.TableLemmas.{fresh_status, fresh_row, fresh_sound}
use Rattle.promise.specs.Histories.{Operation, events_of}
use Rattle.promise.specs.OneByOne.{locks_released}
use Rattle.promise.specs.Promise.{AsIfAlone}
use Rattle.promise.proofs.Sames.{no, count_ext}
use Rattle.promise.proofs.Views.{Inv, holds}
use Rattle.promise.proofs.Law as Law
use Rattle.runner.specs.Runs.{Reached, opened, called, holders, chains, IsAloneBetween}
use Rattle.runner.proofs.Replies.{replied_leaves}
use Rattle.runner.proofs.States.{view, Sized, writes_as}
use Rattle.runner.proofs.Ties.{begin_tied, read_tied, write_tied, prepare_tied, vote_tied, decide_tied, abort_tied, finish_tied, close_tied}

-- withdrawing leaves what the store means to a reader
withdraw_reading : (m : WritingMeaning) (e : ℕ) → (withdraw_after m e).reading ≡ m.reading
withdraw_reading m e = go (withdraw_answer m e)
  where
    go : (r : StoreAnswer) → (unless_refused r (with_staged m e None) m).reading ≡ m.reading
    go (Ok x) = refl
    go (Err x) = refl

pub withdrawn-reading : (m : WritingMeaning) (n : ℕ) → (withdrawn m n).reading ≡ m.reading
withdrawn-reading m zero = refl
withdrawn-reading m (suc n) = withdraw_reading (withdrawn m n) n ∙ withdrawn-reading m n

-- what opening does where it is accepted, and where it is not
abbrev pub opens : PoolState → ℕ → Bool → Result (Accepted (Unit {0})) Fault
opens s seats b = cond b (accepted tt (record { store = withdrawn s.store s.store.reading.entries; table = fresh_table seats })) (Err CannotOpen)

-- whether it is
abbrev pub may_open : PoolState → ℕ → Bool
may_open s seats = leb 1 seats && leb seats 16 && ltb 0 s.store.reading.entries && eqb s.table.seats 0

-- ------------------------------------------------------------ the entries stay as many

module _ (allows : Rule) (initial : PoolState) (seats : ℕ) (few : initial.store.reading.entries ≤ 64) where
  abbrev pub Held : List Operation → PoolState → Type 0
  Held h s = Inv allows (chains initial) (view s) h × Sized s

  start : (b : Bool) → is_ok (opens initial seats b) ≡ true → Held [] (state_after (opens initial seats b) initial)
  start false q = no (cc)
  start true q =
      let r : (withdrawn initial.store initial.store.reading.entries).reading ≡ initial.store.reading = withdrawn-reading initial.store initial.store.reading.entries in (
        Law.fresh allows (chains initial) _
            (record {
              state = λ s _. ap (λ (x : SeatStatus). x.state) (fresh_status seats s);
              serial = λ s _. ap (λ (x : SeatStatus). x.serial) (fresh_status seats s);
              writer = λ e. ap (λ (x : Row). x.writer) (fresh_row seats e);
              reads = λ e s _. ap (λ (x : Row). has_member x.readers s) (fresh_row seats e) ∙ has-zero s;
              voted = λ e s _. ap (λ (x : SeatStatus). ltb e 64 && has_member x.voted e) (fresh_status seats s) ∙ ap (λ (b : Bool). ltb e 64 && b) (has-zero e) ∙ and_false (ltb e 64);
              chains = λ e. ap (λ (x : ReadingMeaning). x.chains e) r;
            }),
        record { table = fresh_sound seats; entries = subst (λ (x : ReadingMeaning). x.entries ≤ 64) (sym r) few },
      )
    where
      and_false : (b : Bool) → (b && false) ≡ false
      and_false true = refl
      and_false false = refl

  -- a call with its answer as a reply leaves what it leaves
  by_reply : {T : Type 0} (reply : T → Reply) (d : Result (Accepted T) Fault) (h : List Operation) (s : PoolState) → Held h (state_after d s) → Held h (state_after (replied reply d) s)
  by_reply reply d h s k = subst (λ (t : PoolState). Held h t) (replied_leaves reply d s) k

  step : (h : List Operation) (s : PoolState) → Held h s → (c : Call)
      → Held (record { call = c; answer = answer_of (perform allows c s) } ∷ h) (state_after (perform allows c s) s)
  step h s i (C.Begin p) = by_reply A.Serial (begin s p) _ s (begin_tied allows (chains initial) s h i.0 i.1 p)
  step h s i (C.Read p e) = by_reply A.Value (read s p e) _ s (read_tied allows (chains initial) s h i.0 i.1 p e)
  step h s i (C.Write p e v) = by_reply (λ _. A.Done) (write s p e v) _ s (write_tied allows (chains initial) s h i.0 i.1 p e v)
  step h s i (C.Prepare p) = by_reply (λ _. A.Done) (prepare s p) _ s (prepare_tied allows (chains initial) s h i.0 i.1 p)
  step h s i (C.Vote p e) = by_reply A.Voted (vote allows s p e) _ s (vote_tied allows (chains initial) s h i.0 i.1 p e)
  step h s i (C.Decide p) = by_reply A.Decided (decide s p) _ s (decide_tied allows (chains initial) s h i.0 i.1 p)
  step h s i (C.Abort p) = by_reply (λ _. A.Done) (abort s p) _ s (abort_tied allows (chains initial) s h i.0 i.1 p)
  step h s i (C.Finish p e) = by_reply (λ _. A.Done) (finish s p e) _ s (finish_tied allows (chains initial) s h i.0 i.1 p e)
  step h s i (C.Close p) = by_reply (λ _. A.Done) (close s p) _ s (close_tied allows (chains initial) s h i.0 i.1 p)

  pub held : {h : List Operation} {s : PoolState} → Reached allows initial seats h s → Held h s
  held (opened q) = start (may_open initial seats) q
  held (called {past} {state} r c) = step past state (held r) c

  -- the locks counted by the table
  by_table : (h : List Operation) (s : PoolState) → AsIfAlone allows (chains initial) (chains s) (holds (view s)) h → IsAloneBetween allows initial h s
  by_table h s a =
      record {
        reads = a.reads;
        chains = a.chains;
        allowed = a.allowed;
        locks = λ e. a.locks e ∙ ap (λ (n : ℕ). locks_released e (events_of h) + n)
            (count_ext (holds (view s) e) (holders s e) 16 (λ p _. ap (λ (b : Bool). b || has_member (row_at s.table e).readers p) (sym (writes_as (row_at s.table e).writer p))));
        real_time = a.real_time;
      }

  pub alone : {h : List Operation} {s : PoolState} → Reached allows initial seats h s → IsAloneBetween allows initial h s
  alone {h} {s} r = by_table h s (Law.promise allows (chains initial) (view s) h (held r).0)
