-- A pool's state as a view of seats and entries, and what a call that passed its checks may rest on.
use Rattle.std.proofs.Common.{◌≡◌, ℕ, zero, suc, ◌<◌, ◌≤◌, Bool, true, false, cond, ◌&&◌, eqb, ltb, ◌⊎◌, List, [], ◌∷◌, length, get_or, set, Some, None, Ok, Err, Option, sym, refl, ap, ◌∙◌, subst, inl, inr, ⊎_elim, arith, get_or-set_other, get_or-set_same}
use Rattle.std.proofs.lemmas.Bool.{ltb-true, lt-ltb, le-ltb, cases_lt, and_parts, cases_eq, eq-eqb, ne_eqb}
use Rattle.calls.specs.declared.fault.Fault.TheVariants.{NoSuchSeat, Store}
use Rattle.store.specs.declared.refusal.Refusal.TheVariants.{NoSuchEntry}
use Rattle.calls.specs.declared.state.State.{State}
use Rattle.calls.specs.declared.state.State.TheVariants.{Idle, Editing, Voting, Commit, Abort}
use Rattle.calls.specs.declared.call.CallName.{CallName}
use Rattle.calls.specs.declared.call.CallName.TheVariants as N
use Rattle.calls.specs.States.{next_state}
use Rattle.pool.specs.declared.table.InnerTable.{InnerTable}
use Rattle.pool.specs.Masks.{has_member}
use Rattle.pool.specs.Tables.{seat_status, row_at, IsSoundTable}
use Rattle.pool.specs.Admissions.{admitted, stepped_to}
use Rattle.pool.specs.Locks.{by_writer, unlocked_row, holds}
use Rattle.pool.specs.declared.table.Row.{Row}
use Rattle.pool.proofs.MaskLemmas.{has-zero}
use Rattle.pool.specs.Calls.{PoolState}
use Rattle.promise.specs.Histories.{same}
use Rattle.promise.proofs.Sames.{no, same_tells}
use Rattle.promise.proofs.Views.{View, is_seat, is_decided}

abbrev pub view : PoolState → View
view s =
    record {
      state = λ p. (seat_status s.table p).state;
      serial = λ p. (seat_status s.table p).serial;
      writer = λ e. (row_at s.table e).writer;
      reads = λ e p. has_member (row_at s.table e).readers p;
      voted = λ e p. ltb e 64 && has_member (seat_status s.table p).voted e;
      against = λ e p. ltb e 64 && has_member (seat_status s.table p).against e;
      staged = s.store.staged;
      chains = s.store.reading.chains;
    }

-- the table is sound, and every entry has a row
pub record Sized (s : PoolState) : Type 0 where
  pub table : IsSoundTable s.table
  pub entries : s.store.reading.entries ≤ 64

-- the test that the code computes, and the one that the histories use
pub turned : (p q : ℕ) → eqb q p ≡ same p q
unfolding same
turned p q = ⊎_elim (λ e. eq-eqb q p e ∙ sym (eq-eqb p q (sym e))) (λ n. ne_eqb q p n ∙ sym (ne_eqb p q (λ e. n (sym e)))) (cases_eq q p)

-- an element of a list, after one is set
pub get_set : {A B : Type 0} (f : A → B) (xs : List A) (i j : ℕ) (x d : A) → i < length xs → f (get_or (set xs i x) j d) ≡ cond (same i j) (f x) (f (get_or xs j d))
get_set f xs i j x d l = go (same_tells i j)
  where
    go : ((same i j ≡ true) × (i ≡ j)) ⊎ ((same i j ≡ false) × (i ≡ j → ⊥)) → f (get_or (set xs i x) j d) ≡ cond (same i j) (f x) (f (get_or xs j d))
    go (inl t) =
        subst (λ (k : ℕ). f (get_or (set xs i x) k d) ≡ f x) t.1 (ap f (get_or-set_same xs i x d l))
        ∙ sym (ap (λ (b : Bool). cond b (f x) (f (get_or xs j d))) t.0)
    go (inr t) = ap f (get_or-set_other xs i j x d (λ e. t.1 (sym e))) ∙ sym (ap (λ (b : Bool). cond b (f x) (f (get_or xs j d))) t.0)

pub writes_as : (w : Option ℕ) (p : ℕ) → by_writer w p true false false ≡ is_seat w p
unfolding same
writes_as None p = refl
writes_as (Some w) p = go (eqb w p)
  where
    go : (b : Bool) → cond b true false ≡ b
    go true = refl
    go false = refl

-- ------------------------------------------------------------ the checks

pub admitted_ok : (t : InnerTable) (name : CallName) (p : ℕ) (b : Bool) (q : State) → admitted t name p b ≡ Ok q
    → (p < 16) × (b ≡ true) × (next_state name (seat_status t p).state ≡ Some q)
admitted_ok t name p b q h = go (ltb p t.seats && ltb p 16) refl b (next_state name (seat_status t p).state) h
  where
    go : (c : Bool) → (ltb p t.seats && ltb p 16) ≡ c → (b : Bool) (o : Option State)
        → cond c (cond b (stepped_to o) (Err (Store NoSuchEntry))) (Err NoSuchSeat) ≡ Ok q → (p < 16) × (b ≡ true) × (o ≡ Some q)
    go true e true (Some x) h = (ltb-true p 16 (and_parts (ltb p t.seats) (ltb p 16) e).1, refl, cc)
    go true e true None h = no (cc)
    go true e false o h = no (cc)
    go false e b o h = no (cc)

pub next_begin : (x q : State) → next_state N.Begin x ≡ Some q → (x ≡ Idle) × (q ≡ Editing)
next_begin x q h = (grind arith, grind arith)

pub next_read : (x q : State) → next_state N.Read x ≡ Some q → x ≡ Editing
next_read x q h = grind arith

pub next_write : (x q : State) → next_state N.Write x ≡ Some q → x ≡ Editing
next_write x q h = grind arith

pub next_prepare : (x q : State) → next_state N.Prepare x ≡ Some q → (x ≡ Editing) × (q ≡ Voting)
next_prepare x q h = (grind arith, grind arith)

pub next_vote : (x q : State) → next_state N.Vote x ≡ Some q → x ≡ Voting
next_vote x q h = grind arith

pub next_decide : (x q : State) → next_state N.Decide x ≡ Some q → (x ≡ Voting) × (q ≡ Commit)
next_decide x q h = (grind arith, grind arith)

pub next_abort : (x q : State) → next_state N.Abort x ≡ Some q → ((x ≡ Editing) ⊎ (x ≡ Voting)) × (q ≡ Abort)
next_abort x q h = (grind arith, grind arith)

pub next_finish : (x q : State) → next_state N.Finish x ≡ Some q → (is_decided x ≡ true) × (q ≡ x)
next_finish x q h = (grind arith, grind arith)

pub next_close : (x q : State) → next_state N.Close x ≡ Some q → (is_decided x ≡ true) × (q ≡ Idle)
next_close x q h = (grind arith, grind arith)

-- ------------------------------------------------------------ rows and masks of held entries

-- an element past the last
get_past : {A : Type 0} (xs : List A) (k : ℕ) (d : A) → length xs ≤ k → get_or xs k d ≡ d
get_past [] k d l = refl
get_past (x ∷ xs) zero d l = absurd (omega arith)
get_past (x ∷ xs) (suc k) d l = get_past xs k d (omega arith)

module _ (s : PoolState) (z : Sized s) where
  -- past the last row there is no lock
  pub row_past : (e : ℕ) → 64 ≤ e → row_at s.table e ≡ unlocked_row
  row_past e m = get_past s.table.rows e unlocked_row (omega (arith, z.table.rows))

  -- what a mask of held entries has, and what the rows have
  pub held_as : (p e : ℕ) → p < 16 → holds (row_at s.table e) p ≡ (ltb e 64 && has_member (seat_status s.table p).held e)
  held_as p e l = ⊎_elim (λ m. sym (ap (λ (b : Bool). b && has_member (seat_status s.table p).held e) (lt-ltb e 64 m) ∙ z.table.held p e l m)) (λ m. past m) (cases_lt e 64)
    where
      past : 64 ≤ e → holds (row_at s.table e) p ≡ (ltb e 64 && has_member (seat_status s.table p).held e)
      past m = ap (λ (r : Row). holds r p) (row_past e m) ∙ has-zero p ∙ sym (ap (λ (b : Bool). b && has_member (seat_status s.table p).held e) (le-ltb e 64 m))
