-- What is set in a sound table leaves it sound.
use Rattle.std.proofs.Common.{◌≡◌, ℕ, zero, suc, ◌<◌, Bool, true, false, cond, not, ◌&&◌, ◌||◌, eqb, get_or, set, replicate, Ok, sym, refl, ap, ◌∙◌, ap₂, ⊎_elim, arith, length-set, get_or-set_same, get_or-set_other}
use Rattle.std.proofs.lemmas.Bool.{cases_eq, eq-eqb, ne_eqb}
use Rattle.pool.specs.declared.table.SeatStatus.{SeatStatus}
use Rattle.pool.specs.declared.table.Row.{Row}
use Rattle.pool.specs.declared.table.InnerTable.{InnerTable}
use Rattle.pool.specs.Masks.{has_member}
use Rattle.pool.specs.Locks.{unlocked_row, is_lock, holds, shared_row, claimed_row, released_row}
use Rattle.pool.specs.Tables.{idle_seat, fresh_table, seat_status, row_at, with_status, with_row, with_held_row, with_released_row, IsSoundTable}
use Rattle.pool.proofs.MaskLemmas.{has-zero, has-with, has-without}
use Rattle.pool.proofs.LockLemmas.{PutFor, shared_put, claimed_put, released_let_go}

replicate_at : {A : Type 0} (x : A) (n i : ℕ) → get_or (replicate n x) i x ≡ x
replicate_at x zero i = refl
replicate_at x (suc n) zero = refl
replicate_at x (suc n) (suc i) = replicate_at x n i

pub fresh_status : (seats seat : ℕ) → seat_status (fresh_table seats) seat ≡ idle_seat
fresh_status seats seat = replicate_at idle_seat 16 seat

pub fresh_row : (seats entry : ℕ) → row_at (fresh_table seats) entry ≡ unlocked_row
fresh_row seats entry = replicate_at unlocked_row 64 entry

pub fresh_sound : (seats : ℕ) → IsSoundTable (fresh_table seats)
fresh_sound seats = record {
  statuses = refl;
  rows = refl;
  locks = λ entry. ap is_lock (fresh_row seats entry);
  held = λ seat entry _ _.
      ap (λ (x : SeatStatus). has_member x.held entry) (fresh_status seats seat) ∙ has-zero entry
      ∙ sym (ap (λ (x : Row). holds x seat) (fresh_row seats entry) ∙ has-zero seat);
}

-- ------------------------------------------------------------ a lock that is set, with what a seat holds

module _ (t : InnerTable) (p e : ℕ) (s : IsSoundTable t) (a : p < 16) (b : e < 64) where
  set_sound : (status : SeatStatus) (r : Row) → is_lock r ≡ true
      → ((q : ℕ) → q < 16 → (q ≡ p → ⊥) → holds r q ≡ holds (row_at t e) q)
      → ((k : ℕ) → k < 64 → has_member status.held k ≡ cond (eqb k e) (holds r p) (has_member (seat_status t p).held k))
      → IsSoundTable (with_row (with_status t p status) e r)
  set_sound status r lock others own = record {
    statuses = length-set t.statuses p status ∙ s.statuses;
    rows = length-set t.rows e r ∙ s.rows;
    locks = λ k. ⊎_elim (λ same. ap is_lock (row_same k same) ∙ lock) (λ apart. ap is_lock (row_other k apart) ∙ s.locks k) (cases_eq k e);
    held = λ q k x y.
        ⊎_elim
        (λ me. ap (λ (z : SeatStatus). has_member z.held k) (status_same q me) ∙ own k y
        ∙ ⊎_elim
        (λ same. ap (λ (c : Bool). cond c (holds r p) (has_member (seat_status t p).held k)) (eq-eqb k e same) ∙ sym (ap₂ (λ (z : Row) (n : ℕ). holds z n) (row_same k same) me))
        (λ apart. ap (λ (c : Bool). cond c (holds r p) (has_member (seat_status t p).held k)) (ne_eqb k e apart) ∙ s.held p k a y
        ∙ sym (ap₂ (λ (z : Row) (n : ℕ). holds z n) (row_other k apart) me))
        (cases_eq k e))
        (λ else. ap (λ (z : SeatStatus). has_member z.held k) (status_other q else) ∙ s.held q k x y
        ∙ ⊎_elim
        (λ same. ap (λ (n : ℕ). holds (row_at t n) q) same ∙ sym (others q x else) ∙ sym (ap (λ (z : Row). holds z q) (row_same k same)))
        (λ apart. sym (ap (λ (z : Row). holds z q) (row_other k apart)))
        (cases_eq k e))
        (cases_eq q p);
  }
    where
      row_same : (k : ℕ) → k ≡ e → get_or (set t.rows e r) k unlocked_row ≡ r
      row_same k same = ap (λ (n : ℕ). get_or (set t.rows e r) n unlocked_row) same ∙ get_or-set_same t.rows e r unlocked_row (omega (arith, s.rows))

      row_other : (k : ℕ) → (k ≡ e → ⊥) → get_or (set t.rows e r) k unlocked_row ≡ row_at t k
      row_other k apart = get_or-set_other t.rows e k r unlocked_row apart

      status_same : (q : ℕ) → q ≡ p → get_or (set t.statuses p status) q idle_seat ≡ status
      status_same q same = ap (λ (n : ℕ). get_or (set t.statuses p status) n idle_seat) same ∙ get_or-set_same t.statuses p status idle_seat (omega (arith, s.statuses))

      status_other : (q : ℕ) → (q ≡ p → ⊥) → get_or (set t.statuses p status) q idle_seat ≡ seat_status t q
      status_other q apart = get_or-set_other t.statuses p q status idle_seat apart

  put_sound : (r : Row) → PutFor (row_at t e) p r → IsSoundTable (with_held_row t p e r)
  put_sound r put =
      set_sound _ r put.lock (λ q x n. put.others q (omega arith) n)
      (λ k y. has-with (seat_status t p).held e k ∙ go k (eqb k e) (has_member (seat_status t p).held k))
    where
      go : (k : ℕ) (c h : Bool) → (h || c) ≡ cond c (holds r p) h
      go k true true = sym put.own
      go k true false = sym put.own
      go k false true = refl
      go k false false = refl

  pub shared_sound : (r : Row) → shared_row (row_at t e) p ≡ Ok r → IsSoundTable (with_held_row t p e r)
  shared_sound r h = put_sound r (shared_put (row_at t e) r p h).0

  pub claimed_sound : (r : Row) → claimed_row (row_at t e) p ≡ Ok r → IsSoundTable (with_held_row t p e r)
  claimed_sound r h = put_sound r (claimed_put (row_at t e) r p (omega arith) h).0

  pub released_sound : IsSoundTable (with_released_row t p e (released_row (row_at t e) p))
  released_sound =
      let let_go = released_let_go (row_at t e) p (omega arith) in
      set_sound _ (released_row (row_at t e) p) (let_go.lock (s.locks e)) (λ q x n. let_go.others q (omega arith) n)
      (λ k y. has-without (seat_status t p).held e k b y ∙ go (holds (released_row (row_at t e) p) p) let_go.own (eqb k e) (has_member (seat_status t p).held k))
    where
      go : (x : Bool) → x ≡ false → (c h : Bool) → (h && not c) ≡ cond c x h
      go x f true true = sym f
      go x f true false = sym f
      go x f false true = refl
      go x f false false = refl

-- a seat's status that is set, with the entries that it held
pub status_sound : (t : InnerTable) (p : ℕ) (status : SeatStatus) → IsSoundTable t → p < 16 → status.held ≡ (seat_status t p).held → IsSoundTable (with_status t p status)
status_sound t p status s a same_held = record {
  statuses = length-set t.statuses p status ∙ s.statuses;
  rows = s.rows;
  locks = s.locks;
  held = λ q k x y. ap (λ (n : ℕ). has_member n k) (⊎_elim (λ me. own q me) (λ else. other q else) (cases_eq q p)) ∙ s.held q k x y;
}
  where
    own : (q : ℕ) → q ≡ p → (get_or (set t.statuses p status) q idle_seat).held ≡ (seat_status t q).held
    own q me =
        ap (λ (n : ℕ). (get_or (set t.statuses p status) n idle_seat).held) me
        ∙ ap (λ (x : SeatStatus). x.held) (get_or-set_same t.statuses p status idle_seat (omega (arith, s.statuses)))
        ∙ same_held ∙ sym (ap (λ (n : ℕ). (seat_status t n).held) me)

    other : (q : ℕ) → (q ≡ p → ⊥) → (get_or (set t.statuses p status) q idle_seat).held ≡ (seat_status t q).held
    other q else = ap (λ (x : SeatStatus). x.held) (get_or-set_other t.statuses p q status idle_seat else)
