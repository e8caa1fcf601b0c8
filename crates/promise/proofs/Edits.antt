-- What one more event changes of the edits and of the one-by-one run. Below, x is an event and h what came before it, d an edit, and e an entry.
use Rattle.std.proofs.Common.{◌≡◌, ℕ, ◌<◌, ◌≤◌, Bool, true, false, cond, ◌&&◌, ◌||◌, ◌⊎◌, List, [], ◌∷◌, ◌++◌, ℤ, Some, None, Option, sym, refl, ap, ◌∙◌, subst, ap₂, inl, inr, append-nil, arith}
use Rattle.std.proofs.lemmas.Bool.{cases_Bool}
use Rattle.store.specs.declared.version.Version.{Version}
use Rattle.promise.specs.Histories.{Event, Edit, Action, begins, writes, decides, finishes, closes, same, is_begin, is_decision, is_under_way_after, edits_begun, is_under_way, latest_edit, is_part_of, actions_of, has_used, has_finished, is_finish_of, is_committed, value_written}
use Rattle.promise.specs.OneByOne.{Chains, edits_by_decision, commit_rank, added, additions, chain_after, unfinished_versions, is_same_edit, is_among, edits_before}
use Rattle.promise.specs.Promise.{Rule, EachIsAllowed}
use Rattle.promise.proofs.Sames.{same_refl, same_true, same_tells}

pub begun_more : (s : ℕ) (x : Event) (h : List Event) → edits_begun s h ≤ edits_begun s (x ∷ h)
begun_more s x h = go (cases_Bool (same x.seat s && is_begin x.action))
  where
    go : ((same x.seat s && is_begin x.action) ≡ true) ⊎ ((same x.seat s && is_begin x.action) ≡ false) → edits_begun s h ≤ edits_begun s (x ∷ h)
    go (inl b) = rw b (omega arith)
    go (inr b) = rw b (omega arith)

-- an edit that was not begun has done nothing
pub actions_ahead : (d : Edit) (h : List Event) → edits_begun d.seat h < d.serial → actions_of d h ≡ []
actions_ahead d [] l = refl
actions_ahead d (x ∷ h) l =
    let m : edits_begun d.seat h < d.serial = omega (arith, begun_more d.seat x h) in
    let f : same (edits_begun d.seat h) d.serial ≡ false = grind (arith, same_tells) in
    let i : actions_of d h ≡ [] = actions_ahead d h m in
    grind arith

-- an action that can change what an edit adds
abbrev pub is_telling : Action → Bool
is_telling (writes _ _) = true
is_telling (decides _) = true
is_telling _ = false

quiet_committed : (x : Action) (xs : List Action) → is_telling x ≡ false → is_committed (x ∷ xs) ≡ is_committed xs
quiet_committed x xs q = grind arith

quiet_written : (e : ℕ) (x : Action) (xs : List Action) → is_telling x ≡ false → value_written e (x ∷ xs) ≡ value_written e xs
quiet_written e x xs q = grind arith

pub same_edit_refl : (d : Edit) → is_same_edit d d ≡ true
same_edit_refl d = rw (same_refl d.seat, same_refl d.serial)

-- an event is part of no edit but the one that its seat began last
missed : (x : Event) (h : List Event) (d : Edit) → is_same_edit (latest_edit x.seat h) d ≡ false → is_part_of d x h ≡ false
missed x h d q = go (same_tells x.seat d.seat)
  where
    go : ((same x.seat d.seat ≡ true) × (x.seat ≡ d.seat)) ⊎ ((same x.seat d.seat ≡ false) × (x.seat ≡ d.seat → ⊥))
        → is_part_of d x h ≡ false
    go (inl t) =
        let a : edits_begun x.seat h ≡ edits_begun d.seat h = ap (λ (s : ℕ). edits_begun s h) t.1 in
        let b : same (edits_begun d.seat h) d.serial ≡ false = rw (t.0, a) at q in
        grind arith
    go (inr t) = rw t.0

-- the rank among the commits is no part of a version
pub added_anywhere : (d : Edit) (m n : ℕ) (value : Option ℤ) → added d m value ≡ added d n value
added_anywhere d m n None = refl
added_anywhere d m n (Some value) = refl

pub additions_as : (h : List Event) (d : Edit) (n e : ℕ) → additions h d e ≡ cond (is_committed (actions_of d h)) (added d n (value_written e (actions_of d h))) []
additions_as h d n e = ap (λ (l : List Version). cond (is_committed (actions_of d h)) l []) (added_anywhere d (commit_rank h d) n (value_written e (actions_of d h)))

-- the versions that the edit did not write
unfoldable pub without : Edit → List Version → List Version
without d [] = []
without d (v ∷ vs) = cond (same d.seat v.seat && same d.serial v.serial) (without d vs) (v ∷ without d vs)

without-append : (d : Edit) (us vs : List Version) → without d (us ++ vs) ≡ without d us ++ without d vs
unfolding without
without-append d [] vs = refl
without-append d (u ∷ us) vs = let i = without-append d us vs in grind arith

module _ (x : Event) (h : List Event) where
  pub additions_kept : (d : Edit) (e : ℕ) → (is_telling x.action ≡ true → is_same_edit (latest_edit x.seat h) d ≡ false) → additions (x ∷ h) d e ≡ additions h d e
  additions_kept d e f = additions_as (x ∷ h) d 0 e ∙ go (cases_Bool (is_part_of d x h)) (cases_Bool (is_telling x.action)) ∙ sym (additions_as h d 0 e)
    where
      go : (is_part_of d x h ≡ true) ⊎ (is_part_of d x h ≡ false) → (is_telling x.action ≡ true) ⊎ (is_telling x.action ≡ false)
          → cond (is_committed (actions_of d (x ∷ h))) (added d 0 (value_written e (actions_of d (x ∷ h)))) []
          ≡ cond (is_committed (actions_of d h)) (added d 0 (value_written e (actions_of d h))) []
      go (inr t) l = rw t
      go (inl t) (inl l) = let u = missed x h d (f l) in let z : true ≡ false = sym t ∙ u in cc
      go (inl t) (inr l) = rw (t, quiet_committed x.action (actions_of d h) l, quiet_written e x.action (actions_of d h) l)

  -- the first and the rest of a list of edits that this event's edit is not among
  first_apart : {A : Type 0} (d : Edit) (ds : List Edit) → (A → is_among (latest_edit x.seat h) (d ∷ ds) ≡ false) → A → is_same_edit (latest_edit x.seat h) d ≡ false
  first_apart d ds f a = let u = f a in grind arith

  rest_apart : {A : Type 0} (d : Edit) (ds : List Edit) → (A → is_among (latest_edit x.seat h) (d ∷ ds) ≡ false) → A → is_among (latest_edit x.seat h) ds ≡ false
  rest_apart d ds f a = let u = f a in grind arith

  pub chain_kept : (o : Chains) (ds : List Edit) (e : ℕ) → (is_telling x.action ≡ true → is_among (latest_edit x.seat h) ds ≡ false) → chain_after o (x ∷ h) ds e ≡ chain_after o h ds e
  chain_kept o [] e f = refl
  chain_kept o (d ∷ ds) e f = ap₂ (λ (a b : List Version). a ++ b) (chain_kept o ds e (rest_apart d ds f)) (additions_kept d e (first_apart d ds f))

  finished_kept : (d : Edit) (e : ℕ) → is_finish_of e x.action ≡ false → has_finished e (actions_of d (x ∷ h)) ≡ has_finished e (actions_of d h)
  finished_kept d e q = go (cases_Bool (is_part_of d x h))
    where
      go : (is_part_of d x h ≡ true) ⊎ (is_part_of d x h ≡ false) → has_finished e (actions_of d (x ∷ h)) ≡ has_finished e (actions_of d h)
      go (inl t) = rw (t, q)
      go (inr t) = rw t

  pub unfinished_kept : (ds : List Edit) (e : ℕ) → (is_telling x.action ≡ true → is_among (latest_edit x.seat h) ds ≡ false) → is_finish_of e x.action ≡ false
      → unfinished_versions (x ∷ h) ds e ≡ unfinished_versions h ds e
  unfinished_kept [] e f q = refl
  unfinished_kept (d ∷ ds) e f q =
      ap₂ (λ (a b : List Version). a ++ b) (unfinished_kept ds e (rest_apart d ds f) q)
      (ap₂ (λ (b : Bool) (l : List Version). cond b [] l) (finished_kept d e q) (additions_kept d e (first_apart d ds f)))

  pub allowed_kept : (allows : Rule) (o : Chains) (ds : List Edit) (e : ℕ) → (is_telling x.action ≡ true → is_among (latest_edit x.seat h) ds ≡ false)
      → EachIsAllowed allows o h ds e → EachIsAllowed allows o (x ∷ h) ds e
  allowed_kept allows o [] e f a = tt
  allowed_kept allows o (d ∷ ds) e f a = (
    (λ v q. rw (chain_kept o ds e (rest_apart d ds f)) (a.0 v (sym (additions_kept d e (first_apart d ds f)) ∙ q))),
    allowed_kept allows o ds e (rest_apart d ds f) a.1,
  )

-- ------------------------------------------------------------ a finish takes what its edit added from the unfinished

abbrev left : List Event → Edit → ℕ → List Version
left h d e = cond (has_finished e (actions_of d h)) [] (additions h d e)

without_own : (c d : Edit) (n : ℕ) (z : Option ℤ) → is_same_edit c d ≡ true → without c (added d n z) ≡ []
unfolding without
without_own c d n None q = refl
without_own c d n (Some v) q = rw q

without_other : (c d : Edit) (n : ℕ) (z : Option ℤ) → is_same_edit c d ≡ false → without c (added d n z) ≡ added d n z
unfolding without
without_other c d n None q = refl
without_other c d n (Some v) q = rw q

without_left : (c d : Edit) (f b : Bool) (n : ℕ) (z : Option ℤ) → is_same_edit c d ≡ true → without c (cond f [] (cond b (added d n z) [])) ≡ []
unfolding without
without_left c d true b n z q = refl
without_left c d false true n z q = without_own c d n z q
without_left c d false false n z q = refl

without_kept : (c d : Edit) (f b : Bool) (n : ℕ) (z : Option ℤ) → is_same_edit c d ≡ false
    → without c (cond f [] (cond b (added d n z) [])) ≡ cond f [] (cond b (added d n z) [])
unfolding without
without_kept c d true b n z q = refl
without_kept c d false true n z q = without_other c d n z q
without_kept c d false false n z q = refl

module _ (p e : ℕ) (h : List Event) (u : is_under_way p h ≡ true) where
  abbrev end : Event
  end = record { seat = p; action = finishes e }

  left_done : (d : Edit) → left (end ∷ h) d e ≡ without (latest_edit p h) (left h d e)
  left_done d = go (cases_Bool (is_same_edit (latest_edit p h) d))
    where
      go : (is_same_edit (latest_edit p h) d ≡ true) ⊎ (is_same_edit (latest_edit p h) d ≡ false) → left (end ∷ h) d e ≡ without (latest_edit p h) (left h d e)
      go (inl q) =
          let a : p ≡ d.seat = same_true p d.seat (grind arith) in
          let b : is_part_of d end h ≡ true
          = subst (λ (s : ℕ). (same p s && is_under_way s h && same (edits_begun s h) d.serial) ≡ true) a (rw (same_refl p, u) (grind arith)) in
          rw (b, same_refl e) (sym (without_left (latest_edit p h) d (has_finished e (actions_of d h)) (is_committed (actions_of d h)) (commit_rank h d) (value_written e (actions_of d h)) q))
      go (inr q) =
          ap₂ (λ (b : Bool) (l : List Version). cond b [] l) (ap (has_finished e) (not_part (missed end h d q))) (additions_kept end h d e (λ t. grind arith))
          ∙ sym (without_kept (latest_edit p h) d (has_finished e (actions_of d h)) (is_committed (actions_of d h)) (commit_rank h d) (value_written e (actions_of d h)) q)
        where
          not_part : is_part_of d end h ≡ false → actions_of d (end ∷ h) ≡ actions_of d h
          not_part t = rw t

  pub unfinished_done : (ds : List Edit) → unfinished_versions (end ∷ h) ds e ≡ without (latest_edit p h) (unfinished_versions h ds e)
  unfolding without
  unfinished_done [] = refl
  unfinished_done (d ∷ ds) =
      ap₂ (λ (a b : List Version). a ++ b) (unfinished_done ds) (left_done d) ∙ sym (without-append (latest_edit p h) (unfinished_versions h ds e) (left h d e))

-- ------------------------------------------------------------ reads that came before

pub before_all : (d : Edit) (ds : List Edit) → is_among d ds ≡ false → edits_before d ds ≡ ds
before_all d [] q = refl
before_all d (x ∷ ds) q = grind arith

among_before : (c d : Edit) (ds : List Edit) → is_among c ds ≡ false → is_among c (edits_before d ds) ≡ false
among_before c d [] q = refl
among_before c d (x ∷ ds) q =
    let r : is_among c ds ≡ false = grind arith in
    let i : is_among c (edits_before d ds) ≡ false = among_before c d ds r in
    grind arith

pub same_edit_true : (c d : Edit) → is_same_edit c d ≡ true → c ≡ d
same_edit_true c d q = ap₂ (λ (s n : ℕ). record { seat = s; serial = n }) (same_true c.seat d.seat (grind arith)) (same_true c.serial d.serial (grind arith))

telling_decision : (x : Action) → is_decision x ≡ true → is_telling x ≡ true
telling_decision x q = grind arith

-- an action after which an edit that was under way still is the seat's latest
abbrev pub is_within_edit : Action → Bool
is_within_edit begins = false
is_within_edit closes = false
is_within_edit _ = true

within_begin : (x : Action) → is_within_edit x ≡ true → is_begin x ≡ false
within_begin x q = grind arith

within_under_way : (x : Action) → is_within_edit x ≡ true → is_under_way_after x true ≡ true
within_under_way x q = grind arith

used_more : (x : Event) (h : List Event) (d : Edit) (e : ℕ) → has_used e (actions_of d h) ≡ true → has_used e (actions_of d (x ∷ h)) ≡ true
used_more x h d e q = go (cases_Bool (is_part_of d x h))
  where
    go : (is_part_of d x h ≡ true) ⊎ (is_part_of d x h ≡ false) → has_used e (actions_of d (x ∷ h)) ≡ true
    go (inl t) = rw (t, q) (grind arith)
    go (inr t) = rw t q

-- an edit that read or wrote the entry is decided, or it is its seat's latest and under way
abbrev pub Stands : Edit → ℕ → List Event → Type 0
Stands d e h =
    (is_among d (edits_by_decision h) ≡ true)
    ⊎ ((d.serial ≡ edits_begun d.seat h) × (is_under_way d.seat h ≡ true) × (has_used e (actions_of d h) ≡ true))

module _ (x : Event) (h : List Event) (undecided : is_telling x.action ≡ true → is_among (latest_edit x.seat h) (edits_by_decision h) ≡ false) where
  pub chain_before_kept : (o : Chains) (d : Edit) (e : ℕ)
      → (is_decision x.action ≡ true → is_same_edit d (latest_edit x.seat h) ≡ false → is_among d (edits_by_decision h) ≡ false → additions (x ∷ h) (latest_edit x.seat h) e ≡ [])
      → chain_after o (x ∷ h) (edits_before d (edits_by_decision (x ∷ h))) e ≡ chain_after o h (edits_before d (edits_by_decision h)) e
  chain_before_kept o d e f = go (cases_Bool (is_decision x.action)) (cases_Bool (is_same_edit d (latest_edit x.seat h))) (cases_Bool (is_among d (edits_by_decision h)))
    where
      sub : chain_after o (x ∷ h) (edits_before d (edits_by_decision h)) e ≡ chain_after o h (edits_before d (edits_by_decision h)) e
      sub = chain_kept x h o (edits_before d (edits_by_decision h)) e (λ l. among_before (latest_edit x.seat h) d (edits_by_decision h) (undecided l))

      go : (is_decision x.action ≡ true) ⊎ (is_decision x.action ≡ false) → (is_same_edit d (latest_edit x.seat h) ≡ true) ⊎ (is_same_edit d (latest_edit x.seat h) ≡ false)
          → (is_among d (edits_by_decision h) ≡ true) ⊎ (is_among d (edits_by_decision h) ≡ false)
          → chain_after o (x ∷ h) (edits_before d (edits_by_decision (x ∷ h))) e ≡ chain_after o h (edits_before d (edits_by_decision h)) e
      go (inr t) i m = rw t sub
      go (inl t) (inl i) m =
          let a : is_among d (edits_by_decision h) ≡ false
          = subst (λ (c : Edit). is_among c (edits_by_decision h) ≡ false) (sym (same_edit_true d (latest_edit x.seat h) i)) (undecided (telling_decision x.action t)) in
          rw (t, i) (ap (λ (l : List Edit). chain_after o (x ∷ h) l e) (sym (before_all d (edits_by_decision h) a)) ∙ sub)
      go (inl t) (inr i) (inl m) = rw (t, i, m) sub
      go (inl t) (inr i) (inr m) =
          rw (t, i, m, f t i m)
          (append-nil (chain_after o (x ∷ h) (edits_by_decision h) e) ∙ ap (λ (l : List Edit). chain_after o (x ∷ h) l e) (sym (before_all d (edits_by_decision h) m)) ∙ sub)

  pub stands_kept : (d : Edit) (e : ℕ)
      → (same x.seat d.seat ≡ true → is_under_way x.seat h ≡ true → is_among (latest_edit x.seat h) (edits_by_decision h) ≡ false → is_within_edit x.action ≡ true)
      → Stands d e h → Stands d e (x ∷ h)
  stands_kept d e f (inl m) = inl (let a : (is_same_edit d (latest_edit x.seat h) || is_among d (edits_by_decision h)) ≡ true = grind arith in grind arith)
  stands_kept d e f (inr c) = go (same_tells x.seat d.seat) (cases_Bool (is_among d (edits_by_decision h)))
    where
      own : x.seat ≡ d.seat → latest_edit x.seat h ≡ d
      own q = ap₂ (λ (s n : ℕ). record { seat = s; serial = n }) q (ap (λ (s : ℕ). edits_begun s h) q ∙ sym c.0)

      go : ((same x.seat d.seat ≡ true) × (x.seat ≡ d.seat)) ⊎ ((same x.seat d.seat ≡ false) × (x.seat ≡ d.seat → ⊥))
          → (is_among d (edits_by_decision h) ≡ true) ⊎ (is_among d (edits_by_decision h) ≡ false) → Stands d e (x ∷ h)
      go t (inl m) = inl (let a : (is_same_edit d (latest_edit x.seat h) || is_among d (edits_by_decision h)) ≡ true = grind arith in grind arith)
      go (inr t) (inr m) = inr (rw t.0 c)
      go (inl t) (inr m) = to (cases_Bool (is_decision x.action)) (f t.0 (subst (λ (s : ℕ). is_under_way s h ≡ true) (sym t.1) c.1) (rw (own t.1) m))
        where
          to : (is_decision x.action ≡ true) ⊎ (is_decision x.action ≡ false) → is_within_edit x.action ≡ true → Stands d e (x ∷ h)
          to (inl q) k =
              let a : is_same_edit d (latest_edit x.seat h) ≡ true = subst (λ (c : Edit). is_same_edit d c ≡ true) (sym (own t.1)) (same_edit_refl d) in
              inl (rw (q, a))
          to (inr q) k =
              inr (rw (t.0, within_begin x.action k) c.0, rw (t.0, c.1, within_under_way x.action k), used_more x h d e c.2)
