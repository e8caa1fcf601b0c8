-- A call by its parts: what a part that is accepted says, and what holds after the whole call.
use Rattle.std.proofs.Common.{◌≡◌, ℕ, Bool, true, false, cond, not, ltb, ◌⊎◌, List, ◌++◌, is_some, Some, None, Ok, Err, Option, Result, sym, refl, ap, ◌∙◌, ap₂, inl, inr}
use Rattle.calls.specs.declared.fault.Fault.{Fault}
use Rattle.store.specs.declared.version.Version.{Version}
use Rattle.store.specs.declared.refusal.Refusal.TheVariants.{NoSuchEntry, NothingStaged}
use Rattle.store.specs.Meaning.{WritingMeaning, last_version}
use Rattle.store.specs.Steps.{StoreAnswer, unless_refused, stage_answer, stage_after, with_staged, with_published, publish_answer, publish_after, withdraw_answer, withdraw_after}
use Rattle.pool.specs.Calls.{PoolState, Accepted, and_then, state_after, value_or, from_store}
use Rattle.promise.specs.Histories.{same}
use Rattle.promise.proofs.Sames.{no, same_tells}
use Rattle.promise.proofs.Views.{as_list, value_staged_or_last}
use Rattle.runner.proofs.States.{turned}

-- ------------------------------------------------------------ what a call leaves, by its parts

module _ (s : PoolState) (P : PoolState → Type 0) (stays : P s) where
  pub by_result : {A T : Type 0} (r : Result A Fault) (go : A → Result (Accepted T) Fault) → ((a : A) → r ≡ Ok a → P (state_after (go a) s)) → P (state_after (and_then r go) s)
  by_result (Ok a) go k = k a refl
  by_result (Err x) go k = stays

  -- a test that refuses where it fails
  pub unless : {T : Type 0} (b : Bool) (fault : Fault) (y : Result (Accepted T) Fault) → (b ≡ true → P (state_after y s)) → P (state_after (cond (not b) (Err fault) y) s)
  unless true fault y k = k refl
  unless false fault y k = stays

  -- a test that refuses where it holds
  pub refuse : {T : Type 0} (b : Bool) (fault : Fault) (y : Result (Accepted T) Fault) → (b ≡ false → P (state_after y s)) → P (state_after (cond b (Err fault) y) s)
  refuse true fault y k = stays
  refuse false fault y k = k refl

  pub by_test : {T : Type 0} (b : Bool) (x y : Result (Accepted T) Fault) → (b ≡ true → P (state_after x s)) → (b ≡ false → P (state_after y s)) → P (state_after (cond b x y) s)
  by_test true x y k m = k refl
  by_test false x y k m = m refl

-- ------------------------------------------------------------ the store

pub value_or_as : (o : Option Version) (c : List Version) → value_or o (last_version c).value ≡ value_staged_or_last o c
value_or_as None c = refl
value_or_as (Some v) c = refl

from_store_ok : (r : StoreAnswer) → from_store r ≡ Ok tt → r ≡ Ok tt
from_store_ok (Ok x) h = refl
from_store_ok (Err x) h = no (cc)

pub stage_ok : (m : WritingMeaning) (e : ℕ) (v : Version) → from_store (stage_answer m e v) ≡ Ok tt → stage_after m e v ≡ with_staged m e (Some v)
stage_ok m e v h = ap (λ (r : StoreAnswer). unless_refused r (with_staged m e (Some v)) m) (from_store_ok (stage_answer m e v) h)

-- what is published or withdrawn was staged
there : (b : Bool) (o : Option Version) → ◌≡◌ {A = StoreAnswer} (cond b (cond (is_some o) (Ok tt) (Err NothingStaged)) (Err NoSuchEntry)) (Ok tt) → (v : Version) × (o ≡ Some v)
there true (Some v) h = (v, refl)
there true None h = no (cc)
there false o h = no (cc)

-- what a function has at a number is what it has there
pub at_own : {B : Type 0} (f : ℕ → B) (e y : ℕ) → f y ≡ cond (same e y) (f e) (f y)
at_own f e y = go (same_tells e y)
  where
    go : ((same e y ≡ true) × (e ≡ y)) ⊎ ((same e y ≡ false) × (e ≡ y → ⊥)) → f y ≡ cond (same e y) (f e) (f y)
    go (inl t) = rw t.0 (ap f (sym t.1))
    go (inr t) = rw t.0

-- what a finish leaves of a store: nothing is staged at the entry, the chain has this, and the entries are as many
pub record Leaves (old : WritingMeaning) (e : ℕ) (chain : List Version) (new : WritingMeaning) : Type 0 where
  pub staged : (y : ℕ) → new.staged y ≡ cond (same e y) None (old.staged y)
  pub chains : (y : ℕ) → new.reading.chains y ≡ cond (same e y) chain (old.reading.chains y)
  pub entries : new.reading.entries ≡ old.reading.entries

pub publish_ok : (m : WritingMeaning) (e : ℕ) → from_store (publish_answer m e) ≡ Ok tt → Leaves m e (m.reading.chains e ++ as_list (m.staged e)) (publish_after m e)
publish_ok m e h =
    let found = there (ltb e m.reading.entries) (m.staged e) (from_store_ok (publish_answer m e) h) in
    let is : publish_after m e ≡ with_published m e (Some found.0)
    = ap₂ (λ (r : StoreAnswer) (o : Option Version). unless_refused r (with_published m e o) m) (from_store_ok (publish_answer m e) h) found.1 in
    record {
      staged = λ y. ap (λ (n : WritingMeaning). n.staged y) is ∙ ap (λ (b : Bool). cond b None (m.staged y)) (turned e y);
      chains = λ y.
          ap (λ (n : WritingMeaning). n.reading.chains y) is
          ∙ ap₂ (λ (b : Bool) (l : List Version). cond b (m.reading.chains e ++ l) (m.reading.chains y)) (turned e y) (sym (ap as_list found.1));
      entries = ap (λ (n : WritingMeaning). n.reading.entries) is;
    }

pub withdraw_ok : (m : WritingMeaning) (e : ℕ) → from_store (withdraw_answer m e) ≡ Ok tt → Leaves m e (m.reading.chains e) (withdraw_after m e)
withdraw_ok m e h =
    let is : withdraw_after m e ≡ with_staged m e None
    = ap (λ (r : StoreAnswer). unless_refused r (with_staged m e None) m) (from_store_ok (withdraw_answer m e) h) in
    record {
      staged = λ y. ap (λ (n : WritingMeaning). n.staged y) is ∙ ap (λ (b : Bool). cond b None (m.staged y)) (turned e y);
      chains = λ y. ap (λ (n : WritingMeaning). n.reading.chains y) is ∙ at_own m.reading.chains e y;
      entries = ap (λ (n : WritingMeaning). n.reading.entries) is;
    }
