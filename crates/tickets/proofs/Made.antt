-- Lists of calls that were made on a pool: one list after another, and a call for each entry of a loop.
use Rattle.std.proofs.Common.{◌≡◌, ℕ, zero, suc, ◌+◌, ◌≤◌, Bool, true, false, cond, List, [], ◌∷◌, ◌++◌, sym, refl, ap, ◌∙◌, subst, ap₂, add-one, arith}
use Rattle.calls.specs.declared.call.Call.{Call}
use Rattle.calls.specs.Answers.{Answer}
use Rattle.store.specs.declared.reading.ReadingStore as reading_store
use Rattle.store.specs.declared.writing.WritingStore as writing_store
use Rattle.rules.specs.declared.house.HouseRule as house_rule
use Rattle.pool.specs.declared.pool.Pool.{Pool}
use Rattle.pool.specs.Calls.{Rule, PoolState, state_after, perform}
use Rattle.pool.specs.Pools.{Performs, LeavesStore, state_of, rule_of}
use Rattle.runner.specs.Runs.{PerformsEach}
use Rattle.tickets.specs.Lists.{MakesCalls, state_after_calls, answers_to, calls_for_each}

pub after-++ : (allows : Rule) (xs ys : List Call) (s : PoolState) → state_after_calls allows (xs ++ ys) s ≡ state_after_calls allows ys (state_after_calls allows xs s)
after-++ allows [] ys s = refl
after-++ allows (x ∷ xs) ys s = after-++ allows xs ys (state_after (perform allows x s) s)

-- what stands before and after each call of a list stands after all of them
pub each_keeps : (allows : Rule) (Q : PoolState → Type 0) (test : ℕ → Bool) (call : ℕ → Call)
    → ((m : PoolState) (k : ℕ) → Q m → Q (state_after (perform allows (call k) m) m)) → (n : ℕ) (s : PoolState) → Q s
    → Q (state_after_calls allows (calls_for_each test call n) s)
each_keeps allows Q test call step zero s start = start
each_keeps allows Q test call step (suc n) s start =
    subst Q (sym (after-++ allows (calls_for_each test call n) (cond (test n) (call n ∷ []) []) s)) (go (test n) _ (each_keeps allows Q test call step n s start))
  where
    go : (b : Bool) (m : PoolState) → Q m → Q (state_after_calls allows (cond b (call n ∷ []) []) m)
    go true m before = step m n before
    go false m before = before

pub each_same : (test other : ℕ → Bool) (call : ℕ → Call) (n : ℕ) → ((k : ℕ) → test k ≡ other k) → calls_for_each test call n ≡ calls_for_each other call n
each_same test other call zero q = refl
each_same test other call (suc n) q = ap₂ (λ (xs : List Call) (b : Bool). xs ++ cond b (call n ∷ []) []) (each_same test other call n q) (q n)

-- a call on an entry leaves what the test says of the others
abbrev pub LeavesOthers : (PoolState → ℕ → Bool) → (ℕ → Call) → Type 0
LeavesOthers test call = (allows : Rule) (m : PoolState) (n k : ℕ) → (k ≡ n → ⊥) → test (state_after (perform allows (call n) m) m) k ≡ test m k

module _ {S R : Type 0} {w : writing_store.Ghosts S} {s : reading_store.Ghosts S} {r : house_rule.Ghosts R} where
  -- ------------------------------------------------------------ what calls that were made leave and answer

  pub each_leaves : (old new : Pool S R w s r) (calls : List Call) (answers : List Answer) → PerformsEach old calls answers new
      → (state_of new ≡ state_after_calls (rule_of old) calls (state_of old)) × (answers ≡ answers_to (rule_of old) calls (state_of old)) × (new.rule ≡ old.rule)
  each_leaves old new [] [] e = (ap (λ (x : Pool S R w s r). state_of x) e, refl, ap (λ (x : Pool S R w s r). x.rule) e)
  each_leaves old new [] (b ∷ answers) e = absurd e
  each_leaves old new (c ∷ calls) [] e = absurd e
  each_leaves old new (c ∷ calls) (b ∷ answers) e =
      let rest = each_leaves e.0 new calls answers e.3 in
      let rule : rule_of e.0 ≡ rule_of old = ap r.allowed e.1.rule in (
        rest.0 ∙ ap₂ (λ (f : Rule) (m : PoolState). state_after_calls f calls m) rule e.1.leaves,
        ap₂ (λ (x : Answer) (xs : List Answer). x ∷ xs) e.1.answers (rest.1 ∙ ap₂ (λ (f : Rule) (m : PoolState). answers_to f calls m) rule e.1.leaves),
        rest.2 ∙ e.1.rule,
      )

  pub makes_rule : {old new : Pool S R w s r} {calls : List Call} → MakesCalls old calls new → rule_of new ≡ rule_of old
  makes_rule {old} {new} {calls} m = ap r.allowed (each_leaves old new calls m.answers m.performs).2

  pub makes_state : {old new : Pool S R w s r} {calls : List Call} → MakesCalls old calls new → state_of new ≡ state_after_calls (rule_of old) calls (state_of old)
  makes_state {old} {new} {calls} m = (each_leaves old new calls m.answers m.performs).0

  -- ------------------------------------------------------------ one list after another

  performs-++ : (old mid new : Pool S R w s r) (xs ys : List Call) (before after : List Answer) → PerformsEach old xs before mid → PerformsEach mid ys after new
      → PerformsEach old (xs ++ ys) (before ++ after) new
  performs-++ old mid new [] ys [] after e f = subst (λ (x : Pool S R w s r). PerformsEach x ys after new) e f
  performs-++ old mid new [] ys (b ∷ before) after e f = absurd e
  performs-++ old mid new (x ∷ xs) ys [] after e f = absurd e
  performs-++ old mid new (x ∷ xs) ys (b ∷ before) after e f = (e.0, e.1, e.2, performs-++ e.0 mid new xs ys before after e.3 f)

  pub makes_none : {old : Pool S R w s r} → MakesCalls old [] old
  makes_none = record { answers = []; performs = refl }

  pub makes_one : {old new : Pool S R w s r} (call : Call) {answer : Answer} → Performs old (perform (rule_of old) call) answer new → LeavesStore old call answer new
      → MakesCalls old (call ∷ []) new
  makes_one {old} {new} call {answer} p l = record { answers = answer ∷ []; performs = (new, p, l, refl) }

  pub makes-++ : {old mid new : Pool S R w s r} (xs ys : List Call) → MakesCalls old xs mid → MakesCalls mid ys new → MakesCalls old (xs ++ ys) new
  makes-++ {old} {mid} {new} xs ys m n =
      record { answers = m.answers ++ n.answers; performs = performs-++ old mid new xs ys m.answers n.answers m.performs n.performs }

  -- ------------------------------------------------------------ a loop over the entries

  -- a call was made for each entry below n that passed the test, and what the test says of the entries from n on is as it was
  module _ (test : PoolState → ℕ → Bool) (call : ℕ → Call) where
    pub record CallsBelow (old : Pool S R w s r) (n : ℕ) (new : Pool S R w s r) : Type 0 where
      pub made : MakesCalls old (calls_for_each (test (state_of old)) call n) new
      pub rest : (k : ℕ) → n ≤ k → test (state_of new) k ≡ test (state_of old) k

    pub start_loop : (old : Pool S R w s r) → CallsBelow old 0 old
    start_loop old = record { made = makes_none; rest = λ _ _. refl }

    grown : (old mid new : Pool S R w s r) (n : ℕ) (b : Bool) → CallsBelow old n mid → test (state_of mid) n ≡ b → MakesCalls mid (cond b (call n ∷ []) []) new
        → MakesCalls old (calls_for_each (test (state_of old)) call (n + 1)) new
    grown old mid new n b below q m =
        subst (λ (calls : List Call). MakesCalls old calls new)
        (ap (λ (b : Bool). calls_for_each (test (state_of old)) call n ++ cond b (call n ∷ []) []) (sym q ∙ below.rest n (omega arith))
        ∙ sym (ap (calls_for_each (test (state_of old)) call) (add-one n)))
        (makes-++ (calls_for_each (test (state_of old)) call n) (cond b (call n ∷ []) []) below.made m)

    pub call_made : {old mid new now : Pool S R w s r} (n : ℕ) → LeavesOthers test call → CallsBelow old n mid → test (state_of mid) n ≡ true → {answer : Answer}
        → Performs mid (perform (rule_of mid) (call n)) answer new → LeavesStore mid (call n) answer new → now ≡ new → CallsBelow old (n + 1) now
    call_made {old} {mid} {new} n others below q p l e = subst (CallsBelow old (n + 1)) (sym e) record {
      made = grown old mid new n true below q (makes_one (call n) p l);
      rest = λ k i. ap (λ (m : PoolState). test m k) p.leaves ∙ others (rule_of mid) (state_of mid) n k (λ e. omega arith) ∙ below.rest k (omega arith);
    }

    pub call_passed : {old mid now : Pool S R w s r} (n : ℕ) → CallsBelow old n mid → test (state_of mid) n ≡ false → now ≡ mid → CallsBelow old (n + 1) now
    call_passed {old} {mid} n below q e =
        subst (CallsBelow old (n + 1)) (sym e) record { made = grown old mid mid n false below q makes_none; rest = λ k i. below.rest k (omega arith) }
