-- From an opened pool the invariant holds, and it gives the promise.
use Rattle.std.proofs.Common.{◌≡◌, ℕ, ◌+◌, ◌<◌, false, List, [], ◌∷◌, None, sym, refl, ap, ◌∙◌, append-nil, arith}
use Rattle.calls.specs.declared.state.State.TheVariants.{Idle}
use Rattle.promise.specs.Histories.{Operation, Event, events_of}
use Rattle.promise.specs.OneByOne.{Chains, edits_by_decision, locks_released, count_below}
use Rattle.promise.specs.Promise.{Rule, EachReadAgrees, AsIfAlone}
use Rattle.promise.proofs.Sames.{count_ext, count_none}
use Rattle.promise.proofs.Views.{View, ReadsStand, Inv, holds}

-- views that agree at each seat below 16 and each entry
pub record Alike (w v : View) : Type 0 where
  pub state : (s : ℕ) → s < 16 → w.state s ≡ v.state s
  pub serial : (s : ℕ) → s < 16 → w.serial s ≡ v.serial s
  pub writer : (e : ℕ) → w.writer e ≡ v.writer e
  pub reads : (e s : ℕ) → s < 16 → w.reads e s ≡ v.reads e s
  pub voted : (e s : ℕ) → s < 16 → w.voted e s ≡ v.voted e s
  pub against : (e s : ℕ) → s < 16 → w.against e s ≡ v.against e s
  pub staged : (e : ℕ) → w.staged e ≡ v.staged e
  pub chains : (e : ℕ) → w.chains e ≡ v.chains e

pub alike : (allows : Rule) (o : Chains) (w v : View) (h : List Operation) → Alike w v → Inv allows o v h → Inv allows o w h
alike allows o w v h a i =
    record {
      agree = λ s e l.
          rw (a.state s l, a.serial s l, a.writer e, a.reads e s l, a.voted e s l, a.against e s l, a.staged e, a.chains e) (i.agree s e l);
      ahead = i.ahead;
      reads = i.reads;
      allowed = i.allowed;
      locks = λ e. i.locks e ∙ ap (λ (n : ℕ). locks_released e (events_of h) + n) (count_ext (holds v e) (holds w e) 16 (λ s l. rw (a.writer e, a.reads e s l)));
      time = i.time;
    }

-- a pool just opened: every seat idle with serial 0, and no locks and no votes
pub record Fresh (o : Chains) (v : View) : Type 0 where
  pub state : (s : ℕ) → s < 16 → v.state s ≡ Idle
  pub serial : (s : ℕ) → s < 16 → v.serial s ≡ 0
  pub writer : (e : ℕ) → v.writer e ≡ None
  pub reads : (e s : ℕ) → s < 16 → v.reads e s ≡ false
  pub voted : (e s : ℕ) → s < 16 → v.voted e s ≡ false
  pub chains : (e : ℕ) → v.chains e ≡ o e

pub fresh : (allows : Rule) (o : Chains) (v : View) → Fresh o v → Inv allows o v []
fresh allows o v a =
    record {
      agree = λ s e l. rw (a.state s l, a.serial s l, a.writer e, a.reads e s l, a.voted e s l, a.chains e) (grind (arith, append-nil));
      ahead = λ s n l. refl;
      reads = tt;
      allowed = λ e. tt;
      locks = λ e. let z : count_below (holds v e) 16 ≡ 0 = count_none (holds v e) 16 (λ s l. rw (a.writer e, a.reads e s l)) in omega arith;
      time = record { closed = λ c d q. grind arith; before = λ c d m q. grind arith };
    }

reads_of : (o : Chains) (h : List Event) (operations : List Operation) → ReadsStand o h operations → EachReadAgrees o h (edits_by_decision h) operations
reads_of o h [] k = tt
reads_of o h (x ∷ past) k = ((λ s e q a. (k.0 s e q a).1), reads_of o h past k.1)

pub promise : (allows : Rule) (o : Chains) (v : View) (h : List Operation) → Inv allows o v h → AsIfAlone allows o v.chains (holds v) h
promise allows o v h i =
    record {
      reads = reads_of o (events_of h) h i.reads;
      chains = λ e. sym (i.agree 0 e (omega arith)).joined;
      allowed = i.allowed;
      locks = i.locks;
      real_time = λ c d _ m q. i.time.before c d m q;
    }
