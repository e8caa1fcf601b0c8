-- What a run of the calls on a pool says of a session.
use Rattle.std.proofs.Common.{◌≡◌, List, [], ◌∷◌, length, suc, Ok, Err, Result, inl, inr, refl, ap, subst}
use Rattle.std.specs.Prelude.{IfErr, IsErrAnd}
use Rattle.calls.specs.Answers.{Answer}
use Rattle.calls.specs.Failures.{IfRefused, IsToldAs}
use Rattle.calls.specs.declared.call.Call.{Call}
use Rattle.calls.specs.declared.failure.Failure.{Failure}
use Rattle.calls.specs.declared.failure.Failure.TheVariants.{Refused, NoMemory}
use Rattle.calls.specs.declared.fault.Fault.{Fault}
use Rattle.calls.specs.declared.fault.Fault.TheVariants.{Store}
use Rattle.store.specs.declared.reading.ReadingStore as reading_store
use Rattle.store.specs.declared.writing.WritingStore as writing_store
use Rattle.store.specs.declared.refusal.Refusal.{Refusal}
use Rattle.store.specs.Laying.{lay_out_answer, widest_sizes}
use Rattle.rules.specs.declared.house.HouseRule as house_rule
use Rattle.pool.specs.declared.pool.Pool.{Pool}
use Rattle.pool.specs.Calls.{PoolState, answer_of, open_pool}
use Rattle.pool.specs.Pools.{state_of, rule_of}
use Rattle.promise.specs.Histories.{history}
use Rattle.runner.specs.Runs.{Reached, IsAloneBetween, PerformsEach, Runs, RunsAlone}
use Rattle.session_lines.specs.declared.fault.Cause.{Cause}
use Rattle.session_lines.specs.declared.fault.Cause.TheVariants.{Pool as by_pool}
use Rattle.session_lines.specs.declared.sizes.Sizes.{Sizes}
use Rattle.session_run.specs.Sessions.{cells, allowed, start, AnswersTo, CannotStart}

module _ {S R : Type 0} {w : writing_store.Ghosts S} {s : reading_store.Ghosts S} {r : house_rule.Ghosts R} where
  -- each call has an answer
  each : (old : Pool S R w s r) (calls : List Call) (answers : List Answer) (new : Pool S R w s r) → PerformsEach old calls answers new → length answers ≡ length calls
  each old [] [] new h = refl
  each old [] (answer ∷ answers) new h = absurd h
  each old (call ∷ calls) [] new h = absurd h
  each old (call ∷ calls) (answer ∷ answers) new h = ap suc (each h.0 calls answers new h.3)

  -- where the calls were made
  pub answered : (sizes : Sizes) (calls : List Call) (answers : List Answer) (pool new : Pool S R w s r) → lay_out_answer widest_sizes cells sizes.entries sizes.depth ≡ Ok tt
      → rule_of pool ≡ allowed → state_of pool ≡ start sizes → Runs pool sizes.seats calls answers new → RunsAlone pool calls answers new → AnswersTo sizes calls answers
  answered sizes calls answers pool new laid same_rule same_start ran alone = record {
    laid_out = laid;
    each = each ran.opened calls answers new ran.performs;
    now = state_of new;
    reached = subst (λ st. Reached allowed st sizes.seats (history [] calls answers) (state_of new)) same_start
        (subst (λ rule. Reached rule (state_of pool) sizes.seats (history [] calls answers) (state_of new)) same_rule ran.reached);
    alone = subst (λ st. IsAloneBetween allowed st (history [] calls answers) (state_of new)) same_start
        (subst (λ rule. IsAloneBetween rule (state_of pool) (history [] calls answers) (state_of new)) same_rule alone);
  }

-- where the store refused
pub refused_by_store : {T : Type 0} (r : Result T (Failure Cause)) (sizes : Sizes) (refusal : Refusal) → lay_out_answer widest_sizes cells sizes.entries sizes.depth ≡ Err refusal
    → IsErrAnd r (IsToldAs (λ fault cause. cause ≡ by_pool fault) (Refused (Store refusal))) → IfErr r (IfRefused (CannotStart sizes))
refused_by_store (Ok x) sizes refusal answer h = tt
refused_by_store (Err (Refused cause)) sizes refusal answer h = inl (refusal, answer, h)
refused_by_store (Err NoMemory) sizes refusal answer h = tt

-- where the pool could not be opened, or there was no memory
pub refused_by_pool : {T : Type 0} (r : Result T (Failure Cause)) (sizes : Sizes) (state : PoolState) (failure : Failure Fault)
    → lay_out_answer widest_sizes cells sizes.entries sizes.depth ≡ Ok tt → state ≡ start sizes → IfRefused (λ fault. answer_of (open_pool state sizes.seats) ≡ Err fault) failure
    → IsErrAnd r (IsToldAs (λ fault cause. cause ≡ by_pool fault) failure) → IfErr r (IfRefused (CannotStart sizes))
refused_by_pool (Ok x) sizes state failure laid same_start opening h = tt
refused_by_pool (Err (Refused cause)) sizes state (Refused fault) laid same_start opening h =
    inr (fault, laid, subst (λ m. answer_of (open_pool m sizes.seats) ≡ Err fault) same_start opening, h)
refused_by_pool (Err (Refused cause)) sizes state NoMemory laid same_start opening h = absurd h
refused_by_pool (Err NoMemory) sizes state failure laid same_start opening h = tt
