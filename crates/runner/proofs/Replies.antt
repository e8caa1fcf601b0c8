-- A call's contract, with its answer as a reply.
use Rattle.std.proofs.Common.{◌≡◌, Ok, Err, Result, refl, ap, ◌∙◌}
use Rattle.calls.specs.declared.answer.Reply.{Reply}
use Rattle.calls.specs.declared.fault.Fault.{Fault}
use Rattle.store.specs.declared.reading.ReadingStore as reading_store
use Rattle.store.specs.declared.writing.WritingStore as writing_store
use Rattle.rules.specs.declared.house.HouseRule as house_rule
use Rattle.pool.specs.declared.pool.Pool.{Pool}
use Rattle.pool.specs.Calls.{PoolState, Accepted, answer_of, state_after, replied}
use Rattle.pool.specs.Pools.{Performs, state_of}

abbrev as_reply : {T : Type 0} → (T → Reply) → Result T Fault → Result Reply Fault
as_reply reply (Ok answer) = Ok (reply answer)
as_reply reply (Err fault) = Err fault

pub replied_answer : {T : Type 0} (reply : T → Reply) (d : Result (Accepted T) Fault) → as_reply reply (answer_of d) ≡ answer_of (replied reply d)
replied_answer reply (Ok done) = refl
replied_answer reply (Err fault) = refl

pub replied_leaves : {T : Type 0} (reply : T → Reply) (d : Result (Accepted T) Fault) (s : PoolState) → state_after d s ≡ state_after (replied reply d) s
replied_leaves reply (Ok done) s = refl
replied_leaves reply (Err fault) s = refl

module _ {S R : Type 0} {w : writing_store.Ghosts S} {s : reading_store.Ghosts S} {r : house_rule.Ghosts R} {T : Type 0}
    {old new : Pool S R w s r} (does : PoolState → Result (Accepted T) Fault) (reply : T → Reply) where
  pub replied_ok : (x : T) → Performs old does (Ok x) new → Performs old (λ state. replied reply (does state)) (Ok (reply x)) new
  replied_ok x p = record {
    answers = ap (as_reply reply) p.answers ∙ replied_answer reply (does (state_of old));
    leaves = p.leaves ∙ replied_leaves reply (does (state_of old)) (state_of old);
    rule = p.rule;
    refused = tt;
  }

  pub replied_err : (fault : Fault) → Performs old does (Err fault) new → Performs old (λ state. replied reply (does state)) (Err fault) new
  replied_err fault p = record {
    answers = ap (as_reply reply) p.answers ∙ replied_answer reply (does (state_of old));
    leaves = p.leaves ∙ replied_leaves reply (does (state_of old)) (state_of old);
    rule = p.rule;
    refused = p.refused;
  }
