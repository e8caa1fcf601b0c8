-- Calls made one after another: one more at the end, and what they lead to.
use Rattle.std.proofs.Common.{◌≡◌, ℕ, List, [], ◌∷◌, ◌++◌, length, true, Ok, Err, Result, sym, refl, ap, ◌∙◌, subst, arith}
use Rattle.std.specs.Prelude.{is_ok}
use Rattle.calls.specs.Answers.{Answer}
use Rattle.calls.specs.declared.fault.Fault.{Fault}
use Rattle.calls.specs.declared.call.Call.{Call}
use Rattle.store.specs.declared.reading.ReadingStore as reading_store
use Rattle.store.specs.declared.writing.WritingStore as writing_store
use Rattle.rules.specs.declared.house.HouseRule as house_rule
use Rattle.pool.specs.declared.pool.Pool.{Pool}
use Rattle.pool.specs.Calls.{Rule, PoolState, Accepted, answer_of, open_pool, perform}
use Rattle.pool.specs.Pools.{Performs, LeavesStore, state_of, rule_of}
use Rattle.promise.specs.Histories.{Operation, history}
use Rattle.runner.specs.Runs.{Reached, opened, PerformsEach}
use Rattle.promise.proofs.Sames.{no}
use Rattle.runner.proofs.Stays.{reaches}

module _ {S R : Type 0} {w : writing_store.Ghosts S} {s : reading_store.Ghosts S} {r : house_rule.Ghosts R} where
  -- one more call
  performs_more : (old mid new : Pool S R w s r) (calls : List Call) (answers : List Answer) (call : Call) (answer : Answer) → PerformsEach old calls answers mid
      → Performs mid (perform (rule_of mid) call) answer new → LeavesStore mid call answer new → PerformsEach old (calls ++ call ∷ []) (answers ++ answer ∷ []) new
  performs_more old mid new [] [] call answer e p l =
      (new, subst (λ (x : Pool S R w s r). Performs x (perform (rule_of x) call) answer new) e p, subst (λ (x : Pool S R w s r). LeavesStore x call answer new) e l, refl)
  performs_more old mid new [] (b ∷ answers) call answer e p l = absurd e
  performs_more old mid new (c ∷ calls) [] call answer e p l = absurd e
  performs_more old mid new (c ∷ calls) (b ∷ answers) call answer e p l = (e.0, e.1, e.2, performs_more e.0 mid new calls answers call answer e.3 p l)

  -- the same of lists that have one more at the end
  pub performs_next : (old mid new : Pool S R w s r) (done calls : List Call) (before answers : List Answer) (call : Call) (answer : Answer)
      → calls ≡ done ++ call ∷ [] → answers ≡ before ++ answer ∷ [] → PerformsEach old done before mid
      → Performs mid (perform (rule_of mid) call) answer new → LeavesStore mid call answer new → PerformsEach old calls answers new
  performs_next old mid new done calls before answers call answer c a e p l = rw (c, a) (performs_more old mid new done before call answer e p l)

  -- there is an answer to each call
  pub each_answered : (old new : Pool S R w s r) (calls : List Call) (answers : List Answer) → PerformsEach old calls answers new → length answers ≡ length calls
  each_answered old new [] [] e = refl
  each_answered old new [] (b ∷ answers) e = absurd e
  each_answered old new (c ∷ calls) [] e = absurd e
  each_answered old new (c ∷ calls) (b ∷ answers) e = let i : length answers ≡ length calls = each_answered e.0 new calls answers e.3 in omega arith

  -- the house rule stays, the very one and so its meaning
  pub each_same_rule : (old new : Pool S R w s r) (calls : List Call) (answers : List Answer)
      → PerformsEach old calls answers new → new.rule ≡ old.rule
  each_same_rule old new [] [] e = ap (λ (x : Pool S R w s r). x.rule) e
  each_same_rule old new [] (b ∷ answers) e = absurd e
  each_same_rule old new (c ∷ calls) [] e = absurd e
  each_same_rule old new (c ∷ calls) (b ∷ answers) e =
      each_same_rule e.0 new calls answers e.3 ∙ e.1.rule

  pub each_rule : (old new : Pool S R w s r) (calls : List Call) (answers : List Answer) → PerformsEach old calls answers new → rule_of new ≡ rule_of old
  each_rule old new calls answers e = ap r.allowed (each_same_rule old new calls answers e)

  -- what led to the first pool leads on to the last
  pub each_reached : (old new : Pool S R w s r) (calls : List Call) (answers : List Answer) → PerformsEach old calls answers new
      → (allows : Rule) (initial : PoolState) (seats : ℕ) (past : List Operation) → rule_of old ≡ allows → Reached allows initial seats past (state_of old)
      → Reached allows initial seats (history past calls answers) (state_of new)
  each_reached old new [] [] e allows initial seats past q k = subst (λ (x : Pool S R w s r). Reached allows initial seats past (state_of x)) (sym e) k
  each_reached old new [] (b ∷ answers) e allows initial seats past q k = absurd e
  each_reached old new (c ∷ calls) [] e allows initial seats past q k = absurd e
  each_reached old new (c ∷ calls) (b ∷ answers) e allows initial seats past q k =
      each_reached e.0 new calls answers e.3 allows initial seats (record { call = c; answer = b } ∷ past) (ap r.allowed e.1.rule ∙ q)
      (subst (λ (f : Rule). Reached f initial seats (record { call = c; answer = b } ∷ past) (state_of e.0)) q
      (reaches c e.1 initial seats past (subst (λ (f : Rule). Reached f initial seats past (state_of old)) (sym q) k)))

  -- an opening that is accepted
  pub opens_reached : (old new : Pool S R w s r) (seats : ℕ) → Performs old (λ state. open_pool state seats) (Ok tt) new
      → Reached (rule_of old) (state_of old) seats [] (state_of new)
  opens_reached old new seats p =
      subst (λ (t : PoolState). Reached (rule_of old) (state_of old) seats [] t) (sym p.leaves) (opened (accepted_opening (open_pool (state_of old) seats) p.answers))
    where
      accepted_opening : (d : Result (Accepted (Unit {0})) Fault) → Ok tt ≡ answer_of d → is_ok d ≡ true
      accepted_opening (Ok done) q = refl
      accepted_opening (Err fault) q = no (cc)
