use Rattle.std.proofs.Common.{◌≡◌, Ok, Err, Result, subst, ap, ◌∙◌, add-one}
use Rattle.std.specs.Prelude.{is_ok, OnOk, OnErr, MatchBool}
use Rattle.store.specs.Steps.{withdraw_answer, withdraw_after}
use Rattle.pool.proofs.pool.withdraw_all.Goals as goal

by_result : {T E : Type 0} (P Q : Type 0) (r : Result T E) → OnOk r P → OnErr r Q → MatchBool (is_ok r) P Q
by_result P Q (Ok x) p q = p
by_result P Q (Err x) p q = q

pub loop-e-preserved : goal.loop-e-preserved
loop-e-preserved g c =
    let old = c.loop-e.store in
    let withdraws = c.withdraw.ensures in
    record {
      means = rw (add-one c.loop-e.e) (withdraws.means.leaves ∙ ap (λ m. withdraw_after m c.loop-e.e) c.loop-e.invariant.means);
      memory = rw (add-one c.loop-e.e) (
        old,
        c.loop-e.invariant.memory,
        subst (λ r. MatchBool (is_ok r) (g.S.WritingStore.withdraw_leaves old c.loop-e.e c.withdraw.new.self) (c.withdraw.new.self ≡ old))
            (withdraws.means.answer ∙ ap (λ m. withdraw_answer m c.loop-e.e) c.loop-e.invariant.means)
            (by_result _ _ c.withdraw.result withdraws.leaves withdraws.refused),
      );
    }
