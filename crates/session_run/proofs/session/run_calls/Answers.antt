use Rattle.std.proofs.Common.{rules, ◌≡◌, Ok, Err, length, ap, ◌∙◌, vec_items}
use Rattle.rules.specs.Limits.{limits_permit}
use Rattle.rules.specs.Settings.{entry_allows}
use Rattle.store.specs.Laying.{lay_out_answer, widest_sizes}
use Rattle.pool.specs.Pools.{state_of, rule_of}
use Rattle.session_run.specs.Sessions.{cells, allowed, start}
use Rattle.session_run.proofs.Runs.{answered, refused_by_store, refused_by_pool}
use Rattle.session_run.proofs.session.run_calls.Goals as goal

pub returns-in_err-lay_out-clause-refusal : goal.returns-in_err-lay_out-clause-refusal
returns-in_err-lay_out-clause-refusal c =
    let room : length (vec_items c.over-store.result.cells) ≡ 1024 = search rules in
    let answer : lay_out_answer widest_sizes cells c.args.sizes.entries c.args.sizes.depth ≡ Err c.in_err-lay_out.field-0.0 = search rules in
    refused_by_store c.from_residual-in_err-lay_out.result c.args.sizes c.in_err-lay_out.field-0.0 answer c.from_residual-in_err-lay_out.ensures.1

pub returns-in_err-answers-clause-refusal : goal.returns-in_err-answers-clause-refusal
returns-in_err-answers-clause-refusal c =
    let room : length (vec_items c.over-store.result.cells) ≡ 1024 = search rules in
    let laid : lay_out_answer widest_sizes cells c.args.sizes.entries c.args.sizes.depth ≡ Ok tt = search rules in
    let from_start : state_of c.new-pool.result ≡ start c.args.sizes = search rules in
    refused_by_pool c.from_residual-in_err-answers.result c.args.sizes _ c.in_err-answers.field-0.0 laid from_start c.in_err-answers.ensures.refused c.from_residual-in_err-answers.ensures.1

pub returns-clause-answers : goal.returns-clause-answers
returns-clause-answers c =
    let room : length (vec_items c.over-store.result.cells) ≡ 1024 = search rules in
    let laid : lay_out_answer widest_sizes cells c.args.sizes.entries c.args.sizes.depth ≡ Ok tt = search rules in
    let rule : rule_of c.new-pool.result ≡ allowed = ap (λ r. entry_allows limits_permit r.settings) c.new-pool.ensures.rule_is ∙ ap (entry_allows limits_permit) c.new.ensures in
    let from_start : state_of c.new-pool.result ≡ start c.args.sizes = search rules in
    rw (← c.in_ok-calls.ensures, ← c.deref.ensures.value) (answered c.args.sizes _ c.in_ok-answers.answers.items _ _ laid rule from_start c.in_ok-answers.ensures.runs c.in_ok-answers.ensures.alone)
