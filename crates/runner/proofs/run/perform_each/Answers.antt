use Rattle.std.proofs.Common.{◌+◌, ◌<◌, ◌≤◌, List, length, take, vec_items, subst, arith}
use Rattle.std.proofs.lemmas.List.{take_more, take_all}
use Rattle.calls.specs.declared.call.Call.{Call}
use Rattle.runner.specs.Runs.{PerformsEach}
use Rattle.runner.proofs.Lists.{performs_next}
use Rattle.runner.proofs.run.perform_each.Goals as goal

pub loop-call-preserved : goal.loop-call-preserved
loop-call-preserved g c =
    let inv = c.loop-call.invariant in
    let calls = c.args.calls.now in
    let i = c.loop-call.call-index in
    let inside : i < length calls = c.loop-call-test.true in
    record {
      counted = omega (arith, inv.counted, c.push_reserved.ensures.len);
      room = omega (arith, inv.room, c.push_reserved.ensures.capacity);
      performs = performs_next c.args.pool.now c.loop-call.pool c.perform.new.pool (take i calls) (take (i + 1) calls) (vec_items c.loop-call.answers) (vec_items c.push_reserved.new.self) _ c.perform.result
          (take_more calls i _ inside) c.push_reserved.ensures.items inv.performs c.perform.ensures.performs c.perform.ensures.memory;
    }

pub returns : goal.returns
returns g c =
    let end : length c.args.calls.now ≤ c.loop-call.call-index = c.loop-call-test.false in
    subst (λ (cs : List Call). PerformsEach c.args.pool.now cs (vec_items c.loop-call.answers) c.loop-call.pool)
    (take_all c.loop-call.call-index c.args.calls.now end) c.loop-call.invariant.performs
