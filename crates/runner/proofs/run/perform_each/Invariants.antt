use Rattle.std.proofs.Common.{◌≡◌, ◌≤◌, length, take, vec_items, vec_len, vec_capacity}
use Rattle.runner.specs.Runs.{PerformsEach}
use Rattle.runner.proofs.run.perform_each.Given as goal

abbrev pub invariant-loop-call : goal.invariant-loop-call
invariant-loop-call g l =
    record {
      counted : vec_len l.answers ≡ l.call-index;
      room : length l.calls ≤ vec_capacity l.answers;
      performs : PerformsEach l.initial.pool (take l.call-index l.calls) (vec_items l.answers) l.pool;
    }
