use Rattle.std.proofs.Common.{◌≡◌, ◌++◌, drop, map}
use Rattle.session_run.specs.Sessions.{call_of}
use Rattle.session_run.proofs.session.plain_calls.Given as goal

-- the calls so far, with those that are left, are all
abbrev pub invariant-loop-call : goal.invariant-loop-call
invariant-loop-call l = l.alone.items ++ map call_of (drop l.call-index l.calls) ≡ map call_of l.calls
