use Rattle.std.proofs.Common.{◌+◌, ◌≤◌, List, ◌++◌, length}
use Rattle.session_lines.specs.declared.fault.SessionFault.{SessionFault}
use Rattle.session_file.specs.Files.{CallLines, FaultOfCalls, first_call_line}
use Rattle.session_file.specs.declared.session.LineCall.{LineCall}
use Rattle.session_file.proofs.session.read_calls.Given as goal

-- what the rest derives completes the calls so far; where the rest is at fault, so is the text; each line took a byte at least
abbrev pub invariant-loop-rest : goal.invariant-loop-rest
invariant-loop-rest l = record {
  derived : (more : List LineCall) → CallLines l.timescale l.line more l.rest → CallLines l.timescale first_call_line (l.calls.items ++ more) l.text;
  faulty : (fault : SessionFault) → FaultOfCalls l.timescale l.line l.rest fault → FaultOfCalls l.timescale first_call_line l.text fault;
  few : l.line + length l.rest ≤ first_call_line + length l.text;
}

abbrev pub decreases-loop-rest : goal.decreases-loop-rest
decreases-loop-rest l = length l.rest
