use Rattle.std.proofs.Common.{rules, arith, ◌≡◌, [], length, append-nil}
use Rattle.session_lines.specs.Calls.{CallLine}
use Rattle.session_file.specs.Files.{BeginsWith, first_call_line}
use Rattle.session_file.proofs.OneMore.{one_more, one_later, one_shorter, empty}
use Rattle.session_file.proofs.session.read_calls.Goals as goal

pub loop-rest-preserved : goal.loop-rest-preserved
loop-rest-preserved c =
    let scale = c.args.timescale in
    let call = c.in_ok-call.call in
    let after = c.in_ok-call.after.now in
    let begins : BeginsWith (CallLine c.args.timescale) c.in_ok-call.call c.in_ok-call.after.now c.loop-rest.rest.now = rw c.in_ok-call.ensures at c.call_part.ensures in
    record {
      derived = rw c.in_ok-push.ensures.items (one_more scale first_call_line c.loop-rest.line c.loop-rest.calls.items call after c.loop-rest.rest.now c.args.text.now begins c.loop-rest.invariant.derived);
      faulty = λ fault h. c.loop-rest.invariant.faulty fault (one_later scale c.loop-rest.line call after c.loop-rest.rest.now fault begins h);
      few = omega (arith, one_shorter (CallLine c.args.timescale) c.in_ok-call.call c.in_ok-call.after.now c.loop-rest.rest.now begins, c.loop-rest.invariant.few);
    }

pub returns-clause-read : goal.returns-clause-read
returns-clause-read c =
    let no_bytes : length c.loop-rest.rest.now ≡ 0 = search rules in
    let none : c.loop-rest.rest.now ≡ [] = empty c.loop-rest.rest.now no_bytes in
    rw append-nil at (c.loop-rest.invariant.derived [] none)
