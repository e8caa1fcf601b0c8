-- What a pool answers to a call: a reply, or why it refuses.
use Rattle.std.specs.Prelude.{Result}
use Rattle.calls.specs.declared.answer.Reply.{Reply}
use Rattle.calls.specs.declared.fault.Fault.{Fault}

abbrev pub Answer : Type 0
Answer = Result Reply Fault
