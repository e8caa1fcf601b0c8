use Rattle.std.proofs.Common.{sym, arith}
use Rattle.record.proofs.Written.{records_spelled}
use Rattle.journal.proofs.layout.front.Goals as goal

pub returns : goal.returns
returns c = sym (records_spelled c.args.bytes.now c.args.count (λ i. omega (arith, c.type_inv.bytes i)) c.requires.room)
