use Rattle.std.proofs.Common.{length, ap, arith}
use Rattle.journal.proofs.Writes.{count_short, count_room}
use Rattle.journal.proofs.JournalStore.records.Goals as goal

pub front-requires-clause-few : goal.front-requires-clause-few
front-requires-clause-few c = count_short c.args.self.now

pub front-requires-clause-room : goal.front-requires-clause-room
front-requires-clause-room c = omega (arith, count_room c.args.self.now, ap length c.deref.ensures.value)
