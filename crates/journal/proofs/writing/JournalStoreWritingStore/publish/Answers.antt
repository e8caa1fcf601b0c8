use Rattle.std.proofs.Common.{arith, rules}
use Rattle.store.proofs.SlotMeans.{ready_counted}
use Rattle.journal.proofs.Writes.{place_room, count_short, after_room, after_blank, after_kept, after_counts, after_found, after_publishes, after_records, after_bytes}
use Rattle.journal.proofs.writing.JournalStoreWritingStore.publish.Goals as goal

pub overflow_mul-place : goal.overflow_mul-place
overflow_mul-place c = omega (arith, count_short c.args.self.now)

pub overflow_add-self : goal.overflow_add-self
overflow_add-self c = omega (arith, count_short c.args.self.now)

pub overflow_cast-self : goal.overflow_cast-self
overflow_cast-self c = omega (arith, count_short c.args.self.now)

pub put-requires : goal.put-requires
put-requires c = omega (arith, place_room c.args.self.now c.args.entry c.in_ok-version.version c.in_ok-version.ensures)

pub invariant_of-self-clause-room : goal.invariant_of-self-clause-room
invariant_of-self-clause-room c = after_room c.args.self.now c.args.entry c.in_ok-version.version c.in_ok-version.ensures c.publish.new.self (ready_counted c.args.self.now.slots c.args.entry c.in_ok-version.version c.in_ok-version.ensures c.publish.new.self c.publish.ensures.ready) c.put.new.bytes (cc)

pub invariant_of-self-clause-blank : goal.invariant_of-self-clause-blank
invariant_of-self-clause-blank c = after_blank c.args.self.now c.args.entry c.in_ok-version.version c.in_ok-version.ensures c.publish.new.self (ready_counted c.args.self.now.slots c.args.entry c.in_ok-version.version c.in_ok-version.ensures c.publish.new.self c.publish.ensures.ready) c.put.new.bytes (cc)

pub invariant_of-self-clause-kept : goal.invariant_of-self-clause-kept
invariant_of-self-clause-kept c = λ some. after_kept c.args.self.now c.args.entry c.in_ok-version.version c.in_ok-version.ensures c.publish.new.self (ready_counted c.args.self.now.slots c.args.entry c.in_ok-version.version c.in_ok-version.ensures c.publish.new.self c.publish.ensures.ready) c.put.new.bytes (cc)

pub invariant_of-self-clause-counts : goal.invariant_of-self-clause-counts
invariant_of-self-clause-counts c = after_counts c.args.self.now c.args.entry c.in_ok-version.version c.in_ok-version.ensures c.publish.new.self (ready_counted c.args.self.now.slots c.args.entry c.in_ok-version.version c.in_ok-version.ensures c.publish.new.self c.publish.ensures.ready) c.put.new.bytes (cc)

pub invariant_of-self-clause-found : goal.invariant_of-self-clause-found
invariant_of-self-clause-found c = after_found c.args.self.now c.args.entry c.in_ok-version.version c.in_ok-version.ensures c.publish.new.self (ready_counted c.args.self.now.slots c.args.entry c.in_ok-version.version c.in_ok-version.ensures c.publish.new.self c.publish.ensures.ready) c.put.new.bytes (cc) (search rules)

pub returns-clause-means : goal.returns-clause-means
returns-clause-means c = after_publishes c.args.self.now c.args.entry c.in_ok-version.version c.in_ok-version.ensures c.publish.new.self (ready_counted c.args.self.now.slots c.args.entry c.in_ok-version.version c.in_ok-version.ensures c.publish.new.self c.publish.ensures.ready) c.put.new.bytes (cc)

pub returns-clause-leaves : goal.returns-clause-leaves
returns-clause-leaves c = record {
  bytes = after_bytes c.args.self.now c.args.entry c.in_ok-version.version c.in_ok-version.ensures c.publish.new.self (ready_counted c.args.self.now.slots c.args.entry c.in_ok-version.version c.in_ok-version.ensures c.publish.new.self c.publish.ensures.ready) c.put.new.bytes (cc);
  records = after_records c.args.self.now c.args.entry c.in_ok-version.version c.in_ok-version.ensures c.publish.new.self (ready_counted c.args.self.now.slots c.args.entry c.in_ok-version.version c.in_ok-version.ensures c.publish.new.self c.publish.ensures.ready) c.put.new.bytes (cc);
}
