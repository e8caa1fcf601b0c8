use Rattle.std.proofs.Common.{◌≡◌, ◌≤◌, length, vec_items}
use Rattle.record.specs.Journals.{chain_in, records}
use Rattle.journal.proofs.reading.JournalStoreReadingStore.version.Given as goal

-- so many of the records before record k are of the entry, and they are not more than i
abbrev pub invariant-loop-k : goal.invariant-loop-k
invariant-loop-k l = record {
  before : l.before ≡ length (chain_in (records (vec_items l.self.bytes) l.k) l.entry);
  few : l.before ≤ l.i;
}
