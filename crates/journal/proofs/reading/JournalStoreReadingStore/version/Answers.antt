use Rattle.std.proofs.Common.{◌≡◌, ℕ, ◌*◌, ◌<◌, ◌≤◌, length, Some, sym, ap, ◌∙◌, arith}
use Rattle.std.proofs.lemmas.Option.{slice_get_past}
use Rattle.record.specs.declared.record.Record.{Record}
use Rattle.record.specs.Numbers.{record_size}
use Rattle.record.specs.Bytes.{record_read}
use Rattle.record.specs.Journals.{chain_in, records, record_at}
use Rattle.journal.specs.declared.JournalStore.{JournalStore}
use Rattle.journal.specs.Stores.{bytes_of}
use Rattle.journal.proofs.Writes.{count_short}
use Rattle.journal.proofs.Versions.{read_is, counts_it, passes_it, found_it}
use Rattle.journal.proofs.reading.JournalStoreReadingStore.version.Goals as goal
use Rattle.journal.proofs.reading.JournalStoreReadingStore.version.Goals.{then-from-entry+else-before-i, else-from-entry}

pub overflow_mul-k : goal.overflow_mul-k
overflow_mul-k c = omega (arith, count_short c.args.self.now)

-- a record that is read is the one at its place
read_one : (s : JournalStore) (k : ℕ) (r : Record) → k < s.count → Some r ≡ record_read (bytes_of s) (record_size * k) → r ≡ record_at (bytes_of s) k
read_one s k r below is =
    let there = read_is s k below in
    cc

pub returns-in_err-record : goal.returns-in_err-record
returns-in_err-record c =
    let there = read_is c.args.self.now c.loop-k.k (omega arith) in
    let was = c.in_err-record.was in
    let at = c.deref.ensures.value in
    let read = c.read.ensures in
    absurd (cc)

pub returns-then-before-i : goal.returns-then-before-i
returns-then-before-i c =
    let s = c.args.self.now in
    let r = c.in_ok-record.record in
    let is = read_one s c.loop-k.k r (omega arith) (sym c.in_ok-record.was ∙ c.read.ensures ∙ ap (λ bs. record_read bs (record_size * c.loop-k.k)) c.deref.ensures.value) in
    found_it s c.loop-k.k c.args.entry c.args.i r (sym c.if-before-i.true ∙ c.loop-k.invariant.before) is (omega arith) (sym c.from.ensures ∙ c.if-from-entry.true)

pub loop-k-preserved : goal.loop-k-preserved
loop-k-preserved c =
    let s = c.args.self.now in
    let r = c.in_ok-record.record in
    let is : r ≡ record_at (bytes_of s) c.loop-k.k = read_one s c.loop-k.k r (omega arith) (sym c.in_ok-record.was ∙ c.read.ensures ∙ ap (λ bs. record_read bs (record_size * c.loop-k.k)) c.deref.ensures.value) in
    elim c.if-from-entry.branch [
      | then-from-entry+else-before-i w ↦ record {
        before = w.before-is ∙ counts_it s c.loop-k.k c.args.entry c.loop-k.before r c.loop-k.invariant.before is (sym c.from.ensures ∙ w.if-from-entry.true);
        few = omega (arith, w.before-is, w.if-before-i.false, c.loop-k.invariant.few);
      }
      | else-from-entry w ↦ record {
        before = w.before-is ∙ passes_it s c.loop-k.k c.args.entry c.loop-k.before r c.loop-k.invariant.before is (λ same. w.if-from-entry.false (c.from.ensures ∙ same));
        few = omega (arith, w.before-is, c.loop-k.invariant.few);
      }
    ]

pub returns : goal.returns
returns c =
    let s = c.args.self.now in
    let last : c.loop-k.k ≡ s.count = omega arith in
    let long : length (chain_in (records (bytes_of s) s.count) c.args.entry) ≤ c.args.i = omega (arith, c.loop-k.invariant.before, c.loop-k.invariant.few, ap (λ n. length (chain_in (records (bytes_of s) n) c.args.entry)) last) in
    sym (slice_get_past (chain_in (records (bytes_of s) s.count) c.args.entry) c.args.i long)
