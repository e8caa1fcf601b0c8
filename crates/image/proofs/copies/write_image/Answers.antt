use Rattle.std.proofs.Common.{◌/◌, length, ap, ◌∙◌, arith}
use Rattle.record.specs.Numbers.{record_size}
use Rattle.record.specs.Journals.{records_bytes, bytes_with}
use Rattle.journal.specs.Stores.{records_of}
use Rattle.image.proofs.Copied.{front_short, too_short, tells_length, copied}
use Rattle.image.proofs.copies.write_image.Goals as goal

pub returns-then-out-len-clause-answer : goal.returns-then-out-len-clause-answer
returns-then-out-len-clause-answer c =
    too_short c.args.journal.now c.args.out.now (omega (arith, c.entries-entries.ensures, c.if-entries-eq0.false)) (omega (arith, ap length c.records-records.ensures, c.entries-entries.ensures))

pub overflow_cast-trailer : goal.overflow_cast-trailer
overflow_cast-trailer c = omega (arith, ap length c.records-records.ensures, front_short c.args.journal.now)

pub overflow_cast-trailer-2 : goal.overflow_cast-trailer-2
overflow_cast-trailer-2 c = omega (arith, ap length c.records-records.ensures, front_short c.args.journal.now)

pub returns-clause-answer : goal.returns-clause-answer
returns-clause-answer c =
    tells_length c.args.journal.now c.args.out.now _ (omega (arith, c.entries-entries.ensures, c.if-entries-eq0.false)) (omega (arith, ap length c.records-records.ensures, c.entries-entries.ensures)) (omega arith)

pub returns-clause-bytes : goal.returns-clause-bytes
returns-clause-bytes c =
    c.put-2.ensures
    ∙ (λ i. bytes_with (c.put.ensures i) (length (c.records-records.ensures i)) c.write_tail.new.out)
    ∙ ap (λ front. bytes_with (bytes_with c.args.out.now 0 front) (length (records_bytes (records_of c.args.journal.now))) c.write_tail.new.out) c.records-records.ensures
    ∙ copied c.args.journal.now c.lasts_of.result c.lasts_of.ensures c.args.out.now c.write_tail.new.out _ _ _ _ (ap length c.records-records.ensures) (ap (λ bs. length bs / record_size) c.records-records.ensures) c.entries-entries.ensures c.depth.ensures c.write_tail.ensures
