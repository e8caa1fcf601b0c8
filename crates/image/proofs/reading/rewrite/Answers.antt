use Rattle.std.proofs.Common.{sym, arith}
use Rattle.std.proofs.lemmas.Result.{err_from_is_err_and}
use Rattle.record.specs.Journals.{records}
use Rattle.image.specs.Copies.{RewritesRecords}
use Rattle.image.proofs.Refilled.{of_each, found_image}
use Rattle.image.proofs.Rewritten.{not_read, read_and_written}
use Rattle.image.proofs.reading.rewrite.Goals as goal

pub returns-in_err-refill-clause-image : goal.returns-in_err-refill-clause-image
returns-in_err-refill-clause-image c =
    let image = c.args.image.now in
    let t = c.in_ok-has.has in
    let p = err_from_is_err_and c.from_residual-in_err-refill.result c.from_residual-in_err-refill.ensures.1 in
    let mine = found_image image c.contents_of.result t c.contents_of.ensures.some (sym c.in_ok-has.ensures.ok_part) in
    of_each image t.entries t.depth (records image t.count) (λ m d rs. RewritesRecords c.args.journal.now m d rs image c.args.out.now c.from_residual-in_err-refill.result c.refill.new.journal c.args.out.now)
    mine
    (rw (p.1, p.2) (not_read c.args.journal.now c.refill.new.journal t.entries t.depth (records image t.count) image c.args.out.now _ c.in_err-refill.ensures.reads))

pub returns-clause-image : goal.returns-clause-image
returns-clause-image c =
    let image = c.args.image.now in
    let t = c.in_ok-has.has in
    let mine = found_image image c.contents_of.result t c.contents_of.ensures.some (sym c.in_ok-has.ensures.ok_part) in
    of_each image t.entries t.depth (records image t.count) (λ m d rs. RewritesRecords c.args.journal.now m d rs image c.args.out.now c.write_image.result c.refill.new.journal c.write_image.new.out)
    mine
    (read_and_written c.args.journal.now c.refill.new.journal t.entries t.depth (records image t.count) image c.args.out.now c.write_image.new.out c.write_image.result mine (omega arith) c.in_ok-refill.ensures.reads c.write_image.ensures.answer c.write_image.ensures.bytes)
