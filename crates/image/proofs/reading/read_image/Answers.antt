use Rattle.std.proofs.Common.{sym}
use Rattle.record.specs.Journals.{records}
use Rattle.image.specs.Copies.{ReadsRecords}
use Rattle.image.proofs.ReadBack.{read_back}
use Rattle.image.proofs.Copied.{found_on_ok}
use Rattle.image.proofs.Refilled.{of_each, found_image}
use Rattle.image.proofs.reading.read_image.Goals as goal

pub returns-clause-image : goal.returns-clause-image
returns-clause-image c =
    let image = c.args.image.now in
    let t = c.in_ok-contents.contents in
    of_each image t.entries t.depth (records image t.count) (λ m d rs. ReadsRecords c.args.journal.now m d rs c.refill.result c.refill.new.journal)
    (found_image image c.contents_of.result t c.contents_of.ensures.some (sym c.in_ok-contents.ensures.ok_part)) c.refill.ensures.reads

pub returns-clause-back : goal.returns-clause-back
returns-clause-back c =
    read_back c.args.journal.now c.args.image.now c.refill.result c.refill.new.journal (returns-clause-image c)

pub returns-clause-found : goal.returns-clause-found
returns-clause-found c =
    let image = c.args.image.now in
    let t = c.in_ok-contents.contents in
    found_on_ok c.refill.result (t.entries, t.depth, records image t.count, found_image image c.contents_of.result t c.contents_of.ensures.some (sym c.in_ok-contents.ensures.ok_part))
