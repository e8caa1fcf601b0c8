use Rattle.std.proofs.Common.{◌≡◌, ℕ, Ok, Err, subst, sym, ◌∙◌, arith}
use Rattle.std.proofs.lemmas.Result.{err_from_is_err_and}
use Rattle.store.specs.Steps.{StageMeans, PublishMeans}
use Rattle.record.specs.Journals.{records, record_at}
use Rattle.journal.specs.Stores.{journal_writing, AddsRecord}
use Rattle.image.proofs.Passes.{MayCome}
use Rattle.image.proofs.Refilled.{IsFilled, lay_refused, lay_filled, all_filled, fit, first_are, not_fewer, few_records, read_there, added_is, it_may, stage_is, staged_means, publish_is, filled_more}
use Rattle.image.proofs.reading.refill.Goals as goal

pub returns-in_err-lay_out : goal.returns-in_err-lay_out
returns-in_err-lay_out c =
    let t = c.args.contents in
    let p = err_from_is_err_and c.from_residual.result c.from_residual.ensures.1 in
    let e = c.in_err-lay_out.ensures in
    rw (p.1, p.2) (record {
      reads = lay_refused c.args.journal.now c.lay_out.new.self t.entries t.depth (records c.args.image.now t.count) _ (fit c.args.image.now t.entries t.depth t.count c.requires) e.answer e.refused;
      refused = e.refused;
    })

pub loop-k-init : goal.loop-k-init
loop-k-init c =
    let t = c.args.contents in
    let e = c.in_ok-lay_out.ensures in
    lay_filled c.args.journal.now c.lay_out.new.self t.entries t.depth c.args.image.now (first_are c.args.image.now t.entries t.depth t.count c.requires) e.means e.leaves

pub overflow_mul-k : goal.overflow_mul-k
overflow_mul-k c = omega (arith, few_records c.args.image.now c.args.contents.entries c.args.contents.depth c.args.contents.count c.requires)

pub returns-in_err-added : goal.returns-in_err-added
returns-in_err-added c =
    let t = c.args.contents in
    let there = read_there c.args.image.now t.entries t.depth t.count c.requires c.loop-k.k (omega arith) in
    let read = c.read.ensures in
    let none = c.in_err-added.ensures.ok_part in
    absurd (cc)

pub returns-in_err-stage : goal.returns-in_err-stage
returns-in_err-stage c =
    let t = c.args.contents in
    let image = c.args.image.now in
    let k = c.loop-k.k in
    let r = c.in_ok-added.added in
    let before = c.args.journal.now in
    let start = c.loop-k.journal in
    let next = c.stage.new.self in
    let same : r ≡ record_at image k = added_is image t.entries t.depth t.count c.requires k r (omega arith) (sym c.in_ok-added.ensures.ok_part ∙ c.read.ensures) in
    let come : MayCome t.entries t.depth (records image k) r = it_may image t.entries t.depth t.count c.requires k r (omega arith) (omega arith) same in
    let h = subst (λ (e : ℕ). StageMeans (journal_writing start) e r.version (Err c.in_err-stage.field-0.0) (journal_writing next)) c.from-entry.ensures c.in_err-stage.ensures.means in
    let fine = stage_is before start next next t.entries t.depth image k c.loop-k.invariant r same come _ h in
    absurd (cc)

pub returns-in_err-publish : goal.returns-in_err-publish
returns-in_err-publish c =
    let t = c.args.contents in
    let image = c.args.image.now in
    let k = c.loop-k.k in
    let r = c.in_ok-added.added in
    let before = c.args.journal.now in
    let start = c.loop-k.journal in
    let next = c.stage.new.self in
    let same : r ≡ record_at image k = added_is image t.entries t.depth t.count c.requires k r (omega arith) (sym c.in_ok-added.ensures.ok_part ∙ c.read.ensures) in
    let come : MayCome t.entries t.depth (records image k) r = it_may image t.entries t.depth t.count c.requires k r (omega arith) (omega arith) same in
    let now = c.publish.new.self in
    let h = subst (λ (e : ℕ). StageMeans (journal_writing start) e r.version (Ok tt) (journal_writing next)) c.from-entry.ensures c.in_ok-stage.ensures.means in
    let staged = staged_means before start next now t.entries t.depth image k c.loop-k.invariant r same come h in
    let g = subst (λ (e : ℕ). PublishMeans (journal_writing next) e (Err c.in_err-publish.field-0.0) (journal_writing now)) c.from-entry.ensures c.in_err-publish.ensures.means in
    let fine = publish_is before start next now t.entries t.depth image k c.loop-k.invariant r same come staged _ g in
    absurd (cc)

pub loop-k-preserved : goal.loop-k-preserved
loop-k-preserved c =
    let t = c.args.contents in
    let image = c.args.image.now in
    let k = c.loop-k.k in
    let r = c.in_ok-added.added in
    let before = c.args.journal.now in
    let start = c.loop-k.journal in
    let next = c.stage.new.self in
    let same : r ≡ record_at image k = added_is image t.entries t.depth t.count c.requires k r (omega arith) (sym c.in_ok-added.ensures.ok_part ∙ c.read.ensures) in
    let come : MayCome t.entries t.depth (records image k) r = it_may image t.entries t.depth t.count c.requires k r (omega arith) (omega arith) same in
    let now = c.publish.new.self in
    let h = subst (λ (e : ℕ). StageMeans (journal_writing start) e r.version (Ok tt) (journal_writing next)) c.from-entry.ensures c.in_ok-stage.ensures.means in
    let staged = staged_means before start next now t.entries t.depth image k c.loop-k.invariant r same come h in
    let p = c.in_ok-publish.ensures in
    let g = subst (λ (e : ℕ). PublishMeans (journal_writing next) e (Ok tt) (journal_writing now)) c.from-entry.ensures p.means in
    filled_more before start next now t.entries t.depth image k c.loop-k.invariant r same come staged c.in_ok-stage.ensures.leaves g
    (subst (λ (e : ℕ). AddsRecord next e now) c.from-entry.ensures p.leaves)

pub returns-clause-reads : goal.returns-clause-reads
returns-clause-reads c =
    let t = c.args.contents in
    let image = c.args.image.now in
    let is = c.requires in
    let last : c.loop-k.k ≡ t.count = omega (arith, not_fewer image t.entries t.depth t.count is) in
    all_filled c.args.journal.now c.loop-k.journal t.entries t.depth image t.count (fit image t.entries t.depth t.count is) c.in_ok-lay_out.ensures.answer
    (subst (λ (k : ℕ). IsFilled c.args.journal.now t.entries t.depth image k c.loop-k.journal) last c.loop-k.invariant)
