use Rattle.std.proofs.Common.{refl}
use Rattle.store.proofs.SlotMeans.{stage_means}
use Rattle.journal.specs.Stores.{chain_at}
use Rattle.journal.proofs.writing.JournalStoreWritingStore.stage.Goals as goal

pub returns-clause-means : goal.returns-clause-means
returns-clause-means c =
    let s = c.args.self.now in
    let e = c.stage.ensures in
    stage_means s.slots c.stage.new.self c.args.entry (chain_at s) _ s.counts refl c.stage.result c.args.version e.answer e.leaves e.refused
