use Rattle.std.proofs.Common.{Some}
use Rattle.store.proofs.SlotMeans.{stage_means}
use Rattle.table.specs.Stores.{chain_at}
use Rattle.table.specs.Laws.{chain_length}
use Rattle.table.proofs.Writes.{chains_kept}
use Rattle.table.proofs.writing.TableStoreWritingStore.stage.Goals as goal

pub returns-clause-means : goal.returns-clause-means
returns-clause-means c =
    let s = c.args.self.now in
    let e = c.stage.ensures in
    let kept = chains_kept s c.stage.new.self c.args.entry (Some c.args.version) c.stage.result e.leaves e.refused in
    stage_means s.slots c.stage.new.self c.args.entry (chain_at s) _ (chain_length s) kept c.stage.result c.args.version e.answer e.leaves e.refused
