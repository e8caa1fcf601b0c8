use Rattle.std.proofs.Common.{subst, sym}
use Rattle.pool.specs.Tables.{IsSoundTable}
use Rattle.pool.proofs.TableLemmas.{fresh_sound}
use Rattle.pool.proofs.pool.Pool.new.Goals as goal

pub invariant_of-result-clause-few : goal.invariant_of-result-clause-few
invariant_of-result-clause-few g c = (g.met.S.ReadingStore.readable c.args.store).entries_most

pub invariant_of-result-clause-sound : goal.invariant_of-result-clause-sound
invariant_of-result-clause-sound g c = subst IsSoundTable (sym c.fresh.ensures) (fresh_sound 0)
