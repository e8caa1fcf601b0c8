use Rattle.std.proofs.Common.{subst, sym}
use Rattle.pool.specs.Tables.{IsSoundTable}
use Rattle.pool.proofs.TableLemmas.{fresh_sound}
use Rattle.pool.proofs.pool.Pool.open.Goals as goal

pub invariant_of-self-clause-few : goal.invariant_of-self-clause-few
invariant_of-self-clause-few g c = (g.met.S.ReadingStore.readable c.withdraw_all.new.store).entries_most

pub invariant_of-self-clause-sound : goal.invariant_of-self-clause-sound
invariant_of-self-clause-sound g c = subst IsSoundTable (sym c.fresh-self.ensures) (fresh_sound c.args.seats)
