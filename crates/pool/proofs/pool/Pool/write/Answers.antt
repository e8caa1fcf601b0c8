use Rattle.std.proofs.Common.{sym, ap, ◌∙◌, subst, rules}
use Rattle.pool.specs.Tables.{IsSoundTable}
use Rattle.pool.specs.Locks.{claimed_row}
use Rattle.pool.proofs.TableLemmas.{claimed_sound}
use Rattle.pool.proofs.PoolLemmas.{same_pool}
use Rattle.pool.proofs.pool.Pool.write.Goals as goal

pub returns-in_err-stage-clause-writes : goal.returns-in_err-stage-clause-writes
returns-in_err-stage-clause-writes g c = let same = same_pool c.args.self.now c.stage.new.self c.in_err-stage.self-1-own.given.0 c.in_err-stage.self-1-own.given.1.0 c.in_err-stage.ensures.refused in rw same (search rules)

pub invariant_of-self-2-clause-few : goal.invariant_of-self-2-clause-few
invariant_of-self-2-clause-few g c = (g.met.S.ReadingStore.readable c.stage.new.self).entries_most

pub invariant_of-self-2-clause-sound : goal.invariant_of-self-2-clause-sound
invariant_of-self-2-clause-sound g c =
    let seat = c.in_ok-seat.field-0-0.seat in
    let entry = c.in_ok-seat.entry in
    subst IsSoundTable (sym c.put_held_row.ensures)
    (claimed_sound c.args.self.now.table seat.number entry.number c.args.self.now.sound seat.small entry.small c.in_ok-row.row
    (ap (λ r. claimed_row r seat.number) (sym c.row.ensures) ∙ sym c.in_ok-row.ensures))
