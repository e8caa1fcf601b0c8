use Rattle.std.proofs.Common.{sym, ap, ◌∙◌, subst}
use Rattle.pool.specs.Tables.{IsSoundTable}
use Rattle.pool.specs.Locks.{shared_row}
use Rattle.pool.proofs.TableLemmas.{shared_sound}
use Rattle.pool.proofs.pool.Pool.read.Goals as goal

pub invariant_of-self-clause-few : goal.invariant_of-self-clause-few
invariant_of-self-clause-few g c = c.args.self.now.few

pub invariant_of-self-clause-sound : goal.invariant_of-self-clause-sound
invariant_of-self-clause-sound g c =
    let seat = c.in_ok-seat.field-0-0.seat in
    let entry = c.in_ok-seat.entry in
    subst IsSoundTable (sym c.put_held_row.ensures)
    (shared_sound c.args.self.now.table seat.number entry.number c.args.self.now.sound seat.small entry.small c.in_ok-row.row
    (ap (λ r. shared_row r seat.number) (sym c.row.ensures) ∙ sym c.in_ok-row.ensures))
