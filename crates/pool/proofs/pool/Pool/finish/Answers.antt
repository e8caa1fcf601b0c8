use Rattle.std.proofs.Common.{◌≡◌, ◌<◌, ℕ, sym, ap, ◌∙◌, subst, rules}
use Rattle.pool.specs.declared.table.InnerTable.{InnerTable}
use Rattle.pool.specs.declared.table.Row.{Row}
use Rattle.pool.specs.Tables.{IsSoundTable, row_at, with_released_row}
use Rattle.pool.specs.Locks.{released_row}
use Rattle.pool.proofs.TableLemmas.{released_sound}
use Rattle.pool.proofs.PoolLemmas.{same_pool}
use Rattle.pool.proofs.pool.Pool.finish.Goals as goal

pub returns-in_err-publish-in-Commit-clause-finishes : goal.returns-in_err-publish-in-Commit-clause-finishes
returns-in_err-publish-in-Commit-clause-finishes g c =
    let given = c.in_err-publish-in-Commit.self-in-Break-branch-2-1-own.given in
    let same = same_pool c.args.self.now c.publish.new.self given.0 given.1.0 c.in_err-publish-in-Commit.ensures.refused in
    rw same (search rules)

pub returns-in_err-withdraw-in_default-clause-finishes : goal.returns-in_err-withdraw-in_default-clause-finishes
returns-in_err-withdraw-in_default-clause-finishes g c =
    let given = c.in_err-withdraw-in_default.self-in-Break-branch-3-1-own.given in
    let same = same_pool c.args.self.now c.withdraw.new.self given.0 given.1.0 c.in_err-withdraw-in_default.ensures.refused in
    rw same (search rules)

-- the table once the seat has let go of the entry
let_go_sound : {table new : InnerTable} (seat entry : ℕ) {old freed : Row} → IsSoundTable table → seat < 16 → entry < 64
    → old ≡ row_at table entry → freed ≡ released_row old seat → new ≡ with_released_row table seat entry freed → IsSoundTable new
let_go_sound {table} seat entry sound s e old_is freed_is new_is =
    subst IsSoundTable (sym (new_is ∙ ap (with_released_row table seat entry) (freed_is ∙ ap (λ r. released_row r seat) old_is)))
    (released_sound table seat entry sound s e)

pub invariant_of-self-clause-few : goal.invariant_of-self-clause-few
invariant_of-self-clause-few g c = c.args.self.now.few

pub invariant_of-self-clause-sound : goal.invariant_of-self-clause-sound
invariant_of-self-clause-sound g c =
    let_go_sound c.in_ok-seat.field-0-0.seat.number c.in_ok-seat.entry.number c.args.self.now.sound c.in_ok-seat.field-0-0.seat.small c.in_ok-seat.entry.small
    c.row-row.ensures c.released.ensures c.put_released_row.ensures

pub invariant_of-self-2-clause-few : goal.invariant_of-self-2-clause-few
invariant_of-self-2-clause-few g c = (g.met.S.ReadingStore.readable c.match-next.self.1.0).entries_most

pub invariant_of-self-2-clause-sound : goal.invariant_of-self-2-clause-sound
invariant_of-self-2-clause-sound g c =
    let_go_sound c.in_ok-seat.field-0-0.seat.number c.in_ok-seat.entry.number c.args.self.now.sound c.in_ok-seat.field-0-0.seat.small c.in_ok-seat.entry.small
    c.row-row.ensures c.released-2.ensures c.put_released_row-2.ensures
