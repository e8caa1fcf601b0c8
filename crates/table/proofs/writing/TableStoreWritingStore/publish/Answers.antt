use Rattle.std.proofs.Common.{◌+◌, ◌*◌, ◌≡◌, ◌∙◌, arith, ap, get_or, set, length-set}
use Rattle.store.specs.Meaning.{opening}
use Rattle.store.specs.Slots.{len_at}
use Rattle.store.proofs.SlotMeans.{ready_counted}
use Rattle.table.specs.Stores.{cells_of}
use Rattle.table.proofs.Writes.{next_inside, first_kept, publishes}
use Rattle.table.proofs.writing.TableStoreWritingStore.publish.Goals as goal

pub index_mut-requires : goal.index_mut-requires
index_mut-requires c =
    let s = c.args.self.now in
    let within = next_inside s c.args.entry c.in_ok-version.version c.in_ok-version.ensures in
    omega (arith, within, c.len.ensures, s.cells.ok.0)

pub invariant_of-self-2-clause-room : goal.invariant_of-self-2-clause-room
invariant_of-self-2-clause-room c =
    let s = c.args.self.now in
    let e = ready_counted s.slots c.args.entry c.in_ok-version.version c.in_ok-version.ensures c.publish.new.self c.publish.ensures.ready in
    let same : c.publish.new.self.entries * c.publish.new.self.depth ≡ s.slots.entries * s.slots.depth = λ i. e.same_entries i * e.same_depth i in
    omega (arith, same, length-set (cells_of s) (c.args.entry * s.slots.depth + c.len.result) c.in_ok-version.version, s.room)

pub invariant_of-self-2-clause-first : goal.invariant_of-self-2-clause-first
invariant_of-self-2-clause-first c =
    let s = c.args.self.now in
    let e = ready_counted s.slots c.args.entry c.in_ok-version.version c.in_ok-version.ensures c.publish.new.self c.publish.ensures.ready in
    λ k there.
    rw c.len.ensures (
    ap (λ d. get_or (set (cells_of s) (c.args.entry * s.slots.depth + len_at s.slots c.args.entry) c.in_ok-version.version) (k * d) opening) e.same_depth
    ∙ first_kept s c.args.entry c.in_ok-version.version c.in_ok-version.ensures k (omega (arith, e.same_entries)))

pub returns-clause-means : goal.returns-clause-means
returns-clause-means c =
    let s = c.args.self.now in
    rw c.len.ensures (publishes s c.args.entry c.in_ok-version.version c.in_ok-version.ensures c.publish.new.self
    (ready_counted s.slots c.args.entry c.in_ok-version.version c.in_ok-version.ensures c.publish.new.self c.publish.ensures.ready))
