use Rattle.std.proofs.Common.{◌≡◌}
use Rattle.store.specs.Meaning.{meaning_of}
use Rattle.pool.specs.Withdrawals.{withdrawn, WithdrawsBelow}
use Rattle.pool.proofs.pool.withdraw_all.Given as goal

abbrev pub invariant-loop-e : goal.invariant-loop-e
invariant-loop-e g l =
    let means = meaning_of g.S.ReadingStore.reading g.S.WritingStore.staged in
    record {
      means : means l.store ≡ withdrawn (means l.initial.store) l.e;
      memory : WithdrawsBelow g.S.ReadingStore.reading g.S.WritingStore.staged g.S.WritingStore.withdraw_leaves l.initial.store l.e l.store;
    }
