use Rattle.image.proofs.Refilled.{IsFilled}
use Rattle.image.proofs.reading.refill.Given as goal

-- the records before record k are in the journal
abbrev pub invariant-loop-k : goal.invariant-loop-k
invariant-loop-k l = IsFilled l.fn.journal l.entries l.depth l.image l.k l.journal
