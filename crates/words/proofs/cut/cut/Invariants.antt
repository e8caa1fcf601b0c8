use Rattle.std.proofs.Common.{take}
use Rattle.words.specs.Words.{Without}
use Rattle.words.proofs.cut.cut.Given as goal

-- the byte has not come yet
abbrev pub invariant-loop-at : goal.invariant-loop-at
invariant-loop-at l = Without l.sought (take l.at l.text)
