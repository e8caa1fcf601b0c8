use Rattle.std.proofs.Common.{◌<◌, ◌^◌, take}
use Rattle.words.specs.Numbers.{Digits}
use Rattle.words.proofs.number.digits.Given as goal

-- the digits so far have been read
abbrev pub invariant-loop-at : goal.invariant-loop-at
invariant-loop-at l = record {
  read : Digits (take l.at l.word) l.number;
  small : l.number < 10 ^ l.at;
}
