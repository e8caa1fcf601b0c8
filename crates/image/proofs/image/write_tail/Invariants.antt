use Rattle.std.proofs.Common.{◌≡◌}
use Rattle.record.specs.Journals.{bytes_with}
use Rattle.image.specs.Heads.{numbers_bytes}
use Rattle.image.proofs.image.write_tail.Given as goal

-- the places of the entries before e are written
abbrev pub invariant-loop-e : goal.invariant-loop-e
invariant-loop-e l = l.out ≡ bytes_with l.initial.out 0 (numbers_bytes l.lasts l.e)
