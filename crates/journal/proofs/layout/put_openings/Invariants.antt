use Rattle.std.proofs.Common.{◌≡◌}
use Rattle.journal.specs.LaidOut.{bytes_laid_out, lasts_laid_out}
use Rattle.journal.proofs.layout.put_openings.Given as goal

-- the opening records of the entries before e are written, and their places
abbrev pub invariant-loop-e : goal.invariant-loop-e
invariant-loop-e l = record { bytes : l.bytes ≡ bytes_laid_out l.initial.bytes l.e; lasts : l.lasts ≡ lasts_laid_out l.e }
