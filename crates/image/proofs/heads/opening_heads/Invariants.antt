use Rattle.std.proofs.Common.{◌≡◌, ℕ, ◌*◌, ◌<◌, get_or, length}
use Rattle.record.specs.Numbers.{record_size}
use Rattle.record.specs.Journals.{records, opening_records}
use Rattle.image.proofs.heads.opening_heads.Given as goal

-- the records before record e are opening ones, and their places are noted
abbrev pub invariant-loop-e : goal.invariant-loop-e
invariant-loop-e l = record {
  opening_ones : records l.bytes l.e ≡ opening_records l.e;
  long : length l.lasts ≡ 64;
  places : (i : ℕ) → i < l.e → get_or l.lasts i 0 ≡ record_size * i;
}
