use Rattle.std.proofs.Common.{◌≡◌, ℕ, ◌<◌, Some, get_or, length}
use Rattle.record.specs.Journals.{last_place}
use Rattle.journal.specs.Stores.{records_of}
use Rattle.image.proofs.copies.lasts_of.Given as goal

-- the places of the entries before e are noted
abbrev pub invariant-loop-e : goal.invariant-loop-e
invariant-loop-e l = record {
  long : length l.lasts ≡ 64;
  places : (i : ℕ) → i < l.e → last_place (records_of l.journal) i ≡ Some (get_or l.lasts i 0);
}
