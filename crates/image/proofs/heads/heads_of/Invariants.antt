use Rattle.std.proofs.Common.{◌≡◌, length}
use Rattle.record.specs.Journals.{records, Journaled}
use Rattle.image.specs.Heads.{HeadsAre}
use Rattle.image.proofs.heads.heads_of.Given as goal

-- the records before record k are a journal's, with these heads
abbrev pub invariant-loop-k : goal.invariant-loop-k
invariant-loop-k l = record {
  kept : Journaled l.entries l.depth (records l.bytes l.k);
  lens_long : length l.heads.lens ≡ 64;
  lasts_long : length l.heads.lasts ≡ 64;
  heads : HeadsAre (records l.bytes l.k) l.heads.lens l.heads.lasts l.entries;
}
