use Rattle.std.proofs.Common.{rules, string_bytes, ap, ◌∙◌}
use Rattle.std.proofs.lemmas.Option.{slice_get-get_or}
use Rattle.store.specs.Meaning.{opening}
use Rattle.store.proofs.Lines.{next_line}
use Rattle.store.proofs.text.chain_text.Goals as goal
use Rattle.store.proofs.text.chain_text.Goals.{in-Some+in_ok-writeln, in_default}

pub loop-i-preserved : goal.loop-i-preserved
loop-i-preserved g c = elim c.match-version.branch [
  | in-Some+in_ok-writeln w ↦ next_line _ _ _ _ _ c.loop-i.invariant (search rules) (ap string_bytes w.text-is ∙ w.in_ok-writeln.ensures.bytes)
  | in_default w ↦ search (rules, slice_get-get_or ((g.S.ReadingStore.reading c.args.store.now).chains c.args.entry) c.loop-i.i opening)
]
