use Rattle.std.proofs.Common.{◌<◌, arith, rules}
use Rattle.std.proofs.lemmas.Grind.{common_steps}
use Rattle.store.proofs.SlotLemmas.{set_sound, emptied_sound}
use Rattle.store.proofs.slots.Slots.withdraw.Goals as goal

pub invariant_of-self-clause-sound : goal.invariant_of-self-clause-sound
invariant_of-self-clause-sound c =
    let s = c.args.self.now in
    let inside : c.args.entry < s.entries = grind (arith, common_steps) in
    set_sound s.depth s.reach s.entries s.slots c.args.entry _ (search rules) inside s.sound (emptied_sound s c.args.entry inside)
