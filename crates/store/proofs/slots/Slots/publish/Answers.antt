use Rattle.std.proofs.Common.{◌≡◌, ◌<◌, true, is_some, arith, rules}
use Rattle.std.proofs.lemmas.Grind.{common_steps}
use Rattle.store.specs.Slots.{staged_at}
use Rattle.store.proofs.SlotLemmas.{set_sound, grown_sound}
use Rattle.store.proofs.slots.Slots.publish.Goals as goal

pub invariant_of-self-clause-sound : goal.invariant_of-self-clause-sound
invariant_of-self-clause-sound c =
    let s = c.args.self.now in
    let inside : c.args.entry < s.entries = grind (arith, common_steps) in
    let staged : is_some (staged_at s c.args.entry) ≡ true = grind (arith, common_steps) in
    set_sound s.depth s.reach s.entries s.slots c.args.entry _ (search rules) inside s.sound (grown_sound s c.args.entry inside staged)
