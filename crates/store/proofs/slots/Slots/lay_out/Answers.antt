use Rattle.std.proofs.Common.{refl, ◌≤◌, arith}
use Rattle.std.proofs.lemmas.Grind.{common_steps}
use Rattle.store.specs.Numbers.{least_depth}
use Rattle.store.proofs.SlotLemmas.{opened_sound, are_laid_out}
use Rattle.store.proofs.slots.Slots.lay_out.Goals as goal

pub invariant_of-self-clause-sound : goal.invariant_of-self-clause-sound
invariant_of-self-clause-sound c =
    let deep : least_depth ≤ c.args.depth = grind (arith, common_steps) in
    opened_sound c.args.depth c.args.self.now.reach c.args.entries (omega arith) deep

pub returns-clause-leaves : goal.returns-clause-leaves
returns-clause-leaves c = are_laid_out _ refl
