use Rattle.std.proofs.Common.{◌≡◌, true}
use Rattle.std.proofs.lemmas.List.Elements.{All-replicate}
use Rattle.rules.proofs.entry_rule.EntryRule.new.Goals as goal

pub invariant_of-result : goal.invariant_of-result
invariant_of-result g c = let widest = g.met.T.Setting.widest_stands in record { standing = All-replicate (λ v. g.T.Setting.stands v ≡ true) 64 _ (cc) }
