use Rattle.std.proofs.Common.{rules, tests, ◌≡◌}
use Rattle.std.proofs.lemmas.Iterator.{YieldsList-from_slice, first_from_find}
use Rattle.std.proofs.lemmas.Iterator.Consumers.{YieldsList-from_copied}
use Rattle.calls.specs.Names.{name_text}
use Rattle.calls.proofs.Names.{names, named}
use Rattle.calls.proofs.call.CallName.of_word.Goals as goal

pub returns : goal.returns
returns c =
    named c.args.word.now c.find.result
    (first_from_find {v = λ n. n} _ _ c.find.result (λ n. name_text n ≡ c.args.word.now) (λ n. name_text n ≡ c.args.word.now → ⊥) c.find.ensures.ran
    (YieldsList-from_copied (YieldsList-from_slice names cc)) (λ x q k. search (rules, tests)) (λ x q k. search (rules, tests)))
