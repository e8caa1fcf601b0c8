-- How what became of an edit is printed.
use Rattle.std.specs.Prelude.{ℕ, List, codes}
use Rattle.tickets.specs.declared.outcome.Outcome.{Outcome}
use Rattle.tickets.specs.declared.outcome.Outcome.TheVariants.{Commit, Abort, Gone}

abbrev pub outcome_text : Outcome → List ℕ
outcome_text Commit = codes "commit"
outcome_text Abort = codes "abort"
outcome_text Gone = codes "gone"
