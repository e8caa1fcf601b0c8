use Rattle.std.proofs.Common.{ap, ◌∙◌}
use Rattle.store.specs.Meaning.{WritingMeaning}
use Rattle.store.specs.Steps.{stage_answer}
use Rattle.edges.proofs.cases.stage_first.Goals as goal

pub returns : goal.returns
returns c =
    c.stage.ensures.means.answer
    ∙ ap (λ (table : WritingMeaning). stage_answer table 0 c.args.version) c.in_ok-new_table.ensures
