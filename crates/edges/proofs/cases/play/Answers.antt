use Rattle.std.proofs.Common.{vec_items}
use Rattle.std.proofs.lemmas.Result.{IfOk-weaker}
use Rattle.edges.proofs.Steps.{played}
use Rattle.edges.proofs.cases.play.Goals as goal

pub returns-clause-answers : goal.returns-clause-answers
returns-clause-answers c =
    IfOk-weaker c.run.result _ _
    (λ answers. played c.args.edge c.in_ok-pool.pool c.run.new.pool c.calls.result.now (vec_items answers)
    c.in_ok-pool.ensures.means c.in_ok-pool.ensures.rule c.calls.ensures)
    c.run.ensures.runs
