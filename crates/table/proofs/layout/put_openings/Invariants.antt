use Rattle.std.proofs.Common.{◌≡◌}
use Rattle.table.specs.Cells.{cells_laid_out}
use Rattle.table.proofs.layout.put_openings.Given as goal

abbrev pub invariant-loop-e : goal.invariant-loop-e
invariant-loop-e l = l.cells ≡ cells_laid_out l.initial.cells l.e l.depth
