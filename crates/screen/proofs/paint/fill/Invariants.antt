use Rattle.std.proofs.Common.{false}
use Rattle.screen.specs.Paints.{Shows, plain}
use Rattle.screen.proofs.Rows.{rows}
use Rattle.screen.proofs.paint.fill.Given as goal

abbrev pub invariant-loop-row : goal.invariant-loop-row
invariant-loop-row g l = Shows l.sides (rows false l.part l.row) (plain l.value) l.fn.cells l.cells
