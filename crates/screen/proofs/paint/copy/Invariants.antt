use Rattle.screen.specs.Paints.{Shows, source_cell}
use Rattle.screen.proofs.Rows.{rows}
use Rattle.screen.proofs.paint.copy.Given as goal

abbrev pub invariant-loop-i : goal.invariant-loop-i
invariant-loop-i g l = Shows l.sides (rows l.upwards l.part l.i) (source_cell l.sides l.source l.fn.to l.fn.cells) l.fn.cells l.cells
