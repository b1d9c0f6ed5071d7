use Rattle.std.proofs.Common.{false}
use Rattle.screen.specs.Paints.{Shows, block_cell}
use Rattle.screen.proofs.Rows.{rows}
use Rattle.screen.proofs.paint.put.Given as goal

abbrev pub invariant-loop-row : goal.invariant-loop-row
invariant-loop-row g l = Shows l.sides (rows false l.part l.row) (block_cell l.fn.rect l.block) l.fn.cells l.cells
