use Rattle.std.proofs.Common.{false, arith}
use Rattle.screen.specs.Paints.{block_cell}
use Rattle.screen.proofs.Rows.{one_row, all_rows, block_row}
use Rattle.screen.proofs.Runs.{laid, lay_part}
use Rattle.screen.proofs.paint.put.Goals as goal

pub loop-row-preserved : goal.loop-row-preserved
loop-row-preserved g c =
    let part = c.cut-part.result in
    let rect = c.args.rect in
    let block = c.args.block.now in
    let row = c.loop-row.row in
    let from = c.run-from.result.start in
    let at = c.run-to.result.start in
    one_row c.args.sides false part row at _ (block_cell rect block) (laid block from at) _ _ _
    c.cut-part.ensures.inside c.loop-row-test.true c.run-to.ensures.start (omega arith)
    (block_row c.args.sides rect part row at from block c.cut-part.ensures c.loop-row-test.true (omega arith))
    c.loop-row.invariant
    (lay_part _ _ _ _ _ _ _ (grind arith) (omega arith) (omega arith) c.copy_from_slice.ensures.after)

pub returns-clause-cases : goal.returns-clause-cases
returns-clause-cases g c = all_rows _ false _ _ _ _ _ _ c.cut-part.ensures (omega arith) c.loop-row.invariant
