use Rattle.std.proofs.Common.{◌≡◌, ◌+◌, ◌*◌, nat_lt, true, refl, sym, ap, ◌∙◌, arith}
use Rattle.screen.specs.Paints.{source_cell}
use Rattle.screen.specs.Rects.{is_inside}
use Rattle.screen.proofs.Rows.{one_row, all_rows, row_after, row_down, row_up, source_row}
use Rattle.screen.proofs.Runs.{laid, shift_part}
use Rattle.screen.proofs.paint.copy.Goals as goal
use Rattle.screen.proofs.paint.copy.Goals.{then-upwards, else-upwards}

pub loop-i-preserved : goal.loop-i-preserved
loop-i-preserved g c =
    let source = c.args.source in
    let part = c.cut-part.result in
    let up = nat_lt source.y part.y in
    let n = c.loop-i.i in
    let row : c.if-upwards.row ≡ row_after up part n =
    elim c.if-upwards.branch [ then-upwards w ↦ w.row-is ∙ sym (row_up source part n (omega arith)) | else-upwards w ↦ w.row-is ∙ sym (row_down source part n (omega arith)) ]
    in
    let inside : is_inside c.args.sides source ≡ true = cc in
    let before = c.args.cells.now in
    let mid = c.loop-i.cells in
    let from = c.run-from.result.start in
    let at = c.run-to.result.start in
    one_row c.args.sides up part n at _ (source_cell c.args.sides source c.args.to before) (laid mid from at) before mid _
    c.cut-part.ensures.inside c.loop-i-test.true
    (c.run-to.ensures.start ∙ ap (λ z. (part.y + z) * c.args.sides.width + part.x) row)
    (omega arith)
    (source_row c.args.sides source c.args.to part up n at from before mid inside c.cut-part.ensures refl c.loop-i-test.true
    (c.run-from.ensures.start ∙ ap (λ z. (source.y + z) * c.args.sides.width + source.x) row)
    c.loop-i.invariant)
    c.loop-i.invariant
    (shift_part from at _ mid _ c.copy_run.ensures.len c.copy_run.ensures.by_index)

pub returns-clause-cases : goal.returns-clause-cases
returns-clause-cases g c = all_rows _ _ _ _ _ _ _ _ c.cut-part.ensures (omega arith) c.loop-i.invariant
