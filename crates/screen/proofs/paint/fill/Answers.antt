use Rattle.std.proofs.Common.{false, rules, refl, arith}
use Rattle.screen.specs.Paints.{plain}
use Rattle.screen.proofs.Rows.{one_row, all_rows}
use Rattle.screen.proofs.Runs.{always, fill_part}
use Rattle.screen.proofs.paint.fill.Goals as goal

pub loop-row-preserved : goal.loop-row-preserved
loop-row-preserved g c =
    let value = c.args.value in
    one_row c.args.sides false c.cut-part.result c.loop-row.row c.run.result.start _ (plain value) (always value) _ _ _
    c.cut-part.ensures.inside c.loop-row-test.true c.run.ensures.start (omega arith)
    (λ i d l. refl)
    c.loop-row.invariant
    (fill_part _ _ _ _ _ value _ _ (grind arith) c.fill_with.ensures.len c.fill_with.ensures.ran.1 (λ x next step. search rules))

pub returns-clause-cases : goal.returns-clause-cases
returns-clause-cases g c = all_rows _ false _ _ _ _ _ _ c.cut-part.ensures (omega arith) c.loop-row.invariant
