use Rattle.region.proofs.Edges.{map_all, map_more}
use Rattle.region.proofs.few.methods.change_all.Goals as goal

pub loop-b-preserved : goal.loop-b-preserved
loop-b-preserved g c =
    λ f gives. map_more f c.args.boxes.now c.loop-b.boxes c.loop-b.b-index c.change.result c.loop-b-test.true c.loop-b.auto.boxes
    (c.loop-b.invariant f gives) (gives _ _ c.change.ensures)

pub returns : goal.returns
returns g c = λ f gives. map_all f c.args.boxes.now c.loop-b.boxes c.loop-b.b-index c.loop-b-test.false (c.loop-b.invariant f gives)
