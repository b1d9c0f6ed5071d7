use Rattle.std.proofs.Common.{◌∙◌, arith}
use Rattle.region.specs.Listed.{listed}
use Rattle.region.proofs.Edges.{push_all, push_length, push_more}
use Rattle.region.proofs.drawn.Drawn.push.Goals as goal

pub push-requires : goal.push-requires
push-requires c =
    let l = c.loop-run in (
      omega arith,
      omega (arith, push_length (listed c.args.self.now.boxes) (listed l.self.boxes) l.run-index c.args.top c.args.bottom c.args.runs.now l.auto.run-index-end l.invariant.boxes),
    )

pub loop-run-preserved : goal.loop-run-preserved
loop-run-preserved c =
    let l = c.loop-run in
    record {
      start = l.invariant.start;
      boxes = c.push.ensures
          ∙ push_more (listed c.args.self.now.boxes) (listed l.self.boxes) l.run-index c.args.top c.args.bottom c.args.runs.now c.loop-run-test.true l.invariant.boxes;
    }

pub returns : goal.returns
returns c =
    let l = c.loop-run in
    record {
      start = l.invariant.start;
      boxes = push_all (listed c.args.self.now.boxes) (listed l.self.boxes) l.run-index c.args.top c.args.bottom c.args.runs.now c.loop-run-test.false l.invariant.boxes;
    }
