use Rattle.std.proofs.Common.{arith}
use Rattle.region.proofs.Holding.{adds_full, adds_grown, adds_over, adds_pushed}
use Rattle.region.specs.Rows.{spans}
use Rattle.region.proofs.work.Work.put.Goals as goal

pub returns-in_default-clause-adds : goal.returns-in_default-clause-adds
returns-in_default-clause-adds c = adds_over c.args.top c.args.bottom (spans c.args.runs.now) c.args.self.now c.in_default.is

pub returns-then-goes_on-clause-adds : goal.returns-then-goes_on-clause-adds
returns-then-goes_on-clause-adds c =
    adds_grown c.args.top c.args.bottom c.args.self.now c.in-Some.drawn c.in-Some.is c.args.runs.now c.grow.new.self c.requires c.if-goes_on.ensures c.grow.ensures

pub returns-then-runs-room-clause-adds : goal.returns-then-runs-room-clause-adds
returns-then-runs-room-clause-adds c =
    adds_pushed c.args.top c.args.bottom c.args.self.now c.in-Some.drawn c.in-Some.is c.args.runs.now c.push.new.self c.requires c.if-goes_on.ensures c.push.ensures

pub returns-else-runs-room-clause-adds : goal.returns-else-runs-room-clause-adds
returns-else-runs-room-clause-adds c =
    adds_full c.args.top c.args.bottom c.args.self.now c.in-Some.drawn c.in-Some.is c.args.runs.now c.requires c.if-goes_on.ensures (omega (arith, c.room.ensures))
