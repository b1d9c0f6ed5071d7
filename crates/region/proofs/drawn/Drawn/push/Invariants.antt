use Rattle.std.proofs.Common.{◌≡◌, ◌++◌, length, take}
use Rattle.boxes.specs.Bands.{boxes_of}
use Rattle.region.specs.Listed.{listed}
use Rattle.region.specs.Rows.{spans}
use Rattle.region.proofs.drawn.Drawn.push.Given as goal

abbrev pub invariant-loop-run : goal.invariant-loop-run
invariant-loop-run l =
    record {
      start : l.self.start ≡ length (listed l.fn.self.boxes);
      boxes : listed l.self.boxes ≡ listed l.fn.self.boxes ++ boxes_of l.top l.bottom (spans (take l.run-index l.runs));
    }
