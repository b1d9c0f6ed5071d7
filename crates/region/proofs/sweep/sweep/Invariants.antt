use Rattle.std.proofs.Common.{◌-◌, ◌≤◌}
use Rattle.region.specs.Places.{remaining}
use Rattle.region.specs.Sets.{kept}
use Rattle.region.specs.Sweeps.{Painting}
use Rattle.region.proofs.Strips.{At}
use Rattle.region.proofs.sweep.sweep.Given as goal

abbrev pub invariant-loop-y : goal.invariant-loop-y
invariant-loop-y l =
    record {
      y : l.y ≤ 256;
      first : At l.first (remaining l.p) l.y;
      second : At l.second (remaining l.q) l.y;
      drawn : Painting (kept l.operation l.first l.second) l.y l.work;
    }

abbrev pub decreases-loop-y : goal.decreases-loop-y
decreases-loop-y l = 256 - l.y
