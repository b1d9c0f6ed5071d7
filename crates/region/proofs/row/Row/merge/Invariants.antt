use Rattle.std.proofs.Common.{◌-◌, ◌≤◌}
use Rattle.boxes.specs.Strips.{Drawn}
use Rattle.region.specs.Rows.{runs_of}
use Rattle.region.proofs.Runs.{Along, kept_row}
use Rattle.region.proofs.row.Row.merge.Given as goal

abbrev pub invariant-loop-first : goal.invariant-loop-first
invariant-loop-first l =
    record {
      x : l.x ≤ 256;
      first : Along l.fn.first l.first l.x;
      second : Along l.fn.second l.second l.x;
      drawn : Drawn (kept_row l.operation l.fn.first l.fn.second) l.x (runs_of l.self);
    }

abbrev pub decreases-loop-first : goal.decreases-loop-first
decreases-loop-first l = 256 - l.x
