use Rattle.std.proofs.Common.{◌≡◌, ◌++◌, map, take, drop}
use Rattle.boxes.specs.declared.cell_box.CellBox.{CellBox}
use Rattle.region.specs.Listed.{Gives}
use Rattle.region.proofs.few.methods.change_all.Given as goal

abbrev pub invariant-loop-b : goal.invariant-loop-b
invariant-loop-b g l =
    (f : CellBox → CellBox) → Gives (goal.F-post g l.change) f → l.boxes ≡ map f (take l.b-index l.initial.boxes) ++ drop l.b-index l.initial.boxes
