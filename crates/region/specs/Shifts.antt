-- How a region is shifted.
use Rattle.std.specs.Prelude.{◌+◌, ◌-◌, min, Bool, ◌&&◌, nat_lt}
use Rattle.screen.specs.declared.corner.Corner.{Corner}
use Rattle.boxes.specs.declared.cell_box.CellBox.{CellBox}

-- the box has a cell
abbrev pub has_cells : CellBox → Bool
has_cells b = nat_lt b.left b.right && nat_lt b.top b.bottom

-- a box moved by the distance from one corner to another, held on the largest screen
abbrev pub move_onto : Corner → Corner → CellBox → CellBox
move_onto from to b =
    record {
      left = min 256 (b.left + to.x - from.x);
      top = min 256 (b.top + to.y - from.y);
      right = min 256 (b.right + to.x - from.x);
      bottom = min 256 (b.bottom + to.y - from.y);
    }
