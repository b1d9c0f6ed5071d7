-- Moved boxes.
use Rattle.std.specs.Prelude.{◌+◌, ◌-◌, min}
use Rattle.screen.specs.declared.corner.Corner.{Corner}
use Rattle.boxes.specs.declared.cell_box.CellBox.{CellBox}

-- a box moved by the distance from one corner to another
abbrev pub move_box : Corner → Corner → CellBox → CellBox
move_box from to b =
    record {
      left = b.left + to.x - from.x;
      top = b.top + to.y - from.y;
      right = b.right + to.x - from.x;
      bottom = b.bottom + to.y - from.y;
    }

-- the box of the cells that stay on the largest screen when moved by that distance; where none
-- does, it has no columns or no rows
abbrev pub staying : Corner → Corner → CellBox
staying from to =
    record {
      left = from.x - to.x;
      top = from.y - to.y;
      right = min 256 (256 + from.x - to.x);
      bottom = min 256 (256 + from.y - to.y);
    }
