-- Areas.
use Rattle.std.specs.Prelude.{ℕ, ◌+◌, ◌-◌, ◌*◌, List, [], ◌∷◌}
use Rattle.boxes.specs.declared.cell_box.CellBox.{CellBox}

-- the number of cells of boxes that share none
abbrev pub area : List CellBox → ℕ
area [] = 0
area (b ∷ bs) = (b.right - b.left) * (b.bottom - b.top) + area bs
