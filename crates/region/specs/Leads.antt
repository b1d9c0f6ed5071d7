-- The first band of a list of boxes.
use Rattle.std.specs.Prelude.{ℕ, Bool, List, [], ◌∷◌, length, drop, take_while, ◌==◌}
use Rattle.boxes.specs.declared.cell_box.CellBox.{CellBox}

-- the box begins in row t
abbrev pub has_top : ℕ → CellBox → Bool
has_top t b = b.top == t

-- the first box, and those after it with its top
abbrev pub first_band : List CellBox → List CellBox
first_band [] = []
first_band (b ∷ bs) = b ∷ take_while (has_top b.top) bs

-- the boxes below the first band
abbrev pub below_band : List CellBox → List CellBox
below_band bs = drop (length (first_band bs)) bs
