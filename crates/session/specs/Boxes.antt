-- The boxes of a region in the console's words.
use Rattle.std.specs.Prelude.{ℕ, ◌-◌, List, ◌++◌, length, codes}
use Rattle.std.specs.List.{flat_map}
use Rattle.boxes.specs.declared.cell_box.CellBox.{CellBox}
use Rattle.notation.specs.Decimal.{decimal}

-- its corner, its width and its height, behind a space
abbrev pub box_words : CellBox → List ℕ
box_words b =
    codes " " ++ (decimal b.left ++ (codes "," ++ (decimal b.top ++ (codes "," ++ (decimal (b.right - b.left) ++ (codes "," ++ decimal (b.bottom - b.top)))))))

-- how many boxes there are, and then each
abbrev pub boxes_words : List CellBox → List ℕ
boxes_words bs = decimal (length bs) ++ flat_map box_words bs
