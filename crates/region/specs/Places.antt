-- Where a sweep stands in a list of boxes: at those that do not end above the row at hand.
use Rattle.std.specs.Prelude.{ℕ, cond, List, [], ◌∷◌, ◌++◌, nat_le, nat_lt}
use Rattle.boxes.specs.declared.cell_box.CellBox.{CellBox}
use Rattle.region.specs.Leads.{below_band, first_band}
use Rattle.region.specs.declared.place.Place.{Place}

-- the boxes from a place on
abbrev pub remaining : Place → List CellBox
remaining p = p.band.now ++ p.below.now

-- the first row below y in which the list may have other cells
abbrev pub turn_of : List CellBox → ℕ → ℕ
turn_of [] y = 256
turn_of (b ∷ bs) y = cond (nat_lt y b.top) b.top b.bottom

-- the boxes that have cells in row y
abbrev pub shown_boxes : List CellBox → ℕ → List CellBox
shown_boxes [] y = []
shown_boxes (b ∷ bs) y = cond (nat_le b.top y) (first_band (b ∷ bs)) []

-- the boxes from the next place on, where the first band ends at row y
abbrev pub past_of : List CellBox → ℕ → List CellBox
past_of [] y = []
past_of (b ∷ bs) y = cond (nat_le b.bottom y) (below_band (b ∷ bs)) (b ∷ bs)
