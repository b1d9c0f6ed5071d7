-- Regions: which boxes stand for a set of cells.
use Rattle.std.specs.Prelude.{◌≡◌, ℕ, ◌+◌, min, max, Bool, true, cond, ◌&&◌, List, [], ◌∷◌, length, nat_le}
use Rattle.boxes.specs.declared.cell_box.CellBox.{CellBox}
use Rattle.boxes.specs.Banded.{Banded}
use Rattle.boxes.specs.Cells.{has, in_box, on_largest, either, SameCells}

abbrev pub no_box : CellBox
no_box = record { left = 0; top = 0; right = 0; bottom = 0 }

-- the least box over two
abbrev pub hull : CellBox → CellBox → CellBox
hull p q =
    record {
      left = min p.left q.left;
      top = min p.top q.top;
      right = max p.right q.right;
      bottom = max p.bottom q.bottom;
    }

-- the covering box of a list of boxes, which has one at least
abbrev pub covering : List CellBox → CellBox
covering [] = no_box
covering (b ∷ []) = b
covering (b ∷ c ∷ bs) = hull b (covering (c ∷ bs))

-- at most 32 boxes stand in a region; of more there is only the covering box
abbrev pub limited : List CellBox → List CellBox
limited bs = cond (nat_le (length bs) 32) bs (covering bs ∷ [])

-- `rs` are the boxes of the region of a set of cells: there is a banded list with exactly these
-- cells, and it stands as it is where it has at most 32 boxes, else its covering box does
pub record RegionOf (cells : ℕ → ℕ → Bool) (rs : List CellBox) : Type 0 where
  pub exact : List CellBox
  pub banded : Banded exact
  pub same : SameCells (has exact) cells
  pub boxes : rs ≡ limited exact

-- two banded lists with the same cells are one
abbrev pub Unique : Type 0
Unique = (ps qs : List CellBox) → Banded ps → Banded qs → SameCells (has ps) (has qs) → ps ≡ qs

-- every set of cells of the largest screen has a banded list
abbrev pub Exists : Type 0
Exists = (cells : ℕ → ℕ → Bool) → (bs : List CellBox) × Banded bs × SameCells (has bs) (λ x y. cells x y && on_largest x y)

-- so there is one region of a set of cells
abbrev pub OneRegion : Type 0
OneRegion = (cells : ℕ → ℕ → Bool) (ps qs : List CellBox) → RegionOf cells ps → RegionOf cells qs → ps ≡ qs

-- the box has every cell of the list, and every box that has them all has its cells
pub record Least (bs : List CellBox) (k : CellBox) : Type 0 where
  pub around : (x y : ℕ) → has bs x y ≡ true → in_box k x y ≡ true
  pub least : (j : CellBox) → ((x y : ℕ) → has bs x y ≡ true → in_box j x y ≡ true) → (x y : ℕ) → in_box k x y ≡ true → in_box j x y ≡ true

-- the covering box of a banded list is the least over its cells
abbrev pub Covers : Type 0
Covers = (b : CellBox) (bs : List CellBox) → Banded (b ∷ bs) → Least (b ∷ bs) (covering (b ∷ bs))

-- the box at (x, y), w wide and h high
abbrev pub box_at : ℕ → ℕ → ℕ → ℕ → CellBox
box_at x y w h = record { left = x; top = y; right = x + w; bottom = y + h }

-- two squares that overlap at a corner are three boxes, and two boxes side by side are one
pub record Worked : Type 0 where
  pub corners :
      (rs : List CellBox) → RegionOf (either (box_at 0 0 2 2 ∷ []) (box_at 1 1 2 2 ∷ [])) rs
      → rs ≡ box_at 0 0 2 1 ∷ box_at 0 1 3 1 ∷ box_at 1 2 2 1 ∷ []
  pub neighbours : (rs : List CellBox) → RegionOf (either (box_at 0 0 2 1 ∷ []) (box_at 2 0 2 1 ∷ [])) rs → rs ≡ box_at 0 0 4 1 ∷ []
