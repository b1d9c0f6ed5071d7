-- What is true of every region, and of the operations on regions.
use Rattle.std.specs.Prelude.{◌≡◌, ℕ, ◌*◌, ◌≤◌, Bool, true, false, ◌&&◌, List, [], ◌∷◌, length}
use Rattle.std.specs.List.{AllByRecursion}
use Rattle.screen.specs.Rects.{on_screen}
use Rattle.screen.specs.declared.rect.Rect.{Rect}
use Rattle.boxes.specs.declared.cell_box.CellBox.{CellBox}
use Rattle.boxes.specs.Areas.{area}
use Rattle.boxes.specs.Banded.{Banded, Pairs}
use Rattle.boxes.specs.Bands.{Equivalent}
use Rattle.boxes.specs.Cells.{SameCells, both, but_not, has, in_box, of_rect}
use Rattle.boxes.specs.Regions.{Covers, Exists, OneRegion, RegionOf, Unique}

-- the first set has every cell of the second
abbrev pub HasAll : (ℕ → ℕ → Bool) → (ℕ → ℕ → Bool) → Type 0
HasAll outer inner = (x y : ℕ) → inner x y ≡ true → outer x y ≡ true

-- a region has every cell that it stands for, so a join loses none of either, and taking away removes
-- nothing else than it is told to
abbrev pub Contains : Type 0
Contains = (cells : ℕ → ℕ → Bool) (rs : List CellBox) → RegionOf cells rs → HasAll (has rs) cells

-- and none outside a box that has them all, so none outside the covering box
abbrev pub Inside : Type 0
Inside = (cells : ℕ → ℕ → Bool) (rs : List CellBox) (k : CellBox) → RegionOf cells rs → HasAll (in_box k) cells → HasAll (in_box k) (has rs)

-- a set whose banded list has at most 32 boxes has that for its region
abbrev pub Stays : Type 0
Stays = (cells : ℕ → ℕ → Bool) (bs rs : List CellBox) → Banded bs → length bs ≤ 32 → SameCells (has bs) cells → RegionOf cells rs → rs ≡ bs

-- cutting by a set that has all the cells, as the whole screen has, changes nothing
abbrev pub CutByAll : Type 0
CutByAll = (bs ks rs : List CellBox) → Banded bs → length bs ≤ 32 → HasAll (has ks) (has bs) → RegionOf (both bs ks) rs → rs ≡ bs

-- cutting by one box never needs the covering box: the result has exactly the cells of both
abbrev pub CutByOne : Type 0
CutByOne = (bs rs : List CellBox) (k : CellBox) → Banded bs → length bs ≤ 32 → RegionOf (both bs (k ∷ [])) rs → SameCells (has rs) (both bs (k ∷ []))

-- so cutting by a rectangle gives exactly the cells of both
abbrev pub CutByRect : Type 0
CutByRect =
    (bs ks rs : List CellBox) (rect : Rect) → Banded bs → length bs ≤ 32 → RegionOf (of_rect rect) ks → RegionOf (both bs ks) rs
    → SameCells (has rs) (λ x y. has bs x y && of_rect rect x y)

-- taking away a set that has all the cells leaves none
abbrev pub TakeAwayAll : Type 0
TakeAwayAll = (bs ks rs : List CellBox) → HasAll (has ks) (has bs) → RegionOf (but_not bs ks) rs → rs ≡ []

-- a region without boxes has no cell, and only that one
abbrev pub OnlyEmpty : Type 0
OnlyEmpty = (bs : List CellBox) → Banded bs → ((x y : ℕ) → has bs x y ≡ false) → bs ≡ []

-- no cell is in two boxes
abbrev pub Disjoint : Type 0
Disjoint = (bs : List CellBox) → Banded bs → Pairs (λ p q. (x y : ℕ) → (in_box p x y && in_box q x y) ≡ false) bs

-- where all cells are on a screen of w × h, so are the boxes, and they have at most its w × h cells
abbrev pub OnScreen : Type 0
OnScreen =
    (w h : ℕ) (bs : List CellBox) → Banded bs → HasAll (on_screen w h) (has bs)
    → AllByRecursion (λ b. (b.right ≤ w) × (b.bottom ≤ h)) bs × (area bs ≤ w * h)

-- the laws of regions together
pub record Laws : Type 0 where
  pub contains : Contains
  pub inside : Inside
  pub stays : Stays
  pub covers : Covers
  pub cut_by_all : CutByAll
  pub cut_by_one : CutByOne
  pub cut_by_rect : CutByRect
  pub take_away_all : TakeAwayAll
  pub disjoint : Disjoint
  pub all_on_screen : OnScreen

-- every set of cells of the largest screen has one banded list, and so one region; and the rules on
-- boxes say the same as a stack of bands
pub record OneForm : Type 0 where
  pub unique : Unique
  pub exists : Exists
  pub one : OneRegion
  pub bands : Equivalent
