-- Boxes of cells, and sets of cells.
use Rattle.std.specs.Prelude.{◌≡◌, ℕ, ◌+◌, ◌-◌, Bool, false, not, ◌&&◌, ◌||◌, List, [], ◌∷◌, nat_le, nat_lt}
use Rattle.screen.specs.Rects.{holds, on_screen}
use Rattle.screen.specs.declared.rect.Rect.{Rect}
use Rattle.screen.specs.declared.corner.Corner.{Corner}
use Rattle.boxes.specs.declared.cell_box.CellBox.{CellBox}

-- l ≤ n < r
abbrev pub between : ℕ → ℕ → ℕ → Bool
between l r n = nat_le l n && nat_lt n r

-- the box has cells in row y
abbrev pub has_row : CellBox → ℕ → Bool
has_row b y = between b.top b.bottom y

-- the cell (x, y) is one of the box's
abbrev pub in_box : CellBox → ℕ → ℕ → Bool
in_box b x y = between b.left b.right x && has_row b y

-- the cell is in a box of the list
abbrev pub has : List CellBox → ℕ → ℕ → Bool
has [] x y = false
has (b ∷ bs) x y = in_box b x y || has bs x y

-- two sets hold the same cells
abbrev pub SameCells : (ℕ → ℕ → Bool) → (ℕ → ℕ → Bool) → Type 0
SameCells c d = (x y : ℕ) → c x y ≡ d x y

abbrev pub none : ℕ → ℕ → Bool
none x y = false

-- the cell is one of the largest screen, which has 256 × 256 cells
abbrev pub on_largest : ℕ → ℕ → Bool
on_largest x y = on_screen 256 256 x y

-- a rectangle's cells on the largest screen
abbrev pub of_rect : Rect → ℕ → ℕ → Bool
of_rect rect x y = holds rect x y && on_largest x y

-- the cells of two lists of boxes together, those of both, and those of the first that are not of the second
abbrev pub either : List CellBox → List CellBox → ℕ → ℕ → Bool
either ps qs x y = has ps x y || has qs x y

abbrev pub both : List CellBox → List CellBox → ℕ → ℕ → Bool
both ps qs x y = has ps x y && has qs x y

abbrev pub but_not : List CellBox → List CellBox → ℕ → ℕ → Bool
but_not ps qs x y = has ps x y && not (has qs x y)

-- the cells, moved by the distance from one corner to another, as far as they stay on the largest screen
abbrev pub shifted : Corner → Corner → List CellBox → ℕ → ℕ → Bool
shifted from to bs x y =
    on_largest x y && (nat_le to.x (x + from.x) && nat_le to.y (y + from.y) && has bs (x + from.x - to.x) (y + from.y - to.y))

-- a box as a rectangle, which has the box's cells
pub record AsRect (b : CellBox) (rect : Rect) : Type 0 where
  pub value : rect ≡ record { x = b.left; y = b.top; w = b.right - b.left; h = b.bottom - b.top }
  pub cells : SameCells (holds rect) (in_box b)
