-- The banded form of a list of boxes, by the rules on the boxes themselves.
use Rattle.std.specs.Prelude.{◌≡◌, ℕ, ◌+◌, ◌<◌, ◌≤◌, Bool, true, cond, ◌&&◌, ◌||◌, ◌≢◌, List, [], ◌∷◌, ◌==◌, nat_lt}
use Rattle.std.specs.List.{AllByRecursion}
use Rattle.boxes.specs.declared.cell_box.CellBox.{CellBox}
use Rattle.boxes.specs.Cells.{has_row}

-- the left and the right edge of a box
pub record Span : Type 0 where
  pub left : ℕ
  pub right : ℕ

abbrev pub span : CellBox → Span
span b = record { left = b.left; right = b.right }

-- the edges of the boxes that have cells in row y
abbrev pub edges_at : List CellBox → ℕ → List Span
edges_at [] y = []
edges_at (b ∷ bs) y = cond (has_row b y) (span b ∷ edges_at bs y) (edges_at bs y)

-- the box has a cell, and is on the largest screen
abbrev pub Proper : CellBox → Type 0
Proper b = (b.left < b.right) × (b.right ≤ 256) × (b.top < b.bottom) × (b.bottom ≤ 256)

-- p comes before q by top, then left
abbrev pub before : CellBox → CellBox → Bool
before p q = nat_lt p.top q.top || (p.top == q.top && nat_lt p.left q.left)

-- two boxes that share a row share top and bottom, so they are of one band
abbrev pub OneBand : CellBox → CellBox → Type 0
OneBand p q = (y : ℕ) → has_row p y ≡ true → has_row q y ≡ true → (p.top ≡ q.top) × (p.bottom ≡ q.bottom)

-- of one band, the first ends before the second begins, and does not touch it
abbrev pub NoTouch : CellBox → CellBox → Type 0
NoTouch p q = p.top ≡ q.top → p.right < q.left

-- each box stands so to each later one
abbrev pub Pairs : (CellBox → CellBox → Type 0) → List CellBox → Type 0
Pairs R [] = Unit {0}
Pairs R (b ∷ bs) = AllByRecursion (R b) bs × Pairs R bs

-- a band begins only where the edges differ from those of the row above
abbrev pub Differs : List CellBox → CellBox → Type 0
Differs bs b = (y : ℕ) → y + 1 ≡ b.top → edges_at bs y ≢ edges_at bs b.top

-- The X server's form: boxes are ordered by top, then left; boxes that share a row share top and
-- bottom; boxes of one band do not touch; adjoining bands with equal edges are one band.
pub record Banded (bs : List CellBox) : Type 0 where
  pub proper : AllByRecursion Proper bs
  pub order : Pairs (λ p q. before p q ≡ true) bs
  pub rows : Pairs OneBand bs
  pub apart : Pairs NoTouch bs
  pub merged : AllByRecursion (Differs bs) bs
