-- Bands: the banded form as proofs take it. A list is banded by the rules exactly if it is the boxes
-- of a stack of bands.
use Rattle.std.specs.Prelude.{◌≡◌, ℕ, ◌+◌, ◌<◌, ◌≤◌, Bool, false, cond, ◌||◌, ◌≢◌, List, [], ◌∷◌, ◌++◌}
use Rattle.boxes.specs.declared.cell_box.CellBox.{CellBox}
use Rattle.boxes.specs.Cells.{between}
use Rattle.boxes.specs.Banded.{Banded, Span}

-- the rows from `top` up to `bottom`, each with the cells of the runs
pub record Band : Type 0 where
  pub top : ℕ
  pub bottom : ℕ
  pub row : List Span

-- the cell x is in one of the runs
abbrev pub in_spans : List Span → ℕ → Bool
in_spans [] x = false
in_spans (s ∷ ss) x = between s.left s.right x || in_spans ss x

-- runs from left to right, from column l on, none empty, no two of which touch, on the largest screen
abbrev pub Apart : ℕ → List Span → Type 0
Apart l [] = Unit {0}
Apart l (s ∷ ss) = (l ≤ s.left) × (s.left < s.right) × (s.right ≤ 256) × Apart (s.right + 1) ss

-- bands, the lowest first, all above row t, which has the runs p: none is empty, and two that adjoin
-- differ in their runs
abbrev pub Stack : ℕ → List Span → List Band → Type 0
Stack t p [] = Unit {0}
Stack t p (b ∷ bs) =
    (b.bottom ≤ t)
    × (b.top < b.bottom)
    × Apart 0 b.row
    × (b.row ≢ [])
    × (b.bottom ≡ t → b.row ≢ p)
    × Stack b.top b.row bs

-- the runs of row y
abbrev pub row_of : List Band → ℕ → List Span
row_of [] y = []
row_of (b ∷ bs) y = cond (between b.top b.bottom y) b.row (row_of bs y)

-- the boxes of a band, from left to right
abbrev pub boxes_of : ℕ → ℕ → List Span → List CellBox
boxes_of t e [] = []
boxes_of t e (s ∷ ss) = record { left = s.left; top = t; right = s.right; bottom = e } ∷ boxes_of t e ss

-- the boxes of the bands, from the top of the screen down
abbrev pub flat : List Band → List CellBox
flat [] = []
flat (b ∷ bs) = flat bs ++ boxes_of b.top b.bottom b.row

-- the list is the boxes of a stack of bands
pub record ByBands (bs : List CellBox) : Type 0 where
  pub bands : List Band
  pub boxes : bs ≡ flat bands
  pub stack : Stack 256 [] bands

abbrev pub Equivalent : Type 0
Equivalent = (bs : List CellBox) → (Banded bs → ByBands bs) × (ByBands bs → Banded bs)
