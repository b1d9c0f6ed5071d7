-- The result of an operation, as far as it is drawn.
use Rattle.std.specs.Prelude.{◌≡◌, ℕ, ◌<◌, Bool, false, ◌&&◌, List, [], ◌∷◌, ◌++◌, length, take, drop, ◌==◌, MatchOption}
use Rattle.boxes.specs.declared.cell_box.CellBox.{CellBox}
use Rattle.boxes.specs.Banded.{Span}
use Rattle.boxes.specs.Bands.{Band, Stack, boxes_of, flat}
use Rattle.boxes.specs.Strips.{add_band, lower_all, same_runs}
use Rattle.region.specs.Rows.{spans}
use Rattle.region.specs.Listed.{listed}
use Rattle.region.specs.declared.drawn.Drawn.{Drawn}
use Rattle.region.specs.declared.work.Work.{Work}

-- how many boxes stand above the lowest band
abbrev pub start_of : List Band → ℕ
start_of [] = 0
start_of (b ∷ bs) = length (flat bs)

-- the boxes that are drawn are those of the bands
pub record Stands (bs : List Band) (d : Drawn) : Type 0 where
  pub boxes : listed d.boxes ≡ flat bs
  pub start : d.start ≡ start_of bs

-- what is drawn is the boxes of the bands, or these are more than 32
abbrev pub Holds : Work → List Band → Type 0
Holds w bs = MatchOption w.drawn (32 < length (flat bs)) (Stands bs)

-- d' is d with the last band drawn on to row e
pub record Grown (e : ℕ) (d d' : Drawn) : Type 0 where
  pub start : d'.start ≡ d.start
  pub boxes : listed d'.boxes ≡ take d.start (listed d.boxes) ++ lower_all e (drop d.start (listed d.boxes))

-- d' is d with a band more
pub record Pushed (t e : ℕ) (row : List Span) (d d' : Drawn) : Type 0 where
  pub start : d'.start ≡ length (listed d.boxes)
  pub boxes : listed d'.boxes ≡ listed d.boxes ++ boxes_of t e row

-- two boxes have the same left and right edges
abbrev pub same_run : CellBox → CellBox → Bool
same_run a b = a.left == b.left && a.right == b.right

-- the boxes are a band that ends at t and has the runs
abbrev pub goes_on_boxes : ℕ → List Span → List CellBox → Bool
goes_on_boxes t row [] = false
goes_on_boxes t row (b ∷ bs) = b.bottom == t && same_runs (spans (b ∷ bs)) row

-- w' is w with the rows t to e added, whichever bands w holds
abbrev pub Adds : ℕ → ℕ → List Span → Work → Work → Type 0
Adds t e row w w' = (bs : List Band) → Holds w bs → Stack t [] bs → Holds w' (add_band t e row bs)
