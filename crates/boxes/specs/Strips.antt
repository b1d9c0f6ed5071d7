-- How a sweep draws: runs into a row from left to right, strips of rows into bands from the top down.
use Rattle.std.specs.Prelude.{◌≡◌, ℕ, ◌+◌, ◌<◌, ◌≤◌, Bool, true, false, cond, ◌&&◌, List, [], ◌∷◌, map, ◌==◌}
use Rattle.boxes.specs.declared.cell_box.CellBox.{CellBox}
use Rattle.boxes.specs.Banded.{Span}
use Rattle.boxes.specs.Bands.{Apart, Band, Stack, in_spans, row_of}
use Rattle.boxes.specs.Regions.{hull}

-- one past the last run's right edge, or l where there is none
abbrev pub limit : ℕ → List Span → ℕ
limit l [] = l
limit l (s ∷ ss) = limit (s.right + 1) ss

-- the runs ss have the cells c as far as column x
pub record Drawn (c : ℕ → Bool) (x : ℕ) (ss : List Span) : Type 0 where
  pub apart : Apart 0 ss
  pub near : limit 0 ss ≤ x + 1
  pub cells : (v : ℕ) → v < x → in_spans ss v ≡ c v

-- two rows have the same runs
abbrev pub same_runs : List Span → List Span → Bool
same_runs [] [] = true
same_runs [] (s ∷ ss) = false
same_runs (r ∷ rs) [] = false
same_runs (r ∷ rs) (s ∷ ss) = (r.left == s.left && r.right == s.right) && same_runs rs ss

-- the lowest band ends at t and has the runs of the row
abbrev pub goes_on : ℕ → List Span → List Band → Bool
goes_on t row [] = false
goes_on t row (b ∷ bs) = b.bottom == t && same_runs b.row row

-- the lowest band, drawn on to e
abbrev pub grown : ℕ → List Band → List Band
grown e [] = []
grown e (b ∷ bs) = record { top = b.top; bottom = e; row = b.row } ∷ bs

-- the rows t to e, each with the runs `row`, added below the bands
abbrev pub add_band : ℕ → ℕ → List Span → List Band → List Band
add_band t e [] bs = bs
add_band t e (s ∷ ss) bs = cond (goes_on t (s ∷ ss) bs) (grown e bs) (record { top = t; bottom = e; row = s ∷ ss } ∷ bs)

-- a box whose bottom is moved
abbrev pub lowered : ℕ → CellBox → CellBox
lowered e b = record { left = b.left; top = b.top; right = b.right; bottom = e }

abbrev pub lower_all : ℕ → List CellBox → List CellBox
lower_all e bs = map (lowered e) bs

-- the bands have the cells c of each row above y
pub record Painted (c : ℕ → ℕ → Bool) (y : ℕ) (bs : List Band) : Type 0 where
  pub stack : Stack y [] bs
  pub cells : (x v : ℕ) → x < 256 → v < y → in_spans (row_of bs v) x ≡ c x v

-- the box around a list of boxes, begun from one that has no cell and adds none
abbrev pub nothing : CellBox
nothing = record { left = 256; top = 256; right = 0; bottom = 0 }

abbrev pub outline : List CellBox → CellBox
outline [] = nothing
outline (b ∷ bs) = hull b (outline bs)

-- the right edge of the last run
abbrev pub last_right : Span → List Span → ℕ
last_right s [] = s.right
last_right s (t ∷ ss) = last_right t ss

-- the box k, stretched over the rows t to e with these runs
abbrev pub stretched : ℕ → ℕ → List Span → CellBox → CellBox
stretched t e [] k = k
stretched t e (s ∷ ss) k = hull k (record { left = s.left; top = t; right = last_right s ss; bottom = e })
