-- The runs of a row.
use Rattle.std.specs.Prelude.{◌≡◌, ℕ, ◌+◌, ◌<◌, ◌≤◌, Bool, false, cond, List, [], ◌∷◌, map, ◌==◌, nat_le, nat_lt}
use Rattle.boxes.specs.declared.cell_box.CellBox.{CellBox}
use Rattle.boxes.specs.Banded.{Span, span}
use Rattle.boxes.specs.Bands.{Apart, in_spans}
use Rattle.boxes.specs.Strips.{limit}
use Rattle.region.specs.Listed.{listed}
use Rattle.region.specs.Sets.{keeps}
use Rattle.region.specs.declared.operation.Operation.{Operation}
use Rattle.region.specs.declared.row.Row.{Row}

-- boxes as runs
abbrev pub spans : List CellBox → List Span
spans bs = map span bs

abbrev pub runs_of : Row → List Span
runs_of row = spans (listed row.runs)

-- the last run ends at column x
abbrev pub ends_at : List Span → ℕ → Bool
ends_at [] x = false
ends_at (s ∷ []) x = s.right == x
ends_at (s ∷ t ∷ ss) x = ends_at (t ∷ ss) x

-- one run more at the end, or the last one widened where it ends at l
abbrev pub add_run : ℕ → ℕ → List Span → List Span
add_run l r [] = record { left = l; right = r } ∷ []
add_run l r (s ∷ []) = cond (s.right == l) (record { left = s.left; right = r } ∷ []) (s ∷ record { left = l; right = r } ∷ [])
add_run l r (s ∷ t ∷ ss) = s ∷ add_run l r (t ∷ ss)

-- a run that begins at l has its place behind these
pub record Fits (l : ℕ) (ss : List Span) : Type 0 where
  pub apart : Apart 0 ss
  pub near : limit 0 ss ≤ l + 1
  pub inside : l < 256

-- the column where the runs begin
abbrev pub start_of : List CellBox → ℕ
start_of [] = 256
start_of (b ∷ bs) = b.left

-- the first column right of x where the runs may begin or end, none of which ends left of it
abbrev pub edge_of : List CellBox → ℕ → ℕ
edge_of [] x = 256
edge_of (b ∷ bs) x = cond (nat_lt x b.left) b.left b.right

-- the first run has begun at column x
abbrev pub begun : List CellBox → ℕ → Bool
begun [] x = false
begun (b ∷ bs) x = nat_le b.left x

-- the runs after the first, where that ends at column x
abbrev pub past_run : List CellBox → ℕ → List CellBox
past_run [] x = []
past_run (b ∷ bs) x = cond (nat_le b.right x) bs (b ∷ bs)

-- the runs are those of what an operation keeps of two rows
pub record Merged (operation : Operation) (ps qs row : List Span) : Type 0 where
  pub apart : Apart 0 row
  pub cells : (x : ℕ) → x < 256 → in_spans row x ≡ keeps operation (in_spans ps x) (in_spans qs x)
