-- Screens, and what painting makes of them.
use Rattle.std.specs.Prelude.{◌≡◌, ℕ, ◌+◌, ◌-◌, ◌*◌, ◌<◌, ◌≤◌, Bool, cond, List, length, Some, None, Option, ◌==◌, nat_le, slice_index_or}
use Rattle.screen.specs.declared.corner.Corner.{Corner}
use Rattle.screen.specs.declared.rect.Rect.{Rect}
use Rattle.screen.specs.declared.sides.Sides.{Sides}
use Rattle.fault.specs.declared.Refusal.{Refusal}
use Rattle.fault.specs.declared.Refusal.TheVariants.{Size, Block, Source}
use Rattle.screen.specs.Rects.{holds, is_inside}

-- the memory has a place for each cell of a screen with these sides
abbrev pub fits_screen : {X : Type 0} → Sides → List X → Bool
fits_screen sides memory = nat_le (sides.width * sides.height) (length memory)

-- The cell (x, y) of a screen that is w wide: its rows lie one after another. `d` stands for a
-- cell that is not there.
abbrev pub cell : {X : Type 0} → ℕ → List X → ℕ → ℕ → X → X
cell w memory x y d = slice_index_or memory (y * w + x) d

-- `after` shows the rectangle painted: each cell of it on a screen with these sides is as `new`
-- says, each other cell of the screen is as it was, and so is the memory behind the screen.
pub record Shows {X : Type 0} (sides : Sides) (rect : Rect) (new : ℕ → ℕ → X → X) (before after : List X) : Type 0 where
  pub size : length after ≡ length before
  pub cells : (x y : ℕ) (d : X) → x < sides.width → y < sides.height → cell sides.width after x y d ≡ cond (holds rect x y) (new x y d) (cell sides.width before x y d)
  pub behind : (k : ℕ) (d : X) → sides.width * sides.height ≤ k → slice_index_or after k d ≡ slice_index_or before k d

-- The rectangle was painted: `after` shows it, and nothing else does.
unfoldable pub Painted : {X : Type 0} (sides : Sides) (rect : Rect) (new : ℕ → ℕ → X → X) (before after : List X) → Type 0
Painted {X} sides rect new before after =
    Shows sides rect new before after × ((other : List X) → Shows sides rect new before other → other ≡ after)

-- one value for every cell
abbrev pub plain : {X : Type 0} → X → ℕ → ℕ → X → X
plain value x y d = value

-- a block of the rectangle's size, row by row, at the cell (x, y) of the screen
abbrev pub block_cell : {X : Type 0} → Rect → List X → ℕ → ℕ → X → X
block_cell rect block x y d = cell rect.w block (x - rect.x) (y - rect.y) d

-- the source's rectangle with its corner at `to`
abbrev pub moved_to : Rect → Corner → Rect
moved_to source to = record { x = to.x; y = to.y; w = source.w; h = source.h }

-- what stood as far from the source's corner as (x, y) is from the corner `to`
abbrev pub source_cell : {X : Type 0} → Sides → Rect → Corner → List X → ℕ → ℕ → X → X
source_cell sides source to before x y d = cell sides.width before (source.x + (x - to.x)) (source.y + (y - to.y)) d

-- Why a painting is refused, if it is.
abbrev pub fill_refusal : {X : Type 0} → Sides → List X → Option Refusal
fill_refusal sides memory = cond (fits_screen sides memory) None (Some Size)

abbrev pub put_refusal : {X : Type 0} → Sides → List X → Rect → List X → Option Refusal
put_refusal sides memory rect block =
    cond (fits_screen sides memory) (cond (length block == rect.w * rect.h) None (Some Block)) (Some Size)

abbrev pub copy_refusal : {X : Type 0} → Sides → List X → Rect → Option Refusal
copy_refusal sides memory source = cond (fits_screen sides memory) (cond (is_inside sides source) None (Some Source)) (Some Size)
