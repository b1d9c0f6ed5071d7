-- Rectangles, by the cells that they hold.
use Rattle.std.specs.Prelude.{◌≡◌, ℕ, ◌+◌, ◌-◌, ◌≤◌, min, max, Bool, true, false, cond, ◌&&◌, ◌||◌, ◌==◌, nat_le, nat_lt}
use Rattle.screen.specs.declared.rect.Rect.{Rect}
use Rattle.screen.specs.declared.sides.Sides.{Sides}

-- n is one of the `count` numbers from `from` on
abbrev pub within : ℕ → ℕ → ℕ → Bool
within from count n = nat_le from n && nat_lt n (from + count)

-- the cell (x, y) is one of the rectangle's
abbrev pub holds : Rect → ℕ → ℕ → Bool
holds rect x y = within rect.x rect.w x && within rect.y rect.h y

abbrev pub is_empty : Rect → Bool
is_empty rect = rect.w == 0 || rect.h == 0

-- the rectangle that stands for no cells
abbrev pub no_rect : Rect
no_rect = record { x = 0; y = 0; w = 0; h = 0 }

abbrev pub or_none : Rect → Rect
or_none rect = cond (is_empty rect) no_rect rect

-- the cell is one of a screen of w × h
abbrev pub on_screen : ℕ → ℕ → ℕ → ℕ → Bool
on_screen w h x y = nat_lt x w && nat_lt y h

-- every cell of the rectangle is on a screen with these sides
abbrev pub is_inside : Sides → Rect → Bool
is_inside sides rect = nat_le (rect.x + rect.w) sides.width && nat_le (rect.y + rect.h) sides.height

-- what two rectangles have in common
abbrev pub common : Rect → Rect → Rect
common a b =
    or_none
    record {
      x = max a.x b.x;
      y = max a.y b.y;
      w = min (a.x + a.w) (b.x + b.w) - max a.x b.x;
      h = min (a.y + a.h) (b.y + b.h) - max a.y b.y;
    }

-- `part` holds the cells that both hold
abbrev pub Common : Rect → Rect → Rect → Type 0
Common a b part = (x y : ℕ) → holds part x y ≡ (holds a x y && holds b x y)

-- `part` is what a screen with these sides shows of `rect`. Its corner is that of `rect` where it has
-- a cell, and one rectangle stands for no cells.
pub record Cut (screen : Sides) (rect part : Rect) : Type 0 where
  pub cells : (x y : ℕ) → holds part x y ≡ (holds rect x y && on_screen screen.width screen.height x y)
  pub none : is_empty part ≡ true → part ≡ no_rect
  pub corner : is_empty part ≡ false → (part.x ≡ rect.x) × (part.y ≡ rect.y)
  pub sides : (part.w ≤ rect.w) × (part.h ≤ rect.h)
  pub inside : (part.x + part.w ≤ screen.width) × (part.y + part.h ≤ screen.height)

-- `outer` has every cell of `inner`
abbrev pub Over : Rect → Rect → Type 0
Over outer inner = (x y : ℕ) → holds inner x y ≡ true → holds outer x y ≡ true

-- the smallest rectangle over two
abbrev pub cover : Rect → Rect → Rect
cover a b =
    cond (is_empty a) (or_none b)
    (cond (is_empty b) a
    record {
      x = min a.x b.x;
      y = min a.y b.y;
      w = max (a.x + a.w) (b.x + b.w) - min a.x b.x;
      h = max (a.y + a.h) (b.y + b.h) - min a.y b.y;
    })

-- its sides are numbers of sixteen bits
abbrev pub is_narrow : Rect → Bool
is_narrow rect = nat_lt rect.w 65536 && nat_lt rect.h 65536

-- `outer` has every cell of both, and every rectangle that has them has those of `outer`
pub record Least (a b outer : Rect) : Type 0 where
  pub first : Over outer a
  pub second : Over outer b
  pub least : (other : Rect) → Over other a → Over other b → Over other outer
