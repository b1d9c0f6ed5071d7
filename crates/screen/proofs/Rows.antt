-- Painting row by row.
use Rattle.std.proofs.Common.{◌≡◌, ℕ, ◌+◌, ◌-◌, ◌*◌, ◌<◌, ◌≤◌, Bool, true, false, cond, ◌&&◌, ◌||◌, List, get_or, nat_lt, sym, refl, ap, ◌∙◌, subst, ⊎_elim, mul-le-mul_right, mul_comm, arith}
use Rattle.std.proofs.lemmas.Bool.{cases_order, cond-false}
use Rattle.std.proofs.lemmas.Bool.Decides.{nat_tests}
use Rattle.screen.specs.declared.corner.Corner.{Corner}
use Rattle.screen.specs.declared.rect.Rect.{Rect}
use Rattle.screen.specs.declared.sides.Sides.{Sides}
use Rattle.screen.specs.Rects.{within, holds, on_screen, is_empty, is_inside, Cut}
use Rattle.screen.specs.Paints.{cell, block_cell, source_cell, moved_to, Painted, Shows}
use Rattle.screen.proofs.Once.{painted}
use Rattle.screen.proofs.Runs.{laid, Run}

-- a row ends where a later one begins, or before
rows_apart : (w y z : ℕ) → y < z → y * w + w ≤ z * w
rows_apart w y z l = let next : (y + 1) * w ≤ z * w = mul-le-mul_right w (omega arith) in omega arith

-- a place of the screen is in the run of a row exactly if its cell is
row_place :
    (w px c q x y : ℕ) → x < w → px + c ≤ w → within (q * w + px) c (y * w + x) ≡ (within px c x && within q 1 y)
row_place w px c q x y l r =
    ⊎_elim
    (λ (e : y ≡ q). let same : y * w ≡ q * w = ap (λ z. z * w) e in grind (arith, nat_tests))
    (⊎_elim
    (λ (e : y < q). let apart = rows_apart w y q e in grind (arith, nat_tests))
    (λ (e : q < y). let apart = rows_apart w q y e in grind (arith, nat_tests)))
    (cases_order y q)

-- the row that comes after n others, from the top or, going up, from the bottom
abbrev pub row_after : Bool → Rect → ℕ → ℕ
row_after up part n = cond up (part.h - 1 - n) n

-- the first n rows of a rectangle or, going up, its last n
abbrev pub rows : Bool → Rect → ℕ → Rect
rows up part n = record { x = part.x; y = part.y + cond up (part.h - n) 0; w = part.w; h = n }

-- what is painted anew, or was painted before, is painted
joins : {X : Type 0} (a b : Bool) (now new was : X) → (b ≡ true → now ≡ new) → cond b now (cond a new was) ≡ cond (a || b) new was
joins true true now new was e = e refl
joins true false now new was e = refl
joins false true now new was e = e refl
joins false false now new was e = refl

-- with it, n rows are n + 1
grows :
    (up : Bool) (part : Rect) (n x y : ℕ) → n < part.h
    → holds (rows up part (n + 1)) x y ≡ (holds (rows up part n) x y || (within part.x part.w x && within (part.y + row_after up part n) 1 y))
grows true part n x y l = grind (arith, nat_tests)
grows false part n x y l = grind (arith, nat_tests)

-- it is one of the rectangle's
row_below : (up : Bool) (part : Rect) (n : ℕ) → n < part.h → row_after up part n < part.h
row_below true part n l = omega arith
row_below false part n l = l

-- one row more is painted
pub one_row :
    {X : Type 0} (sides : Sides) (up : Bool) (part : Rect) (n at count : ℕ) (new : ℕ → ℕ → X → X) (f : ℕ → X → X) (before mid after : List X)
    → (part.x + part.w ≤ sides.width) × (part.y + part.h ≤ sides.height) → n < part.h
    → at ≡ (part.y + row_after up part n) * sides.width + part.x → count ≡ part.w
    → ((i : ℕ) (d : X) → i < part.w → f (at + i) d ≡ new (part.x + i) (part.y + row_after up part n) d)
    → Shows sides (rows up part n) new before mid → Run at count f mid after
    → Shows sides (rows up part (n + 1)) new before after
one_row {X} sides up part n at count new f before mid after inside l is many agrees was run =
    let w = sides.width in
    let q = part.y + row_after up part n in
    let low = row_below up part n l in
    let below : q < sides.height = omega arith in
    let level : Run at part.w f mid after = subst (λ z. Run at z f mid after) many run in
    record {
      size = run.size ∙ was.size;
      cells = λ x y d t u.
          let row = within part.x part.w x && within q 1 y in
          let k = y * w + x in
          level.places k d
          ∙ ap (λ z. cond (within z part.w k) (f k d) (get_or mid k d)) is
          ∙ ap (λ z. cond z (f k d) (get_or mid k d)) (row_place w part.x part.w q x y t inside.0)
          ∙ ap (λ z. cond row (f k d) z) (was.cells x y d t u)
          ∙ joins (holds (rows up part n) x y) row (f k d) (new x y d) (cell w before x y d)
          (λ on.
          let level : y ≡ q = grind (arith, nat_tests) in
          let left : part.x ≤ x = grind (arith, nat_tests) in
          let right : x - part.x < part.w = grind (arith, nat_tests) in
          let across : part.x + (x - part.x) ≡ x = omega arith in
          let same : y * w ≡ q * w = ap (λ z. z * w) level in
          let place : k ≡ at + (x - part.x) = omega arith in
          ap (λ z. f z d) place ∙ agrees (x - part.x) d right ∙ ap (λ z. new z q d) across ∙ ap (λ z. new x z d) (sym level))
          ∙ ap (λ z. cond z (new x y d) (cell w before x y d)) (sym (grows up part n x y l));
      behind = λ k d u.
          let last : q * w + w ≤ sides.height * w = rows_apart w q sides.height below in
          let turned : sides.height * w ≡ w * sides.height = mul_comm sides.height w in
          let off : within at part.w k ≡ false = grind (arith, nat_tests) in
          level.places k d ∙ rw off (was.behind k d u);
    }

-- every row is painted: what is painted of the part that the screen shows is painted of the rectangle
pub all_rows :
    {X : Type 0} (sides : Sides) (up : Bool) (rect part : Rect) (n : ℕ) (new : ℕ → ℕ → X → X) (before after : List X)
    → Cut sides rect part → n ≡ part.h → Shows sides (rows up part n) new before after → Painted sides rect new before after
all_rows sides up rect part n new before after cut e shows =
    painted sides rect new before after
    record {
      size = shows.size;
      cells = λ x y d t u.
          let on : on_screen sides.width sides.height x y ≡ true = grind (arith, nat_tests) in
          let top : cond up (part.h - n) 0 ≡ 0 = grind arith in
          let whole : holds (rows up part n) x y ≡ holds part x y = grind (arith, nat_tests) in
          let same : holds (rows up part n) x y ≡ holds rect x y = whole ∙ cut.cells x y ∙ grind (arith, nat_tests) in
          shows.cells x y d t u ∙ ap (λ z. cond z (new x y d) (cell sides.width before x y d)) same;
      behind = shows.behind;
    }

-- what a row of the block gives to the cells of its row
pub block_row :
    {X : Type 0} (sides : Sides) (rect part : Rect) (n at from : ℕ) (block : List X) → Cut sides rect part → n < part.h → from ≡ n * rect.w
    → (i : ℕ) (d : X) → i < part.w → laid block from at (at + i) d ≡ block_cell rect block (part.x + i) (part.y + n) d
block_row sides rect part n at from block cut b e i d l =
    let full : is_empty part ≡ false = grind (arith, nat_tests) in
    let corner = cut.corner full in
    let row : (part.y + n - rect.y) * rect.w ≡ n * rect.w = ap (λ z. z * rect.w) (omega arith) in
    let same : from + (at + i - at) ≡ (part.y + n - rect.y) * rect.w + (part.x + i - rect.x) = omega arith in
    ap (λ z. get_or block z d) same

-- the rows go up from the bottom where the target is below the source, and else down from the top
pub row_up : (source part : Rect) (n : ℕ) → source.y < part.y → row_after (nat_lt source.y part.y) part n ≡ part.h - 1 - n
row_up source part n l = grind (arith, nat_tests)

pub row_down : (source part : Rect) (n : ℕ) → part.y ≤ source.y → row_after (nat_lt source.y part.y) part n ≡ n
row_down source part n l = grind (arith, nat_tests)

-- going down from the top, no row is read after it was painted, nor going up from the bottom
unread :
    (up : Bool) (source part : Rect) (n x : ℕ) → up ≡ nat_lt source.y part.y → n < part.h
    → holds (rows up part n) x (source.y + row_after up part n) ≡ false
unread true source part n x e l = grind (arith, nat_tests)
unread false source part n x e l = grind (arith, nat_tests)

-- a source inside the screen ends at its edges, or before
pub source_ends : (sides : Sides) (source : Rect) → is_inside sides source ≡ true → (source.x + source.w ≤ sides.width) × (source.y + source.h ≤ sides.height)
source_ends sides source inside = (grind (arith, nat_tests), grind (arith, nat_tests))

-- what a row of the source gives to the cells of its row
pub source_row :
    {X : Type 0} (sides : Sides) (source : Rect) (to : Corner) (part : Rect) (up : Bool) (n at from : ℕ) (before mid : List X)
    → is_inside sides source ≡ true → Cut sides (moved_to source to) part → up ≡ nat_lt source.y part.y → n < part.h
    → from ≡ (source.y + row_after up part n) * sides.width + source.x
    → Shows sides (rows up part n) (source_cell sides source to before) before mid
    → (i : ℕ) (d : X) → i < part.w
    → laid mid from at (at + i) d ≡ source_cell sides source to before (part.x + i) (part.y + row_after up part n) d
source_row sides source to part up n at from before mid inside cut e b is was i d l =
    let row = row_after up part n in
    let new = source_cell sides source to before in
    let full : is_empty part ≡ false = grind (arith, nat_tests) in
    let corner = cut.corner full in
    let less = cut.sides in
    let low : row < part.h = row_below up part n b in
    let ends = source_ends sides source inside in
    let place : from + (at + i - at) ≡ (source.y + row) * sides.width + (source.x + i) = omega arith in
    let level : source.y + row ≡ source.y + (part.y + row - to.y) = omega arith in
    let column : source.x + i ≡ source.x + (part.x + i - to.x) = omega arith in
    ap (λ z. get_or mid z d) place
    ∙ was.cells (source.x + i) (source.y + row) d (omega arith) (omega arith)
    ∙ cond-false (holds (rows up part n) (source.x + i) (source.y + row)) (new (source.x + i) (source.y + row) d) (cell sides.width before (source.x + i) (source.y + row) d) (unread up source part n (source.x + i) e b)
    ∙ ap (λ z. cell sides.width before z (source.y + row) d) column
    ∙ ap (λ z. cell sides.width before (source.x + (part.x + i - to.x)) z d) level
