-- What is true of every region, and of the operations on regions.
use Rattle.std.proofs.Common.{◌≡◌, ℕ, ◌+◌, ◌≤◌, min, Bool, true, false, not, ◌&&◌, ltb, leb, List, [], ◌∷◌, length, sym, refl, ap, ◌∙◌, subst, inl, inr, arith}
use Rattle.screen.specs.Rects.{on_screen}
use Rattle.screen.specs.declared.rect.Rect.{Rect}
use Rattle.std.specs.List.{AllByRecursion}
use Rattle.std.proofs.Math.Bool.{or-false}
use Rattle.std.proofs.lemmas.Bool.{and_from, and_left, and_parts, and_right, both_ways, cases_Bool, cond_both, leb-true, not_from_true, or_left, or_right}
use Rattle.std.proofs.lemmas.Bool.Decides.{nat_tests}
use Rattle.boxes.specs.declared.cell_box.CellBox.{CellBox}
use Rattle.boxes.specs.Banded.{Banded, NoTouch, OneBand, Pairs, Proper}
use Rattle.boxes.specs.Cells.{SameCells, between, both, but_not, has, has_row, in_box, of_rect}
use Rattle.boxes.specs.Laws.{Contains, CutByAll, CutByOne, CutByRect, Disjoint, HasAll, Inside, Laws, OnScreen, OneForm, OnlyEmpty, Stays, TakeAwayAll}
use Rattle.boxes.specs.Regions.{Exists, RegionOf, covering, limited}
use Rattle.boxes.proofs.Areas.{area_most}
use Rattle.boxes.proofs.Clipping.{clip}
use Rattle.boxes.proofs.Covering.{box_from, box_parts, box_within, covers}
use Rattle.boxes.proofs.Existence.{exists_bands}
use Rattle.boxes.proofs.One.{one_region, region_is}
use Rattle.boxes.proofs.Rules.{box_banded, equivalent, from_bands, to_bands, unique}

-- every set of cells of the largest screen has a banded list
pub exists : Exists
exists cells =
    let e = exists_bands cells in
    (e.0, from_bands e.0 e.1, e.2)

-- what stands in a region has the cells of the list, and none outside a box that has them all
limited_all : (bs : List CellBox) → Banded bs → HasAll (has (limited bs)) (has bs)
limited_all [] b x y on = on
limited_all (c ∷ bs) b x y on =
    cond_both (leb (length (c ∷ bs)) 32) (c ∷ bs) (covering (c ∷ bs) ∷ []) (λ l. has l x y ≡ true) (λ _. on)
    (λ _. or_left (in_box (covering (c ∷ bs)) x y) false ((covers c bs b).around x y on))

limited_inside : (bs : List CellBox) (k : CellBox) → Banded bs → HasAll (in_box k) (has bs) → HasAll (in_box k) (has (limited bs))
limited_inside [] k b f = f
limited_inside (c ∷ bs) k b f =
    cond_both (leb (length (c ∷ bs)) 32) (c ∷ bs) (covering (c ∷ bs) ∷ []) (λ l. HasAll (in_box k) (has l)) (λ _. f)
    (λ _ x y on. (covers c bs b).least k f x y (sym (or-false (in_box (covering (c ∷ bs)) x y)) ∙ on))

limited_few : (bs : List CellBox) → length (limited bs) ≤ 32
limited_few bs =
    cond_both (leb (length bs) 32) bs (covering bs ∷ []) (λ l. length l ≤ 32) (λ on. leb-true (length bs) 32 on) (λ _. omega arith)

-- a region has every cell that it stands for
pub contains : Contains
contains cells rs r x y on =
    subst (λ l. has l x y ≡ true) (sym r.boxes) (limited_all r.exact r.banded x y (r.same x y ∙ on))

-- and none outside a box that has them all
pub inside : Inside
inside cells rs k r f =
    subst (λ l. HasAll (in_box k) (has l)) (sym r.boxes)
    (limited_inside r.exact k r.banded (λ x y on. f x y (sym (r.same x y) ∙ on)))

-- and at most 32 boxes
pub region_few : (cells : ℕ → ℕ → Bool) (rs : List CellBox) → RegionOf cells rs → length rs ≤ 32
region_few cells rs r = subst (λ l. length l ≤ 32) (sym r.boxes) (limited_few r.exact)

-- a set whose banded list has at most 32 boxes has that for its region
pub stays : Stays
stays cells bs rs b n e r = region_is cells rs bs r b e n

-- cutting by a set that has all the cells changes nothing
both_all : (bs ks : List CellBox) → HasAll (has ks) (has bs) → SameCells (has bs) (both bs ks)
both_all bs ks f x y =
    elim (cases_Bool (has bs x y)) [
      | inl on ↦ on ∙ sym (and_from (has bs x y) (has ks x y) on (f x y on))
      | inr off ↦ off ∙ sym (and_left (has bs x y) (has ks x y) off)
    ]

pub cut_by_all : CutByAll
cut_by_all bs ks rs b n f r = region_is (both bs ks) rs bs r b (both_all bs ks f) n

-- cutting by one box never needs the covering box
pub cut_by_one : CutByOne
cut_by_one bs rs k b n r =
    let c = clip bs k (to_bands bs b) in
    let same : SameCells (has c.0) (both bs (k ∷ [])) = λ x y. c.3 x y ∙ ap (λ v. has bs x y && v) (sym (or-false (in_box k x y))) in
    let e : rs ≡ c.0 = region_is (both bs (k ∷ [])) rs c.0 r (from_bands c.0 c.1) same (omega (arith, c.2, n)) in
    subst (λ l. SameCells (has l) (both bs (k ∷ []))) (sym e) same

-- the list without boxes is banded, and is the region of no cells
pub none_banded : Banded []
none_banded = record { proper = tt; order = tt; rows = tt; apart = tt; merged = tt }

pub region_none : (cells : ℕ → ℕ → Bool) (rs : List CellBox) → RegionOf cells rs → ((x y : ℕ) → cells x y ≡ false) → rs ≡ []
region_none cells rs r off = region_is cells rs [] r none_banded (λ x y. sym (off x y)) (omega arith)

-- taking away a set that has all the cells leaves none
none_left : (bs ks : List CellBox) → HasAll (has ks) (has bs) → (x y : ℕ) → but_not bs ks x y ≡ false
none_left bs ks f x y =
    elim (cases_Bool (has bs x y)) [
      | inl on ↦ and_right (has bs x y) (not (has ks x y)) (not_from_true (has ks x y) (f x y on))
      | inr off ↦ and_left (has bs x y) (not (has ks x y)) off
    ]

pub take_away_all : TakeAwayAll
take_away_all bs ks rs f r = region_none (but_not bs ks) rs r (none_left bs ks f)

-- a banded list without cells has no boxes
pub only_empty : OnlyEmpty
only_empty [] b off = refl
only_empty (c ∷ bs) b off =
    let p : Proper c = b.proper.0 in
    absurd
    (both_ways (has (c ∷ bs) c.left c.top) (off c.left c.top)
    (or_left (in_box c c.left c.top) (has bs c.left c.top) (box_from c c.left c.top (omega arith) p.0 (omega arith) p.2)))

-- no cell is in two boxes
apart_cells : (p q : CellBox) → OneBand p q → NoTouch p q → (x y : ℕ) → (in_box p x y && in_box q x y) ≡ false
apart_cells p q o n x y =
    elim (cases_Bool (in_box p x y)) [
      | inl u ↦
          elim (cases_Bool (in_box q x y)) [
            | inl v ↦ absurd (omega (arith, box_parts p x y u, box_parts q x y v, n (o y (row_of p x y u) (row_of q x y v)).0))
            | inr off ↦ and_right (in_box p x y) (in_box q x y) off
          ]
      | inr off ↦ and_left (in_box p x y) (in_box q x y) off
    ]
  where
    row_of : (k : CellBox) (u v : ℕ) → in_box k u v ≡ true → has_row k v ≡ true
    row_of k u v on = (and_parts (between k.left k.right u) (has_row k v) on).1

pairs_apart : (bs : List CellBox) → Pairs OneBand bs → Pairs NoTouch bs → Pairs (λ p q. (x y : ℕ) → (in_box p x y && in_box q x y) ≡ false) bs
pairs_apart [] o n = tt
pairs_apart (b ∷ bs) o n = (step bs o.0 n.0, pairs_apart bs o.1 n.1)
  where
    step : (cs : List CellBox) → AllByRecursion (OneBand b) cs → AllByRecursion (NoTouch b) cs → AllByRecursion (λ q. (x y : ℕ) → (in_box b x y && in_box q x y) ≡ false) cs
    step [] _ _ = tt
    step (c ∷ cs) u v = (apart_cells b c u.0 v.0, step cs u.1 v.1)

pub disjoint : Disjoint
disjoint bs b = pairs_apart bs b.rows b.apart

-- where a box has all the cells, it has each of the boxes within its sides
abbrev pub Held : CellBox → CellBox → Type 0
Held k b = (k.left ≤ b.left) × (k.top ≤ b.top) × (b.right ≤ k.right) × (b.bottom ≤ k.bottom)

pub every_held : (k : CellBox) (bs : List CellBox) → AllByRecursion Proper bs → HasAll (in_box k) (has bs) → AllByRecursion (Held k) bs
every_held k [] p f = tt
every_held k (b ∷ bs) p f = (
  box_within b k p.0.0 p.0.2 (λ x y on. f x y (or_left (in_box b x y) (has bs x y) on)),
  every_held k bs p.1 (λ x y on. f x y (or_right (in_box b x y) (has bs x y) on)),
)

-- where all cells are on a screen, so are the boxes, and they have at most its cells
screen_box : (w h x y : ℕ) → on_screen w h x y ≡ true → in_box (record { left = 0; top = 0; right = w; bottom = h }) x y ≡ true
screen_box w h x y on = grind (arith, nat_tests)

sides_held : (w h : ℕ) (bs : List CellBox) → AllByRecursion (Held (record { left = 0; top = 0; right = w; bottom = h })) bs → AllByRecursion (λ b. (b.right ≤ w) × (b.bottom ≤ h)) bs
sides_held w h [] e = tt
sides_held w h (b ∷ bs) e = ((e.0.2, e.0.3), sides_held w h bs e.1)

pub all_on_screen : OnScreen
all_on_screen w h bs b f =
    let k : CellBox = record { left = 0; top = 0; right = w; bottom = h } in
    let e : AllByRecursion (λ c. (c.right ≤ w) × (c.bottom ≤ h)) bs =
    sides_held w h bs (every_held k bs b.proper (λ x y on. screen_box w h x y (f x y on))) in
    (e, area_most w h bs (to_bands bs b) e)

-- what the largest screen shows of a rectangle, as a box
rect_box : Rect → CellBox
rect_box rect =
    record { left = min 256 rect.x; top = min 256 rect.y; right = min 256 (rect.x + rect.w); bottom = min 256 (rect.y + rect.h) }

rect_cells : (rect : Rect) → SameCells (in_box (rect_box rect)) (of_rect rect)
unfolding rect_box
rect_cells rect x y = grind (arith, nat_tests)

rect_proper : (rect : Rect) → (ltb (rect_box rect).left (rect_box rect).right && ltb (rect_box rect).top (rect_box rect).bottom) ≡ true → Proper (rect_box rect)
unfolding rect_box
rect_proper rect on = (grind (arith, nat_tests), grind (arith, nat_tests), grind (arith, nat_tests), grind (arith, nat_tests))

rect_none : (rect : Rect) → (ltb (rect_box rect).left (rect_box rect).right && ltb (rect_box rect).top (rect_box rect).bottom) ≡ false → (x y : ℕ) → of_rect rect x y ≡ false
unfolding rect_box
rect_none rect off x y = sym (rect_cells rect x y) ∙ grind (arith, nat_tests)

-- a rectangle's region is one box or none
pub cut_by_rect : CutByRect
cut_by_rect bs ks rs rect b n r c =
    let k : CellBox = rect_box rect in
    elim (cases_Bool (ltb k.left k.right && ltb k.top k.bottom)) [
      | inl on ↦
          (let cells : SameCells (has (k ∷ [])) (of_rect rect) = λ x y. or-false (in_box k x y) ∙ rect_cells rect x y in
          let one : ks ≡ k ∷ [] = region_is (of_rect rect) ks (k ∷ []) r (box_banded k (rect_proper rect on)) cells (omega arith) in
          λ x y. cut_by_one bs rs k b n (subst (λ l. RegionOf (both bs l) rs) one c) x y ∙ ap (λ t. has bs x y && t) (cells x y))
      | inr off ↦
          (let none : ks ≡ [] = region_none (of_rect rect) ks r (rect_none rect off) in
          let left : rs ≡ [] = region_none (both bs ks) rs c (λ x y. ap (λ l. has bs x y && has l x y) none ∙ and_right (has bs x y) false refl) in
          λ x y. ap (λ l. has l x y) left ∙ sym (and_right (has bs x y) (of_rect rect x y) (rect_none rect off x y)))
    ]

pub laws : Laws
laws =
    record {
      contains = contains;
      inside = inside;
      stays = stays;
      covers = covers;
      cut_by_all = cut_by_all;
      cut_by_one = cut_by_one;
      cut_by_rect = cut_by_rect;
      take_away_all = take_away_all;
      disjoint = disjoint;
      all_on_screen = all_on_screen;
    }

pub one_form : OneForm
one_form = record { unique = unique; exists = exists; one = one_region; bands = equivalent }
