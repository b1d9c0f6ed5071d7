-- A region is shifted by cutting it to the cells that stay on the largest screen and moving the boxes.
use Rattle.std.proofs.Common.{◌≡◌, ℕ, ◌+◌, ◌-◌, ◌<◌, ◌≤◌, Bool, true, false, ◌&&◌, ◌||◌, leb, ◌⊎◌, List, [], ◌∷◌, map, length, sym, refl, ap, ◌∙◌, subst, inl, inr, arith}
use Rattle.std.specs.List.{AllByRecursion}
use Rattle.std.proofs.Math.Bool.{or-false}
use Rattle.std.proofs.lemmas.List.{length-map}
use Rattle.std.proofs.lemmas.Bool.{and_from, and_left, and_parts, and_right, cases_Bool, leb-true}
use Rattle.screen.specs.declared.corner.Corner.{Corner}
use Rattle.boxes.specs.declared.cell_box.CellBox.{CellBox}
use Rattle.boxes.specs.Banded.{Banded, Proper}
use Rattle.boxes.specs.Bands.{ByBands}
use Rattle.boxes.specs.Cells.{SameCells, both, has, in_box, on_largest, shifted}
use Rattle.boxes.specs.Laws.{HasAll}
use Rattle.boxes.specs.Moves.{move_box, staying}
use Rattle.boxes.specs.Regions.{RegionOf}
use Rattle.boxes.proofs.Adding.{largest_seen, stack_seen}
use Rattle.boxes.proofs.Covering.{box_from, box_parts}
use Rattle.boxes.proofs.Laws.{Held, cut_by_one, every_held, none_banded, region_few, region_none}
use Rattle.boxes.proofs.Moving.{Stays, move_bands, move_shifted}
use Rattle.boxes.proofs.One.{is_region, region_banded}
use Rattle.boxes.proofs.Rules.{from_bands, to_bands}

-- a cell of a banded list is on the largest screen
pub banded_seen : (bs : List CellBox) (x y : ℕ) → Banded bs → has bs x y ≡ true → (x < 256) × (y < 256)
banded_seen bs x y b on =
    let k : ByBands bs = to_bands bs b in
    stack_seen k.bands x y k.stack (ap (λ l. has l x y) (sym k.boxes) ∙ on)

-- the box has no columns or no rows, and so no cell
abbrev pub Void : CellBox → Type 0
Void k = (k.right ≤ k.left) ⊎ (k.bottom ≤ k.top)

pub no_cells : (k : CellBox) → Void k → (x y : ℕ) → in_box k x y ≡ false
no_cells k h x y =
    elim (cases_Bool (in_box k x y)) [
      | inl on ↦ (let p = box_parts k x y on in elim h [ inl w ↦ absurd (omega arith) | inr v ↦ absurd (omega arith) ])
      | inr off ↦ off
    ]

-- two tests that agree where the others hold
same_under : (a l t p q : Bool) → (a ≡ true → l ≡ true → t ≡ true → p ≡ q) → (a && (l && t && p)) ≡ (a && (l && t && q))
same_under true true true p q h = h refl refl refl
same_under true true false p q h = refl
same_under true false t p q h = refl
same_under false l t p q h = refl

-- what is cut by no box has no box
pub cut_by_none : (bs cs : List CellBox) → RegionOf (both bs []) cs → cs ≡ []
cut_by_none bs cs r = region_none (both bs []) cs r (λ x y. and_right (has bs x y) false refl)

-- the boxes cs, moved, are the region of the boxes bs, shifted
pub record Shift (from to : Corner) (bs cs : List CellBox) : Type 0 where
  pub stays : AllByRecursion (Stays from to) cs
  pub region : RegionOf (shifted from to bs) (map (move_box from to) cs)
  pub same : SameCells (has (map (move_box from to) cs)) (shifted from to bs)
  pub banded : Banded (map (move_box from to) cs)

module _ (from to : Corner) where
  -- a box among the cells that stay, stays
  held_stays : (b : CellBox) → Proper b → Held (staying from to) b → Stays from to b
  held_stays b p h = (omega arith, omega arith, omega arith, omega arith)

  every_stays : (bs : List CellBox) → AllByRecursion Proper bs → AllByRecursion (Held (staying from to)) bs → AllByRecursion (Stays from to) bs
  every_stays [] p h = tt
  every_stays (b ∷ bs) p h = (held_stays b p.0 h.0, every_stays bs p.1 h.1)

  -- the cell that is moved to (x, y) is one that stays
  from_staying :
      (bs : List CellBox) (x y : ℕ) → Banded bs → on_largest x y ≡ true → leb to.x (x + from.x) ≡ true → leb to.y (y + from.y) ≡ true
      → has bs (x + from.x - to.x) (y + from.y - to.y) ≡ true → in_box (staying from to) (x + from.x - to.x) (y + from.y - to.y) ≡ true
  from_staying bs x y b on l t h =
      let s = banded_seen bs (x + from.x - to.x) (y + from.y - to.y) b h in
      let o = largest_seen x y on in
      let u : to.x ≤ x + from.x = leb-true to.x (x + from.x) l in
      let v : to.y ≤ y + from.y = leb-true to.y (y + from.y) t in
      box_from (staying from to) (x + from.x - to.x) (y + from.y - to.y) (omega arith) (omega arith) (omega arith) (omega arith)

  -- so it is enough to shift what is among the cells that stay
  shifted_same :
      (bs cs : List CellBox) → Banded bs → SameCells (has cs) (both bs (staying from to ∷ []))
      → SameCells (shifted from to cs) (shifted from to bs)
  shifted_same bs cs b e x y =
      let u : ℕ = x + from.x - to.x in
      let v : ℕ = y + from.y - to.y in
      let k : CellBox = staying from to in
      same_under (on_largest x y) (leb to.x (x + from.x)) (leb to.y (y + from.y)) (has cs u v) (has bs u v)
      (λ on l t. elim (cases_Bool (has bs u v)) [
        | inl h ↦ e u v ∙ and_from (has bs u v) (in_box k u v || false) h (or-false (in_box k u v) ∙ from_staying bs x y b on l t h) ∙ sym h
        | inr off ↦ e u v ∙ and_left (has bs u v) (in_box k u v || false) off ∙ sym off
      ])

  shift_from :
      (bs cs : List CellBox) → Banded bs → Banded cs → length cs ≤ 32 → SameCells (has cs) (both bs (staying from to ∷ []))
      → Shift from to bs cs
  shift_from bs cs b c n e =
      let k : CellBox = staying from to in
      let ms : List CellBox = map (move_box from to) cs in
      let all : HasAll (in_box k) (has cs) =
      λ x y on. sym (or-false (in_box k x y)) ∙ (and_parts (has bs x y) (in_box k x y || false) (sym (e x y) ∙ on)).1 in
      let stay : AllByRecursion (Stays from to) cs = every_stays cs c.proper (every_held k cs c.proper all) in
      let banded : Banded ms = from_bands ms (move_bands from to cs (to_bands cs c) stay).0 in
      let same : SameCells (has ms) (shifted from to bs) =
      λ x y. move_shifted from to cs (to_bands cs c) stay x y ∙ shifted_same bs cs b e x y in
      let few : length ms ≤ 32 = omega (arith, n, length-map cs (move_box from to)) in
      record {
        stays = stay;
        region = is_region (shifted from to bs) ms banded same few;
        same = same;
        banded = banded;
      }

  -- a region, cut to the cells that stay and moved, is the region of the cells shifted, and has exactly
  -- these: a shift never needs the covering box
  pub shift_stays : (bs cs : List CellBox) → Banded bs → length bs ≤ 32 → RegionOf (both bs (staying from to ∷ [])) cs → Shift from to bs cs
  shift_stays bs cs b n r =
      let k : CellBox = staying from to in
      shift_from bs cs b (region_banded (both bs (k ∷ [])) cs r) (region_few (both bs (k ∷ [])) cs r) (cut_by_one bs cs k b n r)

  shift_empty : (bs : List CellBox) → Banded bs → Void (staying from to) → Shift from to bs []
  shift_empty bs b h =
      let k : CellBox = staying from to in
      shift_from bs [] b none_banded (omega arith)
      (λ x y. sym (and_right (has bs x y) (in_box k x y || false) (or-false (in_box k x y) ∙ no_cells k h x y)))

  -- where no cell stays, the region of the cells shifted has no box
  pub shift_none : (bs : List CellBox) → Banded bs → Void (staying from to) → RegionOf (shifted from to bs) []
  shift_none bs b h = (shift_empty bs b h).region

  -- and a region cut by no box, moved, is that one
  pub shift_cut_none : (bs cs : List CellBox) → Banded bs → Void (staying from to) → RegionOf (both bs []) cs → Shift from to bs cs
  shift_cut_none bs cs b h r = subst (λ l. Shift from to bs l) (sym (cut_by_none bs cs r)) (shift_empty bs b h)
