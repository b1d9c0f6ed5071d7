-- The covering box of a banded list: it is the least over the cells, and each of its sides stands at one.
use Rattle.std.proofs.Common.{◌≡◌, ℕ, ◌+◌, ◌-◌, ◌<◌, ◌≤◌, min, max, true, leb, List, [], ◌∷◌, length, sym, ◌∙◌, subst, inl, inr, arith}
use Rattle.std.proofs.Math.Bool.{or-false}
use Rattle.std.proofs.lemmas.Bool.{and_from, and_parts, cases_lt, cond_both, or_cases, or_left, or_right}
use Rattle.std.specs.List.{AllByRecursion}
use Rattle.boxes.specs.declared.cell_box.CellBox.{CellBox}
use Rattle.boxes.specs.Banded.{Banded, Proper}
use Rattle.boxes.specs.Cells.{between, has, has_row, in_box}
use Rattle.boxes.specs.Regions.{Covers, Least, covering, hull, limited}
use Rattle.boxes.proofs.Rules.{box_banded}
use Rattle.boxes.proofs.Unique.{between_true, inside}

-- a box by its sides
pub box_parts : (k : CellBox) (x y : ℕ) → in_box k x y ≡ true → (k.left ≤ x) × (x < k.right) × (k.top ≤ y) × (y < k.bottom)
box_parts k x y h =
    let p = and_parts (between k.left k.right x) (has_row k y) h in
    let q = between_true k.left k.right x p.0 in
    let r = between_true k.top k.bottom y p.1 in
    (q.0, q.1, r.0, r.1)

pub box_from : (k : CellBox) (x y : ℕ) → k.left ≤ x → x < k.right → k.top ≤ y → y < k.bottom → in_box k x y ≡ true
box_from k x y a b c d =
    and_from (between k.left k.right x) (has_row k y) (inside k.left k.right x a b) (inside k.top k.bottom y c d)

pub box_same : (k j : CellBox) → k.left ≡ j.left → k.top ≡ j.top → k.right ≡ j.right → k.bottom ≡ j.bottom → k ≡ j
box_same k j l t r b = λ i. record { left = l i; top = t i; right = r i; bottom = b i }

-- k is around the cells of the boxes, and each of its sides stands at one
pub record Cover (bs : List CellBox) (k : CellBox) : Type 0 where
  pub around : (x y : ℕ) → has bs x y ≡ true → in_box k x y ≡ true
  pub left : (y : ℕ) × (has bs k.left y ≡ true)
  pub top : (x : ℕ) × (has bs x k.top ≡ true)
  pub right : (x y : ℕ) × (x + 1 ≡ k.right) × (has bs x y ≡ true)
  pub bottom : (x y : ℕ) × (y + 1 ≡ k.bottom) × (has bs x y ≡ true)

-- a box around the cells has the sides of the cover within its own
cover_within :
    (bs : List CellBox) (k j : CellBox) → Cover bs k → ((x y : ℕ) → has bs x y ≡ true → in_box j x y ≡ true)
    → (j.left ≤ k.left) × (j.top ≤ k.top) × (k.right ≤ j.right) × (k.bottom ≤ j.bottom)
cover_within bs k j p q =
    let l = p.left in
    let t = p.top in
    let r = p.right in
    let b = p.bottom in
    let r' = box_parts j r.0 r.1 (q r.0 r.1 r.3) in
    let b' = box_parts j b.0 b.1 (q b.0 b.1 b.3) in
    ((box_parts j k.left l.0 (q k.left l.0 l.1)).0, (box_parts j t.0 k.top (q t.0 k.top t.1)).2, omega (arith, r'.1, r.2), omega (arith, b'.3, b.2))

-- two covers of a list are one box
pub cover_same : (bs : List CellBox) (k j : CellBox) → Cover bs k → Cover bs j → k ≡ j
cover_same bs k j p q =
    let a = cover_within bs k j p q.around in
    let b = cover_within bs j k q p.around in
    box_same k j (omega arith) (omega arith) (omega arith) (omega arith)

-- a cover is the least box over the cells
pub cover_least : (bs : List CellBox) (k : CellBox) → Cover bs k → Least bs k
cover_least bs k c =
    record {
      around = c.around;
      least = λ j h x y on.
          (let w = cover_within bs k j c h in
          let p = box_parts k x y on in
          box_from j x y (omega arith) (omega arith) (omega arith) (omega arith));
    }

-- the cover of one box, and of one box more
box_cover : (b : CellBox) → Proper b → Cover (b ∷ []) b
box_cover b p =
    let at : (x y : ℕ) → in_box b x y ≡ true → has (b ∷ []) x y ≡ true = λ x y h. or-false (in_box b x y) ∙ h in
    let x : ℕ = b.right - 1 in
    let y : ℕ = b.bottom - 1 in
    record {
      around = λ x y h. sym (or-false (in_box b x y)) ∙ h;
      left = (b.top, at b.left b.top (box_from b b.left b.top (omega arith) (omega arith) (omega arith) (omega arith)));
      top = (b.left, at b.left b.top (box_from b b.left b.top (omega arith) (omega arith) (omega arith) (omega arith)));
      right = (x, y, omega arith, at x y (box_from b x y (omega arith) (omega arith) (omega arith) (omega arith)));
      bottom = (x, y, omega arith, at x y (box_from b x y (omega arith) (omega arith) (omega arith) (omega arith)));
    }

min_side : (P : ℕ → Type 0) (a b : ℕ) → P a → P b → P (min a b)
min_side P a b p q =
    elim (cases_lt b a) [
      | inl g ↦ (let e : b ≡ min a b = omega arith in subst P e q)
      | inr g ↦ (let e : a ≡ min a b = omega arith in subst P e p)
    ]

max_side : (P : ℕ → Type 0) (a b : ℕ) → P a → P b → P (max a b)
max_side P a b p q =
    elim (cases_lt a b) [
      | inl g ↦ (let e : b ≡ max a b = omega arith in subst P e q)
      | inr g ↦ (let e : a ≡ max a b = omega arith in subst P e p)
    ]

hull_cover : (b : CellBox) (bs : List CellBox) (k : CellBox) → Proper b → Cover bs k → Cover (b ∷ bs) (hull b k)
hull_cover b bs k p c =
    let o = box_cover b p in
    let one : (x y : ℕ) → has (b ∷ []) x y ≡ true → has (b ∷ bs) x y ≡ true =
    λ x y h. or_left (in_box b x y) (has bs x y) (sym (or-false (in_box b x y)) ∙ h) in
    let more : (x y : ℕ) → has bs x y ≡ true → has (b ∷ bs) x y ≡ true = λ x y h. or_right (in_box b x y) (has bs x y) h in
    let ol = o.left in
    let ot = o.top in
    let or = o.right in
    let ob = o.bottom in
    let cl = c.left in
    let ct = c.top in
    let cr = c.right in
    let cb = c.bottom in
    record {
      around = λ x y h. elim (or_cases (in_box b x y) (has bs x y) h) [
        | inl on ↦ (let q = box_parts b x y on in box_from (hull b k) x y (omega arith) (omega arith) (omega arith) (omega arith))
        | inr on ↦ (let q = box_parts k x y (c.around x y on) in box_from (hull b k) x y (omega arith) (omega arith) (omega arith) (omega arith))
      ];
      left = min_side (λ z. (y : ℕ) × (has (b ∷ bs) z y ≡ true)) b.left k.left (ol.0, one b.left ol.0 ol.1) (cl.0, more k.left cl.0 cl.1);
      top = min_side (λ z. (x : ℕ) × (has (b ∷ bs) x z ≡ true)) b.top k.top (ot.0, one ot.0 b.top ot.1) (ct.0, more ct.0 k.top ct.1);
      right = max_side (λ z. (x y : ℕ) × (x + 1 ≡ z) × (has (b ∷ bs) x y ≡ true)) b.right k.right (or.0, or.1, or.2, one or.0 or.1 or.3) (cr.0, cr.1, cr.2, more cr.0 cr.1 cr.3);
      bottom = max_side (λ z. (x y : ℕ) × (y + 1 ≡ z) × (has (b ∷ bs) x y ≡ true)) b.bottom k.bottom (ob.0, ob.1, ob.2, one ob.0 ob.1 ob.3) (cb.0, cb.1, cb.2, more cb.0 cb.1 cb.3);
    }

proper_cover : (b : CellBox) (bs : List CellBox) → AllByRecursion Proper (b ∷ bs) → Cover (b ∷ bs) (covering (b ∷ bs))
proper_cover b [] h = box_cover b h.0
proper_cover b (c ∷ bs) h = hull_cover b (c ∷ bs) (covering (c ∷ bs)) h.0 (proper_cover c bs h.1)

hull_proper : (b k : CellBox) → Proper b → Proper k → Proper (hull b k)
hull_proper b k p q = (omega arith, omega arith, omega arith, omega arith)

proper_proper : (b : CellBox) (bs : List CellBox) → AllByRecursion Proper (b ∷ bs) → Proper (covering (b ∷ bs))
proper_proper b [] h = h.0
proper_proper b (c ∷ bs) h = hull_proper b (covering (c ∷ bs)) h.0 (proper_proper c bs h.1)

-- the covering box is around the cells, with each side at one
pub covering_cover : (b : CellBox) (bs : List CellBox) → Banded (b ∷ bs) → Cover (b ∷ bs) (covering (b ∷ bs))
covering_cover b bs k = proper_cover b bs k.proper

-- it has a cell and is on the largest screen
pub covering_proper : (b : CellBox) (bs : List CellBox) → Banded (b ∷ bs) → Proper (covering (b ∷ bs))
covering_proper b bs k = proper_proper b bs k.proper

-- it is the only box that is around the cells, with each side at one
pub cover_is : (b : CellBox) (bs : List CellBox) (k : CellBox) → Banded (b ∷ bs) → Cover (b ∷ bs) k → k ≡ covering (b ∷ bs)
cover_is b bs k h c = cover_same (b ∷ bs) k (covering (b ∷ bs)) c (covering_cover b bs h)

-- it is the least box over the cells
pub covers : Covers
covers b bs k = cover_least (b ∷ bs) (covering (b ∷ bs)) (covering_cover b bs k)

-- a box with a cell, all of whose cells another has, is within its sides
pub box_within :
    (p q : CellBox) → p.left < p.right → p.top < p.bottom → ((x y : ℕ) → in_box p x y ≡ true → in_box q x y ≡ true)
    → (q.left ≤ p.left) × (q.top ≤ p.top) × (p.right ≤ q.right) × (p.bottom ≤ q.bottom)
box_within p q w h f =
    let x : ℕ = p.right - 1 in
    let y : ℕ = p.bottom - 1 in
    let a = box_parts q p.left p.top (f p.left p.top (box_from p p.left p.top (omega arith) w (omega arith) h)) in
    let b = box_parts q x y (f x y (box_from p x y (omega arith) (omega arith) (omega arith) (omega arith))) in
    (a.0, a.2, omega arith, omega arith)

-- it is the only least box over the cells
pub covering_least : (b : CellBox) (bs : List CellBox) (k : CellBox) → Banded (b ∷ bs) → Least (b ∷ bs) k → k ≡ covering (b ∷ bs)
covering_least b bs k h l =
    let j : CellBox = covering (b ∷ bs) in
    let c = covering_cover b bs h in
    let w = covering_proper b bs h in
    let p = cover_within (b ∷ bs) j k c l.around in
    let q = box_within k j (omega arith) (omega arith) (l.least j c.around) in
    box_same k j (omega arith) (omega arith) (omega arith) (omega arith)

-- what stands in a region is banded
pub limited_banded : (bs : List CellBox) → Banded bs → Banded (limited bs)
limited_banded [] k = k
limited_banded (b ∷ bs) k =
    cond_both (leb (length (b ∷ bs)) 32) (b ∷ bs) (covering (b ∷ bs) ∷ []) Banded (λ _. k)
    (λ _. box_banded (covering (b ∷ bs)) (covering_proper b bs k))
