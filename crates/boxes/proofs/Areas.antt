-- A banded list within w columns and h rows has at most w * h cells.
use Rattle.std.proofs.Common.{◌≡◌, ℕ, ◌+◌, ◌-◌, ◌*◌, ◌≤◌, List, [], ◌∷◌, ◌++◌, sym, refl, ap, ◌∙◌, subst, mul-le-mul_right, add-mul, mul-le-mul_left, mul-add, arith}
use Rattle.std.specs.List.{AllByRecursion}
use Rattle.boxes.specs.declared.cell_box.CellBox.{CellBox}
use Rattle.boxes.specs.Areas.{area}
use Rattle.boxes.specs.Banded.{Span}
use Rattle.boxes.specs.Bands.{Apart, Band, ByBands, Stack, boxes_of, flat}
use Rattle.boxes.proofs.Adding.{every_flat, stack_close}
use Rattle.boxes.proofs.Drawing.{apart_from}

-- the box is within w columns and h rows
abbrev pub Within : ℕ → ℕ → CellBox → Type 0
Within w h b = (b.right ≤ w) × (b.bottom ≤ h)

-- the number of cells of runs that share none
abbrev pub width : List Span → ℕ
width [] = 0
width (s ∷ ss) = (s.right - s.left) + width ss

-- runs from column l on, within w columns
pub width_most : (w l : ℕ) (ss : List Span) → Apart l ss → l ≤ w → AllByRecursion (λ s. s.right ≤ w) ss → l + width ss ≤ w
width_most w l [] a h e = omega arith
width_most w l (s ∷ ss) a h e =
    omega (arith, width_most w s.right ss (apart_from s.right (s.right + 1) ss a.3 (omega arith)) e.0 e.1)

pub area_append : (bs cs : List CellBox) → area (bs ++ cs) ≡ area bs + area cs
area_append [] cs = omega arith
area_append (b ∷ bs) cs = omega (arith, area_append bs cs)

pub area_boxes : (t e : ℕ) (ss : List Span) → area (boxes_of t e ss) ≡ width ss * (e - t)
area_boxes t e [] = omega arith
area_boxes t e (s ∷ ss) =
    ap (λ n. (s.right - s.left) * (e - t) + n) (area_boxes t e ss) ∙ sym (add-mul (s.right - s.left) (width ss) (e - t))

runs_within : (w h t e : ℕ) (ss : List Span) → AllByRecursion (Within w h) (boxes_of t e ss) → AllByRecursion (λ s. s.right ≤ w) ss
runs_within w h t e [] k = tt
runs_within w h t e (s ∷ ss) k = (k.0.0, runs_within w h t e ss k.1)

rows_within : (w h t e : ℕ) (ss : List Span) → (ss ≡ [] → ⊥) → AllByRecursion (Within w h) (boxes_of t e ss) → e ≤ h
rows_within w h t e [] n k = absurd (n refl)
rows_within w h t e (s ∷ ss) n k = k.0.1

up_to : (w a b : ℕ) → a ≤ b → w * a + w * (b - a) ≡ w * b
up_to w a b h =
    let e : a + (b - a) ≡ b = omega arith in
    sym (mul-add w a (b - a)) ∙ ap (λ n. w * n) e

-- the bands above row t have at most w * t cells
pub area_rows : (w h t : ℕ) (p : List Span) (bs : List Band) → Stack t p bs → AllByRecursion (Within w h) (flat bs) → area (flat bs) ≤ w * t
area_rows w h t p [] k e = omega arith
area_rows w h t p (b ∷ bs) k e =
    let q = every_flat (Within w h) b bs e in
    let row : width b.row ≤ w =
    omega (arith, width_most w 0 b.row k.2 (omega arith) (runs_within w h b.top b.bottom b.row q.1)) in
    omega (
      arith,
      area_append (flat bs) (boxes_of b.top b.bottom b.row),
      area_boxes b.top b.bottom b.row,
      area_rows w h b.top b.row bs k.5 q.0,
      mul-le-mul_right (b.bottom - b.top) row,
      up_to w b.top b.bottom (omega arith),
      mul-le-mul_left w k.0,
    )

area_bands : (w h : ℕ) (bs : List Band) → Stack 256 [] bs → AllByRecursion (Within w h) (flat bs) → area (flat bs) ≤ w * h
area_bands w h [] k e = omega arith
area_bands w h (b ∷ bs) k e =
    omega (
      arith,
      area_rows w h b.bottom [] (b ∷ bs) (stack_close 256 [] b bs k) e,
      mul-le-mul_left w (rows_within w h b.top b.bottom b.row k.3 (every_flat (Within w h) b bs e).1),
    )

-- a banded list within w columns and h rows
pub area_most : (w h : ℕ) (bs : List CellBox) → ByBands bs → AllByRecursion (λ b. (b.right ≤ w) × (b.bottom ≤ h)) bs → area bs ≤ w * h
area_most w h bs b e =
    subst (λ l. area l ≤ w * h) (sym b.boxes) (area_bands w h b.bands b.stack (subst (λ l. AllByRecursion (Within w h) l) b.boxes e))
