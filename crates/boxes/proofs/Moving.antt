-- A banded list, moved so that it stays on the largest screen, is banded, and has its cells moved.
use Rattle.std.proofs.Common.{◌≡◌, ℕ, ◌+◌, ◌-◌, ◌≤◌, Bool, true, false, ◌&&◌, ◌||◌, leb, List, [], ◌∷◌, ◌++◌, map, sym, refl, ap, ◌∙◌, subst, ap₂, inl, inr, arith}
use Rattle.std.specs.List.{AllByRecursion}
use Rattle.std.proofs.lemmas.List.{map-append}
use Rattle.std.proofs.lemmas.Bool.{and_left, cases_Bool}
use Rattle.std.proofs.lemmas.Bool.Decides.{nat_tests}
use Rattle.screen.specs.declared.corner.Corner.{Corner}
use Rattle.boxes.specs.declared.cell_box.CellBox.{CellBox}
use Rattle.boxes.specs.Banded.{Span}
use Rattle.boxes.specs.Bands.{Apart, Band, ByBands, Stack, boxes_of, flat}
use Rattle.boxes.specs.Cells.{SameCells, between, has, on_largest, shifted}
use Rattle.boxes.specs.Moves.{move_box}
use Rattle.boxes.proofs.Adding.{every_flat, stack_close, stack_raise, unseen}
use Rattle.boxes.proofs.Unique.{span_same}

-- the moved box is on the largest screen
abbrev pub Stays : Corner → Corner → CellBox → Type 0
Stays from to b = (from.x ≤ b.left + to.x) × (from.y ≤ b.top + to.y) × (b.right + to.x ≤ 256 + from.x) × (b.bottom + to.y ≤ 256 + from.y)

-- runs and bands, moved
abbrev pub move_span : ℕ → ℕ → Span → Span
move_span f t s = record { left = s.left + t - f; right = s.right + t - f }

abbrev pub move_band : Corner → Corner → Band → Band
move_band from to b = record { top = b.top + to.y - from.y; bottom = b.bottom + to.y - from.y; row = map (move_span from.x to.x) b.row }

-- and on the largest screen then
abbrev pub RunsStay : ℕ → ℕ → List Span → Type 0
RunsStay f t ss = AllByRecursion (λ s. (f ≤ s.left + t) × (s.right + t ≤ 256 + f)) ss

abbrev pub BandStays : Corner → Corner → Band → Type 0
BandStays from to b = (from.y ≤ b.top + to.y) × (b.bottom + to.y ≤ 256 + from.y) × RunsStay from.x to.x b.row

-- runs
pub move_apart : (f t l m : ℕ) (ss : List Span) → Apart l ss → RunsStay f t ss → m ≤ l + t - f → Apart m (map (move_span f t) ss)
move_apart f t l m [] a r h = tt
move_apart f t l m (s ∷ ss) a r h = (
  omega arith,
  omega arith,
  omega arith,
  move_apart f t (s.right + 1) (s.right + t - f + 1) ss a.3 r.1 (omega arith),
)

pub move_back : (f t l : ℕ) (ss : List Span) → Apart l ss → RunsStay f t ss → map (move_span t f) (map (move_span f t) ss) ≡ ss
move_back f t l [] a r = refl
move_back f t l (s ∷ ss) a r =
    let e : move_span t f (move_span f t s) ≡ s = span_same (move_span t f (move_span f t s)) s (omega arith) (omega arith) in
    λ i. e i ∷ move_back f t (s.right + 1) ss a.3 r.1 i

-- runs that are the same when moved are the same
pub move_same :
    (f t l m : ℕ) (ss ps : List Span) → Apart l ss → Apart m ps → RunsStay f t ss → RunsStay f t ps
    → map (move_span f t) ss ≡ map (move_span f t) ps → ss ≡ ps
move_same f t l m ss ps a b r q e = sym (move_back f t l ss a r) ∙ ap (map (move_span t f)) e ∙ move_back f t m ps b q

-- tests and Booleans
move_between : (f t l r x : ℕ) → f ≤ l + t → between (l + t - f) (r + t - f) x ≡ (leb t (x + f) && between l r (x + f - t))
move_between f t l r x h = grind (arith, nat_tests)

shared : (a b c d r : Bool) → (((a && b) && (c && d)) || (a && c && r)) ≡ (a && c && ((b && d) || r))
shared true true true d r = refl
shared true true false d r = refl
shared true false true d r = refl
shared true false false d r = refl
shared false b c d r = refl

nothing : (a c : Bool) → false ≡ (a && c && false)
nothing true true = refl
nothing true false = refl
nothing false c = refl

module _ (from to : Corner) where
  -- what is said of the boxes is said of the bands
  runs_stay : (t e : ℕ) (ss : List Span) → AllByRecursion (Stays from to) (boxes_of t e ss) → RunsStay from.x to.x ss
  runs_stay t e [] h = tt
  runs_stay t e (s ∷ ss) h = ((h.0.0, h.0.2), runs_stay t e ss h.1)

  rows_stay : (t e : ℕ) (ss : List Span) → (ss ≡ [] → ⊥) → AllByRecursion (Stays from to) (boxes_of t e ss) → (from.y ≤ t + to.y) × (e + to.y ≤ 256 + from.y)
  rows_stay t e [] n h = absurd (n refl)
  rows_stay t e (s ∷ ss) n h = (h.0.1, h.0.3)

  bands_stay : (t : ℕ) (p : List Span) (bs : List Band) → Stack t p bs → AllByRecursion (Stays from to) (flat bs) → AllByRecursion (BandStays from to) bs
  bands_stay t p [] k h = tt
  bands_stay t p (b ∷ bs) k h =
      let e = every_flat (Stays from to) b bs h in
      let r = rows_stay b.top b.bottom b.row k.3 e.1 in
      ((r.0, r.1, runs_stay b.top b.bottom b.row e.1), bands_stay b.top b.row bs k.5 e.0)

  -- the boxes of the moved bands are the moved boxes
  move_boxes : (t e : ℕ) (ss : List Span) → map (move_box from to) (boxes_of t e ss) ≡ boxes_of (t + to.y - from.y) (e + to.y - from.y) (map (move_span from.x to.x) ss)
  move_boxes t e [] = refl
  move_boxes t e (s ∷ ss) = ap (λ l. record { left = s.left + to.x - from.x; top = t + to.y - from.y; right = s.right + to.x - from.x; bottom = e + to.y - from.y } ∷ l) (move_boxes t e ss)

  pub move_flat : (bs : List Band) → map (move_box from to) (flat bs) ≡ flat (map (move_band from to) bs)
  move_flat [] = refl
  move_flat (b ∷ bs) =
      map-append (move_box from to) (flat bs) (boxes_of b.top b.bottom b.row)
      ∙ ap₂ ◌++◌ (move_flat bs) (move_boxes b.top b.bottom b.row)

  -- the moved bands are a stack
  pub move_stack :
      (t : ℕ) (p : List Span) (bs : List Band) → Stack t p bs → Apart 0 p → RunsStay from.x to.x p → from.y ≤ t + to.y → AllByRecursion (BandStays from to) bs
      → Stack (t + to.y - from.y) (map (move_span from.x to.x) p) (map (move_band from to) bs)
  move_stack t p [] k a r h q = tt
  move_stack t p (b ∷ bs) k a r h q = (
    omega arith,
    omega arith,
    move_apart from.x to.x 0 0 b.row k.2 q.0.2 (omega arith),
    (λ e. k.3 (move_same from.x to.x 0 0 b.row [] k.2 tt q.0.2 tt e)),
    (λ at e. k.4 (omega arith) (move_same from.x to.x 0 0 b.row p k.2 a q.0.2 r e)),
    move_stack b.top b.row bs k.5 k.2 q.0.2 q.0.0 q.1,
  )

  move_largest : (bs : List Band) → Stack 256 [] bs → AllByRecursion (BandStays from to) bs → Stack 256 [] (map (move_band from to) bs)
  move_largest [] k q = tt
  move_largest (b ∷ bs) k q =
      stack_raise (b.bottom + to.y - from.y) 256 (map (move_band from to) (b ∷ bs))
      (move_stack b.bottom [] (b ∷ bs) (stack_close 256 [] b bs k) tt tt (omega arith) q) (omega arith)

  -- the cells of the moved boxes
  pub move_cells :
      (bs : List CellBox) → AllByRecursion (Stays from to) bs → (x y : ℕ)
      → has (map (move_box from to) bs) x y ≡ (leb to.x (x + from.x) && leb to.y (y + from.y) && has bs (x + from.x - to.x) (y + from.y - to.y))
  move_cells [] h x y = nothing (leb to.x (x + from.x)) (leb to.y (y + from.y))
  move_cells (b ∷ bs) h x y =
      ap₂ ◌||◌ (ap₂ ◌&&◌ (move_between from.x to.x b.left b.right x h.0.0) (move_between from.y to.y b.top b.bottom y h.0.1)) (move_cells bs h.1 x y)
      ∙ shared (leb to.x (x + from.x)) (between b.left b.right (x + from.x - to.x)) (leb to.y (y + from.y)) (between b.top b.bottom (y + from.y - to.y)) (has bs (x + from.x - to.x) (y + from.y - to.y))

  -- the moved list is banded, and has the cells of the list, moved
  pub move_bands :
      (bs : List CellBox) → ByBands bs → AllByRecursion (Stays from to) bs
      → ByBands (map (move_box from to) bs)
      × ((x y : ℕ) → has (map (move_box from to) bs) x y ≡ (leb to.x (x + from.x) && leb to.y (y + from.y) && has bs (x + from.x - to.x) (y + from.y - to.y)))
  move_bands bs b h =
      let q : AllByRecursion (BandStays from to) b.bands =
      bands_stay 256 [] b.bands b.stack (subst (λ l. AllByRecursion (Stays from to) l) b.boxes h) in (
        record {
          bands = map (move_band from to) b.bands;
          boxes = ap (map (move_box from to)) b.boxes ∙ move_flat b.bands;
          stack = move_largest b.bands b.stack q;
        },
        move_cells bs h,
      )

  -- these are the cells of the list, shifted
  pub move_shifted : (bs : List CellBox) → ByBands bs → AllByRecursion (Stays from to) bs → SameCells (has (map (move_box from to) bs)) (shifted from to bs)
  move_shifted bs b h x y =
      let m = move_bands bs b h in
      let here : Bool = leb to.x (x + from.x) && leb to.y (y + from.y) && has bs (x + from.x - to.x) (y + from.y - to.y) in
      elim (cases_Bool (on_largest x y)) [
        | inl on ↦ m.1 x y ∙ sym (ap (λ v. v && here) on)
        | inr off ↦ ap (λ l. has l x y) m.0.boxes ∙ unseen m.0.bands x y m.0.stack off ∙ sym (and_left (on_largest x y) here off)
      ]
