-- What is drawn in the end is the region of the cells that the operation keeps.
use Rattle.std.proofs.Common.{◌≡◌, MatchOption, Option, Some, None, ℕ, ◌<◌, ◌≤◌, Bool, true, false, ◌&&◌, ◌||◌, leb, List, [], ◌∷◌, length, sym, refl, ap, ◌∙◌, subst, subst₂, ap₂, arith, length-take}
use Rattle.std.proofs.Math.Bool.{and-false, and-true}
use Rattle.std.proofs.lemmas.Bool.{cond-false, cond-true}
use Rattle.std.proofs.lemmas.Bool.Decides.{nat_tests}
use Rattle.screen.specs.declared.rect.Rect.{Rect}
use Rattle.boxes.specs.declared.cell_box.CellBox.{CellBox}
use Rattle.boxes.specs.Banded.{Banded}
use Rattle.boxes.specs.Bands.{flat}
use Rattle.boxes.specs.Cells.{SameCells, either, has, of_rect, on_largest}
use Rattle.boxes.specs.Regions.{RegionOf, box_at, covering, limited}
use Rattle.boxes.specs.Strips.{outline}
use Rattle.boxes.proofs.Adding.{painted_cells, stack_seen, seen_largest}
use Rattle.boxes.proofs.One.{worked}
use Rattle.boxes.proofs.Outlines.{outline_covering}
use Rattle.boxes.proofs.Rules.{from_bands, to_bands}
use Rattle.region.specs.declared.operation.Operation.{Operation}
use Rattle.region.specs.declared.drawn.Drawn.{Drawn}
use Rattle.region.specs.declared.few.Few.{Few}
use Rattle.region.specs.declared.work.Work.{Work}
use Rattle.region.specs.Listed.{listed}
use Rattle.region.specs.Sets.{keeps, kept}
use Rattle.region.specs.Sweeps.{Painting}
use Rattle.region.specs.Works.{Stands}
use Rattle.region.proofs.Runs.{none_kept}

-- no more boxes are there than there is room for
pub at_most : {n : ℕ} (few : Few n) → length (listed few) ≤ n
at_most few = omega (arith, few.fits, length-take few.count few.boxes)

pub limited_few : (bs : List CellBox) → length bs ≤ 32 → limited bs ≡ bs
limited_few bs h = cond-true (leb (length bs) 32) bs (covering bs ∷ []) (grind (arith, nat_tests))

limited_many : (bs : List CellBox) → 32 < length bs → limited bs ≡ covering bs ∷ []
limited_many bs h = cond-false (leb (length bs) 32) bs (covering bs ∷ []) (grind (arith, nat_tests))

-- a banded list is on the largest screen
largest_is_on : (bs : List CellBox) (x y : ℕ) → Banded bs → has bs x y ≡ (has bs x y && on_largest x y)
largest_is_on bs x y b = go (has bs x y) refl
  where
    go : (h : Bool) → has bs x y ≡ h → h ≡ (h && on_largest x y)
    go false e = refl
    go true e =
        let k = to_bands bs b in
        let s = stack_seen k.bands x y k.stack (sym (ap (λ l. has l x y) k.boxes) ∙ e) in
        sym (seen_largest x y s.0 s.1)

keeps_largest : (op : Operation) (a b o : Bool) → a ≡ (a && o) → b ≡ (b && o) → (keeps op a b && o) ≡ keeps op a b
keeps_largest op a b true p q = and-true (keeps op a b)
keeps_largest op a b false p q =
    let off : a ≡ false = p ∙ and-false a in
    let off' : b ≡ false = q ∙ and-false b in
    and-false (keeps op a b) ∙ sym (ap₂ (keeps op) off off' ∙ none_kept op)

module _ (op : Operation) (ps qs : List CellBox) (p : Banded ps) (q : Banded qs) (w : Work) (d : Painting (kept op ps qs) 256 w) where
  exact_banded : Banded (flat d.bands)
  exact_banded = from_bands (flat d.bands) (record { bands = d.bands; boxes = refl; stack = d.painted.stack })

  exact_cells : SameCells (has (flat d.bands)) (kept op ps qs)
  exact_cells x y =
      painted_cells (kept op ps qs) d.bands d.painted x y
      ∙ keeps_largest op (has ps x y) (has qs x y) (on_largest x y) (largest_is_on ps x y p) (largest_is_on qs x y q)

  drawn_is : (b : Drawn) → w.drawn ≡ Some b → Stands d.bands b
  drawn_is b is = subst (λ o. MatchOption o (32 < length (flat d.bands)) (Stands d.bands)) is d.holds

  few_region : (b : Drawn) → w.drawn ≡ Some b → RegionOf (kept op ps qs) (listed b.boxes)
  few_region b is =
      let s : Stands d.bands b = drawn_is b is in
      record {
        exact = flat d.bands;
        banded = exact_banded;
        same = exact_cells;
        boxes = s.boxes ∙ sym (limited_few (flat d.bands) (omega (arith, ap length s.boxes, at_most b.boxes)));
      }

  -- more
  many : w.drawn ≡ None → 32 < length (flat d.bands)
  many over = subst (λ o. MatchOption o (32 < length (flat d.bands)) (Stands d.bands)) over d.holds

  hull_covers : w.drawn ≡ None → w.hull ≡ covering (flat d.bands)
  hull_covers over = go (flat d.bands) (many over) exact_banded d.hull
    where
      go : (bs : List CellBox) → 32 < length bs → Banded bs → w.hull ≡ outline bs → w.hull ≡ covering bs
      go [] h b e = absurd (omega arith)
      go (b ∷ bs) h k e = e ∙ outline_covering b bs k.proper

  many_region : w.drawn ≡ None → (rs : List CellBox) → rs ≡ w.hull ∷ [] → RegionOf (kept op ps qs) rs
  many_region over rs e =
      record {
        exact = flat d.bands;
        banded = exact_banded;
        same = exact_cells;
        boxes = e ∙ ap (λ b. b ∷ []) (hull_covers over) ∙ sym (limited_many (flat d.bands) (many over));
      }

  -- so the work's boxes are the region's
  pub work_region : (few : Few 32) → MatchOption w.drawn (listed few ≡ w.hull ∷ []) (λ b. few ≡ b.boxes) → RegionOf (kept op ps qs) (listed few)
  work_region few is = go w.drawn refl is
    where
      go : (o : Option Drawn) → w.drawn ≡ o → MatchOption o (listed few ≡ w.hull ∷ []) (λ b. few ≡ b.boxes) → RegionOf (kept op ps qs) (listed few)
      go None over e = many_region over (listed few) e
      go (Some b) drawn e = subst (λ f. RegionOf (kept op ps qs) (listed f)) (sym e) (few_region b drawn)

-- whatever the two lists are called
pub combined :
    (op : Operation) (as' bs ps qs : List CellBox) (w : Work) (few : Few 32) → ps ≡ as' → qs ≡ bs → Banded ps → Banded qs → Painting (kept op ps qs) 256 w
    → MatchOption w.drawn (listed few ≡ w.hull ∷ []) (λ b. few ≡ b.boxes) → RegionOf (kept op as' bs) (listed few)
combined op as' bs ps qs w few e f b c d is = subst₂ (λ l m. RegionOf (kept op l m) (listed few)) e f (work_region op ps qs b c w d few is)

-- the join of two rectangles' regions, from their cells
pub joined_rects :
    (ps qs as' bs rs : List CellBox) → SameCells (has ps) (has as') → SameCells (has qs) (has bs) → RegionOf (either ps qs) rs → RegionOf (either as' bs) rs
joined_rects ps qs as' bs rs p q r = record { exact = r.exact; banded = r.banded; same = λ x y. r.same x y ∙ ap₂ ◌||◌ (p x y) (q x y); boxes = r.boxes }

-- the squares
abbrev pub square : ℕ → Rect
square n = record { x = n; y = n; w = 2; h = 2 }

first_square : SameCells (of_rect (square 0)) (has (box_at 0 0 2 2 ∷ []))
first_square x y = grind (arith, nat_tests)

second_square : SameCells (of_rect (square 1)) (has (box_at 1 1 2 2 ∷ []))
second_square x y = grind (arith, nat_tests)

pub two_boxes :
    (ps qs rs : List CellBox) → SameCells (has ps) (of_rect (square 0)) → SameCells (has qs) (of_rect (square 1)) → RegionOf (either ps qs) rs
    → rs ≡ box_at 0 0 2 1 ∷ box_at 0 1 3 1 ∷ box_at 1 2 2 1 ∷ []
two_boxes ps qs rs p q r =
    worked.corners rs
    (joined_rects ps qs (box_at 0 0 2 2 ∷ []) (box_at 1 1 2 2 ∷ []) rs (λ x y. p x y ∙ first_square x y) (λ x y. q x y ∙ second_square x y) r)
