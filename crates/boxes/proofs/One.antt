-- A set of cells has one region, and the regions of two small examples.
use Rattle.std.proofs.Common.{◌≡◌, ℕ, ◌+◌, ◌≤◌, Bool, leb, ◌≢◌, List, [], ◌∷◌, length, sym, refl, ap, ◌∙◌, subst, arith}
use Rattle.std.proofs.lemmas.Bool.{cond-true, false≢true, le-leb}
use Rattle.std.proofs.lemmas.Bool.Decides.{nat_tests}
use Rattle.boxes.specs.declared.cell_box.CellBox.{CellBox}
use Rattle.boxes.specs.Banded.{Banded, Span}
use Rattle.boxes.specs.Bands.{Band, in_spans}
use Rattle.boxes.specs.Cells.{SameCells, either, has}
use Rattle.boxes.specs.Regions.{OneRegion, RegionOf, Worked, box_at, covering, limited}
use Rattle.boxes.proofs.Covering.{limited_banded}
use Rattle.boxes.proofs.Rules.{box_banded, from_bands, some_cons, unique}

-- two regions of a set of cells are one
pub one_region : OneRegion
one_region cells ps qs p q =
    p.boxes
    ∙ ap limited (unique p.exact q.exact p.banded q.banded (λ x y. p.same x y ∙ sym (q.same x y)))
    ∙ sym q.boxes

-- a banded list of at most 32 boxes with the cells is the region
pub is_region : (cells : ℕ → ℕ → Bool) (ss : List CellBox) → Banded ss → SameCells (has ss) cells → length ss ≤ 32 → RegionOf cells ss
is_region cells ss b e h =
    record { exact = ss; banded = b; same = e; boxes = sym (cond-true (leb (length ss) 32) ss (covering ss ∷ []) (le-leb (length ss) 32 h)) }

pub region_is :
    (cells : ℕ → ℕ → Bool) (rs ss : List CellBox) → RegionOf cells rs → Banded ss → SameCells (has ss) cells → length ss ≤ 32 → rs ≡ ss
region_is cells rs ss r b e h = one_region cells rs ss r (is_region cells ss b e h)

-- a region is banded
pub region_banded : (cells : ℕ → ℕ → Bool) (rs : List CellBox) → RegionOf cells rs → Banded rs
region_banded cells rs r = subst Banded (sym r.boxes) (limited_banded r.exact r.banded)

-- the examples
neighbour_cells : SameCells (has (box_at 0 0 4 1 ∷ [])) (either (box_at 0 0 2 1 ∷ []) (box_at 2 0 2 1 ∷ []))
neighbour_cells x y = grind (arith, nat_tests)

neighbours : (rs : List CellBox) → RegionOf (either (box_at 0 0 2 1 ∷ []) (box_at 2 0 2 1 ∷ [])) rs → rs ≡ box_at 0 0 4 1 ∷ []
neighbours rs r =
    region_is (either (box_at 0 0 2 1 ∷ []) (box_at 2 0 2 1 ∷ [])) rs (box_at 0 0 4 1 ∷ []) r (box_banded (box_at 0 0 4 1) (omega arith)) neighbour_cells
    (omega arith)

corner_cells :
    SameCells (has (box_at 0 0 2 1 ∷ box_at 0 1 3 1 ∷ box_at 1 2 2 1 ∷ [])) (either (box_at 0 0 2 2 ∷ []) (box_at 1 1 2 2 ∷ []))
corner_cells x y = grind (arith, nat_tests)

abbrev run : ℕ → ℕ → Span
run l r = record { left = l; right = r }

abbrev band : ℕ → Span → Band
band y s = record { top = y; bottom = y + 1; row = s ∷ [] }

-- rows that differ in a cell differ
rows_differ : (ss ts : List Span) (x : ℕ) → (in_spans ss x ≡ in_spans ts x → ⊥) → ss ≢ ts
rows_differ ss ts x h e = h (ap (λ l. in_spans l x) e)

corner_boxes : Banded (box_at 0 0 2 1 ∷ box_at 0 1 3 1 ∷ box_at 1 2 2 1 ∷ [])
corner_boxes =
    from_bands (box_at 0 0 2 1 ∷ box_at 0 1 3 1 ∷ box_at 1 2 2 1 ∷ [])
    (record {
      bands = band 2 (run 1 3) ∷ band 1 (run 0 3) ∷ band 0 (run 0 2) ∷ [];
      boxes = refl;
      stack = (
        omega arith,
        omega arith,
        (omega arith, omega arith, omega arith, tt),
        some_cons (run 1 3) [],
        (λ _. some_cons (run 1 3) []),
        (
          omega arith,
          omega arith,
          (omega arith, omega arith, omega arith, tt),
          some_cons (run 0 3) [],
          (λ _. rows_differ (run 0 3 ∷ []) (run 1 3 ∷ []) 0 (λ e. false≢true (sym e))),
          (
            omega arith,
            omega arith,
            (omega arith, omega arith, omega arith, tt),
            some_cons (run 0 2) [],
            (λ _. rows_differ (run 0 2 ∷ []) (run 0 3 ∷ []) 2 false≢true),
            tt,
          ),
        ),
      );
    })

corners :
    (rs : List CellBox) → RegionOf (either (box_at 0 0 2 2 ∷ []) (box_at 1 1 2 2 ∷ [])) rs
    → rs ≡ box_at 0 0 2 1 ∷ box_at 0 1 3 1 ∷ box_at 1 2 2 1 ∷ []
corners rs r =
    region_is (either (box_at 0 0 2 2 ∷ []) (box_at 1 1 2 2 ∷ [])) rs (box_at 0 0 2 1 ∷ box_at 0 1 3 1 ∷ box_at 1 2 2 1 ∷ []) r corner_boxes corner_cells
    (omega arith)

pub worked : Worked
worked = record { corners = corners; neighbours = neighbours }
