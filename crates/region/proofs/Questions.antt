-- What is asked of a region's boxes.
use Rattle.std.proofs.Common.{◌≡◌, ℕ, Bool, true, false, ◌&&◌, ◌||◌, eqb, List, [], ◌∷◌, length, Decides, sym, refl, ap, ◌∙◌, subst, ap₂, arith}
use Rattle.std.proofs.lemmas.Bool.{and_parts, both_ways, eq-eqb, eqb-true}
use Rattle.std.specs.List.{Any, list_any}
use Rattle.std.proofs.lemmas.List.Folds.{Any-from_list_any, list_any-from_Any}
use Rattle.std.proofs.lemmas.List.Recursion.{same_from_clauses}
use Rattle.screen.specs.declared.rect.Rect.{Rect}
use Rattle.screen.specs.Rects.{holds}
use Rattle.boxes.specs.declared.cell_box.CellBox.{CellBox}
use Rattle.boxes.specs.Banded.{Banded}
use Rattle.boxes.specs.Cells.{SameCells, has, in_box, none, of_rect, on_largest}
use Rattle.boxes.proofs.Laws.{only_empty}
use Rattle.boxes.proofs.Adding.{seen_largest}
use Rattle.boxes.proofs.Rules.{unique}
use Rattle.boxes.proofs.Shifting.{banded_seen}

-- a cell that two sets share
abbrev pub Common : (ℕ → ℕ → Bool) → (ℕ → ℕ → Bool) → Type 0
Common c d = (x y : ℕ) × (c x y && d x y) ≡ true

has_is : (bs : List CellBox) (x y : ℕ) → has bs x y ≡ list_any (λ b. in_box b x y) bs
has_is bs x y = same_from_clauses (λ l. has l x y) (list_any (λ b. in_box b x y)) (λ b r. in_box b x y || r) refl (λ _ _. refl) (λ _ _. refl) bs

-- a list shares a cell where one of its boxes does
pub some_common : (bs : List CellBox) (k : CellBox) → Any (λ b. Common (in_box b) (in_box k)) bs → Common (has bs) (in_box k)
some_common bs k (i, b, lt, at, (x, y, on)) =
    let p = and_parts (in_box b x y) (in_box k x y) on in
    (x, y, ap₂ ◌&&◌ (has_is bs x y ∙ list_any-from_Any (λ c. in_box c x y) bs (i, b, lt, at, p.0)) p.1)

pub common_some : (bs : List CellBox) (k : CellBox) → Common (has bs) (in_box k) → Any (λ b. Common (in_box b) (in_box k)) bs
common_some bs k (x, y, on) =
    let p = and_parts (has bs x y) (in_box k x y) on in
    let (i, b, lt, at, in') = Any-from_list_any (λ c. in_box c x y) bs (sym (has_is bs x y) ∙ p.0) in
    (i, b, lt, at, (x, y, ap₂ ◌&&◌ in' p.1))

-- the answer no
pub decides_no : (P : Type 0) → (P → ⊥) → Decides false P
decides_no P n = ((λ e. absurd (both_ways false refl e)), (λ p. absurd (n p)))

-- on the largest screen a rectangle is what it has there
pub largest_common :
    (bs : List CellBox) (rect : Rect) → Banded bs → Common (has bs) (holds rect) → Common (has bs) (of_rect rect)
largest_common bs rect b m =
    let x : ℕ = m.0 in
    let y : ℕ = m.1 in
    let p = and_parts (has bs x y) (holds rect x y) m.2 in
    let s = banded_seen bs x y b p.0 in
    (x, y, ap₂ ◌&&◌ p.0 (ap₂ ◌&&◌ p.1 (seen_largest x y s.0 s.1)))

pub common_largest : (bs : List CellBox) (rect : Rect) → Common (has bs) (of_rect rect) → Common (has bs) (holds rect)
common_largest bs rect m =
    let x : ℕ = m.0 in
    let y : ℕ = m.1 in
    let p = and_parts (has bs x y) (of_rect rect x y) m.2 in
    let q = and_parts (holds rect x y) (on_largest x y) p.1 in
    (x, y, ap₂ ◌&&◌ p.0 q.0)

-- a region without boxes is the one without cells
pub empty_tells : (bs rs : List CellBox) → rs ≡ bs → Banded rs → Decides (eqb (length rs) 0) (SameCells (has bs) none)
empty_tells bs rs e b = (
  (λ z x y. ap (λ l. has l x y) (sym e ∙ nil rs (eqb-true (length rs) 0 z))),
  (λ off. eq-eqb (length rs) 0 (ap length (only_empty rs b (λ x y. ap (λ l. has l x y) e ∙ off x y)))),
)
  where
    nil : (l : List CellBox) → length l ≡ 0 → l ≡ []
    nil [] z = refl
    nil (c ∷ cs) z = absurd (omega arith)

-- two regions with the same cells have the same boxes
pub same_tells :
    (as' bs ps qs : List CellBox) (r : Bool) → ps ≡ as' → qs ≡ bs → Banded ps → Banded qs → Decides r (ps ≡ qs)
    → Decides r (SameCells (has as') (has bs))
same_tells as' bs ps qs r e f p q d = (
  (λ on x y. ap (λ l. has l x y) (sym e ∙ d.0 on ∙ f)),
  (λ same. d.1 (unique ps qs p q (λ x y. ap (λ l. has l x y) e ∙ same x y ∙ sym (ap (λ l. has l x y) f)))),
)

-- a region meets a rectangle where it meets the rectangle's box
pub meets_some :
    (as' bs : List CellBox) (rect : Rect) (k : CellBox) (r : Bool) → bs ≡ as' → Banded bs → SameCells (in_box k) (of_rect rect) → Decides r (Any (λ c. Common (in_box c) (in_box k)) bs)
    → Decides r (Common (has as') (holds rect))
meets_some as' bs rect k r e b same d = (
  (λ on.
      let m = some_common bs k (d.0 on) in
      let x : ℕ = m.0 in
      let y : ℕ = m.1 in
      common_largest as' rect (x, y, ap₂ (λ l c. has l x y && c) (sym e) (sym (same x y)) ∙ m.2)),
  (λ m.
      let n = largest_common bs rect b (subst (λ l. Common (has l) (holds rect)) (sym e) m) in
      let x : ℕ = n.0 in
      let y : ℕ = n.1 in
      d.1 (common_some bs k (x, y, ap (λ c. has bs x y && c) (same x y) ∙ n.2))),
)

-- a rectangle that has no cell on the largest screen meets no region
pub meets_none : (as' : List CellBox) (rect : Rect) → Banded as' → SameCells (of_rect rect) none → Decides false (Common (has as') (holds rect))
meets_none as' rect b off =
    decides_no (Common (has as') (holds rect))
    (λ m.
    let n = largest_common as' rect b m in
    both_ways (of_rect rect n.0 n.1) (off n.0 n.1) (and_parts (has as' n.0 n.1) (of_rect rect n.0 n.1) n.2).1)
