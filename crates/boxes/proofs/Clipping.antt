-- A stack of bands, cut by one box, has no more boxes.
use Rattle.std.proofs.Common.{◌≡◌, ℕ, ◌+◌, ◌<◌, ◌≤◌, min, max, Bool, true, false, cond, ◌&&◌, ◌||◌, ltb, List, [], ◌∷◌, length, sym, refl, ap, ◌∙◌, ap₂, inl, inr, arith}
use Rattle.std.proofs.Math.Bool.{and-true}
use Rattle.std.proofs.lemmas.Bool.{and_left, and_right, cases_Bool, cases_lt, cond_both, ltb-false, ltb-true}
use Rattle.std.proofs.lemmas.Bool.Decides.{nat_tests}
use Rattle.boxes.specs.declared.cell_box.CellBox.{CellBox}
use Rattle.boxes.specs.Banded.{Span}
use Rattle.boxes.specs.Bands.{Apart, Band, ByBands, Stack, flat, in_spans, row_of}
use Rattle.boxes.specs.Cells.{SameCells, between, has, has_row, in_box, on_largest}
use Rattle.boxes.specs.Strips.{Painted, add_band}
use Rattle.boxes.proofs.Adding.{length_add, length_flat, painted_add, painted_cells, painted_like, painted_skip, seen_largest, stack_close, stack_seen}
use Rattle.boxes.proofs.Drawing.{apart_from}
use Rattle.boxes.proofs.Unique.{below, beyond, has_flat, inside, row_before, row_lead, row_past}

-- the runs, cut to the columns l to r
abbrev pub clip_runs : ℕ → ℕ → List Span → List Span
clip_runs l r [] = []
clip_runs l r (s ∷ ss) =
    cond (ltb (max l s.left) (min r s.right)) (record { left = max l s.left; right = min r s.right } ∷ clip_runs l r ss)
    (clip_runs l r ss)

-- the bands, cut to the box
abbrev pub clip_bands : CellBox → List Band → List Band
clip_bands k [] = []
clip_bands k (b ∷ bs) =
    cond (ltb (max k.top b.top) (min k.bottom b.bottom))
    (add_band (max k.top b.top) (min k.bottom b.bottom) (clip_runs k.left k.right b.row) (clip_bands k bs))
    (clip_bands k bs)

-- a row cut to columns
pub clip_apart : (l r m : ℕ) (ss : List Span) → Apart m ss → Apart m (clip_runs l r ss)
clip_apart l r m [] a = tt
clip_apart l r m (s ∷ ss) a =
    let rest : Apart (s.right + 1) (clip_runs l r ss) = clip_apart l r (s.right + 1) ss a.3 in
    let s' : Span = record { left = max l s.left; right = min r s.right } in
    cond_both (ltb (max l s.left) (min r s.right)) (s' ∷ clip_runs l r ss) (clip_runs l r ss) (λ q. Apart m q)
    (λ on. (omega arith, ltb-true (max l s.left) (min r s.right) on, omega arith, apart_from (min r s.right + 1) (s.right + 1) (clip_runs l r ss) rest (omega arith)))
    (λ _. apart_from m (s.right + 1) (clip_runs l r ss) rest (omega arith))

clip_some : (l r a b x : ℕ) → between (max l a) (min r b) x ≡ (between a b x && between l r x)
clip_some l r a b x = grind (arith, nat_tests)

clip_none : (l r a b x : ℕ) → min r b ≤ max l a → (between a b x && between l r x) ≡ false
clip_none l r a b x h = grind (arith, nat_tests)

and_share : (a b c : Bool) → ((a && c) || (b && c)) ≡ ((a || b) && c)
and_share true true true = refl
and_share true true false = refl
and_share true false true = refl
and_share true false false = refl
and_share false b c = refl

pub clip_cells : (l r : ℕ) (ss : List Span) (x : ℕ) → in_spans (clip_runs l r ss) x ≡ (in_spans ss x && between l r x)
clip_cells l r [] x = refl
clip_cells l r (s ∷ ss) x =
    let s' : Span = record { left = max l s.left; right = min r s.right } in
    let more = ap₂ ◌||◌ (clip_some l r s.left s.right x) (clip_cells l r ss x) ∙ and_share (between s.left s.right x) (in_spans ss x) (between l r x) in
    cond_both (ltb (max l s.left) (min r s.right)) (s' ∷ clip_runs l r ss) (clip_runs l r ss)
    (λ q. in_spans q x ≡ (in_spans (s ∷ ss) x && between l r x)) (λ _. more)
    (λ off.
    ap (λ v. v || in_spans (clip_runs l r ss) x) (sym (clip_some l r s.left s.right x ∙ clip_none l r s.left s.right x (ltb-false (max l s.left) (min r s.right) off))) ∙ more)

pub clip_runs_length : (l r : ℕ) (ss : List Span) → length (clip_runs l r ss) ≤ length ss
clip_runs_length l r [] = omega arith
clip_runs_length l r (s ∷ ss) =
    let s' : Span = record { left = max l s.left; right = min r s.right } in
    cond_both (ltb (max l s.left) (min r s.right)) (s' ∷ clip_runs l r ss) (clip_runs l r ss) (λ q. length q ≤ length (s ∷ ss))
    (λ _. omega (arith, clip_runs_length l r ss)) (λ _. omega (arith, clip_runs_length l r ss))

-- no cut adds boxes
pub clip_length : (k : CellBox) (bs : List Band) → length (flat (clip_bands k bs)) ≤ length (flat bs)
clip_length k [] = omega arith
clip_length k (b ∷ bs) =
    let t : ℕ = max k.top b.top in
    let e : ℕ = min k.bottom b.bottom in
    let row : List Span = clip_runs k.left k.right b.row in
    cond_both (ltb t e) (add_band t e row (clip_bands k bs)) (clip_bands k bs) (λ q. length (flat q) ≤ length (flat (b ∷ bs)))
    (λ _. omega (arith, length_add t e row (clip_bands k bs), clip_length k bs, length_flat b bs, clip_runs_length k.left k.right b.row))
    (λ _. omega (arith, clip_length k bs, length_flat b bs))

-- the cells of a row that the box has
abbrev pub cut : CellBox → List Band → ℕ → ℕ → Bool
cut k bs x y = in_spans (row_of bs y) x && in_box k x y

cut_off : (k : CellBox) (bs : List Band) (x y : ℕ) → has_row k y ≡ false → cut k bs x y ≡ false
cut_off k bs x y off = and_right (in_spans (row_of bs y) x) (in_box k x y) (and_right (between k.left k.right x) (has_row k y) off)

cut_on : (k : CellBox) (b : Band) (bs : List Band) (x y : ℕ) → has_row k y ≡ true → b.top ≤ y → y < b.bottom → in_spans (clip_runs k.left k.right b.row) x ≡ cut k (b ∷ bs) x y
cut_on k b bs x y on lo hi =
    clip_cells k.left k.right b.row x
    ∙ ap₂ ◌&&◌ (ap (λ l. in_spans l x) (sym (row_lead b bs y lo hi))) (sym (ap (λ v. between k.left k.right x && v) on ∙ and-true (between k.left k.right x)))

cut_above : (k : CellBox) (b : Band) (bs : List Band) (x y : ℕ) → b.top ≤ y → y < max k.top b.top → cut k (b ∷ bs) x y ≡ false
cut_above k b bs x y lo hi = cut_off k (b ∷ bs) x y (below k.top k.bottom y (omega arith))

cut_below :
    (k : CellBox) (t : ℕ) (p : List Span) (b : Band) (bs : List Band) (x y : ℕ) → Stack t p (b ∷ bs) → min k.bottom b.bottom ≤ y
    → cut k (b ∷ bs) x y ≡ false
cut_below k t p b bs x y s h =
    elim (cases_lt y k.bottom) [
      | inl lt ↦ ap (λ l. in_spans l x && in_box k x y) (row_before b.bottom [] (b ∷ bs) y (stack_close t p b bs s) (omega arith))
      | inr ge ↦ cut_off k (b ∷ bs) x y (beyond k.top k.bottom y ge)
    ]

-- the bands cut to the box have the cells that are in the box
pub clip_painted : (k : CellBox) (t : ℕ) (p : List Span) (bs : List Band) → Stack t p bs → Painted (cut k bs) t (clip_bands k bs)
clip_painted k t p [] s = record { stack = tt; cells = λ x v _ _. refl }
clip_painted k t p (b ∷ bs) s =
    let f : ℕ = max k.top b.top in
    let e : ℕ = min k.bottom b.bottom in
    let row : List Span = clip_runs k.left k.right b.row in
    let c : ℕ → ℕ → Bool = cut k (b ∷ bs) in
    let above : Painted c b.top (clip_bands k bs) =
    painted_like (cut k bs) c b.top (clip_bands k bs) (clip_painted k b.top b.row bs s.5)
    (λ x v xs vs. ap (λ l. in_spans l x && in_box k x v) (sym (row_past b bs v vs))) in
    cond_both (ltb f e) (add_band f e row (clip_bands k bs)) (clip_bands k bs) (λ q. Painted c t q)
    (λ on.
    (let lt : f < e = ltb-true f e on in
    painted_skip c e t (add_band f e row (clip_bands k bs))
    (painted_add c f e row (clip_bands k bs)
    (painted_skip c b.top f (clip_bands k bs) above (omega arith) (λ x v xs lo hi. cut_above k b bs x v lo hi)) lt
    (clip_apart k.left k.right 0 b.row s.2)
    (λ x v xs lo hi. cut_on k b bs x v (inside k.top k.bottom v (omega arith) (omega arith)) (omega arith) (omega arith)))
    (omega arith) (λ x v xs lo hi. cut_below k t p b bs x v s lo)))
    (λ off.
    (let ge : e ≤ f = ltb-false f e off in
    painted_skip c b.top t (clip_bands k bs) above (omega arith)
    (λ x v xs lo hi. elim (cases_lt v f) [
      | inl lt ↦ cut_above k b bs x v lo lt
      | inr le ↦ cut_below k t p b bs x v s (omega arith)
    ])))

-- a cell of the stack is on the largest screen, so it need not be said
largest : (bs : List Band) (k : CellBox) (x y : ℕ) → Stack 256 [] bs → ((has (flat bs) x y && in_box k x y) && on_largest x y) ≡ (has (flat bs) x y && in_box k x y)
largest bs k x y s =
    elim (cases_Bool (has (flat bs) x y)) [
      | inl on ↦ (let e = stack_seen bs x y s on in
          ap (λ v. (has (flat bs) x y && in_box k x y) && v) (seen_largest x y e.0 e.1) ∙ and-true (has (flat bs) x y && in_box k x y))
      | inr off ↦ and_left (has (flat bs) x y && in_box k x y) (on_largest x y) (and_left (has (flat bs) x y) (in_box k x y) off) ∙ sym (and_left (has (flat bs) x y) (in_box k x y) off)
    ]

-- the cells of a banded list that are in a box are the cells of a banded list with no more boxes
pub clip :
    (bs : List CellBox) (k : CellBox) → ByBands bs
    → (cs : List CellBox) × ByBands cs × (length cs ≤ length bs) × SameCells (has cs) (λ x y. has bs x y && in_box k x y)
clip bs k b =
    let ds : List Band = b.bands in
    let p = clip_painted k 256 [] ds b.stack in (
      flat (clip_bands k ds),
      record { bands = clip_bands k ds; boxes = refl; stack = p.stack },
      omega (arith, clip_length k ds, ap length b.boxes),
      (λ x y.
          painted_cells (cut k ds) (clip_bands k ds) p x y
          ∙ ap (λ v. (v && in_box k x y) && on_largest x y) (sym (has_flat 256 [] ds x y b.stack))
          ∙ largest ds k x y b.stack
          ∙ ap (λ l. has l x y && in_box k x y) (sym b.boxes)),
    )
