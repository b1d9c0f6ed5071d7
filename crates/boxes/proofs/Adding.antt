-- Strips of rows, added one by one below a stack of bands.
use Rattle.std.proofs.Common.{◌≡◌, ℕ, suc, ◌+◌, ◌<◌, ◌≤◌, Bool, true, false, ◌&&◌, eqb, ◌≢◌, List, [], ◌∷◌, ◌++◌, length, sym, refl, ap, ◌∙◌, subst, inl, inr, arith}
use Rattle.std.specs.List.{AllByRecursion}
use Rattle.std.proofs.Math.Bool.{and-true}
use Rattle.std.proofs.lemmas.List.{length-append}
use Rattle.std.proofs.lemmas.Bool.{cases_lt, cases_Bool, false≢true, both_ways, eqb-true, and_parts, and_right, or_cases, cond_both, eq-eqb}
use Rattle.std.proofs.lemmas.Bool.Decides.{nat_tests}
use Rattle.boxes.specs.declared.cell_box.CellBox.{CellBox}
use Rattle.boxes.specs.Banded.{Span}
use Rattle.boxes.specs.Bands.{Apart, Band, Stack, boxes_of, flat, in_spans, row_of}
use Rattle.boxes.specs.Cells.{between, has, on_largest}
use Rattle.boxes.specs.Strips.{Painted, add_band, goes_on, grown, lower_all, same_runs}
use Rattle.boxes.proofs.Unique.{between_true, has_flat, row_apart, row_before, row_lead, row_past, span_same}

-- runs
IsCons : List Span → Type 0
IsCons [] = ⊥
IsCons (s ∷ ss) = Unit {0}

pub some_cons : (s : Span) (ss : List Span) → s ∷ ss ≢ []
unfolding IsCons
some_cons s ss e = subst IsCons e tt

pub some_runs : (rs : List Span) → rs ≢ [] → 0 < length rs
some_runs [] n = absurd (n refl)
some_runs (r ∷ rs) n = omega arith

pub runs_equal : (rs ss : List Span) → same_runs rs ss ≡ true → rs ≡ ss
runs_equal [] [] h = refl
runs_equal [] (s ∷ ss) h = absurd (false≢true h)
runs_equal (r ∷ rs) [] h = absurd (false≢true h)
runs_equal (r ∷ rs) (s ∷ ss) h =
    let p = and_parts (eqb r.left s.left && eqb r.right s.right) (same_runs rs ss) h in
    let q = and_parts (eqb r.left s.left) (eqb r.right s.right) p.0 in
    let e : r ≡ s = span_same r s (eqb-true r.left s.left q.0) (eqb-true r.right s.right q.1) in
    λ i. e i ∷ runs_equal rs ss p.1 i

pub runs_same : (rs : List Span) → same_runs rs rs ≡ true
runs_same [] = refl
runs_same (r ∷ rs) = rw (eq-eqb r.left r.left refl, eq-eqb r.right r.right refl) (runs_same rs)

pub runs_differ : (rs ss : List Span) → same_runs rs ss ≡ false → rs ≢ ss
runs_differ rs ss h e = both_ways (same_runs rs ss) h (subst (λ l. same_runs rs l ≡ true) e (runs_same rs))

-- the boxes of a band
pub lower_boxes : (t e f : ℕ) (rs : List Span) → lower_all f (boxes_of t e rs) ≡ boxes_of t f rs
lower_boxes t e f [] = refl
lower_boxes t e f (r ∷ rs) = ap (λ l. record { left = r.left; top = t; right = r.right; bottom = f } ∷ l) (lower_boxes t e f rs)

pub length_boxes : (t e : ℕ) (rs : List Span) → length (boxes_of t e rs) ≡ length rs
length_boxes t e [] = refl
length_boxes t e (r ∷ rs) = ap suc (length_boxes t e rs)

pub length_flat : (b : Band) (bs : List Band) → length (flat (b ∷ bs)) ≡ length (flat bs) + length b.row
length_flat b bs = length-append (flat bs) (boxes_of b.top b.bottom b.row) ∙ ap (λ n. length (flat bs) + n) (length_boxes b.top b.bottom b.row)

pub length_grown : (e : ℕ) (bs : List Band) → length (flat (grown e bs)) ≡ length (flat bs)
length_grown e [] = refl
length_grown e (b ∷ bs) = length_flat (record { top = b.top; bottom = e; row = b.row }) bs ∙ sym (length_flat b bs)

-- no band that is added makes the boxes fewer
pub grows : (t e : ℕ) (row : List Span) (bs : List Band) → length (flat bs) ≤ length (flat (add_band t e row bs))
grows t e [] bs = omega arith
grows t e (s ∷ ss) bs =
    let new : Band = record { top = t; bottom = e; row = s ∷ ss } in
    cond_both (goes_on t (s ∷ ss) bs) (grown e bs) (new ∷ bs) (λ l. length (flat bs) ≤ length (flat l))
    (λ _. omega (arith, length_grown e bs)) (λ _. omega (arith, length_flat new bs))

-- and at most the row's runs are added
pub length_add : (t e : ℕ) (row : List Span) (bs : List Band) → length (flat (add_band t e row bs)) ≤ length (flat bs) + length row
length_add t e [] bs = omega arith
length_add t e (s ∷ ss) bs =
    let new : Band = record { top = t; bottom = e; row = s ∷ ss } in
    cond_both (goes_on t (s ∷ ss) bs) (grown e bs) (new ∷ bs) (λ l. length (flat l) ≤ length (flat bs) + length (s ∷ ss))
    (λ _. omega (arith, length_grown e bs)) (λ _. omega (arith, length_flat new bs))

-- what holds of the boxes of the bands
pub every_split : {X : Type 0} (P : X → Type 0) (xs ys : List X) → AllByRecursion P (xs ++ ys) → AllByRecursion P xs × AllByRecursion P ys
every_split P [] ys h = (tt, h)
every_split P (x ∷ xs) ys h =
    let r = every_split P xs ys h.1 in
    ((h.0, r.0), r.1)

pub every_flat : (P : CellBox → Type 0) (b : Band) (bs : List Band) → AllByRecursion P (flat (b ∷ bs)) → AllByRecursion P (flat bs) × AllByRecursion P (boxes_of b.top b.bottom b.row)
every_flat P b bs h = every_split P (flat bs) (boxes_of b.top b.bottom b.row) h

-- stacks
pub stack_raise : (t e : ℕ) (bs : List Band) → Stack t [] bs → t ≤ e → Stack e [] bs
stack_raise t e [] k h = tt
stack_raise t e (b ∷ bs) k h = (omega arith, k.1, k.2, k.3, (λ _. k.3), k.5)

pub stack_close : (t : ℕ) (p : List Span) (b : Band) (bs : List Band) → Stack t p (b ∷ bs) → Stack b.bottom [] (b ∷ bs)
stack_close t p b bs k = (omega arith, k.1, k.2, k.3, (λ _. k.3), k.5)

pub stack_under : (t : ℕ) (row : List Span) (bs : List Band) → Stack t [] bs → goes_on t row bs ≡ false → Stack t row bs
stack_under t row [] k g = tt
stack_under t row (b ∷ bs) k g = (
  k.0,
  k.1,
  k.2,
  k.3,
  (λ e. runs_differ b.row row (sym (ap (λ v. v && same_runs b.row row) (eq-eqb b.bottom t e)) ∙ g)),
  k.5,
)

pub stack_grown : (t e : ℕ) (bs : List Band) → Stack t [] bs → t < e → Stack e [] (grown e bs)
stack_grown t e [] k h = tt
stack_grown t e (b ∷ bs) k h = (omega arith, omega arith, k.2, k.3, (λ _. k.3), k.5)

-- the bands and the strip are a stack
pub stack_add : (t e : ℕ) (row : List Span) (bs : List Band) → Stack t [] bs → t < e → Apart 0 row → Stack e [] (add_band t e row bs)
stack_add t e [] bs k h a = stack_raise t e bs k (omega arith)
stack_add t e (s ∷ ss) bs k h a =
    let new : Band = record { top = t; bottom = e; row = s ∷ ss } in
    cond_both (goes_on t (s ∷ ss) bs) (grown e bs) (new ∷ bs) (λ l. Stack e [] l)
    (λ _. stack_grown t e bs k h)
    (λ g. (omega arith, h, a, some_cons s ss, (λ _. some_cons s ss), stack_under t (s ∷ ss) bs k g))

-- cs has the rows of bs above t, and the runs `row` in the rows t to e
abbrev pub Below : ℕ → ℕ → List Span → List Band → List Band → Type 0
Below t e row bs cs = ((v : ℕ) → v < t → row_of cs v ≡ row_of bs v) × ((v : ℕ) → t ≤ v → v < e → row_of cs v ≡ row)

pub rows_grown : (t e : ℕ) (row : List Span) (bs : List Band) → Stack t [] bs → t < e → goes_on t row bs ≡ true → Below t e row bs (grown e bs)
rows_grown t e row [] k h g = absurd (false≢true g)
rows_grown t e row (b ∷ bs) k h g =
    let p = and_parts (eqb b.bottom t) (same_runs b.row row) g in
    let at : b.bottom ≡ t = eqb-true b.bottom t p.0 in
    let b' : Band = record { top = b.top; bottom = e; row = b.row } in (
      (λ v lt. elim (cases_lt v b.top) [
        | inl j ↦ row_past b' bs v j ∙ sym (row_past b bs v j)
        | inr j ↦ row_lead b' bs v j (omega arith) ∙ sym (row_lead b bs v j (omega arith))
      ]),
      (λ v le lt. row_lead b' bs v (omega arith) lt ∙ runs_equal b.row row p.1),
    )

pub rows_new : (t e : ℕ) (row : List Span) (bs : List Band) → Below t e row bs (record { top = t; bottom = e; row = row } ∷ bs)
rows_new t e row bs =
    let b : Band = record { top = t; bottom = e; row = row } in
    ((λ v lt. row_past b bs v lt), (λ v le lt. row_lead b bs v le lt))

pub rows_add : (t e : ℕ) (row : List Span) (bs : List Band) → Stack t [] bs → t < e → Below t e row bs (add_band t e row bs)
rows_add t e [] bs k h = ((λ v lt. refl), (λ v le lt. row_before t [] bs v k le))
rows_add t e (s ∷ ss) bs k h =
    let new : Band = record { top = t; bottom = e; row = s ∷ ss } in
    cond_both (goes_on t (s ∷ ss) bs) (grown e bs) (new ∷ bs) (λ l. Below t e (s ∷ ss) bs l) (λ g. rows_grown t e (s ∷ ss) bs k h g) (λ _. rows_new t e (s ∷ ss) bs)

-- a strip with the cells of c
pub painted_add :
    (c : ℕ → ℕ → Bool) (t e : ℕ) (row : List Span) (bs : List Band) → Painted c t bs → t < e → Apart 0 row
    → ((x v : ℕ) → x < 256 → t ≤ v → v < e → in_spans row x ≡ c x v) → Painted c e (add_band t e row bs)
painted_add c t e row bs d h a cells =
    let r = rows_add t e row bs d.stack h in
    record {
      stack = stack_add t e row bs d.stack h a;
      cells = λ x v xs vs. elim (cases_lt v t) [
        | inl j ↦ ap (λ l. in_spans l x) (r.0 v j) ∙ d.cells x v xs j
        | inr j ↦ ap (λ l. in_spans l x) (r.1 v j vs) ∙ cells x v xs j vs
      ];
    }

pub painted_none : (c : ℕ → ℕ → Bool) → Painted c 0 []
painted_none c = record { stack = tt; cells = λ x v _ h. absurd (omega arith) }

-- rows with no cell of c leave the bands as they are
pub painted_skip :
    (c : ℕ → ℕ → Bool) (t e : ℕ) (bs : List Band) → Painted c t bs → t ≤ e → ((x v : ℕ) → x < 256 → t ≤ v → v < e → c x v ≡ false)
    → Painted c e bs
painted_skip c t e bs d h off =
    record {
      stack = stack_raise t e bs d.stack h;
      cells = λ x v xs vs. elim (cases_lt v t) [
        | inl j ↦ d.cells x v xs j
        | inr j ↦ ap (λ l. in_spans l x) (row_before t [] bs v d.stack j) ∙ sym (off x v xs j vs)
      ];
    }

-- and another set with the same cells above y is painted too
pub painted_like :
    (c d : ℕ → ℕ → Bool) (y : ℕ) (bs : List Band) → Painted c y bs → ((x v : ℕ) → x < 256 → v < y → c x v ≡ d x v) → Painted d y bs
painted_like c d y bs p same = record { stack = p.stack; cells = λ x v xs vs. p.cells x v xs vs ∙ same x v xs vs }

-- the cells of a stack are on the largest screen
pub apart_seen : (l : ℕ) (ss : List Span) (x : ℕ) → Apart l ss → in_spans ss x ≡ true → x < 256
apart_seen l [] x a h = absurd (false≢true h)
apart_seen l (s ∷ ss) x a h =
    elim (or_cases (between s.left s.right x) (in_spans ss x) h) [
      | inl p ↦ omega (arith, between_true s.left s.right x p)
      | inr p ↦ apart_seen (s.right + 1) ss x a.3 p
    ]

pub stack_seen : (bs : List Band) (x y : ℕ) → Stack 256 [] bs → has (flat bs) x y ≡ true → (x < 256) × (y < 256)
stack_seen bs x y k h =
    let on : in_spans (row_of bs y) x ≡ true = sym (has_flat 256 [] bs x y k) ∙ h in (
      apart_seen 0 (row_of bs y) x (row_apart 256 [] bs y k) on,
      elim (cases_lt y 256) [ inl lt ↦ lt | inr ge ↦ absurd (false≢true (ap (λ l. in_spans l x) (sym (row_before 256 [] bs y k ge)) ∙ on)) ],
    )

pub seen_largest : (x y : ℕ) → x < 256 → y < 256 → on_largest x y ≡ true
seen_largest x y h k = grind (arith, nat_tests)

pub largest_seen : (x y : ℕ) → on_largest x y ≡ true → (x < 256) × (y < 256)
largest_seen x y h = grind (arith, nat_tests)

pub unseen : (bs : List Band) (x y : ℕ) → Stack 256 [] bs → on_largest x y ≡ false → has (flat bs) x y ≡ false
unseen bs x y k off =
    elim (cases_Bool (has (flat bs) x y)) [
      | inl on ↦ (let s = stack_seen bs x y k on in absurd (both_ways (on_largest x y) off (seen_largest x y s.0 s.1)))
      | inr no' ↦ no'
    ]

-- bands painted down to the last row have the cells c of the largest screen
pub painted_cells : (c : ℕ → ℕ → Bool) (bs : List Band) → Painted c 256 bs → (x y : ℕ) → has (flat bs) x y ≡ (c x y && on_largest x y)
painted_cells c bs d x y =
    elim (cases_Bool (on_largest x y)) [
      | inl on ↦ (let s = largest_seen x y on in
          has_flat 256 [] bs x y d.stack ∙ d.cells x y s.0 s.1 ∙ sym (ap (λ v. c x y && v) on ∙ and-true (c x y)))
      | inr off ↦ unseen bs x y d.stack off ∙ sym (and_right (c x y) (on_largest x y) off)
    ]
