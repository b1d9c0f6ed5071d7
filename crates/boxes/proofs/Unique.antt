-- A stack of bands is known by its cells.
use Rattle.std.proofs.Common.{◌≡◌, ℕ, ◌+◌, ◌-◌, ◌<◌, ◌≤◌, Bool, true, false, cond, ◌&&◌, ◌||◌, ◌≢◌, List, [], ◌∷◌, ◌++◌, sym, refl, ap, ◌∙◌, ap₂, inl, inr, arith}
use Rattle.std.proofs.Math.Bool.{and-false, or-false, or_assoc}
use Rattle.std.proofs.lemmas.Bool.{cases_lt, cond_both, false≢true}
use Rattle.std.proofs.lemmas.Bool.Decides.{nat_tests}
use Rattle.boxes.specs.declared.cell_box.CellBox.{CellBox}
use Rattle.boxes.specs.Banded.{Span}
use Rattle.boxes.specs.Bands.{Apart, Band, ByBands, Stack, boxes_of, flat, in_spans, row_of}
use Rattle.boxes.specs.Cells.{between, has, in_box, SameCells}

-- Booleans
spread : (a w c : Bool) → ((a && w) || (w && c)) ≡ (w && (a || c))
spread true true c = refl
spread true false c = refl
spread false true c = refl
spread false false c = refl

pick : (w : Bool) (older r : List Span) (x : ℕ) → (w ≡ true → older ≡ []) → (in_spans older x || (w && in_spans r x)) ≡ in_spans (cond w r older) x
pick true older r x h = ap (λ l. in_spans l x || in_spans r x) (h refl)
pick false older r x h = or-false (in_spans older x)

-- tests
pub inside : (l r x : ℕ) → l ≤ x → x < r → between l r x ≡ true
inside l r x h k = grind (arith, nat_tests)

pub below : (l r x : ℕ) → x < l → between l r x ≡ false
below l r x h = grind (arith, nat_tests)

pub beyond : (l r x : ℕ) → r ≤ x → between l r x ≡ false
beyond l r x h = grind (arith, nat_tests)

pub between_true : (l r x : ℕ) → between l r x ≡ true → (l ≤ x) × (x < r)
between_true l r x h = grind (arith, nat_tests)

-- one row
pub apart_before : (l : ℕ) (ss : List Span) (x : ℕ) → Apart l ss → x < l → in_spans ss x ≡ false
apart_before l [] x a h = refl
apart_before l (s ∷ ss) x a h =
    rw (below s.left s.right x (omega arith)) (apart_before (s.right + 1) ss x a.3 (omega arith))

pub apart_head : (l : ℕ) (s : Span) (ss : List Span) → Apart l (s ∷ ss) → in_spans (s ∷ ss) s.left ≡ true
apart_head l s ss a = rw (inside s.left s.right s.left (omega arith) (omega arith))

pub drop_head : (l r x : ℕ) (b : Bool) → r ≤ x → (between l r x || b) ≡ b
drop_head l r x b h = rw (beyond l r x h)

pub span_same : (s t : Span) → s.left ≡ t.left → s.right ≡ t.right → s ≡ t
span_same s t p q = λ i. record { left = p i; right = q i }

pub head_before : (l : ℕ) (s : Span) (ss : List Span) (x : ℕ) → Apart l (s ∷ ss) → x < s.left → in_spans (s ∷ ss) x ≡ false
head_before l s ss x a h =
    rw (below s.left s.right x h) (apart_before (s.right + 1) ss x a.3 (omega arith))

pub head_after : (l : ℕ) (s : Span) (ss : List Span) → Apart l (s ∷ ss) → in_spans (s ∷ ss) s.right ≡ false
head_after l s ss a =
    drop_head s.left s.right s.right (in_spans ss s.right) (omega arith) ∙ apart_before (s.right + 1) ss s.right a.3 (omega arith)

pub head_in : (s : Span) (ss : List Span) (x : ℕ) → s.left ≤ x → x < s.right → in_spans (s ∷ ss) x ≡ true
head_in s ss x h k = rw (inside s.left s.right x h k)

Same : List Span → List Span → Type 0
Same ss ts = (x : ℕ) → in_spans ss x ≡ in_spans ts x

lefts : (l : ℕ) (s t : Span) (ss ts : List Span) → Apart l (s ∷ ss) → Apart l (t ∷ ts) → Same (s ∷ ss) (t ∷ ts) → s.left < t.left → ⊥
unfolding Same
lefts l s t ss ts a b e h = false≢true (sym (head_before l t ts s.left b h) ∙ sym (e s.left) ∙ apart_head l s ss a)

rights : (l : ℕ) (s t : Span) (ss ts : List Span) → Apart l (s ∷ ss) → Apart l (t ∷ ts) → Same (s ∷ ss) (t ∷ ts) → s.left ≡ t.left → s.right < t.right → ⊥
unfolding Same
rights l s t ss ts a b e p h =
    false≢true (sym (head_after l s ss a) ∙ e s.right ∙ head_in t ts s.right (omega arith) h)

equal_by : (a b : ℕ) → (a < b → ⊥) → (b < a → ⊥) → a ≡ b
equal_by a b h k = omega arith

tails : (l : ℕ) (s t : Span) (ss ts : List Span) → Apart l (s ∷ ss) → Apart l (t ∷ ts) → Same (s ∷ ss) (t ∷ ts) → s.right ≡ t.right → Same ss ts
unfolding Same
tails l s t ss ts a b e q x =
    elim (cases_lt x (s.right + 1)) [
      | inl h ↦ apart_before (s.right + 1) ss x a.3 h ∙ sym (apart_before (t.right + 1) ts x b.3 (omega arith))
      | inr h ↦ sym (drop_head s.left s.right x (in_spans ss x) (omega arith)) ∙ e x ∙ drop_head t.left t.right x (in_spans ts x) (omega arith)
    ]

-- runs that hold the same cells are the same runs
pub apart_same : (l : ℕ) (ss ts : List Span) → Apart l ss → Apart l ts → ((x : ℕ) → in_spans ss x ≡ in_spans ts x) → ss ≡ ts
unfolding Same
apart_same l [] [] a b e = refl
apart_same l [] (t ∷ ts) a b e = absurd (false≢true (e t.left ∙ apart_head l t ts b))
apart_same l (s ∷ ss) [] a b e = absurd (false≢true (sym (e s.left) ∙ apart_head l s ss a))
apart_same l (s ∷ ss) (t ∷ ts) a b e =
    let p : s.left ≡ t.left = equal_by s.left t.left (lefts l s t ss ts a b e) (lefts l t s ts ss b a (λ x. sym (e x))) in
    let q : s.right ≡ t.right =
    equal_by s.right t.right (rights l s t ss ts a b e p) (rights l t s ts ss b a (λ x. sym (e x)) (sym p)) in
    let r : ss ≡ ts =
    apart_same (s.right + 1) ss ts a.3 (rw q b.3) (tails l s t ss ts a b e q) in
    λ i. span_same s t p q i ∷ r i

-- the rows of a stack
pub row_before : (t : ℕ) (p : List Span) (bs : List Band) (y : ℕ) → Stack t p bs → t ≤ y → row_of bs y ≡ []
row_before t p [] y k h = refl
row_before t p (b ∷ bs) y k h =
    rw (beyond b.top b.bottom y (omega arith)) (row_before b.top b.row bs y k.5 (omega arith))

pub row_lead : (b : Band) (bs : List Band) (y : ℕ) → b.top ≤ y → y < b.bottom → row_of (b ∷ bs) y ≡ b.row
row_lead b bs y h k = rw (inside b.top b.bottom y h k)

pub row_past : (b : Band) (bs : List Band) (y : ℕ) → y < b.top → row_of (b ∷ bs) y ≡ row_of bs y
row_past b bs y h = rw (below b.top b.bottom y h)

row_after : (t : ℕ) (p : List Span) (b : Band) (bs : List Band) (y : ℕ) → Stack t p (b ∷ bs) → b.bottom ≤ y → row_of (b ∷ bs) y ≡ []
row_after t p b bs y k h =
    rw (beyond b.top b.bottom y h) (row_before b.top b.row bs y k.5 (omega arith))

pub row_other : (t : ℕ) (p : List Span) (bs : List Band) (y : ℕ) → Stack t p bs → p ≢ [] → y + 1 ≡ t → row_of bs y ≢ p
row_other t p [] y k n h = λ e. n (sym e)
row_other t p (b ∷ bs) y k n h =
    elim (cases_lt b.bottom t) [
      | inl g ↦ (λ e. n (sym e ∙ row_after t p b bs y k (omega arith)))
      | inr g ↦ (λ e. k.4 (omega arith) (sym (row_lead b bs y (omega arith) (omega arith)) ∙ e))
    ]

Rows : ℕ → List Band → List Band → Type 0
Rows t bs cs = (y : ℕ) → y < t → row_of bs y ≡ row_of cs y

bottoms : (t : ℕ) (p : List Span) (b c : Band) (bs cs : List Band) → Stack t p (b ∷ bs) → Stack t p (c ∷ cs) → Rows t (b ∷ bs) (c ∷ cs) → b.bottom < c.bottom → ⊥
unfolding Rows
bottoms t p b c bs cs k m e h =
    let y : ℕ = c.bottom - 1 in
    let ly : y + 1 ≡ c.bottom = omega arith in
    m.3 (sym (row_lead c cs y (omega arith) (omega arith)) ∙ sym (e y (omega arith)) ∙ row_after t p b bs y k (omega arith))

tops : (t : ℕ) (p : List Span) (b c : Band) (bs cs : List Band) → Stack t p (b ∷ bs) → Stack t p (c ∷ cs) → Rows t (b ∷ bs) (c ∷ cs) → b.bottom ≡ c.bottom → b.row ≡ c.row → b.top < c.top → ⊥
unfolding Rows
tops t p b c bs cs k m e q r h =
    let y : ℕ = c.top - 1 in
    let ly : y + 1 ≡ c.top = omega arith in
    row_other c.top c.row cs y m.5 m.3 ly
    (sym (row_past c cs y (omega arith)) ∙ sym (e y (omega arith)) ∙ row_lead b bs y (omega arith) (omega arith) ∙ r)

band_same : (b c : Band) → b.top ≡ c.top → b.bottom ≡ c.bottom → b.row ≡ c.row → b ≡ c
band_same b c p q r = λ i. record { top = p i; bottom = q i; row = r i }

pub stack_same : (t : ℕ) (p : List Span) (bs cs : List Band) → Stack t p bs → Stack t p cs → ((y : ℕ) → y < t → row_of bs y ≡ row_of cs y) → bs ≡ cs
unfolding Rows
stack_same t p [] [] k m e = refl
stack_same t p [] (c ∷ cs) k m e = absurd (m.3 (sym (row_lead c cs c.top (omega arith) (omega arith)) ∙ sym (e c.top (omega arith))))
stack_same t p (b ∷ bs) [] k m e = absurd (k.3 (sym (row_lead b bs b.top (omega arith) (omega arith)) ∙ e b.top (omega arith)))
stack_same t p (b ∷ bs) (c ∷ cs) k m e =
    let q : b.bottom ≡ c.bottom = equal_by b.bottom c.bottom (bottoms t p b c bs cs k m e) (bottoms t p c b cs bs m k (λ y h. sym (e y h))) in
    let y : ℕ = b.bottom - 1 in
    let ly : y + 1 ≡ b.bottom = omega arith in
    let r : b.row ≡ c.row = sym (row_lead b bs y (omega arith) (omega arith)) ∙ e y (omega arith) ∙ row_lead c cs y (omega arith) (omega arith) in
    let o : b.top ≡ c.top =
    equal_by b.top c.top (tops t p b c bs cs k m e q r) (tops t p c b cs bs m k (λ y h. sym (e y h)) (sym q) (sym r)) in
    let m5 : Stack b.top b.row cs = rw (o, r) m.5 in
    let z : bs ≡ cs =
    stack_same b.top b.row bs cs k.5 m5
    (λ v h. sym (row_past b bs v h) ∙ e v (omega arith) ∙ row_past c cs v (omega arith)) in
    λ i. band_same b c o q r i ∷ z i

-- cells of a flat list
pub has-++ : (bs cs : List CellBox) (x y : ℕ) → has (bs ++ cs) x y ≡ (has bs x y || has cs x y)
has-++ [] cs x y = refl
has-++ (b ∷ bs) cs x y = ap (λ v. in_box b x y || v) (has-++ bs cs x y) ∙ sym (or_assoc (in_box b x y) (has bs x y) (has cs x y))

pub has_band : (t e : ℕ) (ss : List Span) (x y : ℕ) → has (boxes_of t e ss) x y ≡ (between t e y && in_spans ss x)
has_band t e [] x y = sym (and-false (between t e y))
has_band t e (s ∷ ss) x y =
    ap (λ v. (between s.left s.right x && between t e y) || v) (has_band t e ss x y)
    ∙ spread (between s.left s.right x) (between t e y) (in_spans ss x)

pub has_flat : (t : ℕ) (p : List Span) (bs : List Band) (x y : ℕ) → Stack t p bs → has (flat bs) x y ≡ in_spans (row_of bs y) x
has_flat t p [] x y k = refl
has_flat t p (b ∷ bs) x y k =
    has-++ (flat bs) (boxes_of b.top b.bottom b.row) x y
    ∙ ap₂ ◌||◌ (has_flat b.top b.row bs x y k.5) (has_band b.top b.bottom b.row x y)
    ∙ pick (between b.top b.bottom y) (row_of bs y) b.row x (λ h. row_before b.top b.row bs y k.5 (between_true b.top b.bottom y h).0)

pub row_apart : (t : ℕ) (p : List Span) (bs : List Band) (y : ℕ) → Stack t p bs → Apart 0 (row_of bs y)
row_apart t p [] y k = tt
row_apart t p (b ∷ bs) y k =
    cond_both (between b.top b.bottom y) b.row (row_of bs y) (λ r. Apart 0 r) (λ _. k.2) (λ _. row_apart b.top b.row bs y k.5)

-- two lists that are the boxes of stacks, with the same cells, are one list
pub by_bands_same : (ps qs : List CellBox) → ByBands ps → ByBands qs → SameCells (has ps) (has qs) → ps ≡ qs
by_bands_same ps qs k m e =
    let rows : (y : ℕ) → y < 256 → row_of k.bands y ≡ row_of m.bands y =
    λ y h.
    apart_same 0 (row_of k.bands y) (row_of m.bands y) (row_apart 256 [] k.bands y k.stack) (row_apart 256 [] m.bands y m.stack)
    (λ x.
    sym (has_flat 256 [] k.bands x y k.stack)
    ∙ sym (ap (λ l. has l x y) k.boxes)
    ∙ e x y
    ∙ ap (λ l. has l x y) m.boxes
    ∙ has_flat 256 [] m.bands x y m.stack) in
    k.boxes ∙ ap flat (stack_same 256 [] k.bands m.bands k.stack m.stack rows) ∙ sym m.boxes
