-- The rules on the boxes and the stack of bands are equivalent.
use Rattle.std.proofs.Common.{◌≡◌, ℕ, ◌+◌, ◌-◌, ◌<◌, ◌≤◌, Bool, true, false, cond, ◌≢◌, ◌⊎◌, List, [], ◌∷◌, ◌++◌, length, sym, refl, ap, ◌∙◌, subst, ap₂, inl, inr, append_assoc, append-nil, arith}
use mathlib.Core.Bool.{Bool-set}
use mathlib.Core.HLevel.{Π_prop, →_prop, ×_prop, ¬_prop}
use mathlib.Core.Logic.{∥∥₁_elim}
use native.Mathlib.Bridge.{le_prop}
use native.Mathlib.Nat.{ℕ_set}
use Rattle.std.proofs.lemmas.Bool.{cases_lt, cond_both}
use Rattle.std.proofs.lemmas.Bool.Decides.{nat_tests}
use Rattle.std.specs.List.{AllByRecursion}
use Rattle.boxes.specs.declared.cell_box.CellBox.{CellBox}
use Rattle.boxes.specs.Banded.{Banded, Differs, NoTouch, OneBand, Pairs, Proper, Span, before, edges_at, span}
use Rattle.boxes.specs.Bands.{Apart, Band, ByBands, Equivalent, Stack, boxes_of, flat, row_of}
use Rattle.boxes.specs.Cells.{between, has_row}
use Rattle.boxes.specs.Regions.{Unique}
use Rattle.boxes.proofs.Unique.{between_true, beyond, by_bands_same, inside, row_lead, row_other, row_past}

-- what holds of each box, and of each pair
every-++ : (P : CellBox → Type 0) (ps qs : List CellBox) → AllByRecursion P ps → AllByRecursion P qs → AllByRecursion P (ps ++ qs)
every-++ P [] qs h k = k
every-++ P (p ∷ ps) qs h k = (h.0, every-++ P ps qs h.1 k)

every_left : (P : CellBox → Type 0) (ps qs : List CellBox) → AllByRecursion P (ps ++ qs) → AllByRecursion P ps
every_left P [] qs h = tt
every_left P (p ∷ ps) qs h = (h.0, every_left P ps qs h.1)

every_right : (P : CellBox → Type 0) (ps qs : List CellBox) → AllByRecursion P (ps ++ qs) → AllByRecursion P qs
every_right P [] qs h = h
every_right P (p ∷ ps) qs h = every_right P ps qs h.1

every_map : (P Q : CellBox → Type 0) (bs : List CellBox) → ((b : CellBox) → P b → Q b) → AllByRecursion P bs → AllByRecursion Q bs
every_map P Q [] f h = tt
every_map P Q (b ∷ bs) f h = (f b h.0, every_map P Q bs f h.1)

pairs-++ : (R : CellBox → CellBox → Type 0) (ps qs : List CellBox) → Pairs R ps → Pairs R qs → AllByRecursion (λ p. AllByRecursion (R p) qs) ps → Pairs R (ps ++ qs)
pairs-++ R [] qs h k m = k
pairs-++ R (p ∷ ps) qs h k m = (every-++ (R p) ps qs h.0 m.0, pairs-++ R ps qs h.1 k m.1)

-- q comes after p: later in its band, or in a later band
abbrev After : CellBox → CellBox → Type 0
After p q = ((p.top ≡ q.top) × (p.bottom ≡ q.bottom) × (p.right < q.left)) ⊎ (p.bottom ≤ q.top)

row_has : (b : CellBox) (y : ℕ) → b.top ≤ y → y < b.bottom → has_row b y ≡ true
row_has b y h k = inside b.top b.bottom y h k

before_is : (p q : CellBox) → before p q ≡ true → (p.top < q.top) ⊎ (p.top ≡ q.top)
before_is p q h = grind (arith, nat_tests)

after_from : (p q : CellBox) → Proper p → Proper q → before p q ≡ true → OneBand p q → NoTouch p q → After p q
after_from p q a b o r n =
    elim (before_is p q o) [
      | inl h ↦
          elim (cases_lt q.top p.bottom) [
            | inl k ↦ absurd (omega (arith, r q.top (row_has p q.top (omega arith) k) (row_has q q.top (omega arith) (omega arith))))
            | inr k ↦ inr k
          ]
      | inr e ↦ inl (e, (r q.top (row_has p q.top (omega arith) (omega arith)) (row_has q q.top (omega arith) (omega arith))).1, n e)
    ]

after_before : (p q : CellBox) → Proper p → Proper q → After p q → before p q ≡ true
after_before p q a b h = grind (arith, nat_tests)

after_rows : (p q : CellBox) → After p q → OneBand p q
after_rows p q h y u v =
    elim h [
      | inl e ↦ (e.0, e.1)
      | inr k ↦ absurd (omega (arith, between_true p.top p.bottom y u, between_true q.top q.bottom y v))
    ]

after_apart : (p q : CellBox) → Proper p → After p q → NoTouch p q
after_apart p q a h t = elim h [ inl e ↦ e.2 | inr k ↦ absurd (omega arith) ]

-- bands as in a stack, but two that adjoin may have the same runs
abbrev Piled : ℕ → List Band → Type 0
Piled t [] = Unit {0}
Piled t (d ∷ ds) = (d.bottom ≤ t) × (d.top < d.bottom) × Apart 0 d.row × (d.row ≢ []) × Piled d.top ds

stack_piled : (t : ℕ) (p : List Span) (ds : List Band) → Stack t p ds → Piled t ds
stack_piled t p [] k = tt
stack_piled t p (d ∷ ds) k = (k.0, k.1, k.2, k.3, stack_piled d.top d.row ds k.5)

piled_before : (t : ℕ) (ds : List Band) (y : ℕ) → Piled t ds → t ≤ y → row_of ds y ≡ []
piled_before t [] y k h = refl
piled_before t (d ∷ ds) y k h =
    rw (beyond d.top d.bottom y (omega arith)) (piled_before d.top ds y k.4 (omega arith))

-- the edges of two lists, and of a band
front-++ : (b : Bool) (s : Span) (r u v : List Span) → r ≡ u ++ v → cond b (s ∷ r) r ≡ cond b (s ∷ u) u ++ v
front-++ true s r u v e = ap (λ l. s ∷ l) e
front-++ false s r u v e = e

edges-++ : (ps qs : List CellBox) (y : ℕ) → edges_at (ps ++ qs) y ≡ edges_at ps y ++ edges_at qs y
edges-++ [] qs y = refl
edges-++ (p ∷ ps) qs y = front-++ (has_row p y) (span p) (edges_at (ps ++ qs) y) (edges_at ps y) (edges_at qs y) (edges-++ ps qs y)

front_band : (b : Bool) (s : Span) (r ss : List Span) → r ≡ cond b ss [] → cond b (s ∷ r) r ≡ cond b (s ∷ ss) []
front_band true s r ss e = ap (λ l. s ∷ l) e
front_band false s r ss e = e

edges_band : (t e : ℕ) (ss : List Span) (y : ℕ) → edges_at (boxes_of t e ss) y ≡ cond (between t e y) ss []
edges_band t e [] y = cond_both (between t e y) [] [] (λ l. [] ≡ l) (λ _. refl) (λ _. refl)
edges_band t e (s ∷ ss) y = front_band (between t e y) s (edges_at (boxes_of t e ss) y) ss (edges_band t e ss y)

either_row : (w : Bool) (older r : List Span) → (w ≡ true → older ≡ []) → (older ++ cond w r []) ≡ cond w r older
either_row true older r h = ap (λ l. l ++ r) (h refl)
either_row false older r h = append-nil older

edges_piled : (t : ℕ) (ds : List Band) (y : ℕ) → Piled t ds → edges_at (flat ds) y ≡ row_of ds y
edges_piled t [] y k = refl
edges_piled t (d ∷ ds) y k =
    edges-++ (flat ds) (boxes_of d.top d.bottom d.row) y
    ∙ ap₂ ◌++◌ (edges_piled d.top ds y k.4) (edges_band d.top d.bottom d.row y)
    ∙ either_row (between d.top d.bottom y) (row_of ds y) d.row
    (λ h. piled_before d.top ds y k.4 (between_true d.top d.bottom y h).0)

-- the edges of a row of a stack are the row's runs
pub edges_flat : (t : ℕ) (p : List Span) (ds : List Band) (y : ℕ) → Stack t p ds → edges_at (flat ds) y ≡ row_of ds y
edges_flat t p ds y k = edges_piled t ds y (stack_piled t p ds k)

-- the boxes of a band
every_band : (P : CellBox → Type 0) (t e l : ℕ) (ss : List Span) → Apart l ss
    → ((b : CellBox) → b.top ≡ t → b.bottom ≡ e → l ≤ b.left → b.left < b.right → b.right ≤ 256 → P b)
    → AllByRecursion P (boxes_of t e ss)
every_band P t e l [] a f = tt
every_band P t e l (s ∷ ss) a f =
    (f (record { left = s.left; top = t; right = s.right; bottom = e }) refl refl a.0 a.1 a.2, every_band P t e (s.right + 1) ss a.3 (λ b p q h k m. f b p q (omega arith) k m))

pairs_band : (t e l : ℕ) (ss : List Span) → Apart l ss → Pairs After (boxes_of t e ss)
pairs_band t e l [] a = tt
pairs_band t e l (s ∷ ss) a = (
  every_band (After (record { left = s.left; top = t; right = s.right; bottom = e })) t e (s.right + 1) ss a.3
      (λ b p q h k m. inl (sym p, sym q, omega arith)),
  pairs_band t e (s.right + 1) ss a.3,
)

-- the boxes of piled bands, and how they stand to each other
every_piled : (t : ℕ) (ds : List Band) → t ≤ 256 → Piled t ds → AllByRecursion (λ b. Proper b × (b.bottom ≤ t)) (flat ds)
every_piled t [] n k = tt
every_piled t (d ∷ ds) n k =
    every-++ (λ b. Proper b × (b.bottom ≤ t)) (flat ds) (boxes_of d.top d.bottom d.row)
    (every_map (λ b. Proper b × (b.bottom ≤ d.top)) (λ b. Proper b × (b.bottom ≤ t)) (flat ds)
    (λ b h. (h.0, omega arith)) (every_piled d.top ds (omega arith) k.4))
    (every_band (λ b. Proper b × (b.bottom ≤ t)) d.top d.bottom 0 d.row k.2
    (λ b p q h m s. ((m, s, omega arith, omega arith), omega arith)))

pairs_piled : (t : ℕ) (ds : List Band) → t ≤ 256 → Piled t ds → Pairs After (flat ds)
pairs_piled t [] n k = tt
pairs_piled t (d ∷ ds) n k =
    pairs-++ After (flat ds) (boxes_of d.top d.bottom d.row) (pairs_piled d.top ds (omega arith) k.4)
    (pairs_band d.top d.bottom 0 d.row k.2)
    (every_map (λ b. Proper b × (b.bottom ≤ d.top)) (λ p. AllByRecursion (After p) (boxes_of d.top d.bottom d.row)) (flat ds)
    (λ b h. every_band (After b) d.top d.bottom 0 d.row k.2 (λ c p q l m s. inr (omega arith)))
    (every_piled d.top ds (omega arith) k.4))

differs_stack : (all : List CellBox) (t : ℕ) (p : List Span) (ds : List Band) → Stack t p ds → ((y : ℕ) → y < t → edges_at all y ≡ row_of ds y)
    → AllByRecursion (Differs all) (flat ds)
differs_stack all t p [] k at = tt
differs_stack all t p (d ∷ ds) k at =
    every-++ (Differs all) (flat ds) (boxes_of d.top d.bottom d.row)
    (differs_stack all d.top d.row ds k.5 (λ y h. at y (omega arith) ∙ row_past d ds y h))
    (every_band (Differs all) d.top d.bottom 0 d.row k.2
    (λ b e q l m s y h same. row_other d.top d.row ds y k.5 k.3 (omega arith)
    (sym (row_past d ds y (omega arith))
    ∙ sym (at y (omega arith))
    ∙ same
    ∙ at b.top (omega arith)
    ∙ row_lead d ds b.top (omega arith) (omega arith))))

pairs-map :
    (R S : CellBox → CellBox → Type 0) (bs : List CellBox) → ((p q : CellBox) → Proper p → Proper q → R p q → S p q) → AllByRecursion Proper bs → Pairs R bs
    → Pairs S bs
pairs-map R S [] f h k = tt
pairs-map R S (b ∷ bs) f h k = (step bs h.1 k.0, pairs-map R S bs f h.1 k.1)
  where
    step : (cs : List CellBox) → AllByRecursion Proper cs → AllByRecursion (R b) cs → AllByRecursion (S b) cs
    step [] _ _ = tt
    step (c ∷ cs) u v = (f b c h.0 u.0 v.0, step cs u.1 v.1)

stack_banded : (ds : List Band) → Stack 256 [] ds → Banded (flat ds)
stack_banded ds k =
    let pile : Piled 256 ds = stack_piled 256 [] ds k in
    let proper : AllByRecursion Proper (flat ds) =
    every_map (λ b. Proper b × (b.bottom ≤ 256)) Proper (flat ds) (λ b h. h.0) (every_piled 256 ds (omega arith) pile) in
    let after : Pairs After (flat ds) = pairs_piled 256 ds (omega arith) pile in
    record {
      proper = proper;
      order = pairs-map After (λ p q. before p q ≡ true) (flat ds) after_before proper after;
      rows = pairs-map After OneBand (flat ds) (λ p q _ _ h. after_rows p q h) proper after;
      apart = pairs-map After NoTouch (flat ds) (λ p q a _ h. after_apart p q a h) proper after;
      merged = differs_stack (flat ds) 256 [] ds k (λ y _. edges_piled 256 ds y pile);
    }

-- the boxes of a stack of bands are banded
pub from_bands : (bs : List CellBox) → ByBands bs → Banded bs
from_bands bs k = subst Banded (sym k.boxes) (stack_banded k.bands k.stack)

-- one run more at the end of a row
limit : ℕ → List Span → ℕ
limit l [] = l
limit l (s ∷ ss) = limit (s.right + 1) ss

limit_push : (l : ℕ) (ss : List Span) (s : Span) → limit l (ss ++ s ∷ []) ≡ s.right + 1
unfolding limit
limit_push l [] s = refl
limit_push l (r ∷ ss) s = limit_push (r.right + 1) ss s

apart_push : (l : ℕ) (ss : List Span) (s : Span) → Apart l ss → limit l ss ≤ s.left → s.left < s.right → s.right ≤ 256 → Apart l (ss ++ s ∷ [])
unfolding limit
apart_push l [] s a h k m = (h, k, m, tt)
apart_push l (r ∷ ss) s a h k m = (a.0, a.1, a.2, apart_push (r.right + 1) ss s a.3 h k m)

pub some_cons : (s : Span) (ss : List Span) → s ∷ ss ≢ []
some_cons s ss e = omega (arith, ap length e)

some_push : (ss : List Span) (s : Span) → ss ++ s ∷ [] ≢ []
some_push [] s = some_cons s []
some_push (r ∷ ss) s = some_cons r (ss ++ s ∷ [])

boxes_push : (t e : ℕ) (ss : List Span) (s : Span) → boxes_of t e (ss ++ s ∷ []) ≡ boxes_of t e ss ++ boxes_of t e (s ∷ [])
boxes_push t e [] s = refl
boxes_push t e (r ∷ ss) s = ap (λ l. record { left = r.left; top = t; right = r.right; bottom = e } ∷ l) (boxes_push t e ss s)

-- what comes after a band from t to e whose runs end before column l
Follows : ℕ → ℕ → ℕ → List CellBox → Type 0
Follows t e l [] = Unit {0}
Follows t e l (b ∷ bs) =
    Proper b × (((t ≡ b.top) × (e ≡ b.bottom) × (l ≤ b.left)) ⊎ (e ≤ b.top)) × Follows b.top b.bottom (b.right + 1) bs

follows : (b : CellBox) (bs : List CellBox) → AllByRecursion Proper (b ∷ bs) → Pairs (λ p q. before p q ≡ true) (b ∷ bs) → Pairs OneBand (b ∷ bs)
    → Pairs NoTouch (b ∷ bs) → Follows b.top b.bottom (b.right + 1) bs
unfolding Follows
follows b [] p o r n = tt
follows b (c ∷ bs) p o r n =
    (p.1.0, side (after_from b c p.0 p.1.0 o.0.0 r.0.0 n.0.0), follows c bs p.1 o.1 r.1 n.1)
  where
    side : After b c → ((b.top ≡ c.top) × (b.bottom ≡ c.bottom) × (b.right + 1 ≤ c.left)) ⊎ (b.bottom ≤ c.top)
    side = elim [ inl h ↦ inl (h.0, h.1, omega arith) | inr h ↦ inr h ]

box_push :
    (t e : ℕ) (ps : List CellBox) (ss : List Span) (b : CellBox) (bs : List CellBox) → t ≡ b.top → e ≡ b.bottom
    → ps ++ boxes_of t e (ss ++ span b ∷ []) ++ bs ≡ ps ++ boxes_of t e ss ++ b ∷ bs
box_push t e ps ss b bs p q =
    let rs : List CellBox = boxes_of t e ss in
    ap (λ l. ps ++ l ++ bs) (boxes_push t e ss (span b) ∙ λ i. rs ++ record { left = b.left; top = p i; right = b.right; bottom = q i } ∷ [])
    ∙ append_assoc ps (rs ++ b ∷ []) bs
    ∙ ap (λ l. ps ++ l) (append_assoc rs (b ∷ []) bs)
    ∙ sym (append_assoc ps rs (b ∷ bs))

-- the list is the boxes of piled bands
Pile : List CellBox → Type 0
Pile bs = (ds : List Band) × (bs ≡ flat ds) × Piled 256 ds

-- each box goes to the lowest band so far, or begins a new one
piled_by :
    (t e l : ℕ) (ss : List Span) (ds : List Band) (bs : List CellBox) → Piled t ds → t < e → e ≤ 256 → Apart 0 ss → ss ≢ [] → limit 0 ss ≡ l
    → Follows t e l bs → Pile (flat ds ++ boxes_of t e ss ++ bs)
unfolding Follows Pile limit
piled_by t e l ss ds [] k h m a n is f =
    (record { top = t; bottom = e; row = ss } ∷ ds, append-nil (flat ds ++ boxes_of t e ss), (m, h, a, n, k))
piled_by t e l ss ds (b ∷ bs) k h m a n is f =
    let p : Proper b = f.0 in
    elim f.1 [
      | inl same ↦
          subst Pile (box_push t e (flat ds) ss b bs same.0 same.1)
          (piled_by t e (b.right + 1) (ss ++ span b ∷ []) ds bs k h m (apart_push 0 ss (span b) a (omega arith) p.0 p.1) (some_push ss (span b))
          (limit_push 0 ss (span b)) (rw (same.0, same.1) f.2))
      | inr past ↦
          subst Pile (append_assoc (flat ds ++ boxes_of t e ss) (b ∷ []) bs)
          (piled_by b.top b.bottom (b.right + 1) (span b ∷ []) (record { top = t; bottom = e; row = ss } ∷ ds) bs (past, h, a, n, k) p.2 p.3
          (omega arith, p.0, p.1, tt) (some_cons (span b) []) refl f.2)
    ]

-- two bands that adjoin differ in their runs
Stepped : List Band → Type 0
Stepped [] = Unit {0}
Stepped (d ∷ ds) = ((y : ℕ) → y + 1 ≡ d.top → row_of ds y ≢ d.row) × Stepped ds

row_differs : (all : List CellBox) (t e y : ℕ) (ss : List Span) → ss ≢ [] → AllByRecursion (Differs all) (boxes_of t e ss) → y + 1 ≡ t → edges_at all y ≢ edges_at all t
row_differs all t e y [] n h p = absurd (n refl)
row_differs all t e y (s ∷ ss) n h p = h.0 y p

stepped : (all : List CellBox) (t : ℕ) (ds : List Band) → Piled t ds → ((y : ℕ) → y < t → edges_at all y ≡ row_of ds y) → AllByRecursion (Differs all) (flat ds) → Stepped ds
unfolding Stepped
stepped all t [] k at h = tt
stepped all t (d ∷ ds) k at h =
    let rest : List CellBox = boxes_of d.top d.bottom d.row in (
      λ y e same. row_differs all d.top d.bottom y d.row k.3 (every_right (Differs all) (flat ds) rest h) e
          (at y (omega arith)
          ∙ row_past d ds y (omega arith)
          ∙ same
          ∙ sym (row_lead d ds d.top (omega arith) (omega arith))
          ∙ sym (at d.top (omega arith))),
      stepped all d.top ds k.4 (λ y e. at y (omega arith) ∙ row_past d ds y e) (every_left (Differs all) (flat ds) rest h),
    )

stacked : (t : ℕ) (p : List Span) (d : Band) (ds : List Band) → Piled t (d ∷ ds) → Stepped (d ∷ ds) → (d.bottom ≡ t → d.row ≢ p) → Stack t p (d ∷ ds)
unfolding Stepped
stacked t p d [] k s o = (k.0, k.1, k.2, k.3, o, tt)
stacked t p d (c ∷ ds) k s o =
    let y : ℕ = d.top - 1 in (
      k.0,
      k.1,
      k.2,
      k.3,
      o,
      stacked d.top d.row c ds k.4 s.1
          (λ e same. s.0 y (omega arith) (row_lead c ds y (omega arith) (omega arith) ∙ same)),
    )

pile_stack : (ds : List Band) → Piled 256 ds → AllByRecursion (Differs (flat ds)) (flat ds) → Stack 256 [] ds
pile_stack [] k h = tt
pile_stack (d ∷ ds) k h =
    stacked 256 [] d ds k (stepped (flat (d ∷ ds)) 256 (d ∷ ds) k (λ y _. edges_piled 256 (d ∷ ds) y k) h) (λ _. k.3)

pile_bands : (bs : List CellBox) → Pile bs → AllByRecursion (Differs bs) bs → ByBands bs
unfolding Pile
pile_bands bs (ds, e, k) h = record { bands = ds; boxes = e; stack = pile_stack ds k (subst (λ l. AllByRecursion (Differs l) l) e h) }

-- banded boxes are those of a stack of bands
pub to_bands : (bs : List CellBox) → Banded bs → ByBands bs
unfolding limit
to_bands [] k = record { bands = []; boxes = refl; stack = tt }
to_bands (b ∷ bs) k =
    let p : Proper b = k.proper.0 in
    pile_bands (b ∷ bs)
    (piled_by b.top b.bottom (b.right + 1) (span b ∷ []) [] bs tt p.2 p.3 (omega arith, p.0, p.1, tt) (some_cons (span b) []) refl
    (follows b bs k.proper k.order k.rows k.apart))
    k.merged

-- the two forms are equivalent
pub equivalent : Equivalent
equivalent bs = (to_bands bs, from_bands bs)

-- two banded lists with the same cells are one
pub unique : Unique
unique ps qs k m e = by_bands_same ps qs (to_bands ps k) (to_bands qs m) e

-- propositions
every_prop : (P : CellBox → Type 0) (bs : List CellBox) → ((b : CellBox) → IsProp (P b)) → IsProp (AllByRecursion P bs)
every_prop P [] h u v = refl
every_prop P (b ∷ bs) h u v = λ i. (h b u.0 v.0 i, every_prop P bs h u.1 v.1 i)

pairs_prop : (R : CellBox → CellBox → Type 0) (bs : List CellBox) → ((p q : CellBox) → IsProp (R p q)) → IsProp (Pairs R bs)
pairs_prop R [] h u v = refl
pairs_prop R (b ∷ bs) h u v = λ i. (every_prop (R b) bs (h b) u.0 v.0 i, pairs_prop R bs h u.1 v.1 i)

proper_prop : (b : CellBox) → IsProp (Proper b)
proper_prop b u v = λ i. (le_prop u.0 v.0 i, le_prop u.1 v.1 i, le_prop u.2 v.2 i, le_prop u.3 v.3 i)

-- to be banded is a proposition, so the truncated fact gives the fact itself
pub banded_prop : (bs : List CellBox) → IsProp (Banded bs)
banded_prop bs u v =
    λ i.
    record {
      proper = every_prop Proper bs proper_prop u.proper v.proper i;
      order = pairs_prop (λ p q. before p q ≡ true) bs (λ p q. Bool-set (before p q) true) u.order v.order i;
      rows = pairs_prop OneBand bs (λ p q. Π_prop (λ y. →_prop (→_prop (×_prop (ℕ_set p.top q.top) (ℕ_set p.bottom q.bottom))))) u.rows
          v.rows i;
      apart = pairs_prop NoTouch bs (λ p q. →_prop le_prop) u.apart v.apart i;
      merged = every_prop (Differs bs) bs (λ b. Π_prop (λ y. →_prop ¬_prop)) u.merged v.merged i;
    }

pub given : (bs : List CellBox) → ∥ Banded bs ∥₁ → Banded bs
given bs t = ∥∥₁_elim t (banded_prop bs) (λ k. k)

-- one box is banded
pub box_banded : (b : CellBox) → Proper b → Banded (b ∷ [])
box_banded b p =
    from_bands (b ∷ [])
    (record {
      bands = record { top = b.top; bottom = b.bottom; row = span b ∷ [] } ∷ [];
      boxes = refl;
      stack = (p.3, p.2, (omega arith, p.0, p.1, tt), some_cons (span b) [], (λ _. some_cons (span b) []), tt);
    })
