-- Which cells a banded list has in the rows at hand of a sweep.
use Rattle.std.proofs.Common.{◌≡◌, ℕ, zero, suc, ◌+◌, ◌<◌, ◌≤◌, true, false, ◌&&◌, ◌||◌, eqb, leb, ◌⊎◌, List, [], ◌∷◌, ◌++◌, length, take, drop, take_while, sym, refl, ap, ◌∙◌, subst, inl, inr, arith}
use Rattle.std.proofs.Math.Bool.{or-false}
use Rattle.std.proofs.lemmas.List.Sums.{take_while-cons}
use Rattle.std.proofs.lemmas.Bool.{cases_eq, cases_lt, cond_both, cond-false, cond-true, eq-eqb, ne_eqb}
use Rattle.std.proofs.lemmas.Bool.Decides.{nat_tests}
use Rattle.std.specs.List.{AllByRecursion, prefix_len}
use Rattle.boxes.specs.declared.cell_box.CellBox.{CellBox}
use Rattle.boxes.specs.Banded.{Banded, NoTouch, OneBand, Pairs, Proper, before}
use Rattle.boxes.specs.Bands.{Apart, boxes_of, in_spans}
use Rattle.boxes.specs.Cells.{between, has, has_row, in_box}
use Rattle.boxes.proofs.Unique.{below, beyond, has-++, has_band, inside}
use Rattle.region.specs.Leads.{below_band, first_band, has_top}
use Rattle.region.specs.Places.{past_of, shown_boxes, turn_of}
use Rattle.region.specs.Rows.{spans}

-- q is of p's band, right of p with a gap, or begins below
abbrev pub Follows : CellBox → CellBox → Type 0
Follows p q = ((q.top ≡ p.top) × (q.bottom ≡ p.bottom) × (p.right < q.left)) ⊎ (p.bottom ≤ q.top)

follows : (p q : CellBox) → Proper p → Proper q → before p q ≡ true → OneBand p q → NoTouch p q → Follows p q
follows p q a b order band gap =
    elim (cases_eq q.top p.top) [
      | inl e ↦
          (let r = band p.top (inside p.top p.bottom p.top (omega arith) (omega arith)) (inside q.top q.bottom p.top (omega arith) (omega arith)) in
          inl (e, sym r.1, gap (sym e)))
      | inr n ↦
          (let above : p.top < q.top = grind (arith, nat_tests) in
          elim (cases_lt q.top p.bottom) [
            | inl h ↦
                (let r = band q.top (inside p.top p.bottom q.top (omega arith) h) (inside q.top q.bottom q.top (omega arith) (omega arith)) in
                absurd (n (sym r.0)))
            | inr h ↦ inr h
          ])
    ]

follow_each :
    (p : CellBox) (qs : List CellBox) → Proper p → AllByRecursion Proper qs → AllByRecursion (λ q. before p q ≡ true) qs → AllByRecursion (OneBand p) qs → AllByRecursion (NoTouch p) qs
    → AllByRecursion (Follows p) qs
follow_each p [] a b o r n = tt
follow_each p (q ∷ qs) a b o r n = (follows p q a b.0 o.0 r.0 n.0, follow_each p qs a b.1 o.1 r.1 n.1)

follow_pairs :
    (bs : List CellBox) → AllByRecursion Proper bs → Pairs (λ p q. before p q ≡ true) bs → Pairs OneBand bs → Pairs NoTouch bs → Pairs Follows bs
follow_pairs [] a o r n = tt
follow_pairs (b ∷ bs) a o r n = (follow_each b bs a.0 a.1 o.0 r.0 n.0, follow_pairs bs a.1 o.1 r.1 n.1)

-- what a sweep needs of a list
abbrev pub Sorted : List CellBox → Type 0
Sorted bs = AllByRecursion Proper bs × Pairs Follows bs

pub sorted : (bs : List CellBox) → Banded bs → Sorted bs
sorted bs b = (b.proper, follow_pairs bs b.proper b.order b.rows b.apart)

sorted_drop : (n : ℕ) (bs : List CellBox) → Sorted bs → Sorted (drop n bs)
sorted_drop zero bs s = s
sorted_drop (suc n) [] s = s
sorted_drop (suc n) (b ∷ bs) s = sorted_drop n bs (s.0.1, s.1.1)

-- nothing above the first box
pub none_above : (cs : List CellBox) (t x v : ℕ) → AllByRecursion (λ c. t ≤ c.top) cs → v < t → has cs x v ≡ false
none_above [] t x v f h = refl
none_above (c ∷ cs) t x v f h =
    let off : has_row c v ≡ false = below c.top c.bottom v (omega (arith, f.0)) in
    let gone : in_box c x v ≡ false = grind (arith, nat_tests) in
    rw gone (none_above cs t x v f.1 h)

tops_below : (b : CellBox) (cs : List CellBox) (e : ℕ) → Proper b → AllByRecursion (Follows b) cs → e ≤ b.top → AllByRecursion (λ c. e ≤ c.top) cs
tops_below b [] e p f h = tt
tops_below b (c ∷ cs) e p f h = (elim f.0 [ inl k ↦ omega (arith, h, k.0) | inr k ↦ omega (arith, h, p.2, k) ], tops_below b cs e p f.1 h)

-- boxes of a band from t to e, from column l on, and others below them
record Parts (t e l : ℕ) (bs cs : List CellBox) : Type 0 where
  pub band : bs ≡ boxes_of t e (spans bs)
  pub apart : Apart l (spans bs)
  pub under : AllByRecursion (λ c. e ≤ c.top) cs

parts :
    (t e : ℕ) (b : CellBox) (cs : List CellBox) → b.top ≡ t → b.bottom ≡ e → t < e → AllByRecursion (Follows b) cs → Sorted cs
    → Parts t e (b.right + 1) (take_while (has_top t) cs) (drop (length (take_while (has_top t) cs)) cs)
parts t e b [] p q h f s = record { band = refl; apart = tt; under = tt }
parts t e b (c ∷ cs) p q h f s =
    elim f.0 [
      | inl k ↦
          (let on : take_while (has_top t) (c ∷ cs) ≡ c ∷ take_while (has_top t) cs =
          take_while-cons (has_top t) c cs ∙ cond-true (eqb c.top t) (c ∷ take_while (has_top t) cs) [] (eq-eqb c.top t (k.0 ∙ p)) in
          let r = parts t e c cs (k.0 ∙ p) (k.1 ∙ q) h s.1.0 (s.0.1, s.1.1) in
          subst (λ l. Parts t e (b.right + 1) l (drop (length l) (c ∷ cs))) (sym on)
          (record {
            band = λ i. record { left = c.left; top = (k.0 ∙ p) i; right = c.right; bottom = (k.1 ∙ q) i } ∷ r.band i;
            apart = (omega (arith, k.2), s.0.0.0, s.0.0.1, r.apart);
            under = r.under;
          }))
      | inr k ↦
          (let off : take_while (has_top t) (c ∷ cs) ≡ [] =
          take_while-cons (has_top t) c cs ∙ cond-false (eqb c.top t) (c ∷ take_while (has_top t) cs) [] (ne_eqb c.top t (λ z. omega (arith, k))) in
          let lower : e ≤ c.top = omega (arith, k) in
          subst (λ l. Parts t e (b.right + 1) l (drop (length l) (c ∷ cs))) (sym off)
          (record { band = refl; apart = tt; under = (lower, tops_below c cs e s.0.0 s.1.0 lower) }))
    ]

-- the first band of a list, and the boxes below it
first_parts : (b : CellBox) (cs : List CellBox) → Sorted (b ∷ cs) → Parts b.top b.bottom 0 (first_band (b ∷ cs)) (below_band (b ∷ cs))
first_parts b cs s =
    let r = parts b.top b.bottom b cs refl refl s.0.0.2 s.1.0 (s.0.1, s.1.1) in
    record { band = ap (λ l. b ∷ l) r.band; apart = (omega arith, s.0.0.0, s.0.0.1, r.apart); under = r.under }

parted : (n : ℕ) (bs : List CellBox) → take n bs ++ drop (length (take n bs)) bs ≡ bs
parted zero bs = refl
parted (suc n) [] = refl
parted (suc n) (b ∷ bs) = ap (λ l. b ∷ l) (parted n bs)

-- the rows of the first band have its runs, and those of the others' boxes
lead_has :
    (b : CellBox) (cs : List CellBox) (x v : ℕ) → Sorted (b ∷ cs)
    → has (b ∷ cs) x v ≡ ((between b.top b.bottom v && in_spans (spans (first_band (b ∷ cs))) x) || has (below_band (b ∷ cs)) x v)
lead_has b cs x v s =
    let band : List CellBox = first_band (b ∷ cs) in
    let others : List CellBox = below_band (b ∷ cs) in
    ap (λ l. has (b ∷ l) x v) (sym (parted (prefix_len (has_top b.top) cs) cs))
    ∙ has-++ band others x v
    ∙ ap (λ z. z || has others x v) (ap (λ l. has l x v) (first_parts b cs s).band ∙ has_band b.top b.bottom (spans band) x v)

-- the first box does not end above row y
abbrev pub Open : List CellBox → ℕ → Type 0
Open [] y = Unit {0}
Open (b ∷ bs) y = y < b.bottom

-- when a sweep comes to row y, the boxes cs are left of bs: the others end above
pub record At (bs cs : List CellBox) (y : ℕ) : Type 0 where
  pub order : Sorted cs
  pub rest : (x v : ℕ) → y ≤ v → has bs x v ≡ has cs x v
  pub open' : Open cs y

pub at_start : (bs : List CellBox) → Banded bs → At bs bs 0
at_start [] b = record { order = sorted [] b; rest = λ x v h. refl; open' = tt }
at_start (c ∷ cs) b = record { order = sorted (c ∷ cs) b; rest = λ x v h. refl; open' = omega (arith, b.proper.0.2) }

-- the next turn is below, and on the largest screen
pub at_turn : (bs cs : List CellBox) (y : ℕ) → At bs cs y → y < 256 → (y < turn_of cs y) × (turn_of cs y ≤ 256)
at_turn bs [] y a h = (h, omega arith)
at_turn bs (c ∷ cs) y a h =
    let b : Proper c = a.order.0.0 in
    let o : y < c.bottom = a.open' in
    grind (arith, nat_tests)

-- up to the next turn, each row has the cells of these boxes
pub at_row :
    (bs cs : List CellBox) (y e x v : ℕ) → At bs cs y → e ≤ turn_of cs y → y ≤ v → v < e
    → has bs x v ≡ in_spans (spans (shown_boxes cs y)) x
at_row bs [] y e x v a h lo hi = a.rest x v lo
at_row bs (c ∷ cs) y e x v a h lo hi =
    a.rest x v lo
    ∙ elim (cases_lt y c.top) [
      | inl early ↦
          (let none : shown_boxes (c ∷ cs) y ≡ [] = grind (arith, nat_tests) in
          let turn : turn_of (c ∷ cs) y ≡ c.top = grind (arith, nat_tests) in
          none_above (c ∷ cs) c.top x v (omega arith, tops_below c cs c.top a.order.0.0 a.order.1.0 (omega arith)) (omega arith)
          ∙ sym (ap (λ l. in_spans (spans l) x) none))
      | inr late ↦
          (let all : shown_boxes (c ∷ cs) y ≡ first_band (c ∷ cs) = cond-true (leb c.top y) (first_band (c ∷ cs)) [] (grind (arith, nat_tests)) in
          let turn : turn_of (c ∷ cs) y ≡ c.bottom = grind (arith, nat_tests) in
          let on : between c.top c.bottom v ≡ true = inside c.top c.bottom v (omega arith) (omega arith) in
          let under : has (below_band (c ∷ cs)) x v ≡ false = none_above (below_band (c ∷ cs)) c.bottom x v (first_parts c cs a.order).under (omega arith) in
          lead_has c cs x v a.order ∙ rw (on, under, all) (or-false (in_spans (spans (first_band (c ∷ cs))) x)))
    ]

pub at_apart : (bs cs : List CellBox) (y : ℕ) → At bs cs y → Apart 0 (spans (shown_boxes cs y))
at_apart bs [] y a = tt
at_apart bs (c ∷ cs) y a =
    cond_both (leb c.top y) (first_band (c ∷ cs)) [] (λ l. Apart 0 (spans l)) (λ _. (first_parts c cs a.order).apart) (λ _. tt)

-- what is left when the sweep comes to row e
open_from : (bs : List CellBox) (e : ℕ) → Sorted bs → AllByRecursion (λ c. e ≤ c.top) bs → Open bs e
open_from [] e s a = tt
open_from (b ∷ bs) e s a = omega (arith, a.0, s.0.0.2)

pub at_past : (bs cs : List CellBox) (y e : ℕ) → At bs cs y → y ≤ e → e ≤ turn_of cs y → At bs (past_of cs e) e
at_past bs [] y e a h top = record { order = a.order; rest = λ x v lo. a.rest x v (omega arith); open' = tt }
at_past bs (c ∷ cs) y e a h top =
    cond_both (leb c.bottom e) (below_band (c ∷ cs)) (c ∷ cs) (λ l. At bs l e)
    (λ on.
    let ends : c.bottom ≡ e = grind (arith, nat_tests) in
    let s = sorted_drop (length (first_band (c ∷ cs))) (c ∷ cs) a.order in
    record {
      order = s;
      rest = λ x v lo. a.rest x v (omega arith) ∙ lead_has c cs x v a.order ∙ rw (beyond c.top c.bottom v (omega arith));
      open' = open_from (below_band (c ∷ cs)) e s (subst (λ k. AllByRecursion (λ d. k ≤ d.top) (below_band (c ∷ cs))) ends (first_parts c cs a.order).under);
    })
    (λ off. record { order = a.order; rest = λ x v lo. a.rest x v (omega arith); open' = grind (arith, nat_tests) })
