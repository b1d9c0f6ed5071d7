-- The box around bands, as they are drawn, and that it is their covering box.
use Rattle.std.proofs.Common.{◌≡◌, ℕ, ◌+◌, ◌<◌, ◌≤◌, true, eqb, List, [], ◌∷◌, ◌++◌, sym, refl, ap, ◌∙◌, ap₂, arith}
use Rattle.std.proofs.lemmas.Bool.{and_parts, cond_both, eqb-true, false≢true}
use Rattle.std.specs.List.{AllByRecursion}
use Rattle.boxes.specs.declared.cell_box.CellBox.{CellBox}
use Rattle.boxes.specs.Banded.{Proper, Span}
use Rattle.boxes.specs.Bands.{Apart, Band, Stack, boxes_of, flat}
use Rattle.boxes.specs.Regions.{covering, hull}
use Rattle.boxes.specs.Strips.{add_band, goes_on, grown, last_right, nothing, outline, same_runs, stretched}
use Rattle.boxes.proofs.Adding.{runs_equal}
use Rattle.boxes.proofs.Covering.{box_same}

outline_small : (bs : List CellBox) → ((outline bs).left ≤ 256) × ((outline bs).top ≤ 256)
outline_small [] = (omega arith, omega arith)
outline_small (b ∷ bs) = (omega (arith, outline_small bs), omega (arith, outline_small bs))

hull_assoc : (a b c : CellBox) → hull a (hull b c) ≡ hull (hull a b) c
hull_assoc a b c = box_same (hull a (hull b c)) (hull (hull a b) c) (omega arith) (omega arith) (omega arith) (omega arith)

outline_append : (ps qs : List CellBox) → outline (ps ++ qs) ≡ hull (outline ps) (outline qs)
outline_append [] qs =
    let s = outline_small qs in
    box_same (outline qs) (hull nothing (outline qs)) (omega arith) (omega arith) (omega arith) (omega arith)
outline_append (p ∷ ps) qs = ap (hull p) (outline_append ps qs) ∙ hull_assoc p (outline ps) (outline qs)

abbrev pub row_box : ℕ → ℕ → Span → List Span → CellBox
row_box t e s ss = record { left = s.left; top = t; right = last_right s ss; bottom = e }

last_after : (l : ℕ) (s : Span) (ss : List Span) → Apart l (s ∷ ss) → l ≤ last_right s ss
last_after l s [] a = omega arith
last_after l s (u ∷ ss) a = omega (arith, last_after (s.right + 1) u ss a.3)

-- the box around a band
outline_band : (t e l : ℕ) (s : Span) (ss : List Span) → Apart l (s ∷ ss) → t ≤ 256 → outline (boxes_of t e (s ∷ ss)) ≡ row_box t e s ss
outline_band t e l s [] a h = box_same (outline (boxes_of t e (s ∷ []))) (row_box t e s []) (omega arith) (omega arith) (omega arith) (omega arith)
outline_band t e l s (u ∷ ss) a h =
    let rest = outline_band t e (s.right + 1) u ss a.3 h in
    let past : s.right + 1 ≤ last_right u ss = last_after (s.right + 1) u ss a.3 in
    ap (hull (record { left = s.left; top = t; right = s.right; bottom = e })) rest
    ∙ box_same (hull (record { left = s.left; top = t; right = s.right; bottom = e }) (row_box t e u ss)) (row_box t e s (u ∷ ss)) (omega arith) (omega arith) (omega arith) (omega arith)

outline_pushed :
    (t e : ℕ) (s : Span) (ss : List Span) (bs : List Band) → Apart 0 (s ∷ ss) → t ≤ 256
    → outline (flat (record { top = t; bottom = e; row = s ∷ ss } ∷ bs)) ≡ stretched t e (s ∷ ss) (outline (flat bs))
outline_pushed t e s ss bs a h =
    outline_append (flat bs) (boxes_of t e (s ∷ ss)) ∙ ap (hull (outline (flat bs))) (outline_band t e 0 s ss a h)

lengthen : (k : CellBox) (p t e : ℕ) (s : Span) (ss : List Span) → p < t → t < e → hull k (row_box p e s ss) ≡ hull (hull k (row_box p t s ss)) (row_box t e s ss)
lengthen k p t e s ss h g =
    box_same (hull k (row_box p e s ss)) (hull (hull k (row_box p t s ss)) (row_box t e s ss)) (omega arith) (omega arith) (omega arith) (omega arith)

outline_grown :
    (t e : ℕ) (s : Span) (ss : List Span) (bs : List Band) → Stack t [] bs → t < e → t ≤ 256 → Apart 0 (s ∷ ss) → goes_on t (s ∷ ss) bs ≡ true
    → outline (flat (grown e bs)) ≡ stretched t e (s ∷ ss) (outline (flat bs))
outline_grown t e s ss [] k h small a g = absurd (false≢true g)
outline_grown t e s ss (b ∷ bs) k h small a g =
    let p = and_parts (eqb b.bottom t) (same_runs b.row (s ∷ ss)) g in
    let at : b.bottom ≡ t = eqb-true b.bottom t p.0 in
    let same : b.row ≡ s ∷ ss = runs_equal b.row (s ∷ ss) p.1 in
    let o : CellBox = outline (flat bs) in
    let now : outline (flat (b ∷ bs)) ≡ hull o (row_box b.top t s ss) =
    outline_append (flat bs) (boxes_of b.top b.bottom b.row)
    ∙ ap₂ (λ n r. hull o (outline (boxes_of b.top n r))) at same
    ∙ ap (hull o) (outline_band b.top t 0 s ss a (omega arith)) in
    outline_append (flat bs) (boxes_of b.top e b.row)
    ∙ ap (λ r. hull o (outline (boxes_of b.top e r))) same
    ∙ ap (hull o) (outline_band b.top e 0 s ss a (omega arith))
    ∙ lengthen o b.top t e s ss (omega arith) h
    ∙ sym (ap (λ k. hull k (row_box t e s ss)) now)

-- rows added below bands stretch the box around them
pub outline_add :
    (t e : ℕ) (row : List Span) (bs : List Band) → Stack t [] bs → t < e → e ≤ 256 → Apart 0 row
    → outline (flat (add_band t e row bs)) ≡ stretched t e row (outline (flat bs))
outline_add t e [] bs k h top a = refl
outline_add t e (s ∷ ss) bs k h top a =
    cond_both (goes_on t (s ∷ ss) bs) (grown e bs) (record { top = t; bottom = e; row = s ∷ ss } ∷ bs)
    (λ l. outline (flat l) ≡ stretched t e (s ∷ ss) (outline (flat bs)))
    (λ on. outline_grown t e s ss bs k h (omega arith) a on)
    (λ _. outline_pushed t e s ss bs a (omega arith))

-- the box around boxes is their covering box
pub outline_covering : (b : CellBox) (bs : List CellBox) → AllByRecursion Proper (b ∷ bs) → outline (b ∷ bs) ≡ covering (b ∷ bs)
outline_covering b [] p = let q = p.0 in box_same (hull b nothing) b (omega arith) (omega arith) (omega arith) (omega arith)
outline_covering b (c ∷ bs) p = ap (hull b) (outline_covering c bs p.1)
