-- What is drawn is the boxes of bands, and stays so as bands are added.
use Rattle.std.proofs.Common.{◌≡◌, MatchOption, Some, None, ℕ, ◌+◌, ◌-◌, ◌<◌, Bool, true, false, ◌&&◌, eqb, ◌≢◌, List, [], ◌∷◌, ◌++◌, length, get_or, take, drop, sym, refl, ap, ◌∙◌, subst, ap₂, arith}
use Rattle.std.proofs.lemmas.List.{drop_all, drop_at, length-map, take_at}
use Rattle.std.proofs.lemmas.Bool.{cond-false, cond-true, false≢true}
use Rattle.boxes.specs.declared.cell_box.CellBox.{CellBox}
use Rattle.boxes.specs.Banded.{Span, span}
use Rattle.boxes.specs.Bands.{Band, Stack, boxes_of, flat}
use Rattle.boxes.specs.Regions.{hull}
use Rattle.boxes.specs.Strips.{add_band, goes_on, grown, last_right, lower_all, same_runs, stretched}
use Rattle.boxes.proofs.Adding.{grows, length_flat, lower_boxes, some_runs}
use Rattle.region.specs.declared.work.Work.{Work}
use Rattle.region.specs.Rows.{spans}
use Rattle.region.specs.Listed.{listed}
use Rattle.region.specs.Works.{Adds, Grown, Holds, Pushed, Stands, goes_on_boxes}
use Rattle.region.specs.declared.drawn.Drawn.{Drawn}

spans_boxes : (t e : ℕ) (ss : List Span) → spans (boxes_of t e ss) ≡ ss
spans_boxes t e [] = refl
spans_boxes t e (s ∷ ss) = ap (λ l. s ∷ l) (spans_boxes t e ss)

goes_band : (t : ℕ) (row : List Span) (b : Band) (bs : List Band) → b.row ≢ [] → goes_on_boxes t row (boxes_of b.top b.bottom b.row) ≡ goes_on t row (b ∷ bs)
goes_band t row b bs h = go b.row h
  where
    go : (rs : List Span) → rs ≢ [] → goes_on_boxes t row (boxes_of b.top b.bottom rs) ≡ (eqb b.bottom t && same_runs rs row)
    go [] n = absurd (n refl)
    go (r ∷ rs) n = ap (λ l. eqb b.bottom t && same_runs l row) (spans_boxes b.top b.bottom (r ∷ rs))

-- what is drawn of the last band, and of those above it
last_band : (d : Drawn) (b : Band) (bs : List Band) → Stands (b ∷ bs) d → drop d.start (listed d.boxes) ≡ boxes_of b.top b.bottom b.row
last_band d b bs h = ap (drop d.start) h.boxes ∙ drop_at (flat bs) (boxes_of b.top b.bottom b.row) d.start (sym h.start)

first_bands : (d : Drawn) (b : Band) (bs : List Band) → Stands (b ∷ bs) d → take d.start (listed d.boxes) ≡ flat bs
first_bands d b bs h = ap (take d.start) h.boxes ∙ take_at (flat bs) (boxes_of b.top b.bottom b.row) d.start (sym h.start)

drop_none : (n : ℕ) (l : List CellBox) → l ≡ [] → drop n l ≡ []
drop_none n l e = drop_all n l (omega (arith, ap length e))

goes : (d : Drawn) (t p : ℕ) (row : List Span) (bs : List Band) → Stands bs d → Stack t [] bs → goes_on_boxes p row (drop d.start (listed d.boxes)) ≡ goes_on p row bs
goes d t p row [] h k = ap (goes_on_boxes p row) (drop_none d.start (listed d.boxes) h.boxes)
goes d t p row (b ∷ bs) h k = ap (goes_on_boxes p row) (last_band d b bs h) ∙ goes_band p row b bs k.3

stands_grown : (e : ℕ) (d d' : Drawn) (bs : List Band) → Stands bs d → 0 < length (flat bs) → Grown e d d' → Stands (grown e bs) d'
stands_grown e d d' [] h n g = absurd (omega arith)
stands_grown e d d' (b ∷ bs) h n g =
    record {
      boxes = g.boxes
          ∙ ap₂ (λ p q. p ++ lower_all e q) (first_bands d b bs h) (last_band d b bs h)
          ∙ ap (λ l. flat bs ++ l) (lower_boxes b.top b.bottom e b.row);
      start = g.start ∙ h.start;
    }

stands_pushed : (t e : ℕ) (row : List Span) (d d' : Drawn) (bs : List Band) → Stands bs d → Pushed t e row d d' → Stands (record { top = t; bottom = e; row = row } ∷ bs) d'
stands_pushed t e row d d' bs h g =
    record {
      boxes = g.boxes ∙ ap (λ l. l ++ boxes_of t e row) h.boxes;
      start = g.start ∙ ap length h.boxes;
    }

-- what `put` does, on each of its ways
pub adds_over : (t e : ℕ) (row : List Span) (w : Work) → w.drawn ≡ None → Adds t e row w w
adds_over t e row w over bs h k =
    let many : 32 < length (flat bs) = subst (λ o. MatchOption o (32 < length (flat bs)) (Stands bs)) over h in
    subst (λ o. MatchOption o (32 < length (flat (add_band t e row bs))) (Stands (add_band t e row bs))) (sym over) (omega (arith, many, grows t e row bs))

-- rows without cells
pub adds_none : (t e : ℕ) (runs : List CellBox) (w : Work) → length runs ≡ 0 → Adds t e (spans runs) w w
adds_none t e [] w n bs h k = h
adds_none t e (r ∷ rs) w n bs h k = absurd (omega arith)

pub stretched_none : (t e : ℕ) (runs : List CellBox) (k : CellBox) → length runs ≡ 0 → k ≡ stretched t e (spans runs) k
stretched_none t e [] k n = refl
stretched_none t e (r ∷ rs) k n = absurd (omega arith)

last_right_is : (r : CellBox) (rs : List CellBox) (d : CellBox) → (get_or (r ∷ rs) (length rs) d).right ≡ last_right (span r) (spans rs)
last_right_is r [] d = refl
last_right_is r (q ∷ rs) d = last_right_is q rs d

pub stretched_some :
    (t e : ℕ) (runs : List CellBox) (k h first last : CellBox) → 0 < length runs → first ≡ get_or runs 0 first → last ≡ get_or runs (length runs - 1) last
    → h ≡ hull k (record { left = first.left; top = t; right = last.right; bottom = e }) → h ≡ stretched t e (spans runs) k
stretched_some t e [] k h first last n p q is = absurd (omega arith)
stretched_some t e (r ∷ rs) k h first last n p q is =
    let end : length (r ∷ rs) - 1 ≡ length rs = omega arith in
    is
    ∙ ap₂ (λ l z. hull k (record { left = l; top = t; right = z; bottom = e })) (ap (λ b. b.left) p)
    (ap (λ b. b.right) q ∙ ap (λ z. (get_or (r ∷ rs) z last).right) end ∙ last_right_is r rs last)

some_boxes : (t : ℕ) (row : List Span) (bs : List Band) (p : ℕ) → Stack p [] bs → goes_on t row bs ≡ true → 0 < length (flat bs)
some_boxes t row [] p k g = absurd (false≢true g)
some_boxes t row (b ∷ bs) p k g = omega (arith, length_flat b bs, some_runs b.row k.3)

-- there are boxes drawn, d
module _ (t e : ℕ) (w : Work) (d : Drawn) (is : w.drawn ≡ Some d) where
  stands : (bs : List Band) → Holds w bs → Stands bs d
  stands bs h = subst (λ o. MatchOption o (32 < length (flat bs)) (Stands bs)) is h

  on_bands : (row : List Span) (bs : List Band) (g : Bool) → Holds w bs → Stack t [] bs → g ≡ goes_on_boxes t row (drop d.start (listed d.boxes)) → goes_on t row bs ≡ g
  on_bands row bs g h k q = sym (goes d t t row bs (stands bs h) k) ∙ sym q

  pub adds_grown :
      (runs : List CellBox) (d' : Drawn) → 0 < length runs → true ≡ goes_on_boxes t (spans runs) (drop d.start (listed d.boxes)) → Grown e d d' → (bs : List Band)
      → Holds w bs → Stack t [] bs → Stands (add_band t e (spans runs) bs) d'
  adds_grown [] d' n g r bs h k = absurd (omega arith)
  adds_grown (q ∷ qs) d' n g r bs h k =
      let row : List Span = spans (q ∷ qs) in
      let on : goes_on t row bs ≡ true = on_bands row bs true h k g in
      subst (λ l. Stands l d') (sym (cond-true (goes_on t row bs) (grown e bs) (record { top = t; bottom = e; row = row } ∷ bs) on))
      (stands_grown e d d' bs (stands bs h) (some_boxes t row bs t k on) r)

  pub adds_pushed :
      (runs : List CellBox) (d' : Drawn) → 0 < length runs → false ≡ goes_on_boxes t (spans runs) (drop d.start (listed d.boxes)) → Pushed t e (spans runs) d d'
      → (bs : List Band) → Holds w bs → Stack t [] bs → Stands (add_band t e (spans runs) bs) d'
  adds_pushed [] d' n g r bs h k = absurd (omega arith)
  adds_pushed (q ∷ qs) d' n g r bs h k =
      let row : List Span = spans (q ∷ qs) in
      subst (λ l. Stands l d') (sym (cond-false (goes_on t row bs) (grown e bs) (record { top = t; bottom = e; row = row } ∷ bs) (on_bands row bs false h k g)))
      (stands_pushed t e row d d' bs (stands bs h) r)

  -- there is no room
  pub adds_full :
      (runs : List CellBox) → 0 < length runs → false ≡ goes_on_boxes t (spans runs) (drop d.start (listed d.boxes)) → 32 < length (listed d.boxes) + length runs
      → (bs : List Band) → Holds w bs → Stack t [] bs → 32 < length (flat (add_band t e (spans runs) bs))
  adds_full [] n g many bs h k = absurd (omega arith)
  adds_full (q ∷ qs) n g many bs h k =
      let row : List Span = spans (q ∷ qs) in
      let band : Band = record { top = t; bottom = e; row = row } in
      subst (λ l. 32 < length (flat l)) (sym (cond-false (goes_on t row bs) (grown e bs) (band ∷ bs) (on_bands row bs false h k g)))
      (omega (arith, many, ap length (stands bs h).boxes, length_flat band bs, length-map (q ∷ qs) span))
