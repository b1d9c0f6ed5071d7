-- A run more in a row.
use Rattle.std.proofs.Common.{◌≡◌, Option, Some, None, MatchOption, Bor, ℕ, suc, ◌+◌, ◌-◌, ◌<◌, ◌≤◌, Bool, true, false, eqb, List, [], ◌∷◌, ◌++◌, length, get_or, sym, refl, ap, ◌∙◌, subst, inl, inr, arith}
use Rattle.std.proofs.lemmas.List.{length-map}
use Rattle.std.proofs.lemmas.Bool.{both_ways, cases_eq, cond-false, cond-true, eq-eqb, false≢true, ne_eqb}
use Rattle.std.specs.List.{HoldsAt}
use Rattle.boxes.specs.declared.cell_box.CellBox.{CellBox}
use Rattle.boxes.specs.Banded.{Span, span}
use Rattle.boxes.specs.Strips.{Drawn, limit}
use Rattle.boxes.proofs.Drawing.{apart_size, drawn_push, drawn_widen, last_run, limit_before, limit_none, limit_push}
use Rattle.region.specs.Listed.{widened_last}
use Rattle.region.specs.Rows.{Fits, add_run, ends_at, spans}

abbrev pub run : ℕ → ℕ → Span
run l r = record { left = l; right = r }

-- the last run ends at l
add_widens : (l r : ℕ) (ss : List Span) (s : Span) → s.right ≡ l → add_run l r (ss ++ s ∷ []) ≡ ss ++ run s.left r ∷ []
add_widens l r [] s e = cond-true (eqb s.right l) (run s.left r ∷ []) (s ∷ run l r ∷ []) (eq-eqb s.right l e)
add_widens l r (t ∷ []) s e = ap (λ z. t ∷ z) (add_widens l r [] s e)
add_widens l r (t ∷ u ∷ ss) s e = ap (λ z. t ∷ z) (add_widens l r (u ∷ ss) s e)

-- it ends elsewhere
add_pushes : (l r : ℕ) (ss : List Span) (s : Span) → (s.right ≡ l → ⊥) → add_run l r (ss ++ s ∷ []) ≡ (ss ++ s ∷ []) ++ run l r ∷ []
add_pushes l r [] s n = cond-false (eqb s.right l) (run s.left r ∷ []) (s ∷ run l r ∷ []) (ne_eqb s.right l n)
add_pushes l r (t ∷ []) s n = ap (λ z. t ∷ z) (add_pushes l r [] s n)
add_pushes l r (t ∷ u ∷ ss) s n = ap (λ z. t ∷ z) (add_pushes l r (u ∷ ss) s n)

-- so in a list of boxes
pub spans_widened : (l r : ℕ) (bs : List CellBox) → ends_at (spans bs) l ≡ true → spans (widened_last r bs) ≡ add_run l r (spans bs)
spans_widened l r [] e = absurd (false≢true e)
spans_widened l r (b ∷ []) e = sym (cond-true (eqb b.right l) (run b.left r ∷ []) (span b ∷ run l r ∷ []) e)
spans_widened l r (b ∷ c ∷ bs) e = ap (λ z. span b ∷ z) (spans_widened l r (c ∷ bs) e)

pub spans_pushed :
    (l r : ℕ) (bs : List CellBox) (b : CellBox) → ends_at (spans bs) l ≡ false → span b ≡ run l r → spans (bs ++ b ∷ []) ≡ add_run l r (spans bs)
spans_pushed l r [] b e is = ap (λ s. s ∷ []) is
spans_pushed l r (c ∷ []) b e is = ap (λ s. span c ∷ s ∷ []) is ∙ sym (cond-false (eqb c.right l) (run c.left r ∷ []) (span c ∷ run l r ∷ []) e)
spans_pushed l r (c ∷ d ∷ bs) b e is = ap (λ z. span c ∷ z) (spans_pushed l r (d ∷ bs) b e is)

ends_last : (l : ℕ) (ss : List Span) (s : Span) → ends_at (ss ++ s ∷ []) l ≡ eqb s.right l
ends_last l [] s = refl
ends_last l (t ∷ []) s = refl
ends_last l (t ∷ u ∷ ss) s = ends_last l (u ∷ ss) s

-- where it ends elsewhere, it ends left of l
free : (l : ℕ) (ss : List Span) → Fits l ss → ends_at ss l ≡ false → limit 0 ss ≤ l
free l ss f other =
    elim (last_run ss) [
      | inl none ↦ subst (λ z. limit 0 z ≤ l) (sym none) (omega arith)
      | inr last ↦
          (let ends : limit 0 ss ≡ last.1.right + 1 = ap (limit 0) last.2 ∙ limit_push 0 last.0 last.1 in
          let off : eqb last.1.right l ≡ false = sym (ends_last l last.0 last.1) ∙ ap (λ z. ends_at z l) (sym last.2) ∙ other in
          elim (cases_eq last.1.right l) [
            | inl same ↦ absurd (both_ways (eqb last.1.right l) off (eq-eqb last.1.right l same))
            | inr differ ↦ omega (arith, ends, f.near, differ)
          ])
    ]

-- so there is room for a run more
pub runs_room : (l : ℕ) (bs : List CellBox) → Fits l (spans bs) → ends_at (spans bs) l ≡ false → length bs < 128
runs_room l bs f other =
    omega (arith, free l (spans bs) f other, apart_size 0 (spans bs) f.apart, length-map bs span, f.inside)

-- the last run ends at the column, where a slice has one
pub ends_of : (l : ℕ) (bs : List CellBox) (b : CellBox) → 0 < length bs → b ≡ get_or bs (length bs - 1) b → ends_at (spans bs) l ≡ eqb b.right l
ends_of l [] b some is = absurd (omega arith)
ends_of l (c ∷ []) b some is = ap (λ z. eqb z.right l) (sym is)
ends_of l (c ∷ d ∷ bs) b some is =
    let less : length (c ∷ d ∷ bs) - 1 ≡ suc (length (d ∷ bs) - 1) = omega arith in
    ends_of l (d ∷ bs) b (omega arith) (is ∙ ap (λ n. get_or (c ∷ d ∷ bs) n b) less)

-- what `last` says of that
pub ends_told :
    (l : ℕ) (bs : List CellBox) (o : Option (Bor CellBox)) (r : Bool) {Q : Bor CellBox → Type 0}
    → MatchOption o (length bs ≤ 0) (λ x. (0 < length bs) × HoldsAt (λ y. x.now ≡ y) bs (length bs - 1)) → MatchOption o (r ≡ false) Q
    → ((x : Bor CellBox) → Q x → r ≡ eqb x.now.right l) → r ≡ ends_at (spans bs) l
ends_told l [] None r none is told = is
ends_told l (b ∷ bs) None r none is told = absurd (omega arith)
ends_told l bs (Some x) r (some, at) is told = told x is ∙ sym (ends_of l bs x.now some (at x.now))

-- the cells from x up to e, added to the runs of the cells left of x
pub drawn_add :
    (c : ℕ → Bool) (x e : ℕ) (ss : List Span) → Drawn c x ss → x < e → e ≤ 256 → ((v : ℕ) → x ≤ v → v < e → c v ≡ true) → Drawn c e (add_run x e ss)
drawn_add c x e ss d h top on =
    elim (last_run ss) [
      | inl none ↦ subst (λ z. Drawn c e (add_run x e z)) (sym none) (drawn_push c x e [] (subst (Drawn c x) none d) h top on (limit_none x))
      | inr last ↦
          (let d' = subst (Drawn c x) last.2 d in
          subst (λ z. Drawn c e (add_run x e z)) (sym last.2)
          (elim (cases_eq last.1.right x) [
            | inl same ↦ subst (Drawn c e) (sym (add_widens x e last.0 last.1 same)) (drawn_widen c x e last.0 last.1 d' same h top on)
            | inr differ ↦
                subst (Drawn c e) (sym (add_pushes x e last.0 last.1 differ))
                (drawn_push c x e (last.0 ++ last.1 ∷ []) d' h top on
                (limit_before last.0 last.1 x (omega (arith, differ, d'.near, limit_push 0 last.0 last.1))))
          ]))
    ]
