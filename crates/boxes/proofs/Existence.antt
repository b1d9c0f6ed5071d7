-- Every set of cells of the largest screen is the cells of a stack of bands.
use Rattle.std.proofs.Common.{◌≡◌, ℕ, zero, suc, ◌<◌, ◌≤◌, Bool, true, false, ◌&&◌, List, [], ◌∷◌, ◌++◌, sym, refl, ap, ◌∙◌, subst, inl, inr, arith}
use Rattle.std.proofs.lemmas.Bool.{cases_Bool, cases_lt}
use Rattle.boxes.specs.declared.cell_box.CellBox.{CellBox}
use Rattle.boxes.specs.Banded.{Span}
use Rattle.boxes.specs.Bands.{Band, ByBands, flat}
use Rattle.boxes.specs.Cells.{SameCells, has, on_largest}
use Rattle.boxes.specs.Strips.{Drawn, Painted, add_band, limit}
use Rattle.boxes.proofs.Adding.{painted_add, painted_cells, painted_none}
use Rattle.boxes.proofs.Drawing.{drawn_none, drawn_pass, drawn_push, drawn_widen, last_run, limit_before, limit_none, limit_push}

-- one column more
only : (c : ℕ → Bool) (b : Bool) (x : ℕ) → c x ≡ b → (v : ℕ) → x ≤ v → v < suc x → c v ≡ b
only c b x h v lo hi =
    let at : v ≡ x = omega arith in
    ap c at ∙ h

drawn_cell : (c : ℕ → Bool) (x : ℕ) (ss : List Span) → Drawn c x ss → suc x ≤ 256 → c x ≡ true → (rs : List Span) × Drawn c (suc x) rs
drawn_cell c x ss d top on =
    elim (last_run ss) [
      | inl none ↦ (
        ss ++ record { left = x; right = suc x } ∷ [],
        drawn_push c x (suc x) ss d (omega arith) top (only c true x on) (subst (λ l. limit 0 l ≤ x) (sym none) (limit_none x)),
      )
      | inr e ↦ (
          let d' : Drawn c x (e.0 ++ e.1 ∷ []) = subst (λ l. Drawn c x l) e.2 d in
          elim (cases_lt e.1.right x) [
            | inl lt ↦ (
              (e.0 ++ e.1 ∷ []) ++ record { left = x; right = suc x } ∷ [],
              drawn_push c x (suc x) (e.0 ++ e.1 ∷ []) d' (omega arith) top (only c true x on) (limit_before e.0 e.1 x lt),
            )
            | inr ge ↦ (
              e.0 ++ record { left = e.1.left; right = suc x } ∷ [],
              drawn_widen c x (suc x) e.0 e.1 d' (omega (arith, d'.near, limit_push 0 e.0 e.1)) (omega arith) top (only c true x on),
            )
          ])
    ]

-- the runs of a row, column by column
row_drawn : (c : ℕ → Bool) (x : ℕ) → x ≤ 256 → (ss : List Span) × Drawn c x ss
row_drawn c zero h = ([], drawn_none c)
row_drawn c (suc x) h =
    let r = row_drawn c x (omega arith) in
    elim (cases_Bool (c x)) [
      | inl on ↦ drawn_cell c x r.0 r.1 h on
      | inr off ↦ (r.0, drawn_pass c x (suc x) r.0 r.1 (omega arith) (only c false x off))
    ]

-- the bands, row by row
rows_painted : (c : ℕ → ℕ → Bool) (y : ℕ) → y ≤ 256 → (bs : List Band) × Painted c y bs
rows_painted c zero h = ([], painted_none c)
rows_painted c (suc y) h =
    let r = rows_painted c y (omega arith) in
    let d = row_drawn (λ x. c x y) 256 (omega arith) in (
      add_band y (suc y) d.0 r.0,
      painted_add c y (suc y) d.0 r.0 r.1 (omega arith) d.1.apart
          (λ x v xs lo hi.
          (let at : v ≡ y = omega arith in
          d.1.cells x xs ∙ ap (λ w. c x w) (sym at))),
    )

-- the cells on the largest screen of any set are the cells of a banded list
pub exists_bands : (cells : ℕ → ℕ → Bool) → (bs : List CellBox) × ByBands bs × SameCells (has bs) (λ x y. cells x y && on_largest x y)
exists_bands cells =
    let r = rows_painted cells 256 (omega arith) in
    (flat r.0, record { bands = r.0; boxes = refl; stack = r.1.stack }, painted_cells cells r.0 r.1)
