-- Which cells the runs of a row have at the column at hand.
use Rattle.std.proofs.Common.{◌≡◌, ℕ, ◌+◌, ◌<◌, ◌≤◌, Bool, true, false, leb, List, [], ◌∷◌, length, sym, refl, ◌∙◌, ap₂, inl, inr, arith}
use Rattle.std.proofs.lemmas.Bool.{cases_lt, cond_both}
use Rattle.std.proofs.lemmas.Bool.Decides.{nat_tests}
use Rattle.boxes.specs.declared.cell_box.CellBox.{CellBox}
use Rattle.boxes.specs.Banded.{Span, span}
use Rattle.boxes.specs.Bands.{Apart, in_spans}
use Rattle.boxes.specs.Strips.{Drawn}
use Rattle.boxes.proofs.Drawing.{apart_from, drawn_pass}
use Rattle.boxes.proofs.Unique.{drop_head, head_before, head_in}
use Rattle.region.specs.declared.operation.Operation.{Operation}
use Rattle.region.specs.declared.operation.Operation.TheVariants.{Join, Cut, Away}
use Rattle.region.specs.Rows.{Merged, add_run, begun, edge_of, past_run, spans, start_of}
use Rattle.region.specs.Sets.{keeps}
use Rattle.region.proofs.Adding.{drawn_add}

-- the first run ends right of column x
abbrev pub Open : List CellBox → ℕ → Type 0
Open [] x = Unit {0}
Open (b ∷ bs) x = x < b.right

-- the runs rs are those of bs that end right of column x
pub record Along (bs rs : List CellBox) (x : ℕ) : Type 0 where
  pub apart : Apart 0 (spans rs)
  pub rest : (v : ℕ) → x ≤ v → in_spans (spans bs) v ≡ in_spans (spans rs) v
  pub open' : Open rs x

-- before the runs begin
pub along_start : (bs : List CellBox) (x : ℕ) → Apart 0 (spans bs) → x ≤ start_of bs → Along bs bs x
along_start [] x a h = record { apart = tt; rest = λ v _. refl; open' = tt }
along_start (b ∷ bs) x a h = record { apart = a; rest = λ v _. refl; open' = omega (arith, a.1) }

pub start_inside : (bs : List CellBox) → Apart 0 (spans bs) → start_of bs ≤ 256
start_inside [] a = omega arith
start_inside (b ∷ bs) a = omega (arith, a.1, a.2)

none_before : (bs : List CellBox) (v : ℕ) → Apart 0 (spans bs) → v < start_of bs → in_spans (spans bs) v ≡ false
none_before [] v a h = refl
none_before (b ∷ bs) v a h = head_before 0 (span b) (spans bs) v a h

-- a column that a run has is on the largest screen
pub along_inside : (bs rs : List CellBox) (x : ℕ) → Along bs rs x → 0 < length rs → x < 256
along_inside bs [] x g some = absurd (omega arith)
along_inside bs (r ∷ rs) x g some = omega (arith, g.open', g.apart.2)

-- behind the last run there is none
none_behind : (bs rs : List CellBox) (x v : ℕ) → Along bs rs x → length rs ≡ 0 → x ≤ v → in_spans (spans bs) v ≡ false
none_behind bs [] x v g over lo = g.rest v lo
none_behind bs (r ∷ rs) x v g over lo = absurd (omega arith)

-- the next edge is right of x, and on the largest screen
pub along_edge : (bs rs : List CellBox) (x : ℕ) → Along bs rs x → x < 256 → (x < edge_of rs x) × (edge_of rs x ≤ 256)
along_edge bs [] x g h = (h, omega arith)
along_edge bs (r ∷ rs) x g h =
    let first : r.left < r.right = g.apart.1 in
    let top : r.right ≤ 256 = g.apart.2 in
    let open' : x < r.right = g.open' in
    grind (arith, nat_tests)

-- up to there, the first run has begun or it has not
pub along_steady :
    (bs rs : List CellBox) (x e v : ℕ) → Along bs rs x → e ≤ edge_of rs x → x ≤ v → v < e → in_spans (spans bs) v ≡ begun rs x
along_steady bs [] x e v g h lo hi = g.rest v lo
along_steady bs (r ∷ rs) x e v g h lo hi =
    g.rest v lo
    ∙ elim (cases_lt x r.left) [
      | inl early ↦
          (let off : begun (r ∷ rs) x ≡ false = grind (arith, nat_tests) in
          let end : edge_of (r ∷ rs) x ≡ r.left = grind (arith, nat_tests) in
          head_before 0 (span r) (spans rs) v g.apart (omega arith) ∙ sym off)
      | inr late ↦
          (let on : begun (r ∷ rs) x ≡ true = grind (arith, nat_tests) in
          let end : edge_of (r ∷ rs) x ≡ r.right = grind (arith, nat_tests) in
          head_in (span r) (spans rs) v (omega arith) (omega arith) ∙ sym on)
    ]

open_from : (rs : List CellBox) (l x : ℕ) → Apart l (spans rs) → x ≤ l → Open rs x
open_from [] l x a h = tt
open_from (r ∷ rs) l x a h = omega (arith, a.0, a.1)

pub along_past : (bs rs : List CellBox) (x e : ℕ) → Along bs rs x → x ≤ e → e ≤ edge_of rs x → Along bs (past_run rs e) e
along_past bs [] x e g h top = record { apart = tt; rest = λ v lo. g.rest v (omega arith); open' = tt }
along_past bs (r ∷ rs) x e g h top =
    cond_both (leb r.right e) rs (r ∷ rs) (λ l. Along bs l e)
    (λ on.
    record {
      apart = apart_from 0 (r.right + 1) (spans rs) g.apart.3 (omega arith);
      rest = λ v lo.
          g.rest v (omega arith) ∙ drop_head r.left r.right v (in_spans (spans rs) v) (grind (arith, nat_tests));
      open' = open_from rs (r.right + 1) e g.apart.3 (grind (arith, nat_tests));
    })
    (λ off.
    record {
      apart = g.apart;
      rest = λ v lo. g.rest v (omega arith);
      open' = grind (arith, nat_tests);
    })

-- what an operation keeps of two rows
abbrev pub kept_row : Operation → List CellBox → List CellBox → ℕ → Bool
kept_row op ps qs v = keeps op (in_spans (spans ps) v) (in_spans (spans qs) v)

module _ (op : Operation) (ps qs rs ss : List CellBox) (x e : ℕ) (g : Along ps rs x) (h : Along qs ss x) (p : e ≤ edge_of rs x) (q : e ≤ edge_of ss x) where
  -- a step of the sweep along two rows
  merge_steady : (v : ℕ) → x ≤ v → v < e → kept_row op ps qs v ≡ keeps op (begun rs x) (begun ss x)
  merge_steady v lo hi = ap₂ (keeps op) (along_steady ps rs x e v g p lo hi) (along_steady qs ss x e v h q lo hi)

  -- what is kept is added, and else the runs stay as they are
  pub merge_adds :
      (row : List Span) → x < e → e ≤ 256 → Drawn (kept_row op ps qs) x row → keeps op (begun rs x) (begun ss x) ≡ true
      → Drawn (kept_row op ps qs) e (add_run x e row)
  merge_adds row lt top d on = drawn_add (kept_row op ps qs) x e row d lt top (λ v lo hi. merge_steady v lo hi ∙ on)

  pub merge_passes : (row : List Span) → x < e → Drawn (kept_row op ps qs) x row → keeps op (begun rs x) (begun ss x) ≡ false → Drawn (kept_row op ps qs) e row
  merge_passes row lt d off = drawn_pass (kept_row op ps qs) x e row d lt (λ v lo hi. merge_steady v lo hi ∙ off)

-- at first nothing is drawn, and what is drawn in the end is the row
pub none_kept : (op : Operation) → keeps op false false ≡ false
none_kept Join = refl
none_kept Cut = refl
none_kept Away = refl

pub drawn_start :
    (op : Operation) (ps qs : List CellBox) (x : ℕ) → Apart 0 (spans ps) → Apart 0 (spans qs) → x ≤ start_of ps → x ≤ start_of qs → Drawn (kept_row op ps qs) x []
drawn_start op ps qs x a b h k =
    record {
      apart = tt;
      near = omega arith;
      cells = λ v lt. sym (ap₂ (keeps op) (none_before ps v a (omega arith)) (none_before qs v b (omega arith)) ∙ none_kept op);
    }

pub drawn_merged :
    (op : Operation) (ps qs rs ss : List CellBox) (x : ℕ) (row : List Span) → Along ps rs x → Along qs ss x → length rs ≡ 0 → length ss ≡ 0
    → Drawn (kept_row op ps qs) x row → Merged op (spans ps) (spans qs) row
drawn_merged op ps qs rs ss x row g h over over' d =
    record {
      apart = d.apart;
      cells = λ v lt.
          elim (cases_lt v x) [
            | inl left ↦ d.cells v left
            | inr right ↦
                (drawn_pass (kept_row op ps qs) x (v + 1) row d (omega arith)
                (λ u lo hi. ap₂ (keeps op) (none_behind ps rs x u g over lo) (none_behind qs ss x u h over' lo) ∙ none_kept op)).cells v (omega arith)
          ];
    }
