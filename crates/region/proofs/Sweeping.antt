-- Strips of rows, drawn one below the other.
use Rattle.std.proofs.Common.{◌≡◌, ℕ, ◌<◌, ◌≤◌, Bool, List, [], sym, ap, ◌∙◌, ap₂}
use Rattle.boxes.specs.declared.cell_box.CellBox.{CellBox}
use Rattle.boxes.specs.Banded.{Span}
use Rattle.boxes.specs.Bands.{in_spans}
use Rattle.boxes.specs.Strips.{add_band, outline, stretched}
use Rattle.boxes.proofs.Adding.{painted_add, painted_none}
use Rattle.boxes.proofs.Outlines.{outline_add}
use Rattle.region.specs.declared.operation.Operation.{Operation}
use Rattle.region.specs.declared.work.Work.{Work}
use Rattle.region.specs.Places.{shown_boxes, turn_of}
use Rattle.region.specs.Rows.{spans}
use Rattle.region.specs.Sets.{keeps, kept}
use Rattle.region.specs.Sweeps.{Painting, Strip}
use Rattle.region.specs.Works.{Holds}
use Rattle.region.proofs.Strips.{At, at_row}

-- nothing is drawn at first
pub painting_none : (c : ℕ → ℕ → Bool) (w : Work) → Holds w [] → w.hull ≡ outline [] → Painting c 0 w
painting_none c w h hull = record { bands = []; holds = h; painted = painted_none c; hull = hull }

-- the strip from t to e, where the lists have the runs ps and qs
pub painting_add :
    (op : Operation) (as' bs : List CellBox) (t e : ℕ) (ps qs : List Span) (w w' : Work) → Painting (kept op as' bs) t w → Strip op t e ps qs w w' → t < e → e ≤ 256
    → ((x v : ℕ) → t ≤ v → v < e → kept op as' bs x v ≡ keeps op (in_spans ps x) (in_spans qs x))
    → Painting (kept op as' bs) e w'
painting_add op as' bs t e ps qs w w' p s h top cells =
    let row : List Span = s.row in
    record {
      bands = add_band t e row p.bands;
      holds = s.adds p.bands p.holds p.painted.stack;
      painted = painted_add (kept op as' bs) t e row p.bands p.painted h s.merged.apart (λ x v xs lo hi. s.merged.cells x xs ∙ sym (cells x v lo hi));
      hull = s.hull ∙ ap (stretched t e row) p.hull ∙ sym (outline_add t e row p.bands p.painted.stack h top s.merged.apart);
    }

-- up to the next turn of either list each row is kept alike
pub rows_kept :
    (op : Operation) (as' bs ps qs : List CellBox) (y e x v : ℕ) → At as' ps y → At bs qs y → e ≤ turn_of ps y → e ≤ turn_of qs y → y ≤ v → v < e
    → kept op as' bs x v ≡ keeps op (in_spans (spans (shown_boxes ps y)) x) (in_spans (spans (shown_boxes qs y)) x)
rows_kept op as' bs ps qs y e x v a b h k lo hi = ap₂ (keeps op) (at_row as' ps y e x v a h lo hi) (at_row bs qs y e x v b k lo hi)
