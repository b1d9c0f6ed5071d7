-- What is said of a painted memory leaves nothing open.
use Rattle.std.proofs.Common.{◌≡◌, ℕ, ◌+◌, ◌*◌, ◌/◌, ◌%◌, ◌<◌, ◌≤◌, List, get_or, sym, ap, ◌∙◌, ⊎_elim, mod-lt, div-add-mod', arith}
use Rattle.std.proofs.Math.Nat.{div-lt_iff_lt-mul}
use Rattle.std.proofs.lemmas.List.{same_lists}
use Rattle.std.proofs.lemmas.Bool.{cases_lt}
use Rattle.screen.specs.declared.rect.Rect.{Rect}
use Rattle.screen.specs.declared.sides.Sides.{Sides}
use Rattle.screen.specs.Paints.{Painted, Shows}

-- every place of the screen is that of a cell
some_column : (w h k : ℕ) → k < w * h → 0 < w
some_column w h k l = grind arith

row_of : (w h k : ℕ) → k < w * h → k / w < h
row_of w h k l = (div-lt_iff_lt-mul (some_column w h k l)).1 (omega arith)

-- two memories that show the same are the same
shown_once :
    {X : Type 0} (sides : Sides) (rect : Rect) (new : ℕ → ℕ → X → X) (before a b : List X)
    → Shows sides rect new before a → Shows sides rect new before b → a ≡ b
shown_once sides rect new before a b p q =
    let w = sides.width in
    let h = sides.height in
    same_lists a b (p.size ∙ sym q.size)
    (λ k d l.
    ⊎_elim
    (λ (t : k < w * h).
    let column : k % w < w = mod-lt k (some_column w h k t) in
    let row : k / w < h = row_of w h k t in
    let place : k / w * w + k % w ≡ k = div-add-mod' k w in
    ap (λ z. get_or a z d) (sym place) ∙ p.cells (k % w) (k / w) d column row ∙ sym (q.cells (k % w) (k / w) d column row) ∙ ap (λ z. get_or b z d) place)
    (λ (t : w * h ≤ k). p.behind k d t ∙ sym (q.behind k d t))
    (cases_lt k (w * h)))

pub painted :
    {X : Type 0} (sides : Sides) (rect : Rect) (new : ℕ → ℕ → X → X) (before after : List X)
    → Shows sides rect new before after → Painted sides rect new before after
unfolding Painted
painted sides rect new before after shows = (shows, λ other as-well. shown_once sides rect new before other after as-well shows)
