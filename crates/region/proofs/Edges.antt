-- The boxes of a band in an array: compared, lowered, added.
use Rattle.std.proofs.Common.{◌≡◌, ℕ, ◌+◌, ◌<◌, ◌≤◌, Bool, true, false, ◌&&◌, List, [], ◌∷◌, ◌++◌, map, length, get_or, take, drop, set, sym, refl, ap, ◌∙◌, ap₂, arith}
use Rattle.std.specs.List.{list_all, zip}
use Rattle.std.proofs.lemmas.List.Edits.{map_over_more}
use Rattle.std.proofs.lemmas.List.{append_assoc, append-nil, length-append, drop_all, get_or_default, length-map, length-take-le, take_all, take_more}
use Rattle.boxes.specs.declared.cell_box.CellBox.{CellBox}
use Rattle.boxes.specs.Banded.{span}
use Rattle.boxes.specs.Bands.{boxes_of}
use Rattle.boxes.proofs.Adding.{length_boxes}
use Rattle.boxes.specs.Regions.{no_box}
use Rattle.boxes.specs.Strips.{same_runs}
use Rattle.region.specs.Rows.{spans}
use Rattle.region.specs.Works.{same_run}

-- bands of other lengths differ
pub edges_lengths : (ps qs : List CellBox) → (length ps ≡ length qs → ⊥) → false ≡ same_runs (spans ps) (spans qs)
edges_lengths [] [] h = absurd (h refl)
edges_lengths [] (q ∷ qs) h = refl
edges_lengths (p ∷ ps) [] h = refl
edges_lengths (p ∷ ps) (q ∷ qs) h = go (same_run p q) (edges_lengths ps qs (λ e. h (omega arith)))
  where
    go : (t : Bool) → false ≡ same_runs (spans ps) (spans qs) → false ≡ (t && same_runs (spans ps) (spans qs))
    go true e = e
    go false e = refl

-- bands as long are compared run by run
pub edges_zipped : (ps qs : List CellBox) → length ps ≡ length qs → list_all (λ p. same_run p.0 p.1) (zip ps qs) ≡ same_runs (spans ps) (spans qs)
edges_zipped [] [] h = refl
edges_zipped [] (q ∷ qs) h = absurd (omega arith)
edges_zipped (p ∷ ps) [] h = absurd (omega arith)
edges_zipped (p ∷ ps) (q ∷ qs) h = ap (λ t. same_run p q && t) (edges_zipped ps qs (omega arith))

-- one more box changed in its place
pub map_more :
    (f : CellBox → CellBox) (xs ys : List CellBox) (i : ℕ) (b : CellBox) → i < length xs → length ys ≡ length xs → ys ≡ map f (take i xs) ++ drop i xs
    → b ≡ f (get_or ys i no_box) → set ys i b ≡ map f (take (i + 1) xs) ++ drop (i + 1) xs
map_more f xs ys i b h k inv is =
    ap (λ v. set ys i v) is ∙ map_over_more f xs ys i (get_or ys i no_box) h inv (get_or_default ys i no_box (get_or ys i no_box) (omega arith))

pub map_all : (f : CellBox → CellBox) (xs ys : List CellBox) (i : ℕ) → length xs ≤ i → ys ≡ map f (take i xs) ++ drop i xs → ys ≡ map f xs
map_all f xs ys i h inv = inv ∙ ap₂ (λ p q. map f p ++ q) (take_all i xs h) (drop_all i xs h) ∙ append-nil (map f xs)

-- one more box of a band
abbrev pub placed : ℕ → ℕ → CellBox → CellBox
placed t e run = record { left = run.left; top = t; right = run.right; bottom = e }

boxes_push : (t e : ℕ) (runs : List CellBox) (r : CellBox) → boxes_of t e (spans (runs ++ r ∷ [])) ≡ boxes_of t e (spans runs) ++ placed t e r ∷ []
boxes_push t e [] r = refl
boxes_push t e (q ∷ runs) r = ap (λ l. placed t e q ∷ l) (boxes_push t e runs r)

pub push_more :
    (p xs : List CellBox) (i t e : ℕ) (runs : List CellBox) → i < length runs → xs ≡ p ++ boxes_of t e (spans (take i runs))
    → xs ++ placed t e (get_or runs i no_box) ∷ [] ≡ p ++ boxes_of t e (spans (take (i + 1) runs))
push_more p xs i t e runs k inv =
    let r : CellBox = get_or runs i no_box in
    ap (λ l. l ++ placed t e r ∷ []) inv
    ∙ append_assoc p (boxes_of t e (spans (take i runs))) (placed t e r ∷ [])
    ∙ ap (λ l. p ++ l) (sym (ap (λ l. boxes_of t e (spans l)) (take_more runs i no_box k) ∙ boxes_push t e (take i runs) r))

pub push_all :
    (p xs : List CellBox) (i t e : ℕ) (runs : List CellBox) → length runs ≤ i → xs ≡ p ++ boxes_of t e (spans (take i runs)) → xs ≡ p ++ boxes_of t e (spans runs)
push_all p xs i t e runs h inv = inv ∙ ap (λ l. p ++ boxes_of t e (spans l)) (take_all i runs h)

-- so long are some boxes of a band behind others
pub push_length : (p xs : List CellBox) (i t e : ℕ) (runs : List CellBox) → i ≤ length runs → xs ≡ p ++ boxes_of t e (spans (take i runs)) → length xs ≡ length p + i
push_length p xs i t e runs h inv =
    ap length inv
    ∙ length-append p (boxes_of t e (spans (take i runs)))
    ∙ ap (λ n. length p + n) (length_boxes t e (spans (take i runs)) ∙ length-map (take i runs) span ∙ length-take-le i runs h)
