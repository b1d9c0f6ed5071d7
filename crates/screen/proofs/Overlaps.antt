-- A row of four cells, whose first three are copied one to the right.
use Rattle.std.proofs.Common.{◌≡◌, ℕ, List, [], ◌∷◌, get_or, None, Ok, Err, Result, MatchResult, arith, lit<}
use Rattle.std.proofs.lemmas.List.{ext_get_or}
use Rattle.std.proofs.lemmas.Bool.{cases_eq}
use Rattle.std.specs.Result.{result_err}
use Rattle.screen.specs.declared.corner.Corner.{Corner}
use Rattle.screen.specs.declared.rect.Rect.{Rect}
use Rattle.screen.specs.declared.sides.Sides.{Sides}
use Rattle.screen.specs.Paints.{moved_to, source_cell, Painted}

-- a row of four cells, the first three of them, and where these are copied to
abbrev pub row : Sides
row = record { width = 4; height = 1 }

abbrev pub three : Rect
three = record { x = 0; y = 0; w = 3; h = 1 }

abbrev pub right : Corner
right = record { x = 1; y = 0 }

-- each of the three stands one to the right, as it was before
moved :
    (a b c d : ℕ) (after : List ℕ) → Painted row (moved_to three right) (source_cell row three right (a ∷ b ∷ c ∷ d ∷ [])) (a ∷ b ∷ c ∷ d ∷ []) after
    → after ≡ a ∷ a ∷ b ∷ c ∷ []
unfolding Painted
moved a b c d after painted =
    let first : get_or after 0 0 ≡ a = painted.0.cells 0 0 0 (lit< tt) (lit< tt) in
    let second : get_or after 1 0 ≡ a = painted.0.cells 1 0 0 (lit< tt) (lit< tt) in
    let third : get_or after 2 0 ≡ b = painted.0.cells 2 0 0 (lit< tt) (lit< tt) in
    let fourth : get_or after 3 0 ≡ c = painted.0.cells 3 0 0 (lit< tt) (lit< tt) in
    ext_get_or 0 after (a ∷ a ∷ b ∷ c ∷ []) painted.0.size
    (λ i t.
    let is_0 = cases_eq i 0 in
    let is_1 = cases_eq i 1 in
    let is_2 = cases_eq i 2 in
    let is_3 = cases_eq i 3 in
    grind arith)

-- a row of four has room for its screen, and its first three cells are inside, so the copy is made
pub overlap :
    {A E : Type 0} (r : Result A E) (Q : E → Type 0) (a b c d : ℕ) (after : List ℕ) → result_err r ≡ None
    → MatchResult r (λ _. Painted row (moved_to three right) (source_cell row three right (a ∷ b ∷ c ∷ d ∷ [])) (a ∷ b ∷ c ∷ d ∷ []) after) Q
    → after ≡ a ∷ a ∷ b ∷ c ∷ []
overlap (Ok x) Q a b c d after e painted = moved a b c d after painted
overlap (Err y) Q a b c d after e kept = cc
