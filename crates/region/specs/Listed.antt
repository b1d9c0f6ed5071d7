-- A few boxes.
use Rattle.std.specs.Prelude.{◌≡◌, ℕ, List, [], ◌∷◌, take}
use Rattle.boxes.specs.declared.cell_box.CellBox.{CellBox}
use Rattle.region.specs.declared.few.Few.{Few}

abbrev pub listed : {n : ℕ} → Few n → List CellBox
listed few = take few.count few.boxes

-- a box whose right edge is moved
abbrev pub widened : ℕ → CellBox → CellBox
widened r b = record { left = b.left; top = b.top; right = r; bottom = b.bottom }

-- boxes, the last of them widened
abbrev pub widened_last : ℕ → List CellBox → List CellBox
widened_last r [] = []
widened_last r (b ∷ []) = widened r b ∷ []
widened_last r (b ∷ c ∷ bs) = b ∷ widened_last r (c ∷ bs)

-- each result that R allows for a box is the one that f gives
abbrev pub Gives : (CellBox → CellBox → Type 0) → (CellBox → CellBox) → Type 0
Gives R f = (b r : CellBox) → R b r → r ≡ f b
