-- The cells that an operation keeps.
use Rattle.std.specs.Prelude.{ℕ, Bool, not, ◌&&◌, ◌||◌, List}
use Rattle.boxes.specs.declared.cell_box.CellBox.{CellBox}
use Rattle.boxes.specs.Cells.{has}
use Rattle.region.specs.declared.operation.Operation.{Operation}
use Rattle.region.specs.declared.operation.Operation.TheVariants.{Join, Cut, Away}

abbrev pub keeps : Operation → Bool → Bool → Bool
keeps Join first second = first || second
keeps Cut first second = first && second
keeps Away first second = first && not second

abbrev pub kept : Operation → List CellBox → List CellBox → ℕ → ℕ → Bool
kept operation ps qs x y = keeps operation (has ps x y) (has qs x y)
