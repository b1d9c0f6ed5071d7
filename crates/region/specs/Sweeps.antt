-- What a sweep has drawn.
use Rattle.std.specs.Prelude.{◌≡◌, ℕ, Bool, List}
use Rattle.boxes.specs.Banded.{Span}
use Rattle.boxes.specs.Bands.{Band, flat}
use Rattle.boxes.specs.Strips.{Painted, outline, stretched}
use Rattle.region.specs.Rows.{Merged}
use Rattle.region.specs.Works.{Adds, Holds}
use Rattle.region.specs.declared.operation.Operation.{Operation}
use Rattle.region.specs.declared.work.Work.{Work}

-- w' is w with the rows t to e of an operation on two rows added
pub record Strip (operation : Operation) (t e : ℕ) (ps qs : List Span) (w w' : Work) : Type 0 where
  pub row : List Span
  pub merged : Merged operation ps qs row
  pub adds : Adds t e row w w'
  pub hull : w'.hull ≡ stretched t e row w.hull

-- what is drawn has the cells c of each row above y
pub record Painting (c : ℕ → ℕ → Bool) (y : ℕ) (w : Work) : Type 0 where
  pub bands : List Band
  pub holds : Holds w bands
  pub painted : Painted c y bands
  pub hull : w.hull ≡ outline (flat bands)
