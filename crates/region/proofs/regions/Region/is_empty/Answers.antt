use Rattle.std.proofs.Common.{Decides, sym, subst}
use Rattle.boxes.specs.Cells.{SameCells, has, none}
use Rattle.region.specs.Held.{held}
use Rattle.region.proofs.Questions.{empty_tells}
use Rattle.region.proofs.regions.Region.is_empty.Goals as goal

pub returns : goal.returns
returns c =
    let bs = held c.args.self.now in
    subst (λ r. Decides r (SameCells (has bs) none)) (sym c.is_empty.ensures)
    (empty_tells bs c.boxes.result.now c.boxes.ensures.boxes c.boxes.ensures.banded)
