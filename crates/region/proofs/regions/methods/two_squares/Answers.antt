use Rattle.boxes.proofs.One.{worked}
use Rattle.region.specs.Held.{held}
use Rattle.region.proofs.Results.{two_boxes}
use Rattle.region.proofs.regions.methods.two_squares.Goals as goal

pub returns : goal.returns
returns c =
    record {
      boxes = two_boxes (held c.from-first.result) (held c.from-second.result) (held c.join.result) c.from-first.ensures.exact c.from-second.ensures.exact c.join.ensures;
      worked = worked;
    }
