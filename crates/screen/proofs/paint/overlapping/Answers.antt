use Rattle.screen.proofs.Overlaps.{overlap}
use Rattle.screen.proofs.paint.overlapping.Goals as goal

pub returns : goal.returns
returns c = let moved = overlap c.copy.result _ _ _ _ _ _ c.copy.ensures.refused c.copy.ensures.cases in cc
