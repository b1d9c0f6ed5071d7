use Rattle.boxes.proofs.Rules.{given}
use Rattle.region.specs.Held.{held}
use Rattle.region.proofs.Questions.{meets_none, meets_some}
use Rattle.region.proofs.regions.Region.meets.Goals as goal

pub returns-in-Some : goal.returns-in-Some
returns-in-Some c =
    meets_some (held c.args.self.now) c.boxes.result.now c.args.rect c.in-Some.b c.any_meets.result c.boxes.ensures.boxes c.boxes.ensures.banded
    c.in-Some.ensures.1 c.any_meets.ensures

pub returns-in-None : goal.returns-in-None
returns-in-None c =
    let r = c.args.self.now in
    meets_none (held r) c.args.rect (given (held r) r.banded) c.in-None.ensures
