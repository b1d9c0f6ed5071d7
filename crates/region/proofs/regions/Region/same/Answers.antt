use Rattle.std.proofs.Common.{rules}
use Rattle.std.proofs.lemmas.Slice.Eq.{slice_eq-Decides}
use Rattle.boxes.proofs.Laws.{one_form}
use Rattle.region.specs.Held.{held}
use Rattle.region.proofs.Questions.{same_tells}
use Rattle.region.proofs.regions.Region.same.Goals as goal

pub returns : goal.returns
returns c =
    let ps = c.boxes.result.now in
    let qs = c.boxes-2.result.now in
    record {
      cells = same_tells (held c.args.self.now) (held c.args.other.now) ps qs c.eq.result c.boxes.ensures.boxes c.boxes-2.ensures.boxes
          c.boxes.ensures.banded c.boxes-2.ensures.banded (slice_eq-Decides (λ a b. search rules) ps qs c.eq.result c.eq.ensures);
      form = one_form;
    }
