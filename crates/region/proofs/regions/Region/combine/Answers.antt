use Rattle.boxes.proofs.One.{region_banded}
use Rattle.region.proofs.Results.{combined}
use Rattle.region.proofs.regions.Region.combine.Goals as goal

pub invariant_of-result : goal.invariant_of-result
invariant_of-result c =
    let region = combined c.args.operation _ _ _ _ _ _ c.boxes.ensures.boxes c.boxes-2.ensures.boxes c.boxes.ensures.banded c.boxes-2.ensures.banded
    c.sweep-work.ensures c.boxes-3.ensures in
    record { banded = ∣ region_banded _ _ region ∣₁ }

pub returns : goal.returns
returns c =
    combined c.args.operation _ _ _ _ _ _ c.boxes.ensures.boxes c.boxes-2.ensures.boxes c.boxes.ensures.banded c.boxes-2.ensures.banded
    c.sweep-work.ensures c.boxes-3.ensures
