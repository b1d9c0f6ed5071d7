use Rattle.std.proofs.Common.{sym, subst}
use Rattle.boxes.specs.Banded.{Banded}
use Rattle.boxes.proofs.Laws.{none_banded}
use Rattle.region.proofs.regions.Region.empty.Goals as goal

pub invariant_of-result : goal.invariant_of-result
invariant_of-result c = record { banded = ∣ subst Banded (sym c.new.ensures) none_banded ∣₁ }
