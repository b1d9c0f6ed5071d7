use Rattle.std.proofs.Common.{sym, subst}
use Rattle.boxes.specs.Banded.{Banded}
use Rattle.boxes.proofs.Rules.{box_banded}
use Rattle.region.proofs.regions.methods.single.Goals as goal

pub invariant_of-result : goal.invariant_of-result
invariant_of-result c = record { banded = ∣ subst Banded (sym c.one.ensures) (box_banded c.args.b c.requires) ∣₁ }
