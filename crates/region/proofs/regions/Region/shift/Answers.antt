use Rattle.region.proofs.Shifted.{shift_moves}
use Rattle.region.proofs.regions.Region.shift.Goals as goal

pub invariant_of-part : goal.invariant_of-part
invariant_of-part c =
    let m = shift_moves c.args.from c.args.to c.args.self.now _ _ _ _ c.staying.ensures.value c.of_box.ensures c.cut-part.ensures c.shift.ensures in
    record { banded = ∣ m.banded ∣₁ }

pub returns : goal.returns
returns c =
    let m = shift_moves c.args.from c.args.to c.args.self.now _ _ _ _ c.staying.ensures.value c.of_box.ensures c.cut-part.ensures c.shift.ensures in
    record { region = m.region; exact = m.exact }
