use Rattle.std.proofs.Common.{length, sym, ap, subst, arith}
use Rattle.boxes.specs.Banded.{Banded}
use Rattle.boxes.proofs.Laws.{laws}
use Rattle.boxes.proofs.Rules.{given}
use Rattle.region.specs.Held.{held}
use Rattle.region.proofs.Results.{at_most}
use Rattle.region.proofs.regions.Region.boxes.Goals as goal

pub returns : goal.returns
returns c =
    let r = c.args.self.now in
    record {
      boxes = c.as_slice.ensures;
      banded = subst Banded (sym c.as_slice.ensures) (given (held r) r.banded);
      few = omega (arith, ap length c.as_slice.ensures, at_most r.boxes);
      laws = laws;
    }
