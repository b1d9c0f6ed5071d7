use Rattle.std.proofs.Common.{arith}
use Rattle.transfer.proofs.Travels.{onward, arrived}
use Rattle.transfer.proofs.trip.travel.Goals as goal

pub loop-trip-preserved : goal.loop-trip-preserved
loop-trip-preserved g c = (onward _ _ _ _ _ _ _ _ _ _ (omega arith) (omega arith) (g.met.L.Line.opens c.loop-trip.line) c.loop-trip.invariant c.go_on.ensures).0

pub returns : goal.returns
returns g c = arrived _ _ _ _ _ _ _ (omega arith) c.loop-trip.invariant
