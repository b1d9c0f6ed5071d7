use Rattle.std.proofs.Common.{◌-◌, length}
use Rattle.transfer.proofs.Travels.{Travelling}
use Rattle.transfer.proofs.trip.travel.Given as goal

abbrev pub invariant-loop-trip : goal.invariant-loop-trip
invariant-loop-trip g l =
    let state = g.L.Line.state in
    Travelling l.bytes l.initial.into (state l.initial.line) l.trip l.rounds l.into (state l.line)

abbrev pub decreases-loop-trip : goal.decreases-loop-trip
decreases-loop-trip g l = length l.bytes - l.trip.got
