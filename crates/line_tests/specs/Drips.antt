-- A line that shows and takes one byte at a time, and keeps the two standing rules.
use Rattle.std.specs.Prelude.{min, Bool, true, false, cond}
use Rattle.std.proofs.Common.{arith}
use Rattle.line.specs.Rules.{State, Within, Opens}

-- such a line over a line in the state `below`; it shows nothing unless it is awake
abbrev pub drip_of : Bool → State → State
drip_of awake below = record { queue = below.queue; ready = cond awake (min 1 below.ready) 0; room = min 1 below.room }

pub drip_within : (awake : Bool) (below : State) → Within below.queue below.ready → Within (drip_of awake below).queue (drip_of awake below).ready
drip_within true below l = omega arith
drip_within false below l = omega arith

pub drip_opens : (awake : Bool) (below : State) → Opens below.queue below.room → Opens (drip_of awake below).queue (drip_of awake below).room
drip_opens awake below l = omega arith
