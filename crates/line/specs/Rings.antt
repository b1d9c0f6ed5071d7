-- A ring as a line.
use Rattle.std.specs.Prelude.{ℕ, ◌-◌, List, length, vec_items, vec_len}
use Rattle.std.proofs.Common.{arith}
use Rattle.line.specs.Queues.{around}
use Rattle.line.specs.Rules.{State, Within, Opens}
use Rattle.line.specs.declared.ring.Ring.{Ring}

-- A ring of `size` bytes: all that is queued can be read, and the rest of its memory is room.
abbrev pub ring_of : ℕ → List ℕ → State
ring_of size queue = record { queue = queue; ready = length queue; room = size - length queue }

abbrev pub size_of : Ring → ℕ
size_of ring = vec_len ring.memory

abbrev pub ring_state : Ring → State
ring_state ring = ring_of (size_of ring) (around (vec_items ring.memory) ring.head ring.used)

pub ring_within : (ring : Ring) → Within (ring_state ring).queue (ring_state ring).ready
ring_within ring = omega arith

pub ring_opens : (ring : Ring) → Opens (ring_state ring).queue (ring_state ring).room
ring_opens ring =
    let inside = ring.inside in
    omega arith
