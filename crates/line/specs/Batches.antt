-- A batch as a line.
use Rattle.std.specs.Prelude.{◌≡◌, ℕ, ◌-◌, ◌≤◌, List, ◌++◌, length, drop}
use Rattle.std.proofs.Common.{arith, length-append}
use Rattle.line.specs.Rules.{State, Within, Opens, Wrote, Flushed}
use Rattle.line.specs.declared.batch.Batch.{Batch}

-- A batch over a line in the state `below`: the held bytes are queued behind those below, what can
-- be read is what can be read below, and the rest of 32 bytes is room.
abbrev pub batch_of : State → List ℕ → State
batch_of below held = record { queue = below.queue ++ held; ready = below.ready; room = 32 - length held }

-- the bytes that a batch holds back
abbrev pub held_by : {L : Type 0} → Batch L → List ℕ
held_by batch = batch.held.items

abbrev pub batch_state : {L : Type 0} → (L → State) → Batch L → State
batch_state lower batch = batch_of (lower batch.below) (held_by batch)

pub held_few : {L : Type 0} (batch : Batch L) → length (held_by batch) ≤ 32
held_few batch = batch.few

-- The held bytes were offered below in one write; what was not taken stays held, in order.
pub record Offered (held : List ℕ) (before : State) (held' : List ℕ) (after : State) : Type 0 where
  pub taken : ℕ
  pub wrote : Wrote held taken before after
  pub kept : held' ≡ drop taken held

-- The held bytes were offered below, and then the line below was flushed.
pub record Pushed (held : List ℕ) (before : State) (held' : List ℕ) (after : State) : Type 0 where
  pub between : State
  pub offered : Offered held before held' between
  pub flushed : Flushed between after

pub batch_within : (below : State) (held : List ℕ) → Within below.queue below.ready → Within (batch_of below held).queue (batch_of below held).ready
batch_within below held l = omega (arith, length-append below.queue held)

pub batch_opens : (below : State) (held : List ℕ) → Opens (batch_of below held).queue (batch_of below held).room
batch_opens below held = omega (arith, length-append below.queue held)
