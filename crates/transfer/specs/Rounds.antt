-- A byte string carried over a line in rounds.
use Rattle.std.specs.Prelude.{◌≡◌, ℕ, zero, suc, ◌+◌, ◌-◌, ◌<◌, ◌≤◌, cond, List, [], ◌∷◌, ◌++◌, length, take, drop, Some, None, Option, nat_lt}
use Rattle.line.specs.Rules.{State}
use Rattle.fault.specs.declared.Refusal.{Refusal}
use Rattle.fault.specs.declared.Refusal.TheVariants.{Memory, Waiting}
use Rattle.transfer.specs.declared.trip.Trip.{Trip}
use Rattle.transfer.specs.Runs.{write, read, flush, took, gave, done, Ran}

-- One round, of which `new` are the bytes that arrive: what is not yet taken is written, the line
-- is flushed, and what has not yet arrived is read.
abbrev pub Round : List ℕ → (sent got taken : ℕ) (new : List ℕ) → State → State → Type 0
Round bytes sent got taken new before after =
    Ran (write (drop sent bytes) ∷ flush ∷ read (length bytes - got) ∷ []) (took taken ∷ done ∷ gave new ∷ []) before after

-- So many rounds until all of the bytes have arrived, from where the line has taken `sent` of them
-- and given `got`.
abbrev pub Rounds : ℕ → List ℕ → (sent got : ℕ) → State → State → Type 0
Rounds zero bytes sent got before after = (length bytes ≤ got) × (before ≡ after)
Rounds (suc n) bytes sent got before after =
    (got < length bytes)
    × (taken : ℕ)
    × (new : List ℕ)
    × (between : State)
    × Round bytes sent got taken new before between
    × Rounds n bytes (sent + taken) (got + length new) between after

-- Why nothing is carried: the memory for what arrives is too small, or bytes wait on the line.
abbrev pub carry_refusal : (bytes into queue : List ℕ) → Option Refusal
carry_refusal bytes into queue =
    cond (nat_lt (length into) (length bytes)) (Some Memory) (cond (nat_lt 0 (length queue)) (Some Waiting) None)

-- After `rounds` rounds all of the bytes have arrived, in order and nothing else; there were at
-- most as many rounds as bytes, and the line is empty again.
pub record Carried (rounds : ℕ) (bytes into into' : List ℕ) (before after : State) : Type 0 where
  pub arrived : into' ≡ bytes ++ drop (length bytes) into
  pub soon : rounds ≤ length bytes
  pub emptied : after.queue ≡ []
  pub history : Rounds rounds bytes 0 0 before after

-- A round took the line further, and put the bytes that arrived where they belong.
pub record Advanced (bytes : List ℕ) (trip trip' : Trip) (into into' : List ℕ) (before after : State) : Type 0 where
  pub taken : ℕ
  pub new : List ℕ
  pub round : Round bytes trip.sent trip.got taken new before after
  pub sent_is : trip'.sent ≡ trip.sent + taken
  pub got_is : trip'.got ≡ trip.got + length new
  pub into_is : into' ≡ take trip.got into ++ (new ++ drop trip'.got into)
