-- What a line means, and the rules that every line keeps.
use Rattle.std.specs.Prelude.{◌≡◌, ℕ, ◌+◌, ◌-◌, ◌^◌, ◌≤◌, min, List, ◌++◌, length, take, drop}

-- A line at one moment: the bytes taken and not yet read, oldest first; how many of them can be
-- read now; how many bytes a write would take now.
pub record State : Type 0 where
  pub queue : List ℕ
  pub ready : ℕ
  pub room : ℕ

-- What a question answers: the number asked for, or the greatest `usize` where that is less.
abbrev pub told : ℕ → ℕ
told n = min n (2 ^ 64 - 1)

-- No more can be read than is queued.
abbrev pub Within : List ℕ → ℕ → Type 0
Within queue ready = ready ≤ length queue

-- Where nothing is queued, a write takes at least one byte.
abbrev pub Opens : List ℕ → ℕ → Type 0
Opens queue room = 1 ≤ length queue + room

-- A write takes the first of the bytes, as many as there is room for, and puts them at the
-- queue's end. What can be read does not fall.
pub record Wrote (bytes : List ℕ) (taken : ℕ) (before after : State) : Type 0 where
  pub count : taken ≡ min (length bytes) before.room
  pub queued : after.queue ≡ before.queue ++ take taken bytes
  pub rises : before.ready ≤ after.ready

-- A read into memory moves the queue's first bytes there, as many as can be read and as there is
-- memory for. The memory behind them stays as it was.
pub record Read (into : List ℕ) (given : ℕ) (into' : List ℕ) (before after : State) : Type 0 where
  pub count : given ≡ min (length into) before.ready
  pub moved : into' ≡ take given before.queue ++ drop given into
  pub queued : after.queue ≡ drop given before.queue

-- A flush keeps the queue. What can be read does not fall, and something can be read then unless
-- nothing is queued.
pub record Flushed (before after : State) : Type 0 where
  pub queued : after.queue ≡ before.queue
  pub rises : before.ready ≤ after.ready
  pub wakes : 1 ≤ length before.queue → 1 ≤ after.ready
