-- Lists of calls to a line, what they answer, and the bytes that pass.
use Rattle.std.specs.Prelude.{◌≡◌, ℕ, ◌-◌, ◌≤◌, min, List, [], ◌∷◌, ◌++◌, length, take, vec_items, Result, MatchResult}
use Rattle.line.specs.Rules.{State, Wrote, Flushed}
use Rattle.transfer.specs.declared.calls.Call.{Call}
use Rattle.transfer.specs.declared.calls.Call.TheVariants.{Write, Read, Flush}
use Rattle.transfer.specs.declared.calls.Answer.{Answer}
use Rattle.transfer.specs.declared.calls.Answer.TheVariants.{Took, Gave, Done}

-- A read of at most `most` bytes, as its caller sees it: the queue's first bytes, as many as can
-- be read.
pub record Received (most : ℕ) (bytes : List ℕ) (before after : State) : Type 0 where
  pub count : length bytes ≡ min most before.ready
  pub split : before.queue ≡ bytes ++ after.queue

-- a call, and an answer, with their bytes as lists
pub data Act : Type 0 where
  write : List ℕ → Act
  read : ℕ → Act
  flush : Act

pub data Reply : Type 0 where
  took : ℕ → Reply
  gave : List ℕ → Reply
  done : Reply

abbrev pub act : Call → Act
act (Write bytes) = write (vec_items bytes)
act (Read most) = read most
act Flush = flush

abbrev pub reply : Answer → Reply
reply (Took count) = took count
reply (Gave bytes) = gave (vec_items bytes)
reply Done = done

-- A call may answer so, and leave a line so.
abbrev pub Answered : Act → Reply → State → State → Type 0
Answered (write bytes) (took count) before after = Wrote bytes count before after
Answered (read most) (gave bytes) before after = Received most bytes before after
Answered flush done before after = Flushed before after
Answered a r before after = ⊥

-- Where there is a result, the line was left as `Left` has it of that result; else it is as it was.
abbrev pub OrUnchanged : {A E : Type 0} → Result A E → (A → State → State → Type 0) → State → State → Type 0
OrUnchanged result Left before after = MatchResult result (λ a. Left a before after) (λ _. after ≡ before)

-- Calls made one after another, with an answer to each.
abbrev pub Ran : List Act → List Reply → State → State → Type 0
Ran [] [] before after = before ≡ after
Ran (a ∷ acts) (r ∷ rs) before after = (between : State) × Answered a r before between × Ran acts rs between after
Ran acts rs before after = ⊥

-- Only the first of the calls were made, and at least the last was not.
abbrev pub Stopped : List Act → State → State → Type 0
Stopped acts before after = (made : ℕ) × (replies : List Reply) × (made ≤ length acts - 1) × Ran (take made acts) replies before after

-- the bytes that a line took in a run, and those that it gave
abbrev pub taken_in : Act → Reply → List ℕ
taken_in (write bytes) (took count) = take count bytes
taken_in a r = []

abbrev pub taken : List Act → List Reply → List ℕ
taken (a ∷ acts) (r ∷ rs) = taken_in a r ++ taken acts rs
taken acts rs = []

abbrev pub given_in : Reply → List ℕ
given_in (gave bytes) = bytes
given_in r = []

abbrev pub given : List Reply → List ℕ
given [] = []
given (r ∷ rs) = given_in r ++ given rs

-- Nothing is lost, added or reordered: what has been read, followed by what is queued, is what
-- was queued at first, followed by what has been taken.
abbrev pub Conserved : List Act → List Reply → State → State → Type 0
Conserved acts rs before after = given rs ++ after.queue ≡ before.queue ++ taken acts rs
