-- What is replied to a request, and how a reply is written.
use Rattle.std.specs.Prelude.{◌≡◌, ℕ, ◌≤◌, List, [], ◌++◌, length, vec_items, vec_len, codes}
use Rattle.fault.specs.Refusals.{number_of}
use Rattle.fault.specs.declared.Refusal.TheVariants.{Waiting}
use Rattle.line.specs.Rules.{State, told}
use Rattle.notation.specs.Decimal.{decimal}
use Rattle.notation.specs.Hex.{hex_of}
use Rattle.transfer.specs.Rounds.{Rounds}
use Rattle.transfer.specs.Runs.{Answered, act, reply}
use Rattle.transfer.specs.declared.calls.Answer.{Answer}
use Rattle.transfer.specs.declared.calls.Answer.TheVariants.{Took, Gave, Done}
use Rattle.session.specs.declared.Request.{Request}
use Rattle.session.specs.declared.Request.TheVariants.{Make, Queue, Carry}
use Rattle.session.specs.declared.Reply.{Reply}
use Rattle.session.specs.declared.Reply.TheVariants.{Made, Queued, Carried, Refused}

-- All of the bytes have arrived, over a line that was empty and is so again, after at most as many
-- rounds as there are bytes.
pub record Arrived (sent : List ℕ) (rounds : ℕ) (got : List ℕ) (before after : State) : Type 0 where
  pub idle : before.queue ≡ []
  pub same : got ≡ sent
  pub soon : rounds ≤ length sent
  pub emptied : after.queue ≡ []
  pub history : Rounds rounds sent 0 0 before after

-- The three numbers that tell a line's state, which stays.
pub record Told (queued readable free : ℕ) (before after : State) : Type 0 where
  pub all : queued ≡ told (length before.queue)
  pub now : readable ≡ told before.ready
  pub left : free ≡ told before.room
  pub same : after ≡ before

-- A line may reply so to a request, and be left so.
abbrev pub Responded : Request → Reply → State → State → Type 0
Responded (Make call) (Made answer) before after = Answered (act call) (reply answer) before after
Responded Queue (Queued queued readable free) before after = Told queued readable free before after
Responded (Carry bytes) (Carried rounds got) before after = Arrived (vec_items bytes) rounds (vec_items got) before after
Responded (Carry bytes) (Refused refusal) before after = (refusal ≡ Waiting) × (1 ≤ length before.queue) × (after ≡ before)
Responded request reply before after = ⊥

-- an answer in the console's words
abbrev pub words_of : Answer → List ℕ
words_of (Took count) = codes "took " ++ decimal count
words_of (Gave bytes) = codes "got " ++ hex_of (vec_items bytes)
words_of Done = codes "flushed"

-- a reply in the console's words
abbrev pub spoken : Reply → List ℕ
spoken (Made answer) = words_of answer
spoken (Queued queued readable free) =
    codes "queued " ++ (decimal queued ++ (codes " readable " ++ (decimal readable ++ (codes " free " ++ decimal free))))
spoken (Carried rounds bytes) =
    codes "carried " ++ (decimal (vec_len bytes) ++ (codes " in " ++ (decimal rounds ++ (codes " rounds " ++ hex_of (vec_items bytes)))))
spoken (Refused refusal) = codes "refused " ++ decimal (number_of refusal)
