-- What a command says, apart from the memory that its bytes lie in, and that a text says one thing at most.
use Rattle.std.specs.Prelude.{◌≡◌, ℕ, List, vec_items}
use Rattle.command.specs.Grammar.{Spells}
use Rattle.pixel.specs.declared.Format.{Format}
use Rattle.command.specs.declared.Command.{Command}
use Rattle.command.specs.declared.Command.TheVariants.{Line, Write, Read, Flush, Queue, Carry, Pixel, Describe, Recognize}
use Rattle.command.specs.declared.Kind.{Kind}

pub data Meaning : Type 0 where
  line : Kind → ℕ → Meaning
  write : List ℕ → Meaning
  read : ℕ → Meaning
  flush : Meaning
  queue : Meaning
  carry : List ℕ → Meaning
  pixel : Format → ℕ → Meaning
  describe : Format → Meaning
  recognize : List ℕ → Meaning

abbrev pub meaning : Command → Meaning
meaning (Line kind n) = line kind n
meaning (Write v) = write (vec_items v)
meaning (Read n) = read n
meaning Flush = flush
meaning Queue = queue
meaning (Carry v) = carry (vec_items v)
meaning (Pixel format v) = pixel format v
meaning (Describe format) = describe format
meaning (Recognize v) = recognize (vec_items v)

abbrev pub Unambiguous : Type 0
Unambiguous =
    (c d : Command) (text : List ℕ) → Spells c text → Spells d text → meaning c ≡ meaning d
