-- Which line of text gives which command. Words are divided by single spaces.
use Rattle.std.specs.Prelude.{◌≡◌, ℕ, ◌<◌, ◌≤◌, List, ◌++◌, length, vec_items, codes}
use Rattle.notation.specs.Decimal.{decimal, saturated}
use Rattle.notation.specs.Formats.{format_word}
use Rattle.notation.specs.Hex.{Bytes, hex_of}
use Rattle.command.specs.declared.Command.{Command}
use Rattle.command.specs.declared.Command.TheVariants.{Line, Write, Read, Flush, Queue, Carry, Pixel, Describe, Recognize}
use Rattle.command.specs.declared.Kind.{Kind}
use Rattle.command.specs.declared.Kind.TheVariants.{Ring, Batch, Pile}

-- at most so many bytes are read at once
abbrev pub read_limit : ℕ
read_limit = 65536

abbrev pub kind_word : Kind → List ℕ
kind_word Ring = codes "ring"
kind_word Batch = codes "batch"
kind_word Pile = codes "pile"

-- the text is the word, a space and the bytes
abbrev pub SpellsBytes : List ℕ → List ℕ → List ℕ → Type 0
SpellsBytes word bs text = Bytes bs × (text ≡ word ++ (codes " " ++ hex_of bs))

-- the text asks which format sixteen bytes describe
abbrev pub SpellsFormat : List ℕ → List ℕ → Type 0
SpellsFormat bs text = (length bs ≡ 16) × SpellsBytes (codes "format") bs text

-- a line's number that does not fit stands for the largest that does
abbrev pub Spells : Command → List ℕ → Type 0
Spells (Line kind m) text =
    (n : ℕ) × (text ≡ codes "line " ++ (kind_word kind ++ (codes " " ++ decimal n))) × (m ≡ saturated n)
Spells (Write v) text = SpellsBytes (codes "write") (vec_items v) text
Spells (Read n) text = (n ≤ read_limit) × (text ≡ codes "read " ++ decimal n)
Spells Flush text = text ≡ codes "flush"
Spells Queue text = text ≡ codes "queue"
Spells (Carry v) text = SpellsBytes (codes "carry") (vec_items v) text
Spells (Pixel format v) text =
    (v < 256) × (text ≡ codes "pixel " ++ (format_word format ++ (codes " " ++ decimal v)))
Spells (Describe format) text = text ≡ codes "describe " ++ format_word format
Spells (Recognize v) text = SpellsFormat (vec_items v) text
