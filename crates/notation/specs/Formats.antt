-- The console's words for the pixel formats.
use Rattle.std.specs.Prelude.{ℕ, List, Some, None, codes, Option}
use Rattle.pixel.specs.declared.Format.{Format}
use Rattle.pixel.specs.declared.Format.TheVariants.{Native, Little, Big}

abbrev pub format_word : Format → List ℕ
format_word Native = codes "native"
format_word Little = codes "little"
format_word Big = codes "big"

abbrev pub name_of : Option Format → List ℕ
name_of (Some format) = format_word format
name_of None = codes "unknown"
