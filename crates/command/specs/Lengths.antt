-- The words that stand before a space are no longer than the longest.
use Rattle.std.specs.Prelude.{◌≡◌, ℕ, zero, suc, ◌+◌, ◌^◌, ◌<◌, ◌≤◌, List, length, codes}
use lib.ListN.{length-map}
use Rattle.std.specs.Int.Digits.{digits_of}
use Rattle.std.proofs.Common.{T, leb, lit≤, sym, subst}
use Rattle.std.proofs.Math.Nat.{lt_of_lt_of_le}
use Rattle.std.proofs.lemmas.Int.Digits.{length-digits_of-le}
use Rattle.notation.specs.Decimal.{SpellsBelow, decimal}
use Rattle.notation.specs.Formats.{format_word}
use Rattle.command.specs.Changes.{SpellsShort, name_word, operation_word}
use Rattle.command.specs.Grammar.{kind_word}
use Rattle.command.specs.Spaces.{longest}
use Rattle.pixel.specs.declared.Format.{Format}
use Rattle.pixel.specs.declared.Format.TheVariants.{Native, Little, Big}
use Rattle.command.specs.declared.Kind.{Kind}
use Rattle.command.specs.declared.Kind.TheVariants.{Ring, Batch, Pile}
use Rattle.command.specs.declared.regions.Name.{Name}
use Rattle.command.specs.declared.regions.Name.TheVariants.{A, B}
use Rattle.region.specs.declared.operation.Operation.{Operation}
use Rattle.region.specs.declared.operation.Operation.TheVariants.{Join, Cut, Away}

-- by a test that computes
pub length_within : (word : List ℕ) → T (leb (length word) longest) → (text : List ℕ) → text ≡ word → length text ≤ longest
length_within word fits text e = subst (λ t. length t ≤ longest) (sym e) (lit≤ fits)

pub kind_within : (kind : Kind) (text : List ℕ) → text ≡ kind_word kind → length text ≤ longest
kind_within Ring = length_within (codes "ring") tt
kind_within Batch = length_within (codes "batch") tt
kind_within Pile = length_within (codes "pile") tt

pub format_within : (format : Format) (text : List ℕ) → text ≡ format_word format → length text ≤ longest
format_within Native = length_within (codes "native") tt
format_within Little = length_within (codes "little") tt
format_within Big = length_within (codes "big") tt

pub name_within : (name : Name) (text : List ℕ) → text ≡ name_word name → length text ≤ longest
name_within A = length_within (codes "a") tt
name_within B = length_within (codes "b") tt

pub operation_within : (operation : Operation) (text : List ℕ) → text ≡ operation_word operation → length text ≤ longest
operation_within Join = length_within (codes "join") tt
operation_within Cut = length_within (codes "cut") tt
operation_within Away = length_within (codes "away") tt

pub decimal_within : (n : ℕ) → n < 10 ^ longest → length (decimal n) ≤ longest
decimal_within zero low = lit≤ tt
decimal_within (suc n) low =
    subst (λ k. k ≤ longest) (sym (length-map (digits_of 10 (suc n)) (λ d. 48 + d))) (length-digits_of-le 10 longest (suc n) (lit≤ tt) low)

pub below_within : (limit : ℕ) → limit ≤ 10 ^ longest → (n : ℕ) (text : List ℕ) → SpellsBelow limit n text → length text ≤ longest
below_within limit fits n text s = subst (λ t. length t ≤ longest) (sym s.1) (decimal_within n (lt_of_lt_of_le s.0 fits))

pub byte_within : (n : ℕ) (text : List ℕ) → SpellsBelow 256 n text → length text ≤ longest
byte_within = below_within 256 (lit≤ tt)

pub short_within : (n : ℕ) (text : List ℕ) → SpellsShort n text → length text ≤ longest
short_within = below_within 65536 (lit≤ tt)
