-- No space stands in the words that the console writes.
use Rattle.std.specs.Prelude.{◌≡◌, ℕ, ◌==◌, Bool, true, not, List, codes}
use Rattle.std.specs.List.{list_all}
use Rattle.std.proofs.Common.{refl, sym, ap, ◌∙◌, subst}
use Rattle.std.proofs.lemmas.Bool.{true≢false}
use Rattle.std.proofs.lemmas.List.Folds.{list_all_at}
use Rattle.notation.specs.Decimal.{decimal}
use Rattle.notation.specs.Formats.{format_word}
use Rattle.notation.proofs.Numbers.{no_space}
use Rattle.command.specs.Changes.{name_word, operation_word}
use Rattle.command.specs.Grammar.{kind_word}
use Rattle.command.specs.Spaces.{Unspaced}
use Rattle.pixel.specs.declared.Format.{Format}
use Rattle.pixel.specs.declared.Format.TheVariants.{Native, Little, Big}
use Rattle.command.specs.declared.Kind.{Kind}
use Rattle.command.specs.declared.Kind.TheVariants.{Ring, Batch, Pile}
use Rattle.command.specs.declared.regions.Name.{Name}
use Rattle.command.specs.declared.regions.Name.TheVariants.{A, B}
use Rattle.region.specs.declared.operation.Operation.{Operation}
use Rattle.region.specs.declared.operation.Operation.TheVariants.{Join, Cut, Away}

abbrev pub not_space : ℕ → Bool
not_space code = not (code == 32)

-- by a test that computes
pub no_space_in : (word : List ℕ) → list_all not_space word ≡ true → (text : List ℕ) → text ≡ word → Unspaced text
no_space_in word all text e = subst Unspaced (sym e) (λ k h space. true≢false (sym all ∙ list_all_at not_space word k 0 h (ap not_space space)))

pub kind_unspaced : (kind : Kind) (text : List ℕ) → text ≡ kind_word kind → Unspaced text
kind_unspaced Ring = no_space_in (codes "ring") refl
kind_unspaced Batch = no_space_in (codes "batch") refl
kind_unspaced Pile = no_space_in (codes "pile") refl

pub format_unspaced : (format : Format) (text : List ℕ) → text ≡ format_word format → Unspaced text
format_unspaced Native = no_space_in (codes "native") refl
format_unspaced Little = no_space_in (codes "little") refl
format_unspaced Big = no_space_in (codes "big") refl

pub name_unspaced : (name : Name) (text : List ℕ) → text ≡ name_word name → Unspaced text
name_unspaced A = no_space_in (codes "a") refl
name_unspaced B = no_space_in (codes "b") refl

pub operation_unspaced : (operation : Operation) (text : List ℕ) → text ≡ operation_word operation → Unspaced text
operation_unspaced Join = no_space_in (codes "join") refl
operation_unspaced Cut = no_space_in (codes "cut") refl
operation_unspaced Away = no_space_in (codes "away") refl

pub number_unspaced : (n : ℕ) (text : List ℕ) → text ≡ decimal n → Unspaced text
number_unspaced n text e = subst Unspaced (sym e) (no_space n)
