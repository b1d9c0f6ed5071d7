-- A text that asks for a change of a region tells which, and spells no command.
use Rattle.std.proofs.Common.{◌≡◌, ℕ, Bool, true, false, cond, eqb, List, ◌∷◌, length, get_or, drop, codes, sym, ap, ◌∙◌, arith}
use Rattle.std.proofs.lemmas.List.{length-append}
use Rattle.std.proofs.lemmas.Bool.{true≢false}
use Rattle.std.proofs.lemmas.Bool.Decides.{nat_tests}
use Rattle.notation.specs.Decimal.{decimal}
use Rattle.notation.proofs.Numbers.{no_space, undecimal, undecimal-decimal}
use Rattle.screen.specs.declared.rect.Rect.{Rect}
use Rattle.command.specs.Alone.{RegionAlone}
use Rattle.command.specs.Changes.{SpellsRegion, SpellsChange, rect_text}
use Rattle.command.specs.Grammar.{Spells}
use Rattle.command.specs.Spaces.{spaced}
use Rattle.command.proofs.Splits.{behind_is, behind_of, word_is, word_of}
use Rattle.command.proofs.Unambiguous.{begins}
use Rattle.command.specs.declared.Command.{Command}
use Rattle.command.specs.declared.Command.TheVariants.{Line, Write, Read, Flush, Queue, Carry, Pixel, Describe, Recognize}
use Rattle.command.specs.declared.regions.Change.{Change}
use Rattle.command.specs.declared.regions.Change.TheVariants.{Empty, ByRect, ByRegion}
use Rattle.command.specs.declared.regions.Name.{Name}
use Rattle.command.specs.declared.regions.Name.TheVariants.{A, B}
use Rattle.region.specs.declared.operation.Operation.{Operation}
use Rattle.region.specs.declared.operation.Operation.TheVariants.{Join, Cut, Away}

abbrev rect_says : List ℕ → Rect
rect_says text =
    record {
      x = undecimal (word_of text);
      y = undecimal (word_of (behind_of text));
      w = undecimal (word_of (behind_of (behind_of text)));
      h = undecimal (behind_of (behind_of (behind_of text)));
    }

-- a single letter is a name
abbrev by_says : Operation → List ℕ → Change
by_says operation text = cond (eqb (length text) 1) (ByRegion operation (begins text 0 (codes "a") A B)) (ByRect operation (rect_says text))

abbrev change_says : List ℕ → Change
change_says text =
    begins text 0 (codes "empty") Empty
    (begins text 0 (codes "join") (by_says Join (drop 5 text))
    (begins text 0 (codes "cut") (by_says Cut (drop 4 text)) (by_says Away (drop 5 text))))

abbrev name_says : List ℕ → Name
name_says text = begins text 0 (codes "a") A B

-- the words of a rectangle's numbers
word_told : (n : ℕ) (rest : List ℕ) → undecimal (word_of (spaced (decimal n) rest)) ≡ n
word_told n rest = ap undecimal (word_is (decimal n) rest (no_space n)) ∙ undecimal-decimal n

behind_told : (n : ℕ) (rest : List ℕ) → behind_of (spaced (decimal n) rest) ≡ rest
behind_told n rest = behind_is (decimal n) rest (no_space n)

rect_told : (rect : Rect) → rect_says (rect_text rect) ≡ rect
rect_told rect =
    let last : List ℕ = decimal rect.h in
    let third : List ℕ = spaced (decimal rect.w) last in
    let second : List ℕ = spaced (decimal rect.y) third in
    let one : behind_of (rect_text rect) ≡ second = behind_told rect.x second in
    let two : behind_of (behind_of (rect_text rect)) ≡ third = ap behind_of one ∙ behind_told rect.y third in
    let three : behind_of (behind_of (behind_of (rect_text rect))) ≡ last = ap behind_of two ∙ behind_told rect.w last in
    let x : undecimal (word_of (rect_text rect)) ≡ rect.x = word_told rect.x second in
    let y : undecimal (word_of (behind_of (rect_text rect))) ≡ rect.y = ap (λ t. undecimal (word_of t)) one ∙ word_told rect.y third in
    let w : undecimal (word_of (behind_of (behind_of (rect_text rect)))) ≡ rect.w = ap (λ t. undecimal (word_of t)) two ∙ word_told rect.w last in
    let h : undecimal (behind_of (behind_of (behind_of (rect_text rect)))) ≡ rect.h = ap undecimal three ∙ undecimal-decimal rect.h in
    λ i. record { x = x i; y = y i; w = w i; h = h i }

-- a rectangle has more than a letter
long : (word rest more : List ℕ) → eqb (length (spaced word (spaced rest more))) 1 ≡ false
long word rest more = let size = length-append word (32 ∷ spaced rest more) in let size' = length-append rest (32 ∷ more) in grind (arith, nat_tests)

by_rect : (operation : Operation) (rect : Rect) → by_says operation (rect_text rect) ≡ ByRect operation rect
by_rect operation rect = rw (long (decimal rect.x) (decimal rect.y) (spaced (decimal rect.w) (decimal rect.h))) (ap (ByRect operation) (rect_told rect))

change_told : (change : Change) (text : List ℕ) → SpellsChange change text → change_says text ≡ change
change_told Empty text s = ap change_says s
change_told (ByRect Join rect) text s = ap change_says s.1 ∙ by_rect Join rect
change_told (ByRect Cut rect) text s = ap change_says s.1 ∙ by_rect Cut rect
change_told (ByRect Away rect) text s = ap change_says s.1 ∙ by_rect Away rect
change_told (ByRegion Join A) text s = ap change_says s
change_told (ByRegion Join B) text s = ap change_says s
change_told (ByRegion Cut A) text s = ap change_says s
change_told (ByRegion Cut B) text s = ap change_says s
change_told (ByRegion Away A) text s = ap change_says s
change_told (ByRegion Away B) text s = ap change_says s

name_is_told : (name : Name) (change : Change) (text : List ℕ) → SpellsRegion name change text → name_says (drop 7 text) ≡ name
name_is_told A change text s = ap (λ t. name_says (drop 7 t)) s.1
name_is_told B change text s = ap (λ t. name_says (drop 7 t)) s.1

change_is_told : (name : Name) (change : Change) (text : List ℕ) → SpellsRegion name change text → change_says (drop 9 text) ≡ change
change_is_told A change text s = ap (λ t. change_says (drop 9 t)) s.1 ∙ change_told change s.0 s.2
change_is_told B change text s = ap (λ t. change_says (drop 9 t)) s.1 ∙ change_told change s.0 s.2

-- the third letter is a region's alone
abbrev third : List ℕ → Bool
third text = eqb (get_or text 2 0) 103

third_region : (name : Name) (change : Change) (text : List ℕ) → SpellsRegion name change text → third text ≡ true
third_region name change text s = ap third s.1

third_command : (c : Command) (text : List ℕ) → Spells c text → third text ≡ false
third_command (Line kind m) text s = ap third s.1
third_command (Write v) text s = ap third s.1
third_command (Read n) text s = ap third s.1
third_command Flush text s = ap third s
third_command Queue text s = ap third s
third_command (Carry v) text s = ap third s.1
third_command (Pixel format v) text s = ap third s.1
third_command (Describe format) text s = ap third s
third_command (Recognize v) text s = ap third s.1.1

pub region_alone : RegionAlone
region_alone = record {
  name = λ n m c d text s t. sym (name_is_told n c text s) ∙ name_is_told m d text t;
  change = λ n m c d text s t. sym (change_is_told n c text s) ∙ change_is_told m d text t;
  command = λ n c d text s t. true≢false (sym (third_region n c text s) ∙ third_command d text t);
}
