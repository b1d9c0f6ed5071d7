-- A rectangle's numbers, each read from what stands behind the one before.
use Rattle.std.proofs.Common.{◌≡◌, ℕ, List, refl}
use Rattle.notation.specs.Decimal.{decimal}
use Rattle.notation.proofs.Numbers.{no_space}
use Rattle.screen.specs.declared.rect.Rect.{Rect}
use Rattle.command.specs.Changes.{SpellsRect, SpellsShort}
use Rattle.command.specs.Spaces.{Begins, spaced}
use Rattle.command.specs.Unspaced.{number_unspaced}
use Rattle.command.proofs.Reading.{same_rest}

-- no short number begins the text
abbrev NoShort : List ℕ → Type 0
NoShort text = (n : ℕ) (word rest : List ℕ) → SpellsShort n word → text ≡ spaced word rest → ⊥

-- what stands behind a number
behind :
    (text rest more : List ℕ) (m n : ℕ) → Begins SpellsShort m rest text → text ≡ spaced (decimal n) more
    → rest ≡ more
behind text rest more m n s e =
    same_rest text s.0 rest (decimal n) more (number_unspaced m s.0 s.1.1) s.2 (no_space n) e

-- a text that lacks one of the four is no rectangle
pub no_second :
    (text rest : List ℕ) (x : ℕ) → Begins SpellsShort x rest text → NoShort rest
    → (rect : Rect) → SpellsRect rect text → ⊥
no_second text rest x s h rect e = h rect.y (decimal rect.y) _ (e.0.1, refl) (behind text rest _ x rect.x s e.1)

pub no_third :
    (text rest rest' : List ℕ) (x y : ℕ) → Begins SpellsShort x rest text → Begins SpellsShort y rest' rest
    → NoShort rest' → (rect : Rect) → SpellsRect rect text → ⊥
no_third text rest rest' x y s t h rect e =
    h rect.w (decimal rect.w) _ (e.0.2, refl) (behind rest rest' _ y rect.y t (behind text rest _ x rect.x s e.1))

pub no_fourth :
    (text rest rest' last : List ℕ) (x y w : ℕ) → Begins SpellsShort x rest text
    → Begins SpellsShort y rest' rest → Begins SpellsShort w last rest' → ((n : ℕ) → SpellsShort n last → ⊥) → (rect : Rect) → SpellsRect rect text → ⊥
no_fourth text rest rest' last x y w s t u h rect e =
    h rect.h (e.0.3, behind rest' last _ w rect.w u (behind rest rest' _ y rect.y t (behind text rest _ x rect.x s e.1)))
