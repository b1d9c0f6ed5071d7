-- What a text is read as.
use Rattle.std.specs.Prelude.{◌≡◌, ◌≢◌, ℕ, List, Option, MatchOption, Vec, vec_items}
use Rattle.notation.specs.Hex.{Bytes}

-- the option has the value that the text, or the letter, spells, or no value is spelled so
abbrev pub Reads : {A T : Type 0} → (A → T → Type 0) → Option A → T → Type 0
Reads Spells o text = MatchOption o ((x : _) → Spells x text → ⊥) (λ x. Spells x text)

-- the option has the bytes that the text writes in that spelling, or no bytes are written so
abbrev pub ReadsBytes : {A : Type 0} → (List ℕ → List ℕ) → Option (Vec ℕ A) → List ℕ → Type 0
ReadsBytes spelling o text =
    MatchOption o ((bs : List ℕ) → Bytes bs → text ≢ spelling bs)
    (λ v. Bytes (vec_items v) × (text ≡ spelling (vec_items v)))
