-- What a function says that writes a text into memory of its own.
use Rattle.std.specs.Prelude.{◌≡◌, ℕ, List, IfOk, Result, String, string_bytes}

-- the text is these words, unless memory ran out
abbrev pub Writes : {A E : Type 0} → Result (String A) E → List ℕ → Type 0
Writes result words = IfOk result (λ text. string_bytes text ≡ words)
