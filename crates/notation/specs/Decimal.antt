-- How the console writes numbers: in decimal digits, with no leading zero.
use Rattle.std.specs.Prelude.{◌≡◌, ℕ, zero, suc, ◌+◌, ◌-◌, ◌^◌, ◌<◌, min, List, map, codes}
use Rattle.std.specs.Int.Digits.{digits_of}

-- the highest digit first; `digits_of` has none for 0
abbrev pub decimal : ℕ → List ℕ
decimal zero = codes "0"
decimal (suc n) = map (λ d. 48 + d) (digits_of 10 (suc n))

-- the largest number that a machine word holds stands for each one above it
abbrev pub saturated : ℕ → ℕ
saturated n = min n (2 ^ 64 - 1)

-- the text is a number, and one that does not fit stands for the largest that does
abbrev pub SpellsNumber : ℕ → List ℕ → Type 0
SpellsNumber m text = (n : ℕ) × (text ≡ decimal n) × (m ≡ saturated n)

-- the text is a number below the limit
abbrev pub SpellsBelow : ℕ → ℕ → List ℕ → Type 0
SpellsBelow limit n text = (n < limit) × (text ≡ decimal n)
