-- How the console writes bytes: each as two upper-case hexadecimal digits, the high one first, and no bytes at all as `-`.
use Rattle.std.specs.Prelude.{ℕ, ◌+◌, ◌/◌, ◌%◌, ◌<◌, ◌≡◌, cond, List, [], ◌∷◌, codes, nat_lt}
use Rattle.std.specs.List.{AllByRecursion}

-- each number is that of a byte
abbrev pub Bytes : List ℕ → Type 0
Bytes bs = AllByRecursion (λ b. b < 256) bs

-- the code of the digit: `0` to `9`, then `A` to `F`
abbrev pub hex_digit : ℕ → ℕ
hex_digit d = cond (nat_lt d 10) (48 + d) (55 + d)

-- the code is that of the digit
abbrev pub SpellsDigit : ℕ → ℕ → Type 0
SpellsDigit d code = (d < 16) × (code ≡ hex_digit d)

abbrev pub hex_pairs : List ℕ → List ℕ
hex_pairs [] = []
hex_pairs (b ∷ bs) = hex_digit (b / 16) ∷ hex_digit (b % 16) ∷ hex_pairs bs

-- the two codes are those of the byte
abbrev pub SpellsPair : ℕ → List ℕ → Type 0
SpellsPair b text = (b < 256) × (text ≡ hex_pairs (b ∷ []))

abbrev pub hex_of : List ℕ → List ℕ
hex_of [] = codes "-"
hex_of (b ∷ bs) = hex_pairs (b ∷ bs)
