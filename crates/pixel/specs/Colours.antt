-- A native pixel's colour in each format.
use Rattle.std.specs.Prelude.{◌≡◌, ℕ, suc, ◌+◌, ◌*◌, ◌/◌, ◌%◌, Bool, true, ◌&&◌, List, [], ◌∷◌, ◌==◌}
use Rattle.pixel.specs.declared.Format.{Format}
use Rattle.pixel.specs.declared.Format.TheVariants.{Native, Little, Big}
use Rattle.pixel.specs.Pixels.{pixel_bytes}

-- a component c of greatest value s, at greatest value t: the nearest
abbrev pub scaled : ℕ → ℕ → ℕ → ℕ
scaled c s t = (2 * c * t + s) / (2 * s)

-- a native value's red, green and blue in 32 bits
abbrev pub widened : ℕ → ℕ
widened p = scaled (p % 8) 7 255 * 65536 + scaled (p / 8 % 8) 7 255 * 256 + scaled (p / 64 % 4) 3 255

-- whether a list is the native values from p on in 32 bits, in their order
abbrev pub widens : ℕ → List ℕ → Bool
widens p [] = true
widens p (x ∷ xs) = x == widened p && widens (suc p) xs

-- a native value's number in a format
abbrev pub translated : Format → ℕ → ℕ
translated Native p = p
translated Little p = widened p
translated Big p = widened p

-- Two colours by their bytes: native 11 has red 3 and green 1, and native 255 is white.
abbrev pub Samples : Type 0
Samples =
    (pixel_bytes Little (translated Little 11) ≡ 0x00 ∷ 0x24 ∷ 0x6D ∷ 0x00 ∷ [])
    × (pixel_bytes Little (translated Little 255) ≡ 0xFF ∷ 0xFF ∷ 0xFF ∷ 0x00 ∷ [])
