-- A format's description: 16 bytes that say the bits of a pixel and where its colours lie.
use Rattle.std.specs.Prelude.{◌≡◌, ℕ, ◌/◌, ◌%◌, ◌<◌, Bool, cond, not, ◌&&◌, List, [], ◌∷◌, ◌++◌, length, take, drop, Some, None, Option, MatchOption, ◌==◌, slice_index}
use Rattle.std.specs.Str.{bytes_eq}
use Rattle.pixel.specs.declared.Format.{Format}
use Rattle.pixel.specs.declared.Format.TheVariants.{Native, Little, Big}

-- a number in two bytes, the high one first
abbrev pub two_bytes : ℕ → List ℕ
two_bytes n = n / 256 ∷ n % 256 ∷ []

-- the bits, the depth and the two flags: the order, and true colour, which is set
abbrev pub front : ℕ → ℕ → ℕ → List ℕ
front bits depth order = bits ∷ depth ∷ order ∷ 1 ∷ []

-- the greatest values of red, green and blue
abbrev pub greatest : ℕ → ℕ → ℕ → List ℕ
greatest red green blue = two_bytes red ++ two_bytes green ++ two_bytes blue

-- their shifts, and the padding
abbrev pub shifts : ℕ → ℕ → ℕ → List ℕ
shifts red green blue = red ∷ green ∷ blue ∷ 0 ∷ 0 ∷ 0 ∷ []

-- a format's description as it is written
abbrev pub described : Format → List ℕ
described Native = front 8 8 0 ++ greatest 7 7 3 ++ shifts 0 3 6
described Little = front 32 24 0 ++ greatest 255 255 255 ++ shifts 16 8 0
described Big = front 32 24 1 ++ greatest 255 255 255 ++ shifts 16 8 0

-- what is judged in every format: the bits, the greatest values and the shifts
abbrev pub judged : List ℕ → List ℕ
judged bs = slice_index bs 0 ∷ take 9 (drop 4 bs)

-- whether that is as in the format's own description
abbrev pub judged_as : List ℕ → Format → Bool
judged_as bs f = bytes_eq (judged bs) (judged (described f))

-- a flag is set where it is not zero
abbrev pub is_set : ℕ → Bool
is_set flag = not (flag == 0)

-- the format of 32 bits with that order flag
abbrev pub wide : ℕ → Format
wide order = cond (is_set order) Big Little

-- the format by what is judged; the order is judged only for 32 bits
abbrev pub format_of : List ℕ → Option Format
format_of bs = cond (judged_as bs Native) (Some Native) (cond (judged_as bs Little) (Some (wide (slice_index bs 2))) None)

-- the format of a description, which has 16 bytes and true colour; none where it is not accepted
abbrev pub parsed : List ℕ → Option Format
parsed bs = cond (length bs == 16 && is_set (slice_index bs 3)) (format_of bs) None

-- the order flag means the format; for native it is not judged
abbrev pub Ordered : Format → ℕ → Type 0
Ordered Native order = Unit {0}
Ordered Little order = order ≡ 0
Ordered Big order = 0 < order

-- The bytes describe the format. Depth and padding may be anything.
pub record Describes (bs : List ℕ) (f : Format) : Type 0 where
  pub long : length bs ≡ 16
  pub colour : 0 < slice_index bs 3
  pub same : judged bs ≡ judged (described f)
  pub order : Ordered f (slice_index bs 2)

-- The answer is the only format that the bytes describe, or none where they describe none.
abbrev pub Meant : List ℕ → Option Format → Type 0
Meant bs r = MatchOption r ((f : Format) → Describes bs f → ⊥) (λ f. Describes bs f × ((g : Format) → Describes bs g → g ≡ f))

-- The bytes are understood as the format.
abbrev pub Understood : Format → List ℕ → Type 0
Understood f bs = parsed bs ≡ Some f
