-- A pixel's bytes.
use Rattle.std.specs.Prelude.{◌≡◌, ℕ, ◌+◌, ◌*◌, ◌/◌, ◌%◌, true, cond, List, [], ◌∷◌, ◌++◌, reverse, length, drop, is_some, Some, None, Option, nat_lt, slice_index}
use Rattle.pixel.specs.declared.Format.{Format}
use Rattle.pixel.specs.declared.Format.TheVariants.{Native, Little, Big}

-- the bytes of a pixel
abbrev pub bytes_per : Format → ℕ
bytes_per Native = 1
bytes_per Little = 4
bytes_per Big = 4

-- the value with its unused bits dropped: 32 bits hold a colour of 24
abbrev pub used_part : Format → ℕ → ℕ
used_part Native value = value % 256
used_part Little value = value % 16777216
used_part Big value = value % 16777216

-- a number's four bytes, the low one first
abbrev pub four_bytes : ℕ → List ℕ
four_bytes n = n % 256 ∷ n / 256 % 256 ∷ n / 65536 % 256 ∷ n / 16777216 % 256 ∷ []

-- the number of four bytes, given the low one first
abbrev pub four_number : ℕ → ℕ → ℕ → ℕ → ℕ
four_number a b c d = a + b * 256 + c * 65536 + d * 16777216

-- the bytes of a value with its unused bits dropped, in the format's order
abbrev pub pixel_bytes : Format → ℕ → List ℕ
pixel_bytes Native value = used_part Native value ∷ []
pixel_bytes Little value = four_bytes (used_part Little value)
pixel_bytes Big value = reverse (four_bytes (used_part Big value))

-- the value that the first bytes give, in the format's order, with its unused bits dropped
abbrev pub pixel_of : Format → List ℕ → ℕ
pixel_of Native bs = used_part Native (slice_index bs 0)
pixel_of Little bs = used_part Little (four_number (slice_index bs 0) (slice_index bs 1) (slice_index bs 2) (slice_index bs 3))
pixel_of Big bs = used_part Big (four_number (slice_index bs 3) (slice_index bs 2) (slice_index bs 1) (slice_index bs 0))

-- an answer, where there are at least n bytes
abbrev pub if_long : ℕ → List ℕ → ℕ → Option ℕ
if_long n bs answer = cond (nat_lt (length bs) n) None (Some answer)

-- the value of the pixel that the bytes begin with
abbrev pub first_pixel : Format → List ℕ → Option ℕ
first_pixel f bs = if_long (bytes_per f) bs (pixel_of f bs)

-- the memory with bytes at its start, where they fit
abbrev pub placed : List ℕ → List ℕ → List ℕ
placed bs memory = cond (nat_lt (length memory) (length bs)) memory (bs ++ drop (length bs) memory)

-- No unused bit of the value is set.
abbrev pub AllUsed : Format → ℕ → Type 0
AllUsed f value = used_part f value ≡ value

-- Each pixel of the format has so many bytes.
abbrev pub Sized : Format → ℕ → Type 0
Sized f n = (value : ℕ) → length (pixel_bytes f value) ≡ n

-- A pixel that was written is read back from the memory: the value with its unused bits dropped.
abbrev pub ReadBack : Format → ℕ → Option ℕ → List ℕ → Type 0
ReadBack f value answer memory = is_some answer ≡ true → first_pixel f memory ≡ Some (used_part f value)
