-- A ring's memory, and the bytes queued in it.
use Rattle.std.specs.Prelude.{◌≡◌, ℕ, ◌+◌, ◌-◌, ◌<◌, ◌≤◌, Bool, cond, ◌&&◌, List, ◌++◌, length, take, drop, nat_le, nat_lt}
use Rattle.std.proofs.Common.{arith, length-take, length-drop, length-append}

-- A ring's bytes: `used` of them, from the place `head` of its memory on, and from the start again
-- where the memory ends.
abbrev pub around : List ℕ → ℕ → ℕ → List ℕ
around memory head used = take used (drop head memory ++ take head memory)

-- the sizes of memory that a ring takes
abbrev pub ring_size : ℕ → Bool
ring_size n = nat_le 1 n && nat_le n 65536

-- the place `by` bytes behind `from`, in a ring of `size` bytes
abbrev pub place_behind : ℕ → ℕ → ℕ → ℕ
place_behind size from by = cond (nat_lt (from + by) size) (from + by) (from + by - size)

-- Bytes were put into a ring's memory at a place: whatever ended there goes on with them.
abbrev pub Extended : List ℕ → ℕ → List ℕ → List ℕ → Type 0
Extended memory at bytes memory' =
    (length memory' ≡ length memory)
    × ((head used : ℕ) → head < length memory → used + length bytes ≤ length memory → at ≡ place_behind (length memory) head used
    → around memory' head (used + length bytes) ≡ around memory head used ++ bytes)

pub length-around : (m : List ℕ) (h n : ℕ) → n ≤ length m → length (around m h n) ≡ n
length-around m h n l = simp (length-take, length-append, length-drop) (omega arith)
