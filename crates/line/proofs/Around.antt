-- Copies into and out of a ring's memory, in two runs: up to the memory's end, and from its start.
use Rattle.std.proofs.Common.{◌≡◌, ℕ, ◌+◌, ◌-◌, ◌%◌, ◌<◌, ◌≤◌, min, cond, ltb, List, ◌++◌, length, get_or, take, drop, ap, ◌∙◌, ⊎_elim, arith, length-append}
use Rattle.std.proofs.Math.Nat.{mod-eq_of_lt, mod-eq-sub-mod}
use borrow.Rule.Slice.PartMut.{put_mid}
use Rattle.std.proofs.lemmas.List.{places, same_lists}
use Rattle.std.proofs.lemmas.Bool.{cases_lt}
use Rattle.std.proofs.lemmas.Bool.Decides.{nat_tests}
use Rattle.line.specs.Queues.{around, length-around, place_behind, Extended}

-- going round once at the memory's end
pub place_is : (size from by : ℕ) → from < size → by ≤ size → (from + by) % size ≡ place_behind size from by
place_is size from by a b =
    ⊎_elim
    (λ (w : from + by < size). mod-eq_of_lt w ∙ grind (arith, nat_tests))
    (λ (w : size ≤ from + by).
    let less : from + by - size < size = omega arith in
    mod-eq-sub-mod w ∙ mod-eq_of_lt less ∙ grind (arith, nat_tests))
    (cases_lt (from + by) size)

-- what stands at a place of a ring
get_or-around : (m : List ℕ) (h n i d : ℕ) → h < length m → n ≤ length m → i < n → get_or (around m h n) i d ≡ get_or m (place_behind (length m) h i) d
get_or-around m h n i d a b l = grind (arith, places, nat_tests)

-- the memory after bytes went into it at `at`: `run` of them, `x`, up to its end, and the `rest`,
-- `y`, from its start
abbrev copied : List ℕ → (at run rest : ℕ) → (x y : List ℕ) → List ℕ
copied m at run rest x y = y ++ drop rest (put_mid at (at + run - at) m x)

get_or_copied :
    (m bs x y : List ℕ) (at run rest k d : ℕ) → at < length m → length bs ≤ length m → run ≡ min (length bs) (length m - at) → rest + run ≡ length bs → x ≡ take run bs → y ≡ drop run bs → k < length m
    → get_or (copied m at run rest x y) k d
    ≡ cond (ltb k rest) (get_or bs (run + k) d) (cond (ltb k at) (get_or m k d) (cond (ltb k (at + run)) (get_or bs (k - at) d) (get_or m k d)))
get_or_copied m bs x y at run rest k d a l e s p q h = grind (arith, places, nat_tests)

-- after the two runs into the memory, what ended where they began goes on with them
pub stored :
    (m bs x y : List ℕ) (at run rest : ℕ) → at < length m → length bs ≤ length m → run ≡ min (length bs) (length m - at) → rest + run ≡ length bs → x ≡ take run bs → y ≡ drop run bs
    → Extended m at bs (y ++ drop rest (put_mid at (at + run - at) m x))
stored m bs x y at run rest a l e s p q =
    let size : length (copied m at run rest x y) ≡ length m = grind (arith, places) in (
      size,
      λ h u k f t.
          let ends : length (around m h u) ≡ u = length-around m h u (omega arith) in
          let long : length (around (copied m at run rest x y) h (u + length bs)) ≡ u + length bs = length-around (copied m at run rest x y) h (u + length bs) (omega arith) in
          same_lists _ _
          (omega (arith, length-append (around m h u) bs))
          (λ i d v.
          let here : place_behind (length m) h i < length m = grind (arith, nat_tests) in
          get_or-around (copied m at run rest x y) h (u + length bs) i d (omega arith) (omega arith) (omega arith)
          ∙ ap (λ z. get_or (copied m at run rest x y) (place_behind z h i) d) size
          ∙ get_or_copied m bs x y at run rest (place_behind (length m) h i) d a l e s p q here
          ∙ grind (arith, places, nat_tests)),
    )

-- what is left of a ring's bytes when the first are gone
pub around_rest : (m : List ℕ) (h u n : ℕ) → h < length m → u ≤ length m → n ≤ u → around m (place_behind (length m) h n) (u - n) ≡ drop n (around m h u)
around_rest m h u n a l k =
    same_lists _ _ (grind (arith, places, nat_tests)) (λ i d v. grind (arith, places, nat_tests))
