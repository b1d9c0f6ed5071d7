-- Runs of places in a screen's memory.
use Rattle.std.proofs.Common.{◌≡◌, ℕ, suc, ◌+◌, ◌-◌, ◌<◌, ◌≤◌, cond, List, [], ◌∷◌, length, get_or, take, drop, ap, sym, ◌∙◌, subst, ⊎_elim, arith}
use borrow.Rule.Slice.PartMut.{put_mid}
use Rattle.std.specs.List.{CopiedTo, FoldsTo, SameBelow, SameFrom}
use Rattle.std.proofs.lemmas.List.{places}
use Rattle.std.proofs.lemmas.Bool.{cases_eq, cases_lt}
use Rattle.std.proofs.lemmas.Bool.Decides.{nat_tests}
use Rattle.screen.specs.Rects.{within}

-- A run of `count` places from `at` on is as `new` says, and each other place is as it was.
pub record Run {X : Type 0} (at count : ℕ) (new : ℕ → X → X) (before after : List X) : Type 0 where
  pub size : length after ≡ length before
  pub places : (k : ℕ) (d : X) → get_or after k d ≡ cond (within at count k) (new k d) (get_or before k d)

-- one value for every place
abbrev pub always : {X : Type 0} → X → ℕ → X → X
always value k d = value

-- the source's places from `from` on, laid from `at` on
abbrev pub laid : {X : Type 0} → List X → ℕ → ℕ → ℕ → X → X
laid source from at k d = get_or source (from + (k - at)) d

-- a part of the memory was written anew, with `ys`
run_part :
    {X : Type 0} (from count : ℕ) (new : ℕ → X → X) (before ys : List X) → from + count ≤ length before → length ys ≡ count
    → ((i : ℕ) (d : X) → i < count → get_or ys i d ≡ new (from + i) d)
    → Run from count new before (put_mid from count before ys)
run_part from count new before ys l long is =
    let to = from + count in
    record {
      size = grind (arith, places);
      places = λ k d.
          ⊎_elim
          (λ (b : k < from). grind (arith, places, nat_tests))
          (λ (b : from ≤ k).
          ⊎_elim
          (λ (t : k < to).
          let across : from + (k - from) ≡ k = omega arith in
          let here : get_or ys (k - from) d ≡ new k d = is (k - from) d (omega arith) ∙ ap (λ z. new z d) across in
          grind (arith, places, nat_tests))
          (λ (t : to ≤ k). grind (arith, places, nat_tests))
          (cases_lt k to))
          (cases_lt k from);
    }

-- a part was copied from a block
pub lay_part :
    {X : Type 0} (at count from many : ℕ) (block before ys : List X) → at + count ≤ length before → from + many ≤ length block → many ≡ count
    → ys ≡ take many (drop from block) → Run at count (laid block from at) before (put_mid at count before ys)
lay_part at count from many block before ys l f e is =
    let long : length ys ≡ count = ap length is ∙ grind (arith, places) in
    run_part at count (laid block from at) before ys l long
    (λ i d t.
    let back : from + (at + i - at) ≡ from + i = omega arith in
    ap (λ z. get_or z i d) is ∙ grind (arith, places) ∙ ap (λ z. get_or block z d) (sym back))

-- a part was copied within the memory, as it was
pub shift_part :
    {X : Type 0} (from to count : ℕ) (before after : List X) → length after ≡ length before
    → CopiedTo before after from to count × SameBelow before after to × SameFrom before after (to + count)
    → Run to count (laid before from to) before after
shift_part from to count before after long is =
    record {
      size = long;
      places = λ k d.
          ⊎_elim
          (λ (b : k < to). let same = is.1 k d b in grind (arith, nat_tests))
          (λ (b : to ≤ k).
          ⊎_elim
          (λ (t : k < to + count). let copied = is.0 k d b (omega arith) in grind (arith, nat_tests))
          (λ (t : to + count ≤ k). let same = is.2 k d (omega arith) in grind (arith, nat_tests))
          (cases_lt k (to + count)))
          (cases_lt k to);
    }

-- what calls gave, where a call gives the value and changes nothing
filled :
    {F X : Type 0} (step : F → X → F → Type 0) (f last : F) (value : X) (ys : List X) → FoldsTo step f ys last
    → ((x : X) (next : F) → step f x next → (x ≡ value) × (next ≡ f)) → (i : ℕ) (d : X) → i < length ys → get_or ys i d ≡ value
filled step f last value [] ran same i d l = absurd (omega arith)
filled {F} step f last value (y ∷ ys) ran same i d l =
    let first = same y ran.0 ran.1 in
    let rest : FoldsTo step f ys last = subst (λ (z : F). FoldsTo step z ys last) first.1 ran.2 in
    ⊎_elim
    (λ (e : i ≡ 0). ap (λ z. get_or (y ∷ ys) z d) e ∙ first.0)
    (λ (e : i ≡ 0 → ⊥).
    let next : i ≡ suc (i - 1) = omega arith in
    ap (λ z. get_or (y ∷ ys) z d) next ∙ filled step f last value ys rest same (i - 1) d (omega arith))
    (cases_eq i 0)

-- a part was filled
pub fill_part :
    {F X : Type 0} (step : F → X → F → Type 0) (f last : F) (at count : ℕ) (value : X) (before ys : List X) → at + count ≤ length before
    → length ys ≡ length (take count (drop at before)) → FoldsTo step f ys last
    → ((x : X) (next : F) → step f x next → (x ≡ value) × (next ≡ f))
    → Run at count (always value) before (put_mid at count before ys)
fill_part step f last at count value before ys l long ran same =
    let many : length ys ≡ count = long ∙ grind (arith, places) in
    run_part at count (always value) before ys l many (λ i d t. filled step f last value ys ran same i d (omega arith))
