use Rattle.std.proofs.Common.{◌≡◌, ℕ, Bool, List, ◌∷◌, take, drop, Decides, ap}
use Rattle.std.proofs.lemmas.Slice.Eq.{slice_eq-Decides, bytes_eq-Decides}
use Rattle.std.proofs.lemmas.Bool.Decides.{same_from_decides, Decides-eqb}
use Rattle.pixel.proofs.raw.alike.Goals as goal

-- where the heads are the same, a test of the rest is a test of the whole
rest-decides : (x y : ℕ) (xs ys : List ℕ) (r : Bool) → x ≡ y → Decides r (xs ≡ ys) → Decides r (x ∷ xs ≡ y ∷ ys)
rest-decides x y xs ys r e d = (λ t. let f = d.0 t in cc, λ f. d.1 (ap (drop 1) f))

pub returns-then-a-b : goal.returns-then-a-b
returns-then-a-b c =
    let a = take 9 (drop 4 c.args.a.now) in
    let b = take 9 (drop 4 c.args.b.now) in
    let d = rest-decides _ _ a b c.eq.result c.if-a-b.true (slice_eq-Decides Decides-eqb a b c.eq.result c.eq.ensures) in
    record { test = same_from_decides c.eq.result _ d (bytes_eq-Decides _ _); same = d }
