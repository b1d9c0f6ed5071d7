-- The table's test gives its rule at each entry.
use Rattle.std.proofs.Common.{◌≡◌, ℕ, zero, suc, ◌+◌, ◌<◌, true, eqb, List, [], ◌∷◌, length, get_or, ap, ◌∙◌, arith}
use Rattle.std.proofs.lemmas.Bool.{and_parts, eqb-true}
use Rattle.pixel.specs.Colours.{widened, widens}

widens_at : (xs : List ℕ) (p k : ℕ) → widens p xs ≡ true → k < length xs → get_or xs k 0 ≡ widened (p + k)
widens_at [] p k t h = absurd (omega arith)
widens_at (x ∷ xs) p zero t h =
    let e : p ≡ p + 0 = omega arith in
    eqb-true x (widened p) (and_parts (eqb x (widened p)) (widens (suc p) xs) t).0 ∙ ap widened e
widens_at (x ∷ xs) p (suc k) t h =
    let e : suc p + k ≡ p + suc k = omega arith in
    widens_at xs (suc p) k (and_parts (eqb x (widened p)) (widens (suc p) xs) t).1 (omega arith) ∙ ap widened e

pub entry_widened : (xs : List ℕ) (k : ℕ) → widens 0 xs ≡ true → k < length xs → get_or xs k 0 ≡ widened k
entry_widened xs k t h = let e : 0 + k ≡ k = omega arith in widens_at xs 0 k t h ∙ ap widened e
