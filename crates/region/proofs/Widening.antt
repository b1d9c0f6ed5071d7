-- The last of a few boxes.
use Rattle.std.proofs.Common.{◌≡◌, ℕ, zero, suc, ◌-◌, ◌<◌, ◌≤◌, List, [], ◌∷◌, length, get_or, take, set, refl, ap, subst, arith}
use Rattle.boxes.specs.declared.cell_box.CellBox.{CellBox}
use Rattle.boxes.specs.Regions.{no_box}
use Rattle.region.specs.Listed.{widened, widened_last}

widens_at : (r : ℕ) (bs : List CellBox) (m : ℕ) → m < length bs → take (suc m) (set bs m (widened r (get_or bs m no_box))) ≡ widened_last r (take (suc m) bs)
widens_at r [] m h = absurd (omega arith)
widens_at r (b ∷ bs) zero h = refl
widens_at r (b ∷ []) (suc m) h = absurd (omega arith)
widens_at r (b ∷ c ∷ bs) (suc m) h = ap (λ l. b ∷ l) (widens_at r (c ∷ bs) m (omega arith))

-- the last of the first n places is widened
pub widens_last :
    (r : ℕ) (bs : List CellBox) (n : ℕ) → 0 < n → n ≤ length bs → take n (set bs (n - 1) (widened r (get_or bs (n - 1) no_box))) ≡ widened_last r (take n bs)
widens_last r bs n some fits =
    let next : suc (n - 1) ≡ n = omega arith in
    subst (λ k. take k (set bs (n - 1) (widened r (get_or bs (n - 1) no_box))) ≡ widened_last r (take k bs)) next (widens_at r bs (n - 1) (omega arith))
