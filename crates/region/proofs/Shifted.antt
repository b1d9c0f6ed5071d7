-- A region cut to the cells that stay, and moved, is shifted.
use Rattle.std.proofs.Common.{Option, ◌≡◌, ◌≤◌, Bool, true, false, ltb, List, [], ◌∷◌, map, length, sym, refl, ap, ◌∙◌, subst, ap₂, inl, inr, arith}
use Rattle.std.proofs.lemmas.Bool.{cases_Bool}
use Rattle.std.proofs.lemmas.Bool.Decides.{nat_tests}
use Rattle.std.specs.Bool.{then_some}
use Rattle.std.specs.List.{AllByRecursion}
use Rattle.std.specs.Option.{option_to_list}
use Rattle.screen.specs.declared.corner.Corner.{Corner}
use Rattle.boxes.specs.declared.cell_box.CellBox.{CellBox}
use Rattle.boxes.specs.Banded.{Banded, Proper}
use Rattle.boxes.specs.Cells.{SameCells, both, has, shifted}
use Rattle.boxes.specs.Moves.{move_box, staying}
use Rattle.boxes.specs.Regions.{RegionOf}
use Rattle.boxes.proofs.Covering.{box_same}
use Rattle.boxes.proofs.Moving.{Stays}
use Rattle.boxes.proofs.One.{region_banded}
use Rattle.boxes.proofs.Rules.{given}
use Rattle.boxes.proofs.Shifting.{Shift, Void, shift_cut_none, shift_stays}
use Rattle.region.specs.declared.regions.Region.{Region}
use Rattle.region.specs.Held.{held}
use Rattle.region.specs.Shifts.{has_cells, move_onto}
use Rattle.region.proofs.Results.{at_most}

module _ (from to : Corner) where
  -- cells are there or not
  void : (b : CellBox) → has_cells b ≡ false → Void b
  void b off = elim (cases_Bool (ltb b.left b.right)) [
    | inl wide ↦ inr (grind (arith, nat_tests))
    | inr narrow ↦ inl (grind (arith, nat_tests))
  ]

  cut_shift :
      (bs ks cs : List CellBox) → Banded bs → length bs ≤ 32 → ks ≡ option_to_list (then_some (has_cells (staying from to)) (staying from to))
      → RegionOf (both bs ks) cs → Shift from to bs cs
  cut_shift bs ks cs b n is r =
      let k : CellBox = staying from to in
      let cut : (t : Bool) → has_cells k ≡ t → RegionOf (both bs (option_to_list (then_some t k))) cs =
      λ t e. subst (λ l. RegionOf (both bs l) cs) (is ∙ ap (λ u. option_to_list (then_some u k)) e) r in
      elim (cases_Bool (has_cells k)) [
        | inl on ↦ shift_stays from to bs cs b n (cut true on)
        | inr off ↦ shift_cut_none from to bs cs b (void k off) (cut false off)
      ]

  -- where boxes stay, they are not held back at the edge
  one_onto : (b : CellBox) → Proper b → Stays from to b → move_onto from to b ≡ move_box from to b
  one_onto b p s = box_same (move_onto from to b) (move_box from to b) (omega arith) (omega arith) (omega arith) (omega arith)

  all_onto : (bs : List CellBox) → AllByRecursion Proper bs → AllByRecursion (Stays from to) bs → map (move_onto from to) bs ≡ map (move_box from to) bs
  all_onto [] p s = refl
  all_onto (b ∷ bs) p s = ap₂ ◌∷◌ (one_onto b p.0 s.0) (all_onto bs p.1 s.1)

  -- the whole shift
  pub record Moved (bs rs : List CellBox) : Type 0 where
    pub region : RegionOf (shifted from to bs) rs
    pub exact : SameCells (has rs) (shifted from to bs)
    pub banded : Banded rs

  pub shift_moves :
      (r : Region) (k : Option CellBox) (ks cs rs : List CellBox) → k ≡ then_some (has_cells (staying from to)) (staying from to) → ks ≡ option_to_list k
      → RegionOf (both (held r) ks) cs → rs ≡ map (move_onto from to) cs → Moved (held r) rs
  shift_moves r k ks cs rs stay some part is =
      let bs : List CellBox = held r in
      let s = cut_shift bs ks cs (given bs r.banded) (at_most r.boxes) (some ∙ ap option_to_list stay) part in
      let same : map (move_box from to) cs ≡ rs = sym (is ∙ all_onto cs (region_banded (both bs ks) cs part).proper s.stays) in
      record {
        region = subst (RegionOf (shifted from to bs)) same s.region;
        exact = subst (λ l. SameCells (has l) (shifted from to bs)) same s.same;
        banded = subst Banded same s.banded;
      }
