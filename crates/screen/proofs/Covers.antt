-- The rectangle over two.
use Rattle.std.proofs.Common.{◌≡◌, ℕ, ◌+◌, ◌-◌, ◌≤◌, min, max, true, false, Some, Ok, Err, Result, sym, ◌∙◌, arith}
use Rattle.std.specs.Result.{result_ok, OkIff}
use Rattle.std.proofs.lemmas.Option.{same_Some}
use Rattle.std.proofs.lemmas.Bool.Decides.{nat_tests}
use Rattle.screen.specs.declared.rect.Rect.{Rect}
use Rattle.screen.specs.Rects.{holds, is_empty, Over, Least}

-- a rectangle that has a cell has its first and its last
corners : (a : Rect) → is_empty a ≡ false → (holds a a.x a.y ≡ true) × (holds a (a.x + a.w - 1) (a.y + a.h - 1) ≡ true)
corners a e = (grind (arith, nat_tests), grind (arith, nat_tests))

-- what has two opposite corners has the edges
edges :
    (a o : Rect) → is_empty a ≡ false → Over o a
    → (o.x ≤ a.x) × (o.y ≤ a.y) × (a.x + a.w ≤ o.x + o.w) × (a.y + a.h ≤ o.y + o.h)
edges a o e f =
    let first : holds o a.x a.y ≡ true = f a.x a.y (corners a e).0 in
    let last : holds o (a.x + a.w - 1) (a.y + a.h - 1) ≡ true = f (a.x + a.w - 1) (a.y + a.h - 1) (corners a e).1 in
    (grind (arith, nat_tests), grind (arith, nat_tests), grind (arith, nat_tests), grind (arith, nat_tests))

-- what reaches from edge to edge has the cells
reaches :
    (a o : Rect) → o.x ≤ a.x → o.y ≤ a.y → a.x + a.w ≤ o.x + o.w → a.y + a.h ≤ o.y + o.h → Over o a
reaches a o p q r s x y h = grind (arith, nat_tests)

pub hull_least :
    (a b o : Rect) → is_empty a ≡ false → is_empty b ≡ false → o.x ≡ min a.x b.x → o.y ≡ min a.y b.y
    → o.w ≡ max (a.x + a.w) (b.x + b.w) - min a.x b.x → o.h ≡ max (a.y + a.h) (b.y + b.h) - min a.y b.y
    → Least a b o
hull_least a b o e f l t r d =
    record {
      first = reaches a o (omega arith) (omega arith) (omega arith) (omega arith);
      second = reaches b o (omega arith) (omega arith) (omega arith) (omega arith);
      least = λ other p q.
          let ea = edges a other e p in
          let eb = edges b other f q in
          reaches o other (omega arith) (omega arith) (omega arith) (omega arith);
    }

-- a number that was narrowed is the same
pub narrowed : {E : Type 0} (r : Result ℕ E) (P : Type 0) (n w : ℕ) → OkIff r P n → result_ok r ≡ Some w → w ≡ n
narrowed (Ok x) P n w fits e = sym (same_Some x w e) ∙ fits.1
narrowed (Err x) P n w fits e = cc
