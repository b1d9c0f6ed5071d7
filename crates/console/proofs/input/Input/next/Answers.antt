use Rattle.std.proofs.Common.{◌≡◌, sym, ℕ, suc, ◌+◌, ◌-◌, ◌<◌, false, List, [], ◌∷◌, All, ◌≢◌, length, get_or, take, drop, drop-cons, ap, ◌∙◌, subst, vec_len, arith}
use Rattle.std.proofs.lemmas.Bool.Decides.{nat_tests}
use Rattle.std.proofs.lemmas.List.{drop_all, take_all}
use Rattle.std.proofs.lemmas.List.Elements.{All-more, All-take}
use Rattle.std.specs.Io.{StopsAt}
use lib.Dec.{eqb}
use lib.Pointwise.{pointwise}
use Rattle.console.proofs.input.Input.next.Goals.{then-ends_with, else-ends_with, then-len-gt-LONGEST+in_ok-skip_until, else-len-gt-LONGEST}
use Rattle.console.specs.declared.input.Input.{Input}
use Rattle.console.specs.declared.input.TheConstants.{LONGEST}
use Rattle.console.proofs.input.Input.next.Goals as goal

other : (b end : ℕ) → pointwise eqb (end ∷ []) (b ∷ []) ≡ false → b ≢ end
other b end e = grind (arith, nat_tests)

-- a text with no line end before its last byte, nor there, has none
no_end :
    (text : List ℕ) (end : ℕ) → 0 < length text → StopsAt text end → pointwise eqb (end ∷ []) (drop (length text - 1) text) ≡ false
    → All (λ b. b ≢ end) text
no_end text end some before p =
    let n = length text - 1 in
    let last : drop n text ≡ get_or text n 0 ∷ [] = drop-cons text n 0 (omega arith) ∙ ap (λ r. get_or text n 0 ∷ r) (drop_all (suc n) text (omega arith)) in
    subst (All (λ b. b ≢ end)) (take_all (n + 1) text (omega arith)) (All-more (λ b. b ≢ end) text n 0 (omega arith) before (other _ end (rw last at p)))

pub returns : goal.returns
returns c =
    let stops = rw c.clear.ensures.items at c.read_until.ensures.stops in
    let text = c.read_until.new.buf.items in
    let without : All (λ b. b ≢ 10) c.if-ends_with.self.line.items =
    elim c.if-ends_with.branch [
      | then-ends_with w ↦
          let long : vec_len c.read_until.new.buf ≡ length text = sym c.deref.ensures.len ∙ ap length c.deref.ensures.value in
          subst (All (λ b. b ≢ 10)) (sym (ap (λ (s : Input). s.line.items) w.self-is ∙ w.pop.ensures.rest ∙ ap (λ n. take (n - 1) text) long)) stops
      | else-ends_with w ↦
          let ended = rw c.deref.ensures.value at c.ends_with.ensures.value in
          subst (All (λ b. b ≢ 10)) (sym (ap (λ (s : Input). s.line.items) w.self-is))
          (no_end text 10 (omega (arith, c.in_ok-read_until.ensures.ok, c.if-branch-eq0.false)) stops (sym ended ∙ w.if-ends_with.false))
    ] in
    let same = c.deref-2.ensures.value in
    let long = c.deref-2.ensures.len in
    elim c.if-len-gt-LONGEST.branch [
      | then-len-gt-LONGEST+in_ok-skip_until w ↦
          record {
            one_line = subst (All (λ b. b ≢ 10)) (sym (same ∙ ap (λ (s : Input). s.line.items) w.self-is ∙ w.truncate.ensures.items)) (All-take (λ b. b ≢ 10) (LONGEST + 1) _ without);
            bounded = omega (arith, long, ap (λ (s : Input). vec_len s.line) w.self-is, w.truncate.ensures.len);
          }
      | else-len-gt-LONGEST w ↦
          record {
            one_line = subst (All (λ b. b ≢ 10)) (sym (same ∙ ap (λ (s : Input). s.line.items) w.self-is)) without;
            bounded = omega (arith, long, ap (λ (s : Input). vec_len s.line) w.self-is, c.len.ensures, w.if-len-gt-LONGEST.false);
          }
    ]
