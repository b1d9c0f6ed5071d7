use Rattle.std.proofs.Common.{ℕ, ◌<◌, ◌≤◌, arith}
use Rattle.region.specs.Places.{remaining, turn_of}
use Rattle.region.proofs.Strips.{at_apart, at_past, at_start, at_turn}
use Rattle.region.proofs.Sweeping.{painting_add, painting_none, rows_kept}
use Rattle.region.proofs.sweep.sweep.Goals as goal

pub loop-y-init : goal.loop-y-init
loop-y-init c =
    let w = c.new-work.ensures in
    record {
      y = omega arith;
      first = rw c.new-p.ensures (at_start _ c.requires.0);
      second = rw c.new-q.ensures (at_start _ c.requires.1);
      drawn = painting_none _ c.new-work.result w.0 w.1;
    }

pub strip-requires-clause-first : goal.strip-requires-clause-first
strip-requires-clause-first c = rw c.shown.ensures (at_apart _ _ c.loop-y.y c.loop-y.invariant.first)

pub strip-requires-clause-second : goal.strip-requires-clause-second
strip-requires-clause-second c = rw c.shown-in-loop-y.ensures (at_apart _ _ c.loop-y.y c.loop-y.invariant.second)

pub loop-y-preserved : goal.loop-y-preserved
loop-y-preserved c =
    let l = c.loop-y in
    let e : ℕ = c.min-next.result in
    let p = at_turn _ _ _ l.invariant.first c.loop-y-test.true in
    let q = at_turn _ _ _ l.invariant.second c.loop-y-test.true in
    let first : e ≤ turn_of (remaining l.p) l.y = omega (arith, c.min-next.ensures, c.turn.ensures) in
    let second : e ≤ turn_of (remaining l.q) l.y = omega (arith, c.min-next.ensures, c.turn-in-loop-y.ensures) in
    let below : l.y < e = omega (arith, c.min-next.ensures, c.turn.ensures, c.turn-in-loop-y.ensures) in
    record {
      y = omega arith;
      first = rw c.past-p.ensures (at_past _ _ _ e l.invariant.first (omega arith) first);
      second = rw c.past-q.ensures (at_past _ _ _ e l.invariant.second (omega arith) second);
      drawn = painting_add _ _ _ _ e _ _ _ _ l.invariant.drawn (rw (c.shown.ensures, c.shown-in-loop-y.ensures) at c.strip.ensures) below (omega arith)
          (λ x v lo hi. rows_kept _ _ _ _ _ l.y e x v l.invariant.first l.invariant.second first second lo hi);
    }
