use Rattle.std.proofs.Common.{ℕ, ◌<◌, ◌≤◌, arith}
use Rattle.std.proofs.lemmas.Bool.Decides.{nat_tests}
use Rattle.region.specs.Rows.{edge_of, start_of}
use Rattle.region.proofs.Runs.{along_edge, along_inside, along_past, along_start, drawn_merged, drawn_start, merge_adds, merge_passes, start_inside}
use Rattle.region.proofs.row.Row.merge.Goals as goal
use Rattle.region.proofs.row.Row.merge.Goals.{then-keep, else-keep}

pub loop-first-init : goal.loop-first-init
loop-first-init c =
    let first : c.min-x.result ≤ start_of c.args.first.now = omega (arith, c.min-x.ensures, c.start.ensures) in
    let second : c.min-x.result ≤ start_of c.args.second.now = omega (arith, c.min-x.ensures, c.start-2.ensures) in
    record {
      x = omega (arith, start_inside c.args.first.now c.requires.0);
      first = along_start c.args.first.now _ c.requires.0 first;
      second = along_start c.args.second.now _ c.requires.1 second;
      drawn = rw c.clear.ensures (drawn_start c.args.operation c.args.first.now c.args.second.now _ c.requires.0 c.requires.1 first second);
    }

pub loop-first-preserved : goal.loop-first-preserved
loop-first-preserved c =
    let l = c.loop-first in
    let n : ℕ = c.min-next.result in
    let here : l.x < 256 = grind (arith, nat_tests, along_inside) in
    let p = along_edge _ _ _ l.invariant.first here in
    let q = along_edge _ _ _ l.invariant.second here in
    let first : n ≤ edge_of l.first.now l.x = omega (arith, c.min-next.ensures, c.edge.ensures) in
    let second : n ≤ edge_of l.second.now l.x = omega (arith, c.min-next.ensures, c.edge-in-loop-first.ensures) in
    let past : l.x < n = omega (arith, c.min-next.ensures, c.edge.ensures, c.edge-in-loop-first.ensures) in
    record {
      x = omega arith;
      first = rw c.past-first.ensures (along_past _ _ _ n l.invariant.first (omega arith) first);
      second = rw c.past-second.ensures (along_past _ _ _ n l.invariant.second (omega arith) second);
      drawn = elim c.if-keep.branch [
        | then-keep w ↦ rw (w.self-is, w.add.ensures) (merge_adds _ _ _ _ _ _ n l.invariant.first l.invariant.second first second _ past (omega arith) l.invariant.drawn (cc))
        | else-keep w ↦ rw w.self-is (merge_passes _ _ _ _ _ _ n l.invariant.first l.invariant.second first second _ past l.invariant.drawn (cc))
      ];
    }

pub returns : goal.returns
returns c =
    let l = c.loop-first in
    drawn_merged _ _ _ _ _ _ _ l.invariant.first l.invariant.second (grind (arith, nat_tests)) (grind (arith, nat_tests)) l.invariant.drawn
