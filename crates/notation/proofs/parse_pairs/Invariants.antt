use Rattle.std.proofs.Common.{length, vec_items}
use Rattle.notation.proofs.Pairs.{ReadSoFar}
use Rattle.notation.proofs.parse_pairs.Given as goal

abbrev pub invariant-loop-rest : goal.invariant-loop-rest
invariant-loop-rest l = ReadSoFar l.text (vec_items l.bytes) l.rest

abbrev pub decreases-loop-rest : goal.decreases-loop-rest
decreases-loop-rest l = length l.rest
