use Rattle.std.proofs.Common.{arith}
use Rattle.region.proofs.Widening.{widens_last}
use Rattle.region.proofs.few.Few.widen_last.Goals as goal

pub returns-then-self-gt0 : goal.returns-then-self-gt0
returns-then-self-gt0 g c = rw c.widen.ensures (widens_last c.args.right c.args.self.now.boxes c.args.self.now.count (omega arith) (omega arith))
