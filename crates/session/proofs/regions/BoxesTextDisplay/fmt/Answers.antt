use Rattle.std.proofs.Common.{append-nil, sym, rules}
use Rattle.std.proofs.Output.{has_written_of_eq}
use Rattle.session.proofs.regions.BoxesTextDisplay.fmt.Goals as goal

pub loop-cells-init : goal.loop-cells-init
loop-cells-init g c = λ p.
    has_written_of_eq _ _ _ _ _ (sym (append-nil _)) (search rules)
