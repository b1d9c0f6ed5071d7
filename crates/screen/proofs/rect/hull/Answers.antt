use Rattle.std.proofs.Common.{◌∙◌, sym, arith}
use Rattle.screen.proofs.Covers.{hull_least, narrowed}
use Rattle.screen.proofs.rect.hull.Goals as goal

pub returns-clause-least : goal.returns-clause-least
returns-clause-least c =
    let w = narrowed c.try_from.result _ _ _ c.try_from.ensures (sym c.ok.ensures.value ∙ c.in_ok-ok.was) in
    let h = narrowed c.try_from-2.result _ _ _ c.try_from-2.ensures (sym c.ok-2.ensures.value ∙ c.in_ok-ok-2.was) in
    hull_least c.args.a c.args.b _ c.requires.0 c.requires.1 (omega arith) (omega arith) (omega (arith, w)) (omega (arith, h))
