use Rattle.std.proofs.Common.{ap, ◌∙◌, rules, tests}
use Rattle.region.specs.Rows.{ends_at, spans}
use Rattle.region.proofs.Adding.{ends_told}
use Rattle.region.proofs.row.Row.ends_at.Goals as goal

pub returns : goal.returns
returns c =
    ends_told c.args.x c.as_slice.result.now c.last.result c.is_some_and.result c.last.ensures.item.3 c.is_some_and.ensures (λ x q. search (rules, tests))
    ∙ ap (λ bs. ends_at (spans bs) c.args.x) c.as_slice.ensures
