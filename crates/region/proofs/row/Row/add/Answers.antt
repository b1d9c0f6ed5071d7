use Rattle.std.proofs.Common.{sym, refl, ap, ◌∙◌, arith}
use Rattle.region.specs.Listed.{listed}
use Rattle.region.specs.Rows.{spans}
use Rattle.region.proofs.Adding.{runs_room, spans_pushed, spans_widened}
use Rattle.region.proofs.row.Row.add.Goals as goal

pub returns-then-ends_at : goal.returns-then-ends_at
returns-then-ends_at c =
    ap spans c.widen_last.ensures ∙ spans_widened c.args.left c.args.right (listed c.args.self.now.runs) (sym c.if-ends_at.ensures)

pub push-requires : goal.push-requires
push-requires c = (omega arith, runs_room c.args.left (listed c.args.self.now.runs) c.requires (sym c.if-ends_at.ensures))

pub returns-else-ends_at : goal.returns-else-ends_at
returns-else-ends_at c = ap spans c.push.ensures ∙ spans_pushed c.args.left c.args.right (listed c.args.self.now.runs) _ (sym c.if-ends_at.ensures) refl
