use Rattle.std.proofs.Common.{rules, arith}
use Rattle.notation.proofs.Numbers.{leading_zero}
use Rattle.notation.proofs.parse_number.Goals as goal

pub returns-in-48 : goal.returns-in-48
returns-in-48 c = search (rules, leading_zero c.args.text.now c.in-48.len_at_least (omega arith))
