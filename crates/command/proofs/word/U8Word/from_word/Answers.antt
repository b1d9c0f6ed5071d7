use Rattle.std.proofs.Common.{rules, lit<}
use Rattle.command.proofs.Reading.{missing, narrow, not_below}
use Rattle.command.proofs.word.U8Word.from_word.Goals as goal

pub returns-in_err-parse_number : goal.returns-in_err-parse_number
returns-in_err-parse_number c = missing _ _ _ c.from_residual.ensures (not_below 256 c.args.text.now c.in_err-parse_number.ensures)

pub returns : goal.returns
returns c = search (rules, narrow 256 (lit< tt) c.args.text.now c.in_ok-parse_number.field-0 c.try_from.result c.in_ok-parse_number.ensures c.try_from.ensures)
