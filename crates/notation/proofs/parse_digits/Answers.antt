use Rattle.std.proofs.Common.{arith}
use Rattle.std.proofs.lemmas.Bool.Decides.{when_false, when_true}
use Rattle.notation.proofs.Numbers.{no_digit, read_more}
use Rattle.notation.proofs.parse_digits.Goals as goal

pub returns-then-not-is_ascii_digit : goal.returns-then-not-is_ascii_digit
returns-then-not-is_ascii_digit c =
    no_digit c.args.text.now c.loop-code.code-index c.loop-code-test.true (when_false _ _ c.if-not-is_ascii_digit.true c.is_ascii_digit.ensures.cases)

pub loop-code-preserved : goal.loop-code-preserved
loop-code-preserved c =
    let digit = when_true _ _ c.if-not-is_ascii_digit.false c.is_ascii_digit.ensures.cases in
    read_more c.args.text.now c.loop-code.code-index c.loop-code.number c.saturating_mul.result c.saturating_add-number.result
    c.requires.leading c.loop-code-test.true digit.0 digit.1 c.saturating_mul.ensures (grind arith) c.loop-code.invariant
