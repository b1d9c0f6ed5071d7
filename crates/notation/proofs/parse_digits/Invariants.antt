use Rattle.notation.proofs.Numbers.{Read}
use Rattle.notation.proofs.parse_digits.Given as goal

abbrev pub invariant-loop-code : goal.invariant-loop-code
invariant-loop-code l = Read l.text l.code-index l.number
