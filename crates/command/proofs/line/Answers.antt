use Rattle.std.proofs.Common.{◌≡◌, refl}
use Rattle.notation.specs.Decimal.{SpellsNumber, decimal, saturated}
use Rattle.command.specs.Grammar.{kind_word}
use Rattle.command.specs.Unspaced.{kind_unspaced}
use Rattle.command.proofs.Reading.{missing, no_line, no_rest}
use Rattle.command.proofs.line.Goals as goal

pub returns-in_err-parse_number : goal.returns-in_err-parse_number
returns-in_err-parse_number c =
    missing _ _ _ c.from_residual-in_err-parse_number.ensures
    (no_line c.args.text.now (λ kind n e.
    no_rest (λ kind text. text ≡ kind_word kind) SpellsNumber kind_unspaced c.args.text.now c.in_ok-kind.rest.now c.in_ok-kind.kind c.in_ok-kind.ensures
    c.in_err-parse_number.ensures kind (kind_word kind) (decimal n) refl e (saturated n) (n, refl, refl)))
