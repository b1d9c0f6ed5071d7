use Rattle.std.proofs.Common.{eqb, rules, tests}
use Rattle.std.specs.Vec.{vec_len}
use Rattle.command.specs.declared.Command.TheVariants.{Recognize}
use Rattle.command.proofs.Reading.{described, kept}
use Rattle.command.proofs.recognize.Goals as goal

pub returns : goal.returns
returns c =
    described c.args.text.now c.in_ok-parse_hex.field-0 c.map.result c.in_ok-parse_hex.ensures
    (kept (λ v. eqb (vec_len v) 16) Recognize c.in_ok-parse_hex.field-0 c.filter-sixteen.result c.map.result c.filter-sixteen.ensures (λ v b k. search (rules, tests)) c.map.ensures.cases (λ v d k. search rules))
