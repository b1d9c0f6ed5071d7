use Rattle.std.proofs.Common.{leb, rules, tests}
use Rattle.command.specs.Grammar.{read_limit}
use Rattle.command.specs.declared.Command.TheVariants.{Read}
use Rattle.command.proofs.Reading.{kept, read_limited}
use Rattle.command.proofs.read.Goals as goal

pub returns : goal.returns
returns c =
    read_limited c.args.text.now c.parse_number.result c.map.result c.parse_number.ensures
    (kept (λ n. leb n read_limit) Read c.parse_number.result c.filter.result c.map.result c.filter.ensures (λ n b k. search (rules, tests)) c.map.ensures.cases (λ n d k. search rules))
