use Rattle.std.proofs.Common.{codes, rules, arith, IfOk}
use Rattle.command.specs.Grammar.{Spells}
use Rattle.notation.specs.Reads.{Reads}
use Rattle.command.proofs.Reading.{by_word, lone_only, no_form}
use Rattle.command.proofs.parse.Goals as goal

pub returns-in_default-clause-value : goal.returns-in_default-clause-value
returns-in_default-clause-value c = lone_only c.lone.result c.args.text.now c.in_default.ensures c.lone.ensures

pub returns-in-line-clause-value : goal.returns-in-line-clause-value
returns-in-line-clause-value c =
    by_word (Reads Spells c.line.result) (codes "line") c.args.text.now c.in-Some.word.now c.in-Some.rest.now (omega arith) (search rules) c.in-Some.ensures.1 c.line.ensures

pub returns-in-read-clause-value : goal.returns-in-read-clause-value
returns-in-read-clause-value c =
    by_word (Reads Spells c.read.result) (codes "read") c.args.text.now c.in-Some.word.now c.in-Some.rest.now (omega arith) (search rules) c.in-Some.ensures.1 c.read.ensures

pub returns-in-pixel-clause-value : goal.returns-in-pixel-clause-value
returns-in-pixel-clause-value c =
    by_word (Reads Spells c.pixel.result) (codes "pixel") c.args.text.now c.in-Some.word.now c.in-Some.rest.now (omega arith) (search rules) c.in-Some.ensures.1 c.pixel.ensures

pub returns-in-format-clause-value : goal.returns-in-format-clause-value
returns-in-format-clause-value c =
    by_word (λ t. IfOk c.recognize.result (λ o. Reads Spells o t)) (codes "format") c.args.text.now c.in-Some.word.now c.in-Some.rest.now (omega arith) (search rules) c.in-Some.ensures.1 c.recognize.ensures

pub returns-in_ok-parse_hex-in-write-clause-value : goal.returns-in_ok-parse_hex-in-write-clause-value
returns-in_ok-parse_hex-in-write-clause-value c =
    by_word (Reads Spells c.map.result) (codes "write") c.args.text.now c.in-Some.word.now c.in-Some.rest.now (omega arith) (search rules) c.in-Some.ensures.1 (search rules)

pub returns-in_ok-parse_hex-in-carry-clause-value : goal.returns-in_ok-parse_hex-in-carry-clause-value
returns-in_ok-parse_hex-in-carry-clause-value c =
    by_word (Reads Spells c.map-in-carry.result) (codes "carry") c.args.text.now c.in-Some.word.now c.in-Some.rest.now (omega arith) (search rules) c.in-Some.ensures.1 (search rules)

pub returns-in-describe-clause-value : goal.returns-in-describe-clause-value
returns-in-describe-clause-value c =
    by_word (Reads Spells c.map-in-describe.result) (codes "describe") c.args.text.now c.in-Some.word.now c.in-Some.rest.now (omega arith) (search rules) c.in-Some.ensures.1 (search rules)

pub returns-in_default-word-clause-value : goal.returns-in_default-word-clause-value
returns-in_default-word-clause-value c =
    no_form c.args.text.now c.in-Some.word.now c.in-Some.rest.now c.in-Some.ensures.0 c.in-Some.ensures.1
    (λ e. search rules) (λ e. search rules) (λ e. search rules) (λ e. search rules) (λ e. search rules) (λ e. search rules) (λ e. search rules)
