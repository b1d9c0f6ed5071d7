use Rattle.std.proofs.Common.{◌≡◌, take, refl, arith, rules, tests}
use Rattle.std.specs.Iterator.Adapters.{take_count}
use Rattle.std.proofs.lemmas.Iterator.{IsFirst-from_position, YieldsList-from_slice, YieldsList-from_take}
use Rattle.std.proofs.lemmas.Option.{MatchOption-at_none, MatchOption-at_some}
use Rattle.command.specs.Spaces.{longest}
use Rattle.command.proofs.Reading.{missing}
use Rattle.command.proofs.Splits.{FirstSpace, NoSpace, first_of, no_split, split}
use Rattle.command.proofs.split.split_word.Goals as goal
use Rattle.command.proofs.split.split_word.Goals.{After-position}

-- the first space that stands so near the beginning is found, if there is one
found : (c : After-position) → FirstSpace c.position.result (take (take_count c.take.result) c.args.text.now)
found c =
    IsFirst-from_position _ _ c.position.result (λ code. code ≡ 32) NoSpace c.position.ensures.ran
    (YieldsList-from_take (take_count c.take.result) (YieldsList-from_slice c.args.text.now cc) refl) (λ x q k. search (rules, tests)) (λ x q k. search (rules, tests))

pub returns-in_err-end : goal.returns-in_err-end
returns-in_err-end c =
    missing _ _ _ c.from_residual.ensures
    (no_split longest (take_count c.take.result) c.args.text.now (omega arith) (MatchOption-at_none _ _ c.in_err-end.was (found (goal.at.returns-in_err-end c).After-position)))

pub returns : goal.returns
returns c = split c.args.text.now c.in_ok-end.end (first_of (take_count c.take.result) c.args.text.now c.in_ok-end.end (MatchOption-at_some _ _ _ c.in_ok-end.was (found (goal.at.returns c).After-position)))
