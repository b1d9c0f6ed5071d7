use Rattle.std.proofs.Common.{arith}
use Rattle.std.proofs.lemmas.Result.{MatchResult-from_err}
use Rattle.transfer.proofs.Conserves.{conserved, ran_only, ran_all}
use Rattle.transfer.proofs.calls.converse.Goals as goal

pub returns-in_err-answer-clause-ran : goal.returns-in_err-answer-clause-ran
returns-in_err-answer-clause-ran g c =
    let failed = c.from_residual-in_err-answer in
    MatchResult-from_err failed.result _ _ failed.ensures.0 (λ _. ran_only c.args.calls.now _ c.loop-call.call-index _ _ _ (omega arith) c.loop-call.invariant.0 c.in_err-answer.ensures)

pub returns-clause-conserved : goal.returns-clause-conserved
returns-clause-conserved g c = conserved _ _ _ _ (ran_all c.args.calls.now _ c.loop-call.call-index _ _ (omega arith) c.loop-call.invariant.0)
