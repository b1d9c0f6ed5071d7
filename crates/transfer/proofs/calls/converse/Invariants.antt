use Rattle.std.proofs.Common.{◌≡◌, ◌≤◌, map, length, take, vec_items, vec_len, vec_capacity}
use Rattle.transfer.specs.Runs.{Ran, act, reply}
use Rattle.transfer.proofs.calls.converse.Given as goal

-- the calls so far were made and answered
abbrev pub invariant-loop-call : goal.invariant-loop-call
invariant-loop-call g l =
    let state = g.L.Line.state in
    Ran (map act (take l.call-index l.calls)) (map reply (vec_items l.answers)) (state l.initial.line) (state l.line)
    × (vec_len l.answers ≡ l.call-index)
    × (length l.calls ≤ vec_capacity l.answers)
