use Rattle.std.proofs.Common.{◌≡◌, ◌*◌, take}
use Rattle.notation.specs.Hex.{hex_pairs}
use Rattle.notation.proofs.hex_text.put_pairs.Given as goal

-- the digits of the bytes so far stand at the front
abbrev pub invariant-loop-i : goal.invariant-loop-i
invariant-loop-i l = take (2 * l.i) l.digits ≡ hex_pairs (take l.i l.bytes)
