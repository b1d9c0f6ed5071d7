use Rattle.std.proofs.Common.{arith, ◌≡◌, ◌*◌, length, take, ap, ◌∙◌}
use Rattle.std.proofs.lemmas.List.{take_all}
use Rattle.notation.specs.Hex.{hex_pairs}
use Rattle.notation.proofs.Pairs.{pairs_ascii, put_pair}
use Rattle.notation.proofs.hex_text.put_pairs.Goals as goal

pub loop-i-preserved : goal.loop-i-preserved
loop-i-preserved c =
    put_pair c.args.bytes.now c.loop-i.digits c.loop-i.i _ _
    (omega arith) (omega arith) c.digit.ensures.value c.digit-in-loop-i.ensures.value c.loop-i.invariant

pub returns : goal.returns
returns c =
    let all : c.loop-i.i ≡ length c.args.bytes.now = omega arith in
    let pairs : take (2 * length c.args.bytes.now) c.loop-i.digits ≡ hex_pairs c.args.bytes.now
    = rw all at (c.loop-i.invariant ∙ ap hex_pairs (take_all c.loop-i.i c.args.bytes.now c.loop-i-test.false)) in
    record { pairs = pairs; ascii = rw pairs (pairs_ascii c.args.bytes.now (λ i. omega (arith, c.type_inv.bytes i))) }
