use Rattle.std.proofs.Common.{vec_items, rules}
use Rattle.notation.proofs.Pairs.{no_odd, no_pair, read_pair, read_pairs}
use Rattle.notation.proofs.parse_pairs.Goals as goal

pub returns-then-text-ne0 : goal.returns-then-text-ne0
returns-then-text-ne0 c = λ bs _ e. no_odd c.args.text.now bs c.if-text-ne0.true e

pub returns-in_default-byte : goal.returns-in_default-byte
returns-in_default-byte c = no_pair c.args.text.now (vec_items c.loop-rest.bytes) c.loop-rest.rest.now c.in-len2-up.len_at_least c.loop-rest.invariant.1 c.in_default-byte.ensures

pub loop-rest-preserved : goal.loop-rest-preserved
loop-rest-preserved c =
    read_pair c.args.text.now (vec_items c.loop-rest.bytes) c.loop-rest.rest.now _ c.in-Some.b
    c.in-len2-up.len_at_least c.loop-rest.invariant c.in-Some.ensures c.in_ok-push.ensures.items

pub returns : goal.returns
returns c = search (rules, read_pairs c.args.text.now c.loop-rest.rest.now c.loop-rest.bytes c.in_default.len_below c.loop-rest.invariant)
