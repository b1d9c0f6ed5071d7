use Rattle.std.proofs.Common.{length, ◌∙◌, rules, tests}
use Rattle.std.proofs.lemmas.Bool.{ne_eqb}
use Rattle.std.proofs.lemmas.Iterator.{YieldsList-from_slice, YieldsList-from_zip}
use Rattle.std.proofs.lemmas.Iterator.Search.{all_from_yields_List}
use Rattle.region.specs.Works.{same_run}
use Rattle.region.proofs.Edges.{edges_lengths, edges_zipped}
use Rattle.region.proofs.drawn.methods.same_edges.Goals as goal

pub returns-then-band-runs : goal.returns-then-band-runs
returns-then-band-runs c =
    let ps = c.args.band.now in
    let qs = c.args.runs.now in
    all_from_yields_List (λ p. same_run p.0 p.1) c.all.new.self _ _ c.all.ensures.ran (YieldsList-from_zip (YieldsList-from_slice ps cc) (YieldsList-from_slice qs cc))
    (λ x b q k. search (rules, tests))
    ∙ edges_zipped ps qs c.if-band-runs.true

pub returns-else-band-runs : goal.returns-else-band-runs
returns-else-band-runs c =
    ne_eqb (length c.args.band.now) (length c.args.runs.now) c.if-band-runs.false
    ∙ edges_lengths c.args.band.now c.args.runs.now c.if-band-runs.false
