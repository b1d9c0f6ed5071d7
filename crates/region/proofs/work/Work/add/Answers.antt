use Rattle.std.proofs.Common.{◌∙◌}
use Rattle.region.proofs.Holding.{stretched_some}
use Rattle.region.proofs.work.Work.add.Goals as goal

pub returns : goal.returns
returns c =
    let put = c.put.ensures in
    let first = c.in-Some-Some.ensures.item in
    let last = c.in-Some-Some.ensures'.item in
    record {
      adds = put.adds;
      hull = stretched_some c.args.top c.args.bottom c.args.runs.now c.args.self.now.hull c.put.new.self.hull _ _ first.3.0 first.1 last.1
          (put.hull ∙ c.hull_of-self.ensures);
    }
