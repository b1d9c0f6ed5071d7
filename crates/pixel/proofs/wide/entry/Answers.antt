use Rattle.pixel.proofs.Tables.{entry_widened}
use Rattle.pixel.proofs.wide.entry.Goals as goal

pub returns : goal.returns
returns c = entry_widened c.args.table.now c.args.native c.requires.0 c.requires.1
