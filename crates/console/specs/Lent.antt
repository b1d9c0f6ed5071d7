-- What is left when a region is lent by its name.
use Rattle.std.specs.Borrow.{Lends, MutBor, Fml}
use Rattle.command.specs.declared.regions.Name.{Name}
use Rattle.region.specs.declared.regions.Region.{Region}
use Rattle.region.specs.contracts.regions.Region.{the_row as region_row}
use Rattle.console.specs.declared.regions.Regions.{Regions}
use Rattle.console.specs.contracts.regions.Regions.{the_row}
use Rattle.console.specs.Kept.{replaced}

-- the region of that name is replaced by what is left behind the reference, and the other stays
abbrev pub LendsNamed : MutBor Regions → Name → MutBor Region → Fml
LendsNamed regions name region = Lends the_row region_row regions region (λ r. replaced name r regions.now)
