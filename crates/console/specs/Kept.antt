-- The regions that the console keeps, by their names.
use Rattle.std.specs.Prelude.{◌≡◌, ℕ, Bool, []}
use Rattle.boxes.specs.Cells.{has, of_rect}
use Rattle.boxes.specs.Regions.{RegionOf}
use Rattle.command.specs.declared.regions.Change.{Change}
use Rattle.command.specs.declared.regions.Change.TheVariants.{Empty, ByRect, ByRegion}
use Rattle.command.specs.declared.regions.Name.{Name}
use Rattle.command.specs.declared.regions.Name.TheVariants.{A, B}
use Rattle.region.specs.declared.operation.Operation.{Operation}
use Rattle.region.specs.Held.{held}
use Rattle.region.specs.Sets.{keeps}
use Rattle.region.specs.declared.regions.Region.{Region}
use Rattle.console.specs.declared.regions.Regions.{Regions}

abbrev pub region_named : Name → Regions → Region
region_named A regions = regions.a
region_named B regions = regions.b

-- the region of that name is replaced, and the other stays
abbrev pub replaced : Name → Region → Regions → Regions
replaced A region regions = record { a = region; b = regions.b }
replaced B region regions = record { a = regions.a; b = region }

-- what an operation makes of two sets of cells
abbrev pub combined_cells : Operation → (ℕ → ℕ → Bool) → (ℕ → ℕ → Bool) → ℕ → ℕ → Bool
combined_cells operation c d x y = keeps operation (c x y) (d x y)

-- what a change makes of the region of that name
abbrev pub Changed : Change → Name → Regions → Region → Type 0
Changed Empty name regions r = held r ≡ []
Changed (ByRect operation rect) name regions r = RegionOf (combined_cells operation (has (held (region_named name regions))) (of_rect rect)) (held r)
Changed (ByRegion operation other) name regions r =
    RegionOf (combined_cells operation (has (held (region_named name regions))) (has (held (region_named other regions)))) (held r)
