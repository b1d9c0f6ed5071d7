-- The boxes of a region.
use Rattle.std.specs.Prelude.{List}
use Rattle.boxes.specs.declared.cell_box.CellBox.{CellBox}
use Rattle.boxes.specs.Cells.{SameCells, has, of_rect}
use Rattle.boxes.specs.Regions.{RegionOf}
use Rattle.screen.specs.declared.rect.Rect.{Rect}
use Rattle.region.specs.Listed.{listed}
use Rattle.region.specs.declared.regions.Region.{Region}

abbrev pub held : Region → List CellBox
held r = listed r.boxes

-- a rectangle's cells on the largest screen as a region
pub record AsRegion (rect : Rect) (r : Region) : Type 0 where
  pub region : RegionOf (of_rect rect) (held r)
  pub exact : SameCells (has (held r)) (of_rect rect)
