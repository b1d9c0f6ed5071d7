-- Which text says what is done to a region.
use Rattle.std.specs.Prelude.{◌≡◌, ℕ, ◌<◌, List, ◌++◌, codes}
use Rattle.notation.specs.Decimal.{SpellsBelow, decimal}
use Rattle.screen.specs.declared.rect.Rect.{Rect}
use Rattle.command.specs.Spaces.{spaced}
use Rattle.command.specs.declared.regions.Change.{Change}
use Rattle.command.specs.declared.regions.Change.TheVariants.{Empty, ByRect, ByRegion}
use Rattle.command.specs.declared.regions.RegionCommand.{RegionCommand}
use Rattle.command.specs.declared.regions.Name.{Name}
use Rattle.command.specs.declared.regions.Name.TheVariants.{A, B}
use Rattle.region.specs.declared.operation.Operation.{Operation}
use Rattle.region.specs.declared.operation.Operation.TheVariants.{Join, Cut, Away}

abbrev pub name_word : Name → List ℕ
name_word A = codes "a"
name_word B = codes "b"

abbrev pub operation_word : Operation → List ℕ
operation_word Join = codes "join"
operation_word Cut = codes "cut"
operation_word Away = codes "away"

-- the text is a short number, one of sixteen bits
abbrev pub SpellsShort : ℕ → List ℕ → Type 0
SpellsShort n text = SpellsBelow 65536 n text

-- each of a rectangle's numbers is short
abbrev pub AllShort : Rect → Type 0
AllShort rect = (rect.x < 65536) × (rect.y < 65536) × (rect.w < 65536) × (rect.h < 65536)

-- a rectangle's four numbers
abbrev pub rect_text : Rect → List ℕ
rect_text rect =
    spaced (decimal rect.x) (spaced (decimal rect.y) (spaced (decimal rect.w) (decimal rect.h)))

abbrev pub SpellsRect : Rect → List ℕ → Type 0
SpellsRect rect text = AllShort rect × (text ≡ rect_text rect)

abbrev pub SpellsChange : Change → List ℕ → Type 0
SpellsChange Empty text = text ≡ codes "empty"
SpellsChange (ByRect operation rect) text =
    AllShort rect × (text ≡ spaced (operation_word operation) (rect_text rect))
SpellsChange (ByRegion operation name) text =
    text ≡ spaced (operation_word operation) (name_word name)

-- the text asks something of a region, and `rest` says what
abbrev pub OfRegion : Name → List ℕ → List ℕ → Type 0
OfRegion name rest text = text ≡ codes "region " ++ spaced (name_word name) rest

-- the text asks for this change of the region of that name
abbrev pub SpellsRegion : Name → Change → List ℕ → Type 0
SpellsRegion name change text = (rest : List ℕ) × OfRegion name rest text × SpellsChange change rest

abbrev pub SpellsRegionCommand : RegionCommand → List ℕ → Type 0
SpellsRegionCommand c text = SpellsRegion c.name c.change text
