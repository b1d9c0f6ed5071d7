-- That a text asks for one change of a region at most, and then spells no command.
use Rattle.std.specs.Prelude.{◌≡◌, ℕ, List}
use Rattle.command.specs.Changes.{SpellsRegion}
use Rattle.command.specs.Grammar.{Spells}
use Rattle.command.specs.declared.Command.{Command}
use Rattle.command.specs.declared.regions.Change.{Change}
use Rattle.command.specs.declared.regions.Name.{Name}

pub record RegionAlone : Type 0 where
  pub name :
      (n m : Name) (c d : Change) (text : List ℕ) → SpellsRegion n c text → SpellsRegion m d text
      → n ≡ m
  pub change :
      (n m : Name) (c d : Change) (text : List ℕ) → SpellsRegion n c text → SpellsRegion m d text
      → c ≡ d
  pub command :
      (n : Name) (c : Change) (d : Command) (text : List ℕ) → SpellsRegion n c text
      → Spells d text → ⊥
