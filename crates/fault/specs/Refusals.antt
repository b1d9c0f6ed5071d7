-- The number of each refusal.
use Rattle.std.specs.Prelude.{ℕ}
use Rattle.fault.specs.declared.Refusal.{Refusal}
use Rattle.fault.specs.declared.Refusal.TheVariants.{Size, Memory, Block, Source, Waiting}

abbrev pub number_of : Refusal → ℕ
number_of Size = 1
number_of Memory = 2
number_of Block = 3
number_of Source = 4
number_of Waiting = 7
