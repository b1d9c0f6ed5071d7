use Rattle.std.proofs.Common.{◌++◌, length, take}
use Rattle.std.specs.Fmt.{HasWritten, IsPlainFormatter}
use Rattle.std.specs.List.{flat_map}
use Rattle.notation.specs.Decimal.{decimal}
use Rattle.session.specs.Boxes.{box_words}
use Rattle.session.proofs.regions.BoxesTextDisplay.fmt.Given as goal

-- the boxes so far are written
abbrev pub invariant-loop-cells : goal.invariant-loop-cells
invariant-loop-cells g l =
    IsPlainFormatter l.fn.f → HasWritten g.W.Write.write_str_gives l.fn.f (decimal (length l.cells-items) ++ flat_map box_words (take l.cells-index l.cells-items)) l.f
