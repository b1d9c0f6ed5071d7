use Rattle.command.proofs.Reading.{missing}
use Rattle.command.proofs.Shorts.{no_fourth, no_second, no_third}
use Rattle.command.proofs.regions.rect_of.Goals as goal

pub returns-in_err-y : goal.returns-in_err-y
returns-in_err-y c =
    missing _ _ _ c.from_residual-in_err-y.ensures
    (no_second c.args.text.now c.in_ok-x.rest.now c.in_ok-x.x c.in_ok-x.ensures c.in_err-y.ensures)

pub returns-in_err-w : goal.returns-in_err-w
returns-in_err-w c =
    missing _ _ _ c.from_residual-in_err-w.ensures
    (no_third c.args.text.now c.in_ok-x.rest.now c.in_ok-y.rest.now c.in_ok-x.x c.in_ok-y.y c.in_ok-x.ensures c.in_ok-y.ensures c.in_err-w.ensures)

pub returns-in_err-h : goal.returns-in_err-h
returns-in_err-h c =
    missing _ _ _ c.from_residual-in_err-h.ensures
    (no_fourth c.args.text.now c.in_ok-x.rest.now c.in_ok-y.rest.now c.in_ok-w.rest.now c.in_ok-x.x c.in_ok-y.y c.in_ok-w.w
    c.in_ok-x.ensures c.in_ok-y.ensures c.in_ok-w.ensures c.in_err-h.ensures)
