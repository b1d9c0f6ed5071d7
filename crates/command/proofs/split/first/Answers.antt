use Rattle.command.proofs.Reading.{missing, no_first}
use Rattle.command.proofs.split.first.Goals as goal

pub returns-in_err-from_word : goal.returns-in_err-from_word
returns-in_err-from_word g c =
    let split = c.in_ok-word.ensures in
    missing _ _ _ c.from_residual-in_err-from_word.ensures
    (no_first g.W.Word.spells g.met.W.Word.unspaced c.args.text.now c.in_ok-word.word.now c.in_ok-word.rest.now split.0 split.1 c.in_err-from_word.ensures)
