use Rattle.tg_model.proofs.PlacedAnswers.{file_is}
use Rattle.tg_model.proofs.reading.file_of.Goals as goal

pub returns : goal.returns
returns c = λ kind stands. file_is c.args.block.now c.args.places kind c.in_ok-inline.inline c.in_ok-parts.parts stands c.in_ok-inline.ensures c.in_ok-parts.ensures
