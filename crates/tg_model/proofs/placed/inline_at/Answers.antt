use Rattle.tg_model.proofs.PlacedAnswers.{inline_lies}
use Rattle.tg_model.proofs.placed.inline_at.Goals as goal

pub returns-in-Some : goal.returns-in-Some
returns-in-Some c = inline_lies c.place_laws.ensures c.args.block.now c.args.places c.in-Some.inline c.requires c.in-Some.is
