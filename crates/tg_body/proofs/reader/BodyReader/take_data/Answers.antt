use Rattle.tg_body.proofs.Steps.{data_steps}
use Rattle.tg_body.proofs.reader.BodyReader.take_data.Goals as goal

pub returns : goal.returns
returns c =
    data_steps c.args.self.now c.args.piece.now c.args.left c.min-taken.result c.given.result c.requires.stage c.requires.some c.min-taken.ensures c.given.ensures
