use Rattle.tg_heard.proofs.BodyPieces.{body_piece_laws}
use Rattle.tg_heard.proofs.bodies_go_on.Goals as goal

pub returns : goal.returns
returns c = body_piece_laws c.body_laws.ensures
