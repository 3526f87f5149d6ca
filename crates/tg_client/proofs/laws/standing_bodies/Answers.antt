use Rattle.tg_client.proofs.Standing.{body_stands}
use Rattle.tg_client.proofs.laws.standing_bodies.Goals as goal

pub returns : goal.returns
returns c = body_stands c.verified_answers.ensures
