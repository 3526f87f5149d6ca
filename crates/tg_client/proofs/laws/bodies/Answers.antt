use Rattle.tg_client.proofs.Bodies.{body_laws}
use Rattle.tg_client.proofs.laws.bodies.Goals as goal

pub returns : goal.returns
returns c = body_laws c.car_laws.ensures c.received_sections.ensures c.verified_sections.ensures c.verified_answers.ensures c.one_fit.ensures.fits
