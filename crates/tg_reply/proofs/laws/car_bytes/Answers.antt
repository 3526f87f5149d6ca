use Rattle.tg_reply.proofs.CarTexts.{cars_in_parts}
use Rattle.tg_reply.proofs.laws.car_bytes.Goals as goal

pub returns : goal.returns
returns c =
    cars_in_parts (record { bytes = c.computes.ensures.bytes; lengths = c.length_laws.ensures; varints = c.spelling_laws.ensures })
