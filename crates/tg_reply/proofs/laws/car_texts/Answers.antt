use Rattle.tg_reply.proofs.OneCarText.{OneBelow, one_header, one_section}
use Rattle.tg_reply.proofs.laws.car_texts.Goals as goal

pub returns : goal.returns
returns c =
    let below : OneBelow = record { bytes = c.computes.ensures.bytes; cids = c.one_spelling.ensures; varints = c.spelling_laws.ensures } in
    record { header = one_header below; section = one_section below }
