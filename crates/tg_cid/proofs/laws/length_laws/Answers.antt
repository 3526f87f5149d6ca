use Rattle.tg_cid.proofs.Heads.{some_cid}
use Rattle.tg_cid.proofs.Lengths.{name_bytes, name_some, name_most}
use Rattle.tg_cid.proofs.laws.length_laws.Goals as goal

pub returns : goal.returns
returns c =
    let laws = c.spelling_laws.ensures in
    record { are_bytes = name_bytes; some = name_some; most = name_most laws; one = some_cid laws }
