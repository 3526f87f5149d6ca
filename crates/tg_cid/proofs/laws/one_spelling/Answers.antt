-- Each law is a lemma over plain lists.
use Rattle.tg_cid.proofs.Unique.{no_front, one_bytes, one_text, one_cid}
use Rattle.tg_cid.proofs.laws.one_spelling.Goals as goal

pub returns : goal.returns
returns c =
    let laws = c.spelling_laws.ensures in
    let texts = c.text_laws.ensures in
    record { no_front = no_front laws; one_bytes = one_bytes laws; one_text = one_text laws texts; one_cid = one_cid laws texts }
