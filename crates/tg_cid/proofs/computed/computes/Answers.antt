use Rattle.tg_cid.proofs.ComputedCid.{cid_law, bytes_law, text_law_of}
use Rattle.tg_cid.proofs.computed.computes.Goals as goal

pub returns-clause-cid : goal.returns-clause-cid
returns-clause-cid c = cid_law c.spelling_laws.ensures

pub returns-clause-bytes : goal.returns-clause-bytes
returns-clause-bytes c = bytes_law c.spelling_laws.ensures

pub returns-clause-text : goal.returns-clause-text
returns-clause-text c = text_law_of c.spelling_laws.ensures c.text_laws.ensures
