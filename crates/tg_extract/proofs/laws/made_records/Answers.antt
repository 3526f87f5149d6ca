use Rattle.tg_extract.proofs.Stages.{file_is_made, front_is_made, whole_is_made}
use Rattle.tg_extract.proofs.laws.made_records.Goals as goal

pub returns-clause-whole : goal.returns-clause-whole
returns-clause-whole c = whole_is_made c.read_back.ensures.whole

pub returns-clause-front : goal.returns-clause-front
returns-clause-front c = front_is_made c.decoded.ensures.plain c.read_back.ensures.lines c.read_back.ensures.contents c.read_back.ensures.links

pub returns-clause-file : goal.returns-clause-file
returns-clause-file c = file_is_made
