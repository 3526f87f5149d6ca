use Rattle.tg_unixfs.proofs.Same.{one_data}
use Rattle.tg_unixfs.proofs.laws.one_data.Goals as goal

pub returns : goal.returns
returns c = λ a b text p q. one_data c.table_laws.ensures text p.fields q.fields a b p.message q.message p.parts q.parts
