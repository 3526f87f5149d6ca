use Rattle.tg_cid.specs.CodeLaws.{Names-prop}
use Rattle.tg_cid.proofs.ComputedCid.{digest_size}
use Rattle.tg_cid.proofs.laws.digest_laws.Goals as goal

pub returns-clause-size : goal.returns-clause-size
returns-clause-size c = λ cid bytes h. (digest_size cid bytes h).0

pub returns-clause-most : goal.returns-clause-most
returns-clause-most c = λ cid bytes h. (digest_size cid bytes h).1

pub returns-clause-one_name : goal.returns-clause-one_name
returns-clause-one_name c = λ cid block p q. Names-prop cid block p q
