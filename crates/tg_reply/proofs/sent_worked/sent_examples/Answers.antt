use Rattle.tg_reply.proofs.Worked.{as_stored, cut, plain, plain_cut_off, refused}
use Rattle.tg_reply.proofs.sent_worked.sent_examples.Goals as goal

pub returns-clause-as_stored : goal.returns-clause-as_stored
returns-clause-as_stored c = as_stored c.first_heads.ensures

pub returns-clause-refused : goal.returns-clause-refused
returns-clause-refused c = refused c.first_heads.ensures c.text_replies.ensures.store

pub returns-clause-cut : goal.returns-clause-cut
returns-clause-cut c = cut c.first_heads.ensures

pub returns-clause-plain : goal.returns-clause-plain
returns-clause-plain c = plain c.first_heads.ensures

pub returns-clause-plain_cut : goal.returns-clause-plain_cut
returns-clause-plain_cut c = plain_cut_off c.first_heads.ensures
