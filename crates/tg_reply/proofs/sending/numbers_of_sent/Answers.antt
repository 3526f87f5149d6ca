use Rattle.tg_reply.proofs.SentNumbers.{broken, broken_few, counted, few, uncounted}
use Rattle.tg_reply.proofs.sending.numbers_of_sent.Goals as goal

pub returns-clause-few : goal.returns-clause-few
returns-clause-few c = few

pub returns-clause-broken : goal.returns-clause-broken
returns-clause-broken c = broken

pub returns-clause-broken_few : goal.returns-clause-broken_few
returns-clause-broken_few c = broken_few

pub returns-clause-counted : goal.returns-clause-counted
returns-clause-counted c = counted

pub returns-clause-uncounted : goal.returns-clause-uncounted
returns-clause-uncounted c = uncounted
