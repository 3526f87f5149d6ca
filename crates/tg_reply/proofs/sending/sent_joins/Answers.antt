use Rattle.tg_reply.specs.Shapes.{SentOver}
use Rattle.tg_reply.proofs.Joins.{closed_stays, joins}
use Rattle.tg_reply.proofs.sending.sent_joins.Goals as goal

pub returns-clause-joins : goal.returns-clause-joins
returns-clause-joins c = λ told fed piece rest behind sent more s open_is after. joins c.longer_bytes.ensures.request (SentOver told) fed piece rest behind sent more s open_is after

pub returns-clause-stays : goal.returns-clause-stays
returns-clause-stays c = λ told fed piece rest sent s closed. closed_stays c.longer_bytes.ensures.request (SentOver told) fed piece rest sent s closed
