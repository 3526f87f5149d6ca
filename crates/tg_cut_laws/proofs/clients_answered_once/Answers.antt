use Rattle.tg_streams.specs.Streams.{into}
use Rattle.tg_cut_laws.proofs.Answering.{answered_once}
use Rattle.tg_cut_laws.proofs.clients_answered_once.Goals as goal

pub returns : goal.returns
returns g c old new before after = answered_once c.replies_answered_once.ensures (into g.S.Sink.sink old new) (into g.T.Sink.sink before after)
