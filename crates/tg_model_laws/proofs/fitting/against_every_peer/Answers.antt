use Rattle.tg_model_laws.proofs.AgainstPeers.{absent_or_pair, answer_or_pair, counted_or_pair, front_or_pair, not_folder_or_pair}
use Rattle.tg_model_laws.proofs.PartialLaws.{all_or_pair, written_or_pair}
use Rattle.tg_model_laws.proofs.fitting.against_every_peer.Goals as goal

pub returns-clause-accepted : goal.returns-clause-accepted
returns-clause-accepted c = answer_or_pair c.readings.ensures.one_kind

pub returns-clause-written : goal.returns-clause-written
returns-clause-written c = written_or_pair c.readings.ensures.one_kind

pub returns-clause-meanwhile : goal.returns-clause-meanwhile
returns-clause-meanwhile c = front_or_pair c.readings.ensures.one_kind

pub returns-clause-everything : goal.returns-clause-everything
returns-clause-everything c = all_or_pair c.readings.ensures.one_kind

pub returns-clause-absent : goal.returns-clause-absent
returns-clause-absent c = absent_or_pair c.readings.ensures.one_kind

pub returns-clause-not_folder : goal.returns-clause-not_folder
returns-clause-not_folder c = not_folder_or_pair c.readings.ensures.one_kind

pub returns-clause-counted : goal.returns-clause-counted
returns-clause-counted c = counted_or_pair c.readings.ensures.one_kind
