use Rattle.tg_reply.proofs.Readings.{car_reads, raw_reads, refusals_read, refused_bytes_read}
use Rattle.tg_reply.proofs.laws.replies_read.Goals as goal

pub returns-clause-refusals : goal.returns-clause-refusals
returns-clause-refusals c = refusals_read

pub returns-clause-refused_bytes : goal.returns-clause-refused_bytes
returns-clause-refused_bytes c = refused_bytes_read

pub returns-clause-raw : goal.returns-clause-raw
returns-clause-raw c = raw_reads c.told_paths.ensures c.car_bytes.ensures

pub returns-clause-car : goal.returns-clause-car
returns-clause-car c = car_reads c.told_paths.ensures c.car_bytes.ensures
