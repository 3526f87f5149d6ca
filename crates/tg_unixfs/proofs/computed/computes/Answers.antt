use Rattle.tg_unixfs.proofs.ComputedUnix.{data_law, unix_fault_law}
use Rattle.tg_unixfs.proofs.computed.computes.Goals as goal

pub returns-clause-data : goal.returns-clause-data
returns-clause-data c = data_law c.table_laws.ensures

pub returns-clause-fault : goal.returns-clause-fault
returns-clause-fault c = unix_fault_law c.table_laws.ensures
