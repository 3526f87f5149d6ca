use Rattle.tg_pbtable.proofs.ComputedFields.{fields_law, fault_law}
use Rattle.tg_pbtable.proofs.computed.computes.Goals as goal

pub returns-clause-fields : goal.returns-clause-fields
returns-clause-fields c = fields_law

pub returns-clause-fault : goal.returns-clause-fault
returns-clause-fault c = fault_law
