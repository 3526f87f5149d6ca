use Rattle.tg_query.proofs.SpanTexts.{span_fault, span_law}
use Rattle.tg_query.proofs.path_laws.spans_read.Goals as goal

pub returns-clause-span : goal.returns-clause-span
returns-clause-span c = span_law

pub returns-clause-fault : goal.returns-clause-fault
returns-clause-fault c = span_fault
