-- What is answered for the head of a request.
use Rattle.std.specs.Prelude.{Err, Ok, Result, ⊤, ◌≡◌}
use Rattle.tg_model.specs.Queries.{QueryParts}
use Rattle.tg_query.specs.declared.fault.QueryFault.{QueryFault}
use Rattle.tg_query.specs.declared.fault.QueryFault.TheVariants as faults
use Rattle.tg_reply.specs.declared.refusal.Refusal.{Refusal}
use Rattle.tg_reply.specs.declared.refusal.Refusal.TheVariants.{Query}
use Rattle.tg_reply_writing.specs.declared.asking.AskFault.{AskFault}
use Rattle.tg_reply_writing.specs.declared.asking.AskFault.TheVariants.{OutOfMemory, Refused}

-- a fault of a query as one of a request: want of memory is no refusal
abbrev pub ask_fault_of : QueryFault → AskFault
ask_fault_of faults.BadPath = Refused (Query faults.BadPath)
ask_fault_of (faults.BadCid fault) = Refused (Query (faults.BadCid fault))
ask_fault_of faults.NoFormat = Refused (Query faults.NoFormat)
ask_fault_of faults.BadFormat = Refused (Query faults.BadFormat)
ask_fault_of faults.BadScope = Refused (Query faults.BadScope)
ask_fault_of faults.BadRange = Refused (Query faults.BadRange)
ask_fault_of faults.Doubled = Refused (Query faults.Doubled)
ask_fault_of faults.BadParam = Refused (Query faults.BadParam)
ask_fault_of faults.RawPath = Refused (Query faults.RawPath)
ask_fault_of faults.OutOfMemory = OutOfMemory

-- the answer is the query or the refusal that is expected, or memory was wanted
abbrev pub IsAskedAs : Result QueryParts Refusal → Result QueryParts AskFault → Type 0
IsAskedAs expected (Ok q) = expected ≡ Ok q
IsAskedAs expected (Err (Refused refusal)) = expected ≡ Err refusal
IsAskedAs expected (Err OutOfMemory) = ⊤
