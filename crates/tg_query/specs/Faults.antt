-- A fault of a CID's text as a fault of a query. Want of memory stays so, and is never wrapped.
use Rattle.tg_cid.specs.declared.fault.CidFault.{CidFault}
use Rattle.tg_cid.specs.declared.fault.CidFault.TheVariants as cids
use Rattle.tg_query.specs.declared.fault.QueryFault.{QueryFault}
use Rattle.tg_query.specs.declared.fault.QueryFault.TheVariants.{BadCid, OutOfMemory}

abbrev pub query_fault_of : CidFault → QueryFault
query_fault_of cids.OutOfMemory = OutOfMemory
query_fault_of cids.BadText = BadCid cids.BadText
query_fault_of (cids.BadVersion number) = BadCid (cids.BadVersion number)
query_fault_of (cids.BadCodec number) = BadCid (cids.BadCodec number)
query_fault_of (cids.BadHash number) = BadCid (cids.BadHash number)
query_fault_of (cids.BadLength number) = BadCid (cids.BadLength number)
query_fault_of (cids.Trailing at) = BadCid (cids.Trailing at)
query_fault_of (cids.Short at) = BadCid (cids.Short at)
query_fault_of (cids.BadVarint at) = BadCid (cids.BadVarint at)
