-- The faults of paths, as those of texts.
use Rattle.tg_extract.specs.declared.fault.ExtractFault.{ExtractFault}
use Rattle.tg_extract.specs.declared.fault.ExtractFault.TheVariants as faults
use Rattle.tg_query.specs.declared.fault.QueryFault.{QueryFault}
use Rattle.tg_query.specs.declared.fault.QueryFault.TheVariants.{OutOfMemory}

abbrev pub of_query : QueryFault → ExtractFault
of_query OutOfMemory = faults.OutOfMemory
of_query other = faults.BadText
