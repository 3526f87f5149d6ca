-- The tables of UnixFS data and of a modification time.
use Rattle.std.proofs.Common.{refl}
use Rattle.tg_pbtable.specs.Message.{IsTable}
use Rattle.tg_pbtable.specs.Laws.{TableLaws}
use Rattle.tg_unixfs.specs.declared.TheConstants.{DATA, TIME}

pub data_table : (laws : TableLaws) → IsTable DATA.now
data_table laws = laws.messages.table DATA.now refl

pub time_table : (laws : TableLaws) → IsTable TIME.now
time_table laws = laws.messages.table TIME.now refl
