-- The tables of nodes and of links.
use Rattle.std.proofs.Common.{refl}
use Rattle.tg_pbtable.specs.Message.{IsTable}
use Rattle.tg_pbtable.specs.Laws.{TableLaws}
use Rattle.tg_dagpb.specs.declared.TheConstants.{NODE, LINK}

pub node_table : (laws : TableLaws) → IsTable NODE.now
node_table laws = laws.messages.table NODE.now refl

pub link_table : (laws : TableLaws) → IsTable LINK.now
link_table laws = laws.messages.table LINK.now refl
