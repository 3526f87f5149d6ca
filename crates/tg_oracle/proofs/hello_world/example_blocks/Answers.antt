use Rattle.std.proofs.Common.{refl}
use Rattle.tg_cid.specs.Computed.{cid_of}
use Rattle.tg_dagpb.specs.Computed.{link_in, node_of}
use Rattle.tg_pbtable.specs.Computed.{fields_of}
use Rattle.tg_unixfs.specs.Computed.{unix_of}
use Rattle.tg_oracle.proofs.hello_world.example_blocks.Goals as goal

pub returns-clause-file : goal.returns-clause-file
unfolding cid_of fields_of link_in node_of unix_of
returns-clause-file c = refl

pub returns-clause-directory : goal.returns-clause-directory
unfolding cid_of fields_of link_in node_of unix_of
returns-clause-directory c = refl
