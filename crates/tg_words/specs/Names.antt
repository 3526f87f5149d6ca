-- The names of the commands.
use Rattle.std.specs.Prelude.{ℕ, List, codes}
use Rattle.tg_words.specs.declared.names.CommandName.{CommandName}
use Rattle.tg_words.specs.declared.names.CommandName.TheVariants.{Check, Node, Cid, Export, Import, Verify, Serve, Fetch, Mirror, Swarm, Audit, Help, Version}

abbrev pub name_text : CommandName → List ℕ
name_text Check = codes "check"
name_text Node = codes "node"
name_text Cid = codes "cid"
name_text Export = codes "export"
name_text Import = codes "import"
name_text Verify = codes "verify"
name_text Serve = codes "serve"
name_text Fetch = codes "fetch"
name_text Mirror = codes "mirror"
name_text Swarm = codes "swarm"
name_text Audit = codes "audit"
name_text Help = codes "help"
name_text Version = codes "version"
