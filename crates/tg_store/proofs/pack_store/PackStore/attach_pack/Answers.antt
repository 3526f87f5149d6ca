use Rattle.tg_files.specs.Packs.{pack_step}
use Rattle.tg_store.proofs.Scanning.{given_none, given_one}
use Rattle.tg_store.proofs.pack_store.PackStore.attach_pack.Goals as goal

pub returns-in-Ok-clause-given : goal.returns-in-Ok-clause-given
returns-in-Ok-clause-given g c =
    given_none (g.P.Pack.pack.content c.args.pack) c.in-Ok.found.places.entries c.in-Ok.found.end c.one_cause.ensures.none c.in-Ok.ensures.found.1

pub returns-in-Err-clause-given : goal.returns-in-Err-clause-given
returns-in-Err-clause-given g c =
    given_one (pack_step g.P.Pack.pack c.args.pack c.scan.new.pack) c.in-Err.fault c.one_cause.ensures.one c.in-Err.ensures.found
