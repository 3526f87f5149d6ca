use Rattle.std.proofs.Common.{refl}
use Rattle.tg_store.specs.Attaching.{unfinished_header}
use Rattle.tg_store.proofs.Headers.{created_header, created_indexed, unfinished_text}
use Rattle.tg_store.proofs.Keeping.{none_small}
use Rattle.tg_store.proofs.pack_store.PackStore.create.Goals as goal

pub invariant_of-result : goal.invariant_of-result
invariant_of-result g c = (
  none_small c.new.result.entries c.new.ensures.empty,
  created_indexed c.spelling_laws.ensures (g.P.Pack.pack.content c.args.pack) (g.P.Pack.pack.content c.append.new.self) c.new.result.entries c.requires c.in-Ok.ensures.did.content c.new.ensures.empty,
)

pub returns-clause-created : goal.returns-clause-created
returns-clause-created g c = record {
  header = unfinished_header;
  text = unfinished_text c.spelling_laws.ensures;
  did = c.in-Ok.ensures.did;
  quiet = c.in-Ok.ensures.quiet;
  new = record {
    fresh = refl;
    places = c.new.ensures.empty;
    header = created_header c.spelling_laws.ensures (g.P.Pack.pack.content c.args.pack) (g.P.Pack.pack.content c.append.new.self) c.requires c.in-Ok.ensures.did.content;
  };
}
