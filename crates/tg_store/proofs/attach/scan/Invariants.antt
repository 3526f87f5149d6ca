-- the pack was read up to an offset, and nothing was done to it
use Rattle.std.proofs.Common.{◌<◌, length}
use Rattle.tg_files.specs.Packs.{PackQuiet, SameContent, pack_step}
use Rattle.tg_store.specs.Attaching.{IsReadTo}
use Rattle.tg_store.proofs.attach.scan.Given as goal

abbrev pub invariant-loop : goal.invariant-loop
invariant-loop g l = record {
  room : 0 < length l.buffer;
  same : SameContent (pack_step g.P.Pack.pack l.fn.pack l.pack);
  quiet : PackQuiet (pack_step g.P.Pack.pack l.fn.pack l.pack);
  read : IsReadTo l.indexing.reader l.indexing.found.places.entries (g.P.Pack.pack.content l.fn.pack) l.indexing.found.end;
}
