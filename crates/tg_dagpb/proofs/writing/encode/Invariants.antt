use Rattle.std.proofs.Common.{take}
use Rattle.tg_dagpb.proofs.Encoding.{HasLinks}
use Rattle.tg_dagpb.proofs.writing.encode.Given as goal

abbrev pub invariant-loop-link : goal.invariant-loop-link
invariant-loop-link l = HasLinks (take l.link-index l.link-items) l.text.items
