use Rattle.std.proofs.Common.{refl}
use Rattle.tg_dagpb.proofs.reading.copied.Goals as goal

pub returns-clause-node : goal.returns-clause-node
returns-clause-node c = λ links between. rw (c.in_ok-copied_links.ensures.links links between, c.in_ok-copied_bytes.ensures.copy) refl
