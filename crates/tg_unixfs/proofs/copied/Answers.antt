use Rattle.std.proofs.Common.{refl}
use Rattle.tg_unixfs.proofs.copied.Goals as goal

pub returns-clause-data : goal.returns-clause-data
returns-clause-data c = λ sizes between. rw (c.in_ok-copied_bytes.ensures.copy, c.in_ok-sizes_of.ensures.sizes sizes between) refl
