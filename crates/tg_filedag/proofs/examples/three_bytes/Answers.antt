use Rattle.std.proofs.Common.{[], ◌∷◌}
use Rattle.tg_filedag.specs.Chunks.{clears, feeds}
use Rattle.tg_filedag.proofs.examples.three_bytes.Goals as goal

pub returns : goal.returns
returns c = λ state is. rw is (c.kept_bytes.ensures (record { size = 2; bytes = [] }) (feeds (1 ∷ 2 ∷ 3 ∷ []) ∷ clears ∷ feeds (3 ∷ []) ∷ []))
