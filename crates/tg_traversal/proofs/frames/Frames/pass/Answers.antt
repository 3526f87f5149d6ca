use Rattle.std.proofs.Common.{None, ap, refl, ◌++◌}
use Rattle.tg_traversal.specs.Left.{LeftState, missed_tasks}
use Rattle.tg_traversal.proofs.FewerBlocks.{fewer_passed}
use Rattle.tg_traversal.proofs.frames.Frames.pass.Goals as goal

pub returns-clause-fewer : goal.returns-clause-fewer
returns-clause-fewer c =
    fewer_passed c.args.self.now (record { query = c.self.inside.query; wanted = None; later = missed_tasks c.self.inside.missed ++ c.self.inside.stack }) refl
    (ap (λ (state : LeftState). state.later) c.self.view_is)
