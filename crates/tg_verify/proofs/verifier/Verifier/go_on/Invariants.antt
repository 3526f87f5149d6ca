use Rattle.tg_traversal.specs.BlocksLeft.{blocks_over}
use Rattle.tg_traversal.specs.Left.{tasks_left}
use Rattle.tg_verify.proofs.Turns.{HasTurnedOn}
use Rattle.tg_verify.proofs.verifier.Verifier.go_on.Given as goal

-- the verifier went on, and no limit changed
abbrev pub invariant-loop-progress : goal.invariant-loop-progress
invariant-loop-progress g l = HasTurnedOn g.S.Sink.sink l.fn.self l.self l.fn.out l.out

abbrev pub decreases-loop-progress : goal.decreases-loop-progress
decreases-loop-progress g l = blocks_over l.self.limits.depth (tasks_left l.self.left)
