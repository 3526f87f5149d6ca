use Rattle.std.proofs.Common.{false, ◌≡◌, length}
use Rattle.tg_traversal.specs.Left.{tasks_left}
use Rattle.tg_model_laws.specs.Tasks.{entries_now, tasks_then}
use Rattle.tg_walk.proofs.walk.next_met.Given as goal

-- only texts and entries were passed over
abbrev pub invariant-loop-frames : goal.invariant-loop-frames
invariant-loop-frames l = record {
  query : l.frames.query ≡ l.fn.frames.query;
  same : tasks_then (tasks_left l.frames) ≡ tasks_then (tasks_left l.fn.frames);
  unmet : l.met ≡ false → entries_now (tasks_left l.frames) ≡ entries_now (tasks_left l.fn.frames);
}

abbrev pub decreases-loop-frames : goal.decreases-loop-frames
decreases-loop-frames l = length (tasks_left l.frames)
