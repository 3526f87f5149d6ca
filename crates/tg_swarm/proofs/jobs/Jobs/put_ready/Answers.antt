use Rattle.std.proofs.Common.{ap, min, ◌+◌, ◌-◌, ◌^◌, ◌∙◌, ◌≡◌}
use Rattle.tg_swarm.proofs.Putting.{finished_step, putting_fails, putting_none, putting_step}
use Rattle.tg_swarm.proofs.Lists.{on_err}
use Rattle.tg_swarm.proofs.jobs.Jobs.put_ready.Goals as goal
use Rattle.tg_swarm.specs.Jobs.{JobsState}

-- one more is counted behind a step that leaves all as it was
counted_over : {C : Type 0} {old kept new : JobsState C} → new ≡ record kept { written = min (kept.written + 1) (2 ^ 64 - 1) } → kept ≡ old
    → new ≡ record old { written = min (old.written + 1) (2 ^ 64 - 1) }
counted_over {C} counted same = counted ∙ ap {A = JobsState C} (λ s. record s { written = min (s.written + 1) (2 ^ 64 - 1) }) same

pub loop-text-init : goal.loop-text-init
loop-text-init g c = putting_none _ g.S.Sink.sink _ _ (g.met.S.Sink.rests _)

pub loop-text-preserved : goal.loop-text-preserved
loop-text-preserved g c =
    putting_step _ g.S.Sink.sink g.met.S.Sink.joins _ _ _ _ _ _ _ _ c.loop-text.invariant c.in-Some.ensures.0 c.in-Some.ensures.1 c.as_slice.ensures
    _ (counted_over c.count_one.ensures c.keep_room.ensures) c.in_ok-put_all.ensures.put c.in_ok-put_all.ensures.quiet

pub loop-text-smaller : goal.loop-text-smaller
loop-text-smaller g c = finished_step _ _ _ _ _ c.in-Some.ensures.0 c.in-Some.ensures.1 (counted_over c.count_one.ensures c.keep_room.ensures)

pub returns-in_err-put_all-clause-failed : goal.returns-in_err-put_all-clause-failed
returns-in_err-put_all-clause-failed g c = on_err c.from_residual.result (λ asked written almost answers.
    putting_fails _ g.S.Sink.sink g.met.S.Sink.joins _ _ _ _ _ _ _ _ c.loop-text.invariant c.in-Some.ensures.0 c.in-Some.ensures.1 c.as_slice.ensures
    c.in_err-put_all.ensures.err_front asked written almost answers)
