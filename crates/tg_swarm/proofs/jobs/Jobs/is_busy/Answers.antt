use Rattle.std.proofs.Common.{ap, ◌∙◌}
use Rattle.tg_swarm.proofs.Lists.{busy_there, no_busy}
use Rattle.tg_swarm.proofs.jobs.Jobs.is_busy.Goals as goal

pub returns-in-Some : goal.returns-in-Some
returns-in-Some g c =
    let there = c.in-Some.ensures.lookup in
    busy_there c.as_slice.result.now _ c.args.peer c.in-Some.peer.now c.is_busy.result
    (c.as_slice.ensures.value ∙ ap (λ s. s.peers) c.self.view_is)
    (there.3).0 there.1 c.is_busy.ensures

pub returns-in-None : goal.returns-in-None
returns-in-None g c = (
  λ t. absurd (cc t),
  λ h. absurd (no_busy c.as_slice.result.now _ c.args.peer
      (c.as_slice.ensures.value ∙ ap (λ s. s.peers) c.self.view_is) c.in-None.ensures.lookup.3 h),
)
