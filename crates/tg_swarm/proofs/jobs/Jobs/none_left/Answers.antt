use Rattle.std.proofs.Common.{IsTrue, ap, subst, ◌∙◌, ◌↔◌}
use Rattle.tg_swarm.specs.Peers.{AreRefused}
use Rattle.tg_swarm.proofs.jobs.Jobs.none_left.Goals as goal

pub returns : goal.returns
returns g c =
    subst (λ peers. IsTrue c.none_left.result ↔ AreRefused peers) (c.as_slice.ensures.value ∙ ap (λ s. s.peers) c.self.view_is) c.none_left.ensures
