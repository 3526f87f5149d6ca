use Rattle.std.proofs.Common.{rules}
use Rattle.tg_swarm.proofs.Lists.{refused_all}
use Rattle.tg_swarm.proofs.peers.none_left.Goals as goal

pub returns : goal.returns
returns g c = (λ t. refused_all c.args.peers.now c.loop-peer.peer-index c.loop-peer.invariant c.loop-peer-test.false, λ all. search rules)
