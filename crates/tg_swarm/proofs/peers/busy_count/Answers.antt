use Rattle.std.proofs.Common.{ap, arith}
use Rattle.tg_swarm.proofs.BusyCounts.{busy_more, none_if_not}
use Rattle.tg_swarm.proofs.peers.busy_count.Goals.{else-is_busy, then-is_busy}
use Rattle.tg_swarm.proofs.peers.busy_count.Goals as goal
use Rattle.tg_swarm.specs.Peers.{one_if_busy}

pub loop-peer-preserved : goal.loop-peer-preserved
loop-peer-preserved g c =
    busy_more c.args.peers.now c.loop-peer.peer-index c.loop-peer.busy c.if-is_busy.busy c.peer-item.result c.loop-peer.invariant
    c.loop-peer-test.true c.peer-item.is
    (elim c.if-is_busy.branch [
      | then-is_busy w ↦ let one = ap one_if_busy (c.is_busy.ensures.0 w.if-is_busy.true).1 in omega (arith, one, w.busy-is)
      | else-is_busy w ↦
          let none = none_if_not c.peer-item.result (λ h. let t = c.is_busy.ensures.1 h in let f = w.if-is_busy.false in cc) in
          omega (arith, none, w.busy-is)
    ])
