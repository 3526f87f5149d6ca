use Rattle.std.proofs.Common.{arith}
use Rattle.tg_swarm.proofs.Starting.{new_stands}
use Rattle.tg_swarm.proofs.swarm.Swarm.new.Goals as goal

pub returns-clause-stands : goal.returns-clause-stands
returns-clause-stands c =
    let jobs = c.in_ok-new.ensures in
    new_stands c.args.root c.args.part c.args.limits c.in_ok-new.field-0 jobs.count.0 jobs.count.1 jobs.none.0
    (let n = jobs.none.1 in let p = c.requires.peers.0 in omega (arith, n, p)) jobs.idle.0
