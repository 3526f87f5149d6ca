use Rattle.std.proofs.Common.{None, Some, arith}
use Rattle.std.proofs.lemmas.Option.{slice_get_within}
use Rattle.tg_serve.proofs.Weights.{busy_most, busy_set}
use Rattle.tg_serve.proofs.lanes.Turns.put_link.Goals as goal

pub overflow_add-self : goal.overflow_add-self
overflow_add-self g c =
    let most = busy_most c.args.self.now.links.items in
    let few = c.requires.most in
    let busy = c.requires.busy in
    omega (arith, most, few, busy)

pub returns-clause-busy : goal.returns-clause-busy
returns-clause-busy g c =
    let set = busy_set c.args.self.now.links.items c.args.lane None (Some c.args.link) c.requires.free in
    let busy = c.requires.busy in
    omega (arith, set, busy)
