use Rattle.tg_swarm.proofs.Starting.{new_stands}
use Rattle.tg_swarm.proofs.laws.new_swarms.Goals as goal

pub returns : goal.returns
returns c = new_stands
