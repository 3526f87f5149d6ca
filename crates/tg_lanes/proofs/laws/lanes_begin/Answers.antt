use Rattle.tg_lanes.proofs.Moves.{lanes_begin}
use Rattle.tg_lanes.proofs.laws.lanes_begin.Goals as goal

pub returns : goal.returns
returns c = lanes_begin c.sessions_stand.ensures.begin
