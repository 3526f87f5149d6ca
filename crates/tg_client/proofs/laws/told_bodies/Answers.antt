use Rattle.tg_client.proofs.Terminals.{body_tells}
use Rattle.tg_client.proofs.laws.told_bodies.Goals as goal

pub returns : goal.returns
returns c = body_tells c.told_terminals.ensures
