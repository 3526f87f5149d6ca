use Rattle.tg_http.proofs.Seeking.{sought_stays}
use Rattle.tg_http.proofs.laws.sought_heads.Goals as goal

pub returns : goal.returns
returns c = sought_stays
