use Rattle.tg_http.proofs.Longer.{stays}
use Rattle.tg_http.proofs.laws.longer_bytes.Goals as goal

pub returns-clause-request : goal.returns-clause-request
returns-clause-request c = stays _

pub returns-clause-reply : goal.returns-clause-reply
returns-clause-reply c = stays _
