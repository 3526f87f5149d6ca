use Rattle.tg_http.specs.GrammarLines.{request_text}
use Rattle.tg_http.proofs.laws.request_heads.Goals as goal

pub returns : goal.returns
returns c = request_text
