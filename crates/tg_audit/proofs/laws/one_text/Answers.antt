use Rattle.tg_audit.proofs.OneText.{one_text}
use Rattle.tg_audit.proofs.laws.one_text.Goals as goal

pub returns : goal.returns
returns c = one_text c.one_layout.ensures.one
