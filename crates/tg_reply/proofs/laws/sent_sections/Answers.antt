use Rattle.tg_reply.proofs.SpelledSections.{sent_spelled}
use Rattle.tg_reply.proofs.laws.sent_sections.Goals as goal

pub returns : goal.returns
returns c = λ store q name s root. sent_spelled c.readings.ensures.computed store s q name root
