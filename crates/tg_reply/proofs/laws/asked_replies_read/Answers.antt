use Rattle.tg_reply.proofs.AskedReplies.{asked_read}
use Rattle.tg_reply.proofs.SpelledSections.{terminal_small}
use Rattle.tg_reply.proofs.laws.asked_replies_read.Goals as goal

pub returns : goal.returns
returns c =
    let r = c.replies_read.ensures in
    asked_read r.refusals r.raw r.car c.sent_sections.ensures
    (λ store q d s spelled e. terminal_small c.readings.ensures.computed store s q spelled.name d spelled.root e) c.asked_queries.ensures c.request_targets.ensures
