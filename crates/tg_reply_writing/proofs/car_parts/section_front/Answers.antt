use Rattle.std.proofs.Common.{take}
use Rattle.tg_reply_writing.proofs.Fronts.{front_of_any}
use Rattle.tg_reply_writing.proofs.car_parts.section_front.Goals as goal

pub returns-clause-front : goal.returns-clause-front
returns-clause-front c =
    let cid = c.args.cid.now in
    let found = c.section_head.result in
    front_of_any cid c.args.size (take found.1 found.0)
    (λ block h bytes. c.car_texts.ensures.section (record { cid = cid; block = block }) _ (c.section_head.ensures.head block h bytes))
