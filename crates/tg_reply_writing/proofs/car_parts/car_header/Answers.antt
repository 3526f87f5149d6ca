use Rattle.std.proofs.lemmas.Result.{IfOk-weaker}
use Rattle.tg_reply_writing.proofs.car_parts.car_header.Goals as goal

pub returns : goal.returns
returns c =
    IfOk-weaker c.header.result _ _ (λ bytes h. c.car_texts.ensures.header c.args.root.now bytes h) c.header.ensures
