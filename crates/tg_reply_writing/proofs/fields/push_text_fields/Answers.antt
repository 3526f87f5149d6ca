use Rattle.std.proofs.lemmas.Result.{on_ok_weaker}
use Rattle.tg_reply_writing.proofs.HeadLines.{text_put}
use Rattle.tg_reply_writing.proofs.fields.push_text_fields.Goals as goal

pub returns : goal.returns
returns c =
    on_ok_weaker c.push_field-2.result
    (text_put c.args.head.now c.push_field.new.head c.push_field-2.new.head c.in_ok-push_field.ensures) c.push_field-2.ensures
