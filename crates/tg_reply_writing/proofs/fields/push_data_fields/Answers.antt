use Rattle.std.proofs.lemmas.Result.{on_ok_weaker}
use Rattle.tg_reply_writing.proofs.HeadLines.{data_put}
use Rattle.tg_reply_writing.proofs.fields.push_data_fields.Goals as goal

pub returns : goal.returns
returns c =
    on_ok_weaker c.push_field-4.result
    (data_put c.args.found c.args.kind.now c.args.path.now c.args.head.now c.push_field.new.head c.push_field-2.new.head c.push_field-3.new.head
    c.push_lifetime.new.head c.push_field-4.new.head c.in_ok-push_field.ensures c.in_ok-push_field-2.ensures c.in_ok-push_field-3.ensures
    c.in_ok-push_lifetime.ensures) c.push_field-4.ensures
