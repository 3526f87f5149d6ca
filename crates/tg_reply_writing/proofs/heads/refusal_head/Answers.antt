use Rattle.std.proofs.Common.{ap, length}
use Rattle.tg_reply_writing.proofs.HeadLines.{refusal_put}
use Rattle.tg_reply_writing.proofs.heads.refusal_head.Goals as goal

pub returns : goal.returns
returns c =
    refusal_put c.args.refusal c.args.closes c.status_of-status.result (length c.text_of.result.now) c.in_ok-head.head c.push_text_fields.new.head
    c.push_methods.new.head c.push_length.new.head c.end.new.head c.in_ok-head.ensures c.in_ok-push_text_fields.ensures
    c.in_ok-push_methods.ensures c.in_ok-push_length.ensures c.in_ok-end.ensures c.status_of-status.ensures (ap length c.text_of.ensures)
