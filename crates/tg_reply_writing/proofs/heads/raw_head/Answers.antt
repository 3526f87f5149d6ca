use Rattle.std.proofs.Common.{◌∙◌}
use Rattle.tg_reply_writing.proofs.HeadLines.{raw_put}
use Rattle.tg_reply_writing.proofs.heads.raw_head.Goals as goal

pub returns : goal.returns
returns c =
    raw_put c.args.query.now c.args.size c.args.closes c.raw_type.result.now c.as_slice.result.now c.in_ok-head.head c.push_data_fields.new.head
    c.push_length.new.head c.end.new.head c.in_ok-head.ensures c.in_ok-push_data_fields.ensures c.in_ok-push_length.ensures c.in_ok-end.ensures
    c.raw_type.ensures (c.as_slice.ensures ∙ c.in_ok-path.ensures)
