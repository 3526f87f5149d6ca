use Rattle.std.proofs.Common.{Bool, ap, ◌∙◌}
use Rattle.tg_query.specs.Requests.{car_with_dups}
use Rattle.tg_reply_writing.proofs.HeadLines.{car_put}
use Rattle.tg_reply_writing.proofs.heads.car_head.Goals as goal

pub returns : goal.returns
returns c =
    car_put c.args.found c.args.query.now c.args.minor c.args.closes c.car_status.result c.car_type.result.now c.as_slice.result.now c.in_ok-head.head
    c.push_data_fields.new.head c.push_coding.new.head c.end.new.head c.in_ok-head.ensures c.in_ok-push_data_fields.ensures
    c.in_ok-push_coding.ensures c.in_ok-end.ensures c.car_status.ensures
    (c.car_type.ensures ∙ ap (λ (dups : Bool). car_with_dups dups) c.dups.ensures) (c.as_slice.ensures ∙ c.in_ok-path.ensures)
