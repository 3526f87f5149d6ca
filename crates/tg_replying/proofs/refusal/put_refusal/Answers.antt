use Rattle.tg_reply.specs.Replies.{refused_bytes}
use Rattle.tg_replying.proofs.Replies.{put_fails, put_out_fails, put_so, refusal_bytes_are}
use Rattle.tg_streams.specs.Streams.{into}
use Rattle.tg_replying.proofs.refusal.put_refusal.Goals as goal

pub returns-in_err-give-clause-ends : goal.returns-in_err-give-clause-ends
returns-in_err-give-clause-ends g c =
    put_fails (into g.S.Sink.sink c.args.out.now c.give.new.sink) (refused_bytes c.args.refusal) c.args.gathering.now
    c.as_slice.result.now c.from_residual-in_err-give.result c.requires
    (refusal_bytes_are c.args.refusal c.ends_connection.result c.in_ok-bytes.bytes c.as_slice.result.now
    c.ends_connection.ensures c.in_ok-bytes.ensures c.as_slice.ensures)
    c.in_err-give.ensures.err_front c.from_residual-in_err-give.ensures.1

pub returns-in_err-put_out-clause-ends : goal.returns-in_err-put_out-clause-ends
returns-in_err-put_out-clause-ends g c =
    put_out_fails g.S.Sink.sink c.args.out.now c.give.new.sink c.put_out.new.sink (refused_bytes c.args.refusal)
    c.args.gathering.now c.give.new.self c.as_slice.result.now c.from_residual-in_err-put_out.result g.met.S.Sink.joins
    c.requires
    (refusal_bytes_are c.args.refusal c.ends_connection.result c.in_ok-bytes.bytes c.as_slice.result.now
    c.ends_connection.ensures c.in_ok-bytes.ensures c.as_slice.ensures)
    c.in_ok-give.ensures.gave c.in_err-put_out.ensures.err_front c.from_residual-in_err-put_out.ensures.1

pub returns-clause-ends : goal.returns-clause-ends
returns-clause-ends g c =
    put_so g.S.Sink.sink c.args.out.now c.give.new.sink c.put_out.new.sink (refused_bytes c.args.refusal)
    c.args.gathering.now c.give.new.self c.as_slice.result.now g.met.S.Sink.joins c.requires
    (refusal_bytes_are c.args.refusal c.ends_connection.result c.in_ok-bytes.bytes c.as_slice.result.now
    c.ends_connection.ensures c.in_ok-bytes.ensures c.as_slice.ensures)
    c.in_ok-give.ensures.gave c.in_ok-put_out.ensures.put c.in_ok-put_out.ensures.quiet
