use Rattle.std.proofs.lemmas.Result.{err_from_is_err_and}
use Rattle.tg_model.specs.Stores.{looked_in}
use Rattle.tg_replying.proofs.PuttingOut.{put_fails, put_part}
use Rattle.tg_reply.specs.Shapes.{SentOver}
use Rattle.tg_replying.proofs.reply.put_reply.Goals as goal

pub returns-in_err-put_out-in-Ok-clause-ends : goal.returns-in_err-put_out-in-Ok-clause-ends
returns-in_err-put_out-in-Ok-clause-ends g c =
    let p = err_from_is_err_and c.from_residual.result c.from_residual.ensures.1 in
    rw (p.1, p.2) (put_fails g.S.Sink.sink (SentOver (g.B.Blocks.blocks.stored c.args.blocks.now)) c.args.head.now
    (looked_in g.B.Blocks.blocks c.args.blocks.now c.give_reply.new.blocks)
    c.args.out.now c.give_reply.new.out c.put_out.new.sink c.args.gathering.now c.give_reply.new.gathering
    c.in-Ok.replied g.met.S.Sink.joins c.requires
    c.in-Ok.ensures.ends c.in_err-put_out-in-Ok.ensures.err_front)

pub returns-in-Err-clause-ends : goal.returns-in-Err-clause-ends
returns-in-Err-clause-ends g c =
    put_part g.S.Sink.sink (SentOver (g.B.Blocks.blocks.stored c.args.blocks.now)) c.args.head.now
    (looked_in g.B.Blocks.blocks c.args.blocks.now c.give_reply.new.blocks)
    c.args.out.now c.give_reply.new.out c.args.gathering.now c.give_reply.new.gathering c.in-Err.fault c.requires
    c.in-Err.ensures.ends
