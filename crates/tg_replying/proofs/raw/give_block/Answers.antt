use Rattle.std.proofs.Common.{false, refl, sym, ◌++◌, ◌∙◌}
use Rattle.tg_reply.specs.Replies.{raw_reply, unless_head}
use Rattle.tg_replying.proofs.Giving.{fails_more, gives_fails, gives_gives, gives_same}
use Rattle.tg_replying.proofs.Replies.{fails_so, gives_so, raw_is, raw_is_both, raw_is_head}
use Rattle.tg_replying.specs.Bodies.{giving_in}
use Rattle.tg_replying.proofs.raw.give_block.Goals.{then-not-is_head+in_ok-give-2, else-not-is_head}
use Rattle.tg_replying.proofs.raw.give_block.Goals as goal

pub returns-in_err-give-clause-gives : goal.returns-in_err-give-clause-gives
returns-in_err-give-clause-gives g c =
    let body = unless_head c.args.head.now c.args.block.now in
    fails_so (giving_in g.S.Sink.sink c.args.gathering.now c.give.new.self c.args.out.now c.give.new.sink)
    (raw_reply c.args.head.now c.args.query.now c.args.block.now) (c.as_slice.result.now ++ body)
    c.from_residual-in_err-give.result
    (raw_is c.args.head.now c.args.query.now c.args.block.now c.asks_close-closes.result c.in_ok-bytes.bytes
    c.as_slice.result.now c.asks_close-closes.ensures c.in_ok-bytes.ensures c.as_slice.ensures)
    (fails_more g.S.Sink.sink c.args.out.now c.give.new.sink c.args.gathering.now c.give.new.self c.as_slice.result.now
    body c.in_err-give.ensures.err_front) c.from_residual-in_err-give.ensures.1

pub returns-in_err-give-2-clause-gives : goal.returns-in_err-give-2-clause-gives
returns-in_err-give-2-clause-gives g c =
    fails_so (giving_in g.S.Sink.sink c.args.gathering.now c.give-then-not-is_head.new.self c.args.out.now
    c.give-then-not-is_head.new.sink) (raw_reply c.args.head.now c.args.query.now c.args.block.now)
    (c.as_slice.result.now ++ c.args.block.now) c.from_residual-in_err-give-2.result
    (raw_is_both c.args.head.now c.args.query.now c.args.block.now c.asks_close-closes.result c.in_ok-bytes.bytes
    c.as_slice.result.now (sym c.is_head.ensures ∙ c.if-not-is_head.true) c.asks_close-closes.ensures
    c.in_ok-bytes.ensures c.as_slice.ensures)
    (gives_fails g.S.Sink.sink c.args.out.now c.give.new.sink c.give-then-not-is_head.new.sink c.args.gathering.now
    c.give.new.self c.give-then-not-is_head.new.self c.as_slice.result.now c.args.block.now g.met.S.Sink.joins
    c.in_ok-give.ensures.gave c.in_err-give-2.ensures.err_front) c.from_residual-in_err-give-2.ensures.1

pub returns-clause-gives : goal.returns-clause-gives
returns-clause-gives g c =
    let giving = giving_in g.S.Sink.sink c.args.gathering.now c.if-not-is_head.gathering c.args.out.now
    c.if-not-is_head.out in
    let reply = raw_reply c.args.head.now c.args.query.now c.args.block.now in
    elim c.if-not-is_head.branch [
      | then-not-is_head+in_ok-give-2 w ↦ gives_so giving reply (c.as_slice.result.now ++ c.args.block.now)
          (record { closes = c.asks_close-closes.result; broken = false; failed = false })
          (raw_is_both c.args.head.now c.args.query.now c.args.block.now c.asks_close-closes.result c.in_ok-bytes.bytes
          c.as_slice.result.now (sym c.is_head.ensures ∙ w.if-not-is_head.true) c.asks_close-closes.ensures
          c.in_ok-bytes.ensures c.as_slice.ensures)
          (gives_same g.S.Sink.sink c.args.out.now w.give-then-not-is_head.new.sink c.if-not-is_head.out
          c.args.gathering.now w.give-then-not-is_head.new.self c.if-not-is_head.gathering
          (c.as_slice.result.now ++ c.args.block.now) w.gathering-is w.out-is
          (gives_gives g.S.Sink.sink c.args.out.now c.give.new.sink w.give-then-not-is_head.new.sink
          c.args.gathering.now c.give.new.self w.give-then-not-is_head.new.self c.as_slice.result.now c.args.block.now
          g.met.S.Sink.joins
          c.in_ok-give.ensures.gave w.in_ok-give-2.ensures.gave)) c.asks_close-closes.ensures refl
      | else-not-is_head w ↦ gives_so giving reply c.as_slice.result.now
          (record { closes = c.asks_close-closes.result; broken = false; failed = false })
          (raw_is_head c.args.head.now c.args.query.now c.args.block.now c.asks_close-closes.result c.in_ok-bytes.bytes
          c.as_slice.result.now (sym c.is_head.ensures ∙ w.if-not-is_head.false) c.asks_close-closes.ensures
          c.in_ok-bytes.ensures c.as_slice.ensures)
          (gives_same g.S.Sink.sink c.args.out.now c.give.new.sink c.if-not-is_head.out c.args.gathering.now
          c.give.new.self c.if-not-is_head.gathering c.as_slice.result.now w.gathering-is w.out-is
          c.in_ok-give.ensures.gave)
          c.asks_close-closes.ensures refl
    ]
