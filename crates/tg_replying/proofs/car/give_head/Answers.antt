use Rattle.std.proofs.Common.{false}
use Rattle.tg_reply.specs.Replies.{car_reply}
use Rattle.tg_replying.proofs.Replies.{car_closes, car_is, car_is_whole, fails_so, gives_so, wants_first}
use Rattle.tg_replying.specs.Bodies.{giving_in}
use Rattle.tg_replying.proofs.car.give_head.Goals as goal

pub returns-in_err-bytes-clause-gives : goal.returns-in_err-bytes-clause-gives
returns-in_err-bytes-clause-gives g c sections cut =
    wants_first g.S.Sink.sink c.args.out.now c.args.gathering.now
    (car_reply c.args.head.now c.args.found c.args.query.now sections cut) c.from_residual.result
    (g.met.S.Sink.rests c.args.out.now) c.from_residual.ensures.1

pub returns-in_err-give-clause-gives : goal.returns-in_err-give-clause-gives
returns-in_err-give-clause-gives g c sections cut =
    fails_so (giving_in g.S.Sink.sink c.args.gathering.now c.give.new.self c.args.out.now c.give.new.sink)
    (car_reply c.args.head.now c.args.found c.args.query.now sections cut) c.as_slice.result.now
    c.from_residual-in_err-give.result
    (car_is c.args.head.now c.args.found c.args.query.now sections cut c.asks_close-closes.result c.in_ok-bytes.bytes
    c.as_slice.result.now c.requires c.asks_close-closes.ensures c.in_ok-bytes.ensures c.as_slice.ensures)
    c.in_err-give.ensures.err_front c.from_residual-in_err-give.ensures.1

pub returns-clause-gives : goal.returns-clause-gives
returns-clause-gives g c sections cut =
    gives_so (giving_in g.S.Sink.sink c.args.gathering.now c.give.new.self c.args.out.now c.give.new.sink)
    (car_reply c.args.head.now c.args.found c.args.query.now sections cut) c.as_slice.result.now
    (record { closes = c.asks_close-closes.result; broken = false; failed = false })
    (car_is c.args.head.now c.args.found c.args.query.now sections cut c.asks_close-closes.result c.in_ok-bytes.bytes
    c.as_slice.result.now c.requires c.asks_close-closes.ensures c.in_ok-bytes.ensures c.as_slice.ensures)
    c.in_ok-give.ensures.gave (car_closes c.args.head.now cut c.asks_close-closes.result c.requires
    c.asks_close-closes.ensures) (car_is_whole c.args.head.now c.args.found c.args.query.now sections cut c.requires)
