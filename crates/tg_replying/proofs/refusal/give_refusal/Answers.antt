use denote.Enum.Bare.{sameb}
use Rattle.std.proofs.Common.{Bool, ap, false, sym, true, ◌∙◌, ◌≡◌, ◌||◌}
use Rattle.tg_reply.specs.Refusals.{ends_connection, status_of}
use Rattle.tg_reply.specs.Replies.{asks_close, refused_request}
use Rattle.tg_reply.specs.contracts.status.Status.{the_type}
use Rattle.tg_reply.specs.declared.status.Status.{Status}
use Rattle.tg_reply.specs.declared.status.Status.TheVariants.{ServerError}
use Rattle.tg_replying.proofs.Replies.{fails_so, gives_so, is_broken_refusal, refusal_is, wants_first}
use Rattle.tg_replying.specs.Bodies.{giving_in}
use Rattle.tg_replying.proofs.refusal.give_refusal.Goals.{then-asks_close, else-asks_close}
use Rattle.tg_replying.proofs.refusal.give_refusal.Goals as goal

by_first : (asks ends closes : Bool) → asks ≡ true → closes ≡ true → closes ≡ (asks || ends)
by_first asks ends closes e f = f ∙ ap (λ (asks : Bool). asks || ends) (sym e)

by_second : (asks ends closes : Bool) → asks ≡ false → closes ≡ ends → closes ≡ (asks || ends)
by_second asks ends closes e f = f ∙ ap (λ (asks : Bool). asks || ends) (sym e)

pub returns-in_err-bytes-clause-gives : goal.returns-in_err-bytes-clause-gives
returns-in_err-bytes-clause-gives g c =
    wants_first g.S.Sink.sink c.args.out.now c.args.gathering.now (refused_request c.args.head.now c.args.refusal)
    c.from_residual.result (g.met.S.Sink.rests c.args.out.now) c.from_residual.ensures.1

pub returns-in_err-give-clause-gives : goal.returns-in_err-give-clause-gives
returns-in_err-give-clause-gives g c =
    let closes : c.if-asks_close.closes ≡ (asks_close c.args.head.now || ends_connection c.args.refusal) =
    elim c.if-asks_close.branch [
      | then-asks_close w ↦ by_first (asks_close c.args.head.now) (ends_connection c.args.refusal)
          c.if-asks_close.closes (sym c.asks_close.ensures ∙ w.if-asks_close.true) (w.closes-is ∙ w.if-asks_close.true)
      | else-asks_close w ↦ by_second (asks_close c.args.head.now) (ends_connection c.args.refusal)
          c.if-asks_close.closes (sym c.asks_close.ensures ∙ w.if-asks_close.false)
          (w.closes-is ∙ w.ends_connection-closes.ensures)
    ] in
    fails_so (giving_in g.S.Sink.sink c.args.gathering.now c.give.new.self c.args.out.now c.give.new.sink)
    (refused_request c.args.head.now c.args.refusal) c.as_slice.result.now c.from_residual-in_err-give.result
    (refusal_is c.args.head.now c.args.refusal c.if-asks_close.closes c.is_head.result c.in_ok-bytes.bytes
    c.as_slice.result.now closes c.is_head.ensures c.in_ok-bytes.ensures c.as_slice.ensures)
    c.in_err-give.ensures.err_front c.from_residual-in_err-give.ensures.1

pub returns-clause-gives : goal.returns-clause-gives
returns-clause-gives g c =
    let closes : c.if-asks_close.closes ≡ (asks_close c.args.head.now || ends_connection c.args.refusal) =
    elim c.if-asks_close.branch [
      | then-asks_close w ↦ by_first (asks_close c.args.head.now) (ends_connection c.args.refusal)
          c.if-asks_close.closes (sym c.asks_close.ensures ∙ w.if-asks_close.true) (w.closes-is ∙ w.if-asks_close.true)
      | else-asks_close w ↦ by_second (asks_close c.args.head.now) (ends_connection c.args.refusal)
          c.if-asks_close.closes (sym c.asks_close.ensures ∙ w.if-asks_close.false)
          (w.closes-is ∙ w.ends_connection-closes.ensures)
    ] in
    gives_so (giving_in g.S.Sink.sink c.args.gathering.now c.give.new.self c.args.out.now c.give.new.sink)
    (refused_request c.args.head.now c.args.refusal) c.as_slice.result.now
    (record { closes = c.if-asks_close.closes; broken = c.eq.result; failed = c.eq-2.result })
    (refusal_is c.args.head.now c.args.refusal c.if-asks_close.closes c.is_head.result c.in_ok-bytes.bytes
    c.as_slice.result.now closes c.is_head.ensures c.in_ok-bytes.ensures c.as_slice.ensures)
    c.in_ok-give.ensures.gave closes (is_broken_refusal (status_of c.args.refusal) c.eq.result
    (c.eq.ensures ∙ ap (λ (status : Status). sameb the_type status ServerError) c.status_of.ensures))
