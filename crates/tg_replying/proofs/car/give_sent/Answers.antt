use Rattle.std.proofs.Common.{Bool, List, ap, refl, subst, sym, ℕ, ◌∙◌, ◌≡◌, ◌||◌}
use Rattle.std.proofs.lemmas.Result.{err_from_is_err_and}
use Rattle.tg_model.specs.Stores.{looked_in}
use Rattle.tg_reply.specs.Heads.{car_head}
use Rattle.tg_reply.specs.Replies.{asks_close}
use Rattle.tg_replying.proofs.Sending.{nothing_given}
use Rattle.tg_replying.proofs.SendingCars.{AsksCar, head_fails, part_ends, whole_ends}
use Rattle.tg_replying.specs.Bodies.{FailsIn, Gives, giving_in}
use Rattle.tg_streams.specs.Gathering.{gave_nothing}
use Rattle.tg_replying.proofs.car.give_sent.Goals as goal
use Rattle.tg_replying.proofs.car.give_sent.Goals.{then-closes, else-closes}

pub returns-in_err-bytes-clause-ends : goal.returns-in_err-bytes-clause-ends
returns-in_err-bytes-clause-ends g c =
    let p = err_from_is_err_and c.from_residual.result c.from_residual.ensures.1 in
    rw (p.1, p.2) (nothing_given (g.B.Blocks.blocks.stored c.args.blocks.now) c.args.head.now
    (looked_in g.B.Blocks.blocks c.args.blocks.now c.args.blocks.now)
    (giving_in g.S.Sink.sink c.args.gathering.now c.args.gathering.now c.args.out.now c.args.out.now)
    (gave_nothing _ g.S.Sink.sink c.args.out.now c.args.gathering.now (g.met.S.Sink.rests c.args.out.now)))

pub returns-in_err-give-clause-ends : goal.returns-in_err-give-clause-ends
returns-in_err-give-clause-ends g c =
    let p = err_from_is_err_and c.from_residual-in_err-give.result c.from_residual-in_err-give.ensures.1 in
    let asks : AsksCar c.args.head.now c.args.query.now =
    record { asked_is = c.requires.asked; car = c.requires.car } in
    let line : c.as_slice.result.now
    ≡ car_head c.args.found c.args.query.now c.args.head.now.minor (asks_close c.args.head.now) =
    cc (c.as_slice.ensures, c.in_ok-bytes.ensures, c.asks_close-closes.ensures) in
    rw (p.1, p.2) (head_fails g.S.Sink.sink g.met.S.Sink.joins (g.B.Blocks.blocks.stored c.args.blocks.now)
    c.args.head.now c.args.query.now c.args.found asks c.requires.led
    c.args.out.now c.give.new.sink c.args.gathering.now c.give.new.self
    (looked_in g.B.Blocks.blocks c.args.blocks.now c.args.blocks.now)
    (subst (λ (bytes : List ℕ). FailsIn
    (giving_in g.S.Sink.sink c.args.gathering.now c.give.new.self c.args.out.now c.give.new.sink) bytes)
    line c.in_err-give.ensures.err_front))

pub returns-in_err-end-clause-ends : goal.returns-in_err-end-clause-ends
returns-in_err-end-clause-ends g c =
    let p = err_from_is_err_and c.from_residual-in_err-end.result c.from_residual-in_err-end.ensures.1 in
    let asks : AsksCar c.args.head.now c.args.query.now =
    record { asked_is = c.requires.asked; car = c.requires.car } in
    let line : c.as_slice.result.now
    ≡ car_head c.args.found c.args.query.now c.args.head.now.minor (asks_close c.args.head.now) =
    cc (c.as_slice.ensures, c.in_ok-bytes.ensures, c.asks_close-closes.ensures) in
    rw (p.1, p.2) (part_ends g.S.Sink.sink g.met.S.Sink.joins (g.B.Blocks.blocks.stored c.args.blocks.now)
    c.args.head.now c.args.query.now c.args.found asks c.requires.led
    c.args.out.now c.give.new.sink c.give_body.new.out c.args.gathering.now c.give.new.self c.give_body.new.gathering
    (looked_in g.B.Blocks.blocks c.args.blocks.now c.give_body.new.blocks) c.in_err-end.field-0.0 c.requires.by_get
    (subst (λ (bytes : List ℕ). Gives
    (giving_in g.S.Sink.sink c.args.gathering.now c.give.new.self c.args.out.now c.give.new.sink) bytes)
    line c.in_ok-give.ensures.gave)
    c.in_err-end.ensures.ends)

pub returns-clause-ends : goal.returns-clause-ends
returns-clause-ends g c =
    let closes : c.if-closes.result ≡ (asks_close c.args.head.now || c.in_ok-end.end.cut) = elim c.if-closes.branch [
      | then-closes w ↦ w.result-is ∙ w.if-closes.true ∙ ap (λ (b : Bool). b || c.in_ok-end.end.cut)
          (sym w.if-closes.true ∙ c.asks_close-closes.ensures)
      | else-closes w ↦ w.result-is ∙ ap (λ (b : Bool). b || c.in_ok-end.end.cut)
          (sym w.if-closes.false ∙ c.asks_close-closes.ensures)
    ] in
    let asks : AsksCar c.args.head.now c.args.query.now =
    record { asked_is = c.requires.asked; car = c.requires.car } in
    let line : c.as_slice.result.now
    ≡ car_head c.args.found c.args.query.now c.args.head.now.minor (asks_close c.args.head.now) =
    cc (c.as_slice.ensures, c.in_ok-bytes.ensures, c.asks_close-closes.ensures) in
    whole_ends g.S.Sink.sink g.met.S.Sink.joins (g.B.Blocks.blocks.stored c.args.blocks.now) c.args.head.now
    c.args.query.now c.args.found asks c.requires.led
    c.args.out.now c.give.new.sink c.give_body.new.out c.args.gathering.now c.give.new.self c.give_body.new.gathering
    (looked_in g.B.Blocks.blocks c.args.blocks.now c.give_body.new.blocks) c.in_ok-end.end _ c.requires.by_get
    (subst (λ (bytes : List ℕ). Gives
    (giving_in g.S.Sink.sink c.args.gathering.now c.give.new.self c.args.out.now c.give.new.sink) bytes)
    line c.in_ok-give.ensures.gave)
    c.in_ok-end.ensures.ends closes refl refl
