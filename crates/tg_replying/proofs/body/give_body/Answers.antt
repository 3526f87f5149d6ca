use Rattle.std.proofs.Common.{refl, subst}
use Rattle.std.proofs.lemmas.Result.{err_from_is_err_and}
use Rattle.tg_model.specs.Queries.{QueryParts}
use Rattle.tg_model.specs.Stores.{looked_in}
use Rattle.tg_replying.proofs.WholeBodies.{front_nothing}
use Rattle.tg_replying.specs.Bodies.{BodyEnds, Gives, giving_in}
use Rattle.tg_streams.specs.Gathering.{gave_nothing}
use Rattle.tg_replying.proofs.body.give_body.Goals as goal

pub returns-in_err-header-clause-ends : goal.returns-in_err-header-clause-ends
returns-in_err-header-clause-ends g c =
    let p = err_from_is_err_and c.from_residual.result c.from_residual.ensures.1 in
    rw (p.1, p.2) (
      front_nothing c.args.minor c.args.found c.args.query.now (g.B.Blocks.blocks.stored c.args.blocks.now)
          (Gives (giving_in g.S.Sink.sink c.args.gathering.now c.args.gathering.now c.args.out.now c.args.out.now))
          (gave_nothing _ g.S.Sink.sink c.args.out.now c.args.gathering.now (g.met.S.Sink.rests c.args.out.now)),
      refl,
    )

pub returns-in_err-walk-clause-ends : goal.returns-in_err-walk-clause-ends
returns-in_err-walk-clause-ends g c =
    let p = err_from_is_err_and c.from_residual-in_err-walk.result c.from_residual-in_err-walk.ensures.1 in
    rw (p.1, p.2) (
      front_nothing c.args.minor c.args.found c.args.query.now (g.B.Blocks.blocks.stored c.args.blocks.now)
          (Gives (giving_in g.S.Sink.sink c.args.gathering.now c.args.gathering.now c.args.out.now c.args.out.now))
          (gave_nothing _ g.S.Sink.sink c.args.out.now c.args.gathering.now (g.met.S.Sink.rests c.args.out.now)),
      refl,
    )

pub returns-clause-ends : goal.returns-clause-ends
returns-clause-ends g c =
    subst (λ (q : QueryParts). BodyEnds c.args.minor c.args.found q (g.B.Blocks.blocks.stored c.args.blocks.now)
    (looked_in g.B.Blocks.blocks c.args.blocks.now c.give_parts.new.blocks)
    (giving_in g.S.Sink.sink c.args.gathering.now c.give_parts.new.gathering c.args.out.now c.give_parts.new.out)
    c.give_parts.result)
    c.in_ok-walk.ensures.query c.give_parts.ensures.ends
