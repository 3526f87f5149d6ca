use Rattle.std.proofs.Common.{inl, refl}
use Rattle.std.proofs.lemmas.Result.{err_from_is_err_and}
use Rattle.tg_export.proofs.Moves.{looks_nothing}
use Rattle.tg_export.proofs.Parts.{car_given, header_fails}
use Rattle.tg_export.specs.Given.{giving_in}
use Rattle.tg_streams.specs.Streams.{into}
use Rattle.tg_export.proofs.car.give_all.Goals as goal

pub returns-in_err-give-clause-given : goal.returns-in_err-give-clause-given
returns-in_err-give-clause-given g c =
    let p = err_from_is_err_and c.from_residual.result c.from_residual.ensures.1 in
    rw (p.1, p.2) (header_fails (giving_in c.args.gathering.now c.give.new.self (into g.S.Sink.sink c.args.out.now c.give.new.sink)) c.args.walk.now.left.query (g.B.Blocks.blocks.stored c.args.blocks.now) c.store_walks.ensures
    c.args.walk.now c.args.header.now c.requires.header c.requires.resolved refl c.requires.fresh c.requires.stands c.in_err-give.ensures.err_front c.in_err-give.ensures.err_nothing)

pub returns-in_err-give-clause-looked : goal.returns-in_err-give-clause-looked
returns-in_err-give-clause-looked g c =
    (looks_nothing g.B.Blocks.blocks c.args.blocks.now (g.met.B.Blocks.rests c.args.blocks.now)).up

pub returns-in_err-give-clause-cause : goal.returns-in_err-give-clause-cause
returns-in_err-give-clause-cause g c =
    let p = err_from_is_err_and c.from_residual.result c.from_residual.ensures.1 in
    rw (p.1, p.2) (inl refl)

pub returns-in_err-give-clause-memory : goal.returns-in_err-give-clause-memory
returns-in_err-give-clause-memory g c =
    let p = err_from_is_err_and c.from_residual.result c.from_residual.ensures.1 in
    rw (p.1, p.2) tt

pub returns-clause-given : goal.returns-clause-given
returns-clause-given g c =
    car_given g.S.Sink.sink c.args.out.now c.give.new.sink c.give_sections.new.out c.args.gathering.now c.give.new.self c.give_sections.new.gathering c.args.walk.now.left.query (g.B.Blocks.blocks.stored c.args.blocks.now)
    c.args.header.now c.give_sections.result g.met.S.Sink.joins c.requires.header c.requires.resolved c.in_ok-give.ensures.gave c.give_sections.ensures.given

pub returns-clause-looked : goal.returns-clause-looked
returns-clause-looked g c = c.give_sections.ensures.looked

pub returns-clause-cause : goal.returns-clause-cause
returns-clause-cause g c = c.give_sections.ensures.cause

pub returns-clause-memory : goal.returns-clause-memory
returns-clause-memory g c = c.give_sections.ensures.memory
