use Rattle.std.proofs.lemmas.Result.{err_from_is_err_and}
use Rattle.tg_model.specs.Stores.{looked_in}
use Rattle.tg_replying.proofs.Looking.{looks_nothing}
use Rattle.tg_replying.proofs.WholeBodies.{end_failed, header_failed, parts_gave, sections_failed}
use Rattle.tg_replying.proofs.body.give_parts.Goals as goal

pub returns-in_err-give_part-clause-ends : goal.returns-in_err-give_part-clause-ends
returns-in_err-give_part-clause-ends g c =
    let p = err_from_is_err_and c.from_residual.result c.from_residual.ensures.1 in
    rw (p.1, p.2) (header_failed g.S.Sink.sink c.args.out.now c.give_part.new.out c.args.gathering.now
    c.give_part.new.gathering c.args.minor c.args.found c.args.walk.now.left.query
    (g.B.Blocks.blocks.stored c.args.blocks.now) c.args.header.now c.requires.header c.in_err-give_part.ensures)

pub returns-in_err-give_part-clause-looked : goal.returns-in_err-give_part-clause-looked
returns-in_err-give_part-clause-looked g c = (looks_nothing g.B.Blocks.blocks c.args.blocks.now
    (g.met.B.Blocks.rests c.args.blocks.now)).up

pub returns-in_err-give_sections-clause-ends : goal.returns-in_err-give_sections-clause-ends
returns-in_err-give_sections-clause-ends g c =
    let p = err_from_is_err_and c.from_residual-in_err-give_sections.result
    c.from_residual-in_err-give_sections.ensures.1 in
    rw (p.1, p.2) (sections_failed g.S.Sink.sink c.args.out.now c.give_part.new.out c.give_sections.new.out
    c.args.gathering.now c.give_part.new.gathering c.give_sections.new.gathering
    c.args.minor c.args.found c.args.walk.now.left.query (g.B.Blocks.blocks.stored c.args.blocks.now)
    (looked_in g.B.Blocks.blocks c.args.blocks.now c.give_sections.new.blocks) c.args.header.now
    c.in_err-give_sections.field-0.0 g.met.S.Sink.joins c.requires.header c.in_ok-give_part.ensures
    c.in_err-give_sections.ensures.ends)

pub returns-in_err-give_end-clause-ends : goal.returns-in_err-give_end-clause-ends
returns-in_err-give_end-clause-ends g c =
    let p = err_from_is_err_and c.from_residual-in_err-give_end.result c.from_residual-in_err-give_end.ensures.1 in
    rw (p.1, p.2) (end_failed g.S.Sink.sink c.args.out.now c.give_part.new.out c.give_sections.new.out
    c.give_end.new.out
    c.args.gathering.now c.give_part.new.gathering c.give_sections.new.gathering c.give_end.new.gathering
    c.args.minor c.args.found c.args.walk.now.left.query (g.B.Blocks.blocks.stored c.args.blocks.now)
    c.args.header.now c.in_ok-give_sections.field-0 c.body_end-end.result.cut
    g.met.S.Sink.joins c.requires.header c.in_ok-give_part.ensures c.in_ok-give_sections.ensures.ends.0
    c.body_end-end.ensures.cut c.in_err-give_end.ensures)

pub returns-clause-ends : goal.returns-clause-ends
returns-clause-ends g c =
    parts_gave g.S.Sink.sink c.args.out.now c.give_part.new.out c.give_sections.new.out c.give_end.new.out
    c.args.gathering.now c.give_part.new.gathering c.give_sections.new.gathering c.give_end.new.gathering
    c.args.minor c.args.found c.args.walk.now.left.query (g.B.Blocks.blocks.stored c.args.blocks.now)
    (looked_in g.B.Blocks.blocks c.args.blocks.now c.give_sections.new.blocks)
    c.args.header.now c.in_ok-give_sections.field-0 c.body_end-end.result
    g.met.S.Sink.joins c.requires.header c.in_ok-give_part.ensures c.in_ok-give_sections.ensures.ends
    c.in_ok-give_sections.ensures.own
    c.body_end-end.ensures.cut c.body_end-end.ensures.failed c.in_ok-give_end.ensures
