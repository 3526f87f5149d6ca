use Rattle.std.proofs.Common.{[], refl, ◌∙◌}
use Rattle.std.proofs.lemmas.Result.{err_from_is_err_and}
use Rattle.tg_streams.specs.Streams.{into}
use Rattle.tg_fetch.proofs.Taking.{block_taken, refused_before, refused_end, refused_there}
use Rattle.tg_fetch.proofs.sections.RawBlock.verify.Goals as goal

pub returns-in_err-start-clause-ends : goal.returns-in_err-start-clause-ends
returns-in_err-start-clause-ends g c q limits head given h =
    let p = err_from_is_err_and c.from_residual.result c.from_residual.ensures.1 in
    let e = c.in_err-start in
    rw (p.1, p.2)
    (refused_before q limits head c.args.self.now given h c.start.new.self e.ensures.query e.ensures.limits (into g.S.Sink.sink c.args.out.now c.start.new.out) e.field-0.0
    (e.ensures.stands h.fresh) e.ensures.refused (e.ensures.cause h.fresh.refused))

pub returns-in_err-section-clause-ends : goal.returns-in_err-section-clause-ends
returns-in_err-section-clause-ends g c q limits head given h =
    let p = err_from_is_err_and c.from_residual-in_err-section.result c.from_residual-in_err-section.ensures.1 in
    let s = c.in_ok-start.ensures in
    let w = s.stands h.fresh in
    let e = c.in_err-section in
    rw (p.1, p.2)
    (refused_there q limits head c.args.self.now given h g.S.Sink.sink g.met.S.Sink.joins c.args.out.now c.start.new.out c.section.new.out w.text w.put
    c.section.new.self (e.ensures.query ∙ s.query) (e.ensures.limits ∙ s.limits) c.args.self.now.root c.replace-block.result refl c.replace-block.ensures.value e.field-0.0
    (e.ensures.stands [] w.text s.refused w.stands) e.ensures.refused)

pub returns-in_err-finish-clause-ends : goal.returns-in_err-finish-clause-ends
returns-in_err-finish-clause-ends g c q limits head given h =
    let p = err_from_is_err_and c.from_residual-in_err-finish.result c.from_residual-in_err-finish.ensures.1 in
    let s = c.in_ok-start.ensures in
    let w = s.stands h.fresh in
    let t = c.in_ok-section in
    let e = c.in_err-finish in
    rw (p.1, p.2)
    (refused_end q limits head c.args.self.now given h g.S.Sink.sink g.met.S.Sink.joins c.args.out.now c.start.new.out c.section.new.out w.text w.put
    c.section.new.self (t.ensures.query ∙ s.query) (t.ensures.limits ∙ s.limits) c.args.self.now.root c.replace-block.result refl c.replace-block.ensures.value t.field-0
    (t.ensures.stands [] w.text s.refused w.stands)
    c.finish.new.self e.ensures.query e.ensures.limits e.ensures.stands e.field-0.0 e.ensures.refused e.ensures.sound)

pub returns-clause-ends : goal.returns-clause-ends
returns-clause-ends g c q limits head given h =
    let s = c.in_ok-start.ensures in
    let w = s.stands h.fresh in
    let t = c.in_ok-section in
    let e = c.in_ok-finish in
    block_taken q limits head c.args.self.now given h g.S.Sink.sink g.met.S.Sink.joins c.args.out.now c.start.new.out c.section.new.out w.text w.put
    c.section.new.self (t.ensures.query ∙ s.query) (t.ensures.limits ∙ s.limits) c.args.self.now.root c.replace-block.result refl c.replace-block.ensures.value t.field-0
    (t.ensures.stands [] w.text s.refused w.stands) c.verified_answers.ensures e.ensures.done.0 e.ensures.done.1
