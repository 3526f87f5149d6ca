use Rattle.std.proofs.Common.{map, subst}
use Rattle.tg_model.specs.LimitNumbers.{LimitNumbers}
use Rattle.tg_model.specs.Queries.{QueryParts}
use Rattle.tg_streams.specs.Streams.{into}
use Rattle.tg_verify.proofs.Lists.{wants_at_start}
use Rattle.tg_verify.specs.History.{AllEnd, section_of_pair}
use Rattle.tg_verify.proofs.all.verify_all.Goals as goal

pub returns-in-Ok : goal.returns-in-Ok
returns-in-Ok g c =
    let is = c.in-Ok.ensures in
    subst (λ (limits : LimitNumbers). AllEnd c.args.query.now limits (map section_of_pair c.args.sections.now) (into g.S.Sink.sink c.args.out.now c.take_all.new.out) c.take_all.result) is.limits
    (subst (λ (q : QueryParts). AllEnd q c.in-Ok.verifier.limits (map section_of_pair c.args.sections.now) (into g.S.Sink.sink c.args.out.now c.take_all.new.out) c.take_all.result) is.query
    c.take_all.ensures)

pub returns-in-Err : goal.returns-in-Err
returns-in-Err g c =
    wants_at_start c.verified_sections.ensures g.S.Sink.sink c.args.out.now c.args.query.now c.args.limits (map section_of_pair c.args.sections.now) (g.met.S.Sink.rests c.args.out.now)
