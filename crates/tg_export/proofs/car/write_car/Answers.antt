use Rattle.std.proofs.Common.{List, inl, subst, sym, ℕ, ◌∙◌}
use Rattle.std.proofs.lemmas.Result.{err_from_is_err_and}
use Rattle.tg_car.specs.Writing.{HeaderOf}
use Rattle.tg_cid.specs.Cid.{CidParts}
use Rattle.tg_export.proofs.Answering.{answers}
use Rattle.tg_export.proofs.Moves.{car_cause, looks_both, path_cause, puts_nothing, sink_cause}
use Rattle.tg_export.proofs.Parts.{car_of, out_ends, path_ends, path_leads, path_memory, put_ends, resolved}
use Rattle.tg_export.specs.Cars.{HasResolved}
use Rattle.tg_model.specs.Queries.{QueryParts}
use Rattle.tg_model.specs.Stores.{looked_in}
use Rattle.tg_streams.specs.Streams.{into}
use Rattle.tg_export.proofs.car.write_car.Goals as goal

pub returns-in_err-resolve-clause-ends : goal.returns-in_err-resolve-clause-ends
returns-in_err-resolve-clause-ends g c =
    let told = g.B.Blocks.blocks.stored c.args.blocks.now in
    let fault = c.in_err-resolve.field-0.0 in
    let p = err_from_is_err_and c.from_residual.result c.from_residual.ensures.1 in
    rw (p.1, p.2) (path_ends (into g.S.Sink.sink c.args.out.now c.args.out.now) c.args.query.now told fault (puts_nothing g.S.Sink.sink c.args.out.now (g.met.S.Sink.rests _))
    (path_leads c.args.query.now told c.root.result c.path.result.now fault c.root.ensures c.path.ensures.path c.in_err-resolve.ensures.end))

pub returns-in_err-resolve-clause-looked : goal.returns-in_err-resolve-clause-looked
returns-in_err-resolve-clause-looked g c = c.in_err-resolve.ensures.looked

pub returns-in_err-resolve-clause-cause : goal.returns-in_err-resolve-clause-cause
returns-in_err-resolve-clause-cause g c =
    let p = err_from_is_err_and c.from_residual.result c.from_residual.ensures.1 in
    rw (p.1, p.2) (path_cause (g.B.Blocks.blocks.stored c.args.blocks.now) (looked_in g.B.Blocks.blocks c.args.blocks.now c.resolve.new.blocks) c.in_err-resolve.field-0.0 c.in_err-resolve.ensures.cause)

pub returns-in_err-resolve-clause-memory : goal.returns-in_err-resolve-clause-memory
returns-in_err-resolve-clause-memory g c =
    let p = err_from_is_err_and c.from_residual.result c.from_residual.ensures.1 in
    rw (p.1, p.2) (path_memory c.in_err-resolve.field-0.0)

pub returns-in_err-resolve-clause-answered : goal.returns-in_err-resolve-clause-answered
returns-in_err-resolve-clause-answered g c store sections told all =
    answers c.args.query.now (g.B.Blocks.blocks.stored c.args.blocks.now) (into g.S.Sink.sink c.args.out.now c.args.out.now) (looked_in g.B.Blocks.blocks c.args.blocks.now c.resolve.new.blocks)
    store sections c.from_residual.result (returns-in_err-resolve-clause-ends g c) (returns-in_err-resolve-clause-cause g c) (returns-in_err-resolve-clause-memory g c) told all

pub returns-in_err-header-clause-ends : goal.returns-in_err-header-clause-ends
returns-in_err-header-clause-ends g c =
    let p = err_from_is_err_and c.from_residual-in_err-header.result c.from_residual-in_err-header.ensures.1 in
    rw (p.1, p.2) (inl (puts_nothing g.S.Sink.sink c.args.out.now (g.met.S.Sink.rests _)))

pub returns-in_err-header-clause-looked : goal.returns-in_err-header-clause-looked
returns-in_err-header-clause-looked g c = c.in_ok-resolve.ensures.looked

pub returns-in_err-header-clause-cause : goal.returns-in_err-header-clause-cause
returns-in_err-header-clause-cause g c =
    let p = err_from_is_err_and c.from_residual-in_err-header.result c.from_residual-in_err-header.ensures.1 in
    rw (p.1, p.2) c.in_ok-resolve.ensures.cause

pub returns-in_err-header-clause-memory : goal.returns-in_err-header-clause-memory
returns-in_err-header-clause-memory g c =
    let p = err_from_is_err_and c.from_residual-in_err-header.result c.from_residual-in_err-header.ensures.1 in
    rw (p.1, p.2) tt

pub returns-in_err-header-clause-answered : goal.returns-in_err-header-clause-answered
returns-in_err-header-clause-answered g c store sections told all =
    let p = err_from_is_err_and c.from_residual-in_err-header.result c.from_residual-in_err-header.ensures.1 in
    rw (p.1, p.2) tt

pub returns-in_err-walk-clause-ends : goal.returns-in_err-walk-clause-ends
returns-in_err-walk-clause-ends g c =
    let p = err_from_is_err_and c.from_residual-in_err-walk.result c.from_residual-in_err-walk.ensures.1 in
    rw (p.1, p.2) (inl (puts_nothing g.S.Sink.sink c.args.out.now (g.met.S.Sink.rests _)))

pub returns-in_err-walk-clause-looked : goal.returns-in_err-walk-clause-looked
returns-in_err-walk-clause-looked g c = c.in_ok-resolve.ensures.looked

pub returns-in_err-walk-clause-cause : goal.returns-in_err-walk-clause-cause
returns-in_err-walk-clause-cause g c =
    let p = err_from_is_err_and c.from_residual-in_err-walk.result c.from_residual-in_err-walk.ensures.1 in
    rw (p.1, p.2) c.in_ok-resolve.ensures.cause

pub returns-in_err-walk-clause-memory : goal.returns-in_err-walk-clause-memory
returns-in_err-walk-clause-memory g c =
    let p = err_from_is_err_and c.from_residual-in_err-walk.result c.from_residual-in_err-walk.ensures.1 in
    rw (p.1, p.2) tt

pub returns-in_err-walk-clause-answered : goal.returns-in_err-walk-clause-answered
returns-in_err-walk-clause-answered g c store sections told all =
    let p = err_from_is_err_and c.from_residual-in_err-walk.result c.from_residual-in_err-walk.ensures.1 in
    rw (p.1, p.2) tt

pub returns-in_err-gathering-clause-ends : goal.returns-in_err-gathering-clause-ends
returns-in_err-gathering-clause-ends g c =
    let p = err_from_is_err_and c.from_residual-in_err-gathering.result c.from_residual-in_err-gathering.ensures.1 in
    rw (p.1, p.2) (inl (puts_nothing g.S.Sink.sink c.args.out.now (g.met.S.Sink.rests _)))

pub returns-in_err-gathering-clause-looked : goal.returns-in_err-gathering-clause-looked
returns-in_err-gathering-clause-looked g c = c.in_ok-resolve.ensures.looked

pub returns-in_err-gathering-clause-cause : goal.returns-in_err-gathering-clause-cause
returns-in_err-gathering-clause-cause g c =
    let p = err_from_is_err_and c.from_residual-in_err-gathering.result c.from_residual-in_err-gathering.ensures.1 in
    rw (p.1, p.2) c.in_ok-resolve.ensures.cause

pub returns-in_err-gathering-clause-memory : goal.returns-in_err-gathering-clause-memory
returns-in_err-gathering-clause-memory g c =
    let p = err_from_is_err_and c.from_residual-in_err-gathering.result c.from_residual-in_err-gathering.ensures.1 in
    rw (p.1, p.2) tt

pub returns-in_err-gathering-clause-answered : goal.returns-in_err-gathering-clause-answered
returns-in_err-gathering-clause-answered g c store sections told all =
    let p = err_from_is_err_and c.from_residual-in_err-gathering.result c.from_residual-in_err-gathering.ensures.1 in
    rw (p.1, p.2) tt

pub give_all-end-requires : goal.give_all-end-requires
give_all-end-requires g c =
    let q = c.in_ok-walk.ensures.query in
    let way = resolved c.args.query.now (g.B.Blocks.blocks.stored c.args.blocks.now) c.root.result c.path.result.now c.in_ok-resolve.field-0 c.root.ensures c.path.ensures.path c.in_ok-resolve.ensures.end in
    let is = subst (λ (root : CidParts). HeaderOf root c.in_ok-header.header) c.root-2.ensures c.in_ok-header.ensures in
    record {
      header = subst (λ (bytes : List ℕ). HeaderOf c.in_ok-walk.walk.left.query.root bytes) (sym c.as_slice.ensures) (subst (λ (p : QueryParts). HeaderOf p.root c.in_ok-header.header) (sym q) is);
      resolved = λ store e. subst (λ (p : QueryParts). HasResolved store p) (sym q) (way store (sym c.in_ok-resolve.ensures.looked.looked.stored ∙ e));
      fresh = c.in_ok-walk.ensures.fresh;
      stands = c.in_ok-walk.ensures.stands;
    }

pub returns-in_err-put_out-clause-ends : goal.returns-in_err-put_out-clause-ends
returns-in_err-put_out-clause-ends g c =
    let given = car_of g.S.Sink.sink c.args.out.now c.give_all-end.new.out c.in_ok-gathering.gathering c.give_all-end.new.gathering c.args.query.now c.in_ok-walk.walk.left.query (g.B.Blocks.blocks.stored c.args.blocks.now)
    (g.B.Blocks.blocks.stored c.resolve.new.blocks) c.give_all-end.result c.in_ok-gathering.ensures c.in_ok-walk.ensures.query c.in_ok-resolve.ensures.looked.looked.stored c.give_all-end.ensures.given in
    let p = err_from_is_err_and c.from_residual-in_err-put_out.result c.from_residual-in_err-put_out.ensures.1 in
    rw (p.1, p.2) (out_ends g.S.Sink.sink c.args.out.now c.give_all-end.new.out c.put_out.new.sink c.give_all-end.new.gathering c.args.query.now (g.B.Blocks.blocks.stored c.args.blocks.now) g.met.S.Sink.joins c.give_all-end.result
    given c.in_err-put_out.ensures.err_front)

pub returns-in_err-put_out-clause-looked : goal.returns-in_err-put_out-clause-looked
returns-in_err-put_out-clause-looked g c =
    looks_both g.B.Blocks.blocks c.args.blocks.now c.resolve.new.blocks c.give_all-end.new.blocks g.met.B.Blocks.joins c.in_ok-resolve.ensures.looked c.give_all-end.ensures.looked

pub returns-in_err-put_out-clause-cause : goal.returns-in_err-put_out-clause-cause
returns-in_err-put_out-clause-cause g c =
    let p = err_from_is_err_and c.from_residual-in_err-put_out.result c.from_residual-in_err-put_out.ensures.1 in
    rw (p.1, p.2) (sink_cause (g.B.Blocks.blocks.stored c.args.blocks.now) (looked_in g.B.Blocks.blocks c.args.blocks.now c.give_all-end.new.blocks) c.give_all-end.result
    (car_cause g.B.Blocks.blocks c.args.blocks.now c.resolve.new.blocks c.give_all-end.new.blocks c.give_all-end.result
    (record { up = c.in_ok-resolve.ensures.looked; quiet = c.in_ok-resolve.ensures.cause }) c.give_all-end.ensures.cause))

pub returns-in_err-put_out-clause-memory : goal.returns-in_err-put_out-clause-memory
returns-in_err-put_out-clause-memory g c =
    let p = err_from_is_err_and c.from_residual-in_err-put_out.result c.from_residual-in_err-put_out.ensures.1 in
    rw (p.1, p.2) tt

pub returns-in_err-put_out-clause-answered : goal.returns-in_err-put_out-clause-answered
returns-in_err-put_out-clause-answered g c store sections told all =
    let p = err_from_is_err_and c.from_residual-in_err-put_out.result c.from_residual-in_err-put_out.ensures.1 in
    rw (p.1, p.2) tt

pub returns-clause-ends : goal.returns-clause-ends
returns-clause-ends g c =
    let given = car_of g.S.Sink.sink c.args.out.now c.give_all-end.new.out c.in_ok-gathering.gathering c.give_all-end.new.gathering c.args.query.now c.in_ok-walk.walk.left.query (g.B.Blocks.blocks.stored c.args.blocks.now)
    (g.B.Blocks.blocks.stored c.resolve.new.blocks) c.give_all-end.result c.in_ok-gathering.ensures c.in_ok-walk.ensures.query c.in_ok-resolve.ensures.looked.looked.stored c.give_all-end.ensures.given in
    put_ends g.S.Sink.sink c.args.out.now c.give_all-end.new.out c.put_out.new.sink c.give_all-end.new.gathering c.args.query.now (g.B.Blocks.blocks.stored c.args.blocks.now) g.met.S.Sink.joins c.give_all-end.result
    given (record { put = c.in_ok-put_out.ensures.put; quiet = c.in_ok-put_out.ensures.quiet }) (λ e. (c.put_out.ensures.still e).1)

pub returns-clause-looked : goal.returns-clause-looked
returns-clause-looked g c =
    looks_both g.B.Blocks.blocks c.args.blocks.now c.resolve.new.blocks c.give_all-end.new.blocks g.met.B.Blocks.joins c.in_ok-resolve.ensures.looked c.give_all-end.ensures.looked

pub returns-clause-cause : goal.returns-clause-cause
returns-clause-cause g c =
    car_cause g.B.Blocks.blocks c.args.blocks.now c.resolve.new.blocks c.give_all-end.new.blocks c.give_all-end.result
    (record { up = c.in_ok-resolve.ensures.looked; quiet = c.in_ok-resolve.ensures.cause }) c.give_all-end.ensures.cause

pub returns-clause-memory : goal.returns-clause-memory
returns-clause-memory g c = c.give_all-end.ensures.memory

pub returns-clause-answered : goal.returns-clause-answered
returns-clause-answered g c store sections told all =
    answers c.args.query.now (g.B.Blocks.blocks.stored c.args.blocks.now) (into g.S.Sink.sink c.args.out.now c.put_out.new.sink) (looked_in g.B.Blocks.blocks c.args.blocks.now c.give_all-end.new.blocks)
    store sections c.give_all-end.result (returns-clause-ends g c) (returns-clause-cause g c) (returns-clause-memory g c) told all
