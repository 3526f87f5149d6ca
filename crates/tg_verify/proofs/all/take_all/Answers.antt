use Rattle.std.proofs.Common.{List, drop, map, subst, take, ℕ, ◌+◌, ◌≡◌}
use Rattle.std.proofs.lemmas.List.{take_all}
use Rattle.std.proofs.lemmas.Result.{err_from_is_err_and}
use Rattle.tg_cid.specs.Cid.{CidParts}
use Rattle.tg_model.specs.Dag.{Section}
use Rattle.tg_streams.specs.Streams.{into}
use Rattle.tg_verify.proofs.Lists.{AreTaken, ends_all, front_more, none_yet, split_at, split_behind, stops_at, stops_first, takes_one, wants_behind}
use Rattle.tg_verify.specs.History.{section_of_pair}
use Rattle.tg_verify.specs.Steps.{section_with}
use Rattle.tg_verify.proofs.all.take_all.Goals as goal

pub returns-in_err-start : goal.returns-in_err-start
returns-in_err-start g c =
    let p = err_from_is_err_and c.from_residual.result c.from_residual.ensures.1 in
    let says = c.in_err-start.ensures in
    rw (p.1, p.2) (stops_first c.args.verifier.now c.start.new.self (into g.S.Sink.sink c.args.out.now c.start.new.out) c.in_err-start.field-0.0 (map section_of_pair c.args.sections.now)
    (record { query = says.query; limits_are = says.limits; stands = says.stands c.requires.fresh; cause = says.cause c.requires.fresh.refused; refused = says.refused }))

pub loop-cid-init : goal.loop-cid-init
loop-cid-init g c =
    let says = c.in_ok-start.ensures in
    none_yet c.args.verifier.now c.start.new.self (into g.S.Sink.sink c.args.out.now c.start.new.out) c.in_ok-start.field-0
    (record { query = says.query; limits_are = says.limits; stands = says.stands c.requires.fresh; cause = says.cause c.requires.fresh.refused; refused = says.refused })

pub returns-in_err-block : goal.returns-in_err-block
returns-in_err-block g c =
    let p = err_from_is_err_and c.from_residual-in_err-block.result c.from_residual-in_err-block.ensures.1 in
    rw (p.1, p.2) (wants_behind c.args.verifier.now.left.query c.args.verifier.now.limits c.loop-cid.verifier (map section_of_pair (take c.loop-cid.cid-index c.args.sections.now))
    (map section_of_pair (drop c.loop-cid.cid-index c.args.sections.now)) (map section_of_pair c.args.sections.now) (into g.S.Sink.sink c.args.out.now c.loop-cid.out)
    (split_at c.loop-cid.cid-index c.args.sections.now) c.loop-cid.invariant)

pub returns-in_err-section : goal.returns-in_err-section
returns-in_err-section g c =
    let p = err_from_is_err_and c.from_residual-in_err-section.result c.from_residual-in_err-section.ensures.1 in
    let says = c.in_err-section.ensures in
    rw (p.1, p.2) (stops_at c.args.verifier.now.left.query c.args.verifier.now.limits g.S.Sink.sink g.met.S.Sink.joins c.args.out.now c.loop-cid.out c.section.new.out c.loop-cid.verifier c.section.new.self
    (map section_of_pair (take c.loop-cid.cid-index c.args.sections.now)) (section_with c.loop-cid-item.result.0 c.in_ok-block.block) c.loop-cid.invariant c.in_err-section.field-0.0
    (map section_of_pair (drop (c.loop-cid.cid-index + 1) c.args.sections.now)) (map section_of_pair c.args.sections.now)
    (split_behind c.args.sections.now c.as_slice-cid-items.result.now c.loop-cid.cid-index c.loop-cid-item.result c.as_slice.result.now c.in_ok-block.block c.as_slice-cid-items.ensures
    c.loop-cid-test.true c.loop-cid-item.is c.as_slice.ensures c.in_ok-block.ensures)
    (record { query = says.query; limits_are = says.limits; stands = says.stands; cause = says.cause; refused = says.refused }))

pub loop-cid-preserved : goal.loop-cid-preserved
loop-cid-preserved g c =
    let says = c.in_ok-section.ensures in
    subst (λ (front : List Section). AreTaken c.args.verifier.now.left.query c.args.verifier.now.limits c.section.new.self front (into g.S.Sink.sink c.args.out.now c.section.new.out))
    (front_more c.args.sections.now c.as_slice-cid-items.result.now c.loop-cid.cid-index c.loop-cid-item.result c.as_slice.result.now c.in_ok-block.block c.as_slice-cid-items.ensures
    c.loop-cid-test.true c.loop-cid-item.is c.as_slice.ensures c.in_ok-block.ensures)
    (takes_one c.args.verifier.now.left.query c.args.verifier.now.limits g.S.Sink.sink g.met.S.Sink.joins c.args.out.now c.loop-cid.out c.section.new.out c.loop-cid.verifier c.section.new.self
    (map section_of_pair (take c.loop-cid.cid-index c.args.sections.now)) (section_with c.loop-cid-item.result.0 c.in_ok-block.block) c.loop-cid.invariant c.in_ok-section.field-0
    (record { query = says.query; limits_are = says.limits; stands = says.stands; cause = says.cause; refused = says.refused }))

pub returns : goal.returns
returns g c =
    let items = c.as_slice-cid-items.result.now in
    let all = subst (λ (ps : List (CidParts × List ℕ)). take c.loop-cid.cid-index ps ≡ ps) c.as_slice-cid-items.ensures (take_all c.loop-cid.cid-index items c.loop-cid-test.false) in
    ends_all c.args.verifier.now.left.query c.args.verifier.now.limits c.loop-cid.verifier (map section_of_pair c.args.sections.now) (into g.S.Sink.sink c.args.out.now c.loop-cid.out) c.want.result c.want.ensures
    (subst (λ (ps : List (CidParts × List ℕ)). AreTaken c.args.verifier.now.left.query c.args.verifier.now.limits c.loop-cid.verifier (map section_of_pair ps) (into g.S.Sink.sink c.args.out.now c.loop-cid.out)) all
    c.loop-cid.invariant)
