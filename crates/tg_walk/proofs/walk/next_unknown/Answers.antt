use Rattle.std.proofs.Common.{Ok, Option, ap, arith, refl, subst, sym, ◌∙◌}
use Rattle.std.proofs.lemmas.Result.{err_from_is_err_and}
use Rattle.tg_model.specs.Queries.{QueryParts}
use Rattle.tg_traversal.specs.declared.position.Wanted.{Wanted}
use Rattle.tg_walk.proofs.Fewer.{fewer_next}
use Rattle.tg_walk.proofs.Passing.{as_many, own_fault, near_done, near_front, near_left, near_on, near_pass, near_stops, near_then, on_wanted}
use Rattle.tg_walk.specs.Walks.{HasLevelsAt, IsNextMet}
use Rattle.tg_walk.specs.declared.walk.NextPlace.{NextPlace}
use Rattle.tg_walk.proofs.walk.next_unknown.Goals as goal

pub loop-next-init : goal.loop-next-init
loop-next-init c = record { query = refl; stands = λ store sections on. near_on c.store_walks.ensures c.args.frames.now c.args.known.now store sections c.requires on; fewer = omega arith }

pub returns-in_err-next-clause-stands : goal.returns-in_err-next-clause-stands
returns-in_err-next-clause-stands c store sections on =
    let p = err_from_is_err_and c.from_residual.result c.from_residual.ensures.1 in
    rw (p.1, p.2) (near_stops c.store_walks.ensures c.loop-next.frames c.next_met.new.frames c.loop-next.known store sections c.in_err-next.field-0.0 c.next_met.ensures.query
    (c.loop-next.invariant.stands store sections on) c.in_err-next.ensures.next)

pub returns-in_err-next-clause-fault : goal.returns-in_err-next-clause-fault
returns-in_err-next-clause-fault c =
    let p = err_from_is_err_and c.from_residual.result c.from_residual.ensures.1 in
    rw (p.1, p.2) (own_fault c.loop-next.frames c.next_met.new.frames c.in_err-next.field-0.0 c.in_err-next.ensures.next)

pub returns-in_err-leave-clause-stands : goal.returns-in_err-leave-clause-stands
returns-in_err-leave-clause-stands c store sections on =
    let p = err_from_is_err_and c.from_residual-in_err-leave.result c.from_residual-in_err-leave.ensures.1 in
    rw (p.1, p.2) (near_front c.store_walks.ensures c.next_met.new.frames.query c.loop-next.frames c.loop-next.known store sections c.next_met.ensures.query (c.loop-next.invariant.stands store sections on))

pub loop-next-smaller : goal.loop-next-smaller
loop-next-smaller c =
    let next = subst (λ (found : Option NextPlace). IsNextMet c.loop-next.frames (Ok found) c.next_met.new.frames) c.in-Some.is c.in_ok-next.ensures.next in
    let shallow = c.in-Some-known_levels.ensures.shallow in
    fewer_next 512 c.loop-next.frames c.next_met.new.frames c.pass.new.self c.in-Some.next.wanted next.0 (omega (arith, shallow)) c.pass.ensures.fewer

pub loop-next-preserved : goal.loop-next-preserved
loop-next-preserved c =
    let next = subst (λ (found : Option NextPlace). IsNextMet c.loop-next.frames (Ok found) c.next_met.new.frames) c.in-Some.is c.in_ok-next.ensures.next in
    let shallow = c.in-Some-known_levels.ensures.shallow in
    let less = fewer_next 512 c.loop-next.frames c.next_met.new.frames c.pass.new.self c.in-Some.next.wanted next.0 (omega (arith, shallow)) c.pass.ensures.fewer in
    let before = c.loop-next.invariant.fewer in
    record {
      query = c.pass.ensures.query ∙ c.next_met.ensures.query ∙ c.loop-next.invariant.query;
      stands = λ store sections on.
          near_pass c.store_walks.ensures c.next_met.new.frames c.pass.new.self c.leave.new.self c.deepen.new.self store sections next.0.0 c.in-Some.next.wanted c.role-role.result c.in-Some-known_levels.levels
          next.0.1 next.0.2 (c.role-role.ensures next.0.0 next.0.1)
          (subst (λ (q : QueryParts). HasLevelsAt q c.leave.new.self c.in-Some.next.wanted c.role-role.result c.in-Some-known_levels.levels) c.query.ensures c.in-Some-known_levels.ensures)
          c.in_ok-leave.ensures.above c.deepen.ensures.entries c.deepen.ensures.open c.pass.ensures.query c.pass.ensures.wanted c.pass.ensures.later
          (near_left c.next_met.new.frames c.meet.new.self c.leave.new.self store sections next.0.0 c.in-Some.next.wanted.depth next.0.1 (sym (ap (λ (w : Wanted). w.depth) next.0.2)) c.in_ok-leave.ensures.keys c.in_ok-leave.ensures.knows
          (near_then c.loop-next.frames c.next_met.new.frames c.loop-next.known c.meet.new.self c.in-Some.next.met store sections c.next_met.ensures.query next.0.3 next.1 c.meet.ensures.entries c.meet.ensures.open (c.loop-next.invariant.stands store sections on)));
      fewer = omega (arith, less, before);
    }

pub returns-in-None-clause-stands : goal.returns-in-None-clause-stands
returns-in-None-clause-stands c store sections on =
    let next = subst (λ (found : Option NextPlace). IsNextMet c.loop-next.frames (Ok found) c.next_met.new.frames) c.in-Some.is c.in_ok-next.ensures.next in
    on_wanted c.next_met.new.frames c.leave.new.self store sections next.0.0 (ap (λ (q : QueryParts). q.dups) (c.next_met.ensures.query ∙ c.loop-next.invariant.query) ∙ c.requires) next.0.1
    (near_left c.next_met.new.frames c.meet.new.self c.leave.new.self store sections next.0.0 c.in-Some.next.wanted.depth next.0.1 (sym (ap (λ (w : Wanted). w.depth) next.0.2)) c.in_ok-leave.ensures.keys c.in_ok-leave.ensures.knows
    (near_then c.loop-next.frames c.next_met.new.frames c.loop-next.known c.meet.new.self c.in-Some.next.met store sections c.next_met.ensures.query next.0.3 next.1 c.meet.ensures.entries c.meet.ensures.open (c.loop-next.invariant.stands store sections on)))

pub returns-in-None-clause-fewer : goal.returns-in-None-clause-fewer
returns-in-None-clause-fewer c =
    let next = subst (λ (found : Option NextPlace). IsNextMet c.loop-next.frames (Ok found) c.next_met.new.frames) c.in-Some.is c.in_ok-next.ensures.next in
    let many = as_many 512 c.loop-next.frames c.next_met.new.frames c.in-Some.next.wanted next.0 in
    let before = c.loop-next.invariant.fewer in
    omega (arith, many, before)

pub returns-clause-stands : goal.returns-clause-stands
returns-clause-stands c store sections on =
    near_done c.store_walks.ensures c.loop-next.frames c.next_met.new.frames c.loop-next.known store sections c.next_met.ensures.query (ap (λ (q : QueryParts). q.dups) c.loop-next.invariant.query ∙ c.requires)
    (c.loop-next.invariant.stands store sections on) (subst (λ (found : Option NextPlace). IsNextMet c.loop-next.frames (Ok found) c.next_met.new.frames) c.in_default.is c.in_ok-next.ensures.next)
