use Rattle.std.proofs.Common.{Err, Ok, Option, Some, arith, subst, sym, ◌∙◌}
use Rattle.std.proofs.lemmas.Result.{err_from_is_err_and}
use Rattle.tg_walk.proofs.PathLookups.{bad_along, before_along, failed_along, gone_along, leads_along, looks_past, looks_start, no_root_along}
use Rattle.tg_walk.proofs.PathShapes.{before_shape, block_shape, no_root_shape, store_shape}
use Rattle.tg_walk.proofs.PathSteps.{IsPlaceAlong, before_cause, block_cause, cause_since, fetched_up, goes_on, gone_there, leads_there, looks_both, looks_on, never_ends, no_root, place_along, starts, stops_at_block, stops_before, store_stops, wanted_here}
use Rattle.tg_walk.proofs.WalkSteps.{found_in}
use Rattle.tg_walk.proofs.resolving.follow.Goals.{else-loop-passed-test, else-passed-eq0, then-loop-passed-test+in_ok-place+in_default, then-passed-eq0}
use Rattle.tg_walk.specs.Resolving.{HasLookedAlong, HasResolveCause, HasResolveShape, IsResolvedTo}
use Rattle.tg_walk.specs.Walks.{IsNextPlace}
use Rattle.tg_walk.specs.declared.fault.ResolveFault.{ResolveFault}
use Rattle.tg_traversal.specs.declared.position.Wanted.{Wanted}
use Rattle.tg_model.specs.Stores.{looked_in}
use Rattle.tg_walk.proofs.resolving.follow.Goals as goal

pub loop-passed-init : goal.loop-passed-init
loop-passed-init g c = record {
  along = starts c.resolved_paths.ensures c.args.root.now c.args.frames.now.query.path (g.B.Blocks.blocks.stored c.args.blocks.now) c.args.frames.now c.requires.query c.requires.start;
  looked = looks_start g.B.Blocks.blocks c.args.blocks.now c.args.root.now c.args.frames.now.query.path (g.B.Blocks.blocks.stored c.args.blocks.now) c.args.frames.now (g.met.B.Blocks.rests c.args.blocks.now) c.requires.start;
}

pub returns-in_err-place-clause-end : goal.returns-in_err-place-clause-end
returns-in_err-place-clause-end g c store told =
    let p = err_from_is_err_and c.from_residual.result c.from_residual.ensures.1 in
    rw (p.1, p.2) (stops_before c.resolved_paths.ensures c.args.root.now c.args.frames.now.query.path (g.B.Blocks.blocks.stored c.args.blocks.now) store c.loop-passed.passed c.loop-passed.frames c.next_place.new.frames c.in_err-place.field-0.0 told c.loop-passed.invariant.along c.in_err-place.ensures.next)

pub returns-in_err-place-clause-shape : goal.returns-in_err-place-clause-shape
returns-in_err-place-clause-shape g c =
    let p = err_from_is_err_and c.from_residual.result c.from_residual.ensures.1 in
    rw (p.1, p.2) (before_shape c.args.root.now c.args.frames.now.query.path (g.B.Blocks.blocks.stored c.args.blocks.now) c.loop-passed.passed c.loop-passed.frames c.next_place.new.frames c.in_err-place.field-0.0 c.loop-passed.invariant.along c.in_err-place.ensures.next)

pub returns-in_err-place-clause-looked : goal.returns-in_err-place-clause-looked
returns-in_err-place-clause-looked g c =
    c.loop-passed.invariant.looked.so.up

pub returns-in_err-place-clause-cause : goal.returns-in_err-place-clause-cause
returns-in_err-place-clause-cause g c =
    let p = err_from_is_err_and c.from_residual.result c.from_residual.ensures.1 in
    rw (p.1, p.2) (before_cause (g.B.Blocks.blocks.stored c.args.blocks.now) (looked_in g.B.Blocks.blocks c.args.blocks.now c.loop-passed.blocks) c.loop-passed.frames c.next_place.new.frames c.in_err-place.field-0.0 c.in_err-place.ensures.next c.loop-passed.invariant.looked.so.quiet)

pub returns-in_err-block-clause-end : goal.returns-in_err-block-clause-end
returns-in_err-block-clause-end g c store told =
    let p = err_from_is_err_and c.from_residual-in_err-block.result c.from_residual-in_err-block.ensures.1 in
    rw (p.1, p.2) (store_stops store c.args.root.now c.args.frames.now.query.path c.in_err-block.field-0.0)

pub returns-in_err-block-clause-shape : goal.returns-in_err-block-clause-shape
returns-in_err-block-clause-shape g c =
    let p = err_from_is_err_and c.from_residual-in_err-block.result c.from_residual-in_err-block.ensures.1 in
    rw (p.1, p.2) (store_shape c.args.root.now c.args.frames.now.query.path c.in_err-block.field-0.0)

pub returns-in_err-block-clause-looked : goal.returns-in_err-block-clause-looked
returns-in_err-block-clause-looked g c =
    looks_both g.B.Blocks.blocks c.args.blocks.now c.loop-passed.blocks c.fetch.new.blocks g.met.B.Blocks.joins c.loop-passed.invariant.looked.so.up (fetched_up _ _ _ c.in_err-block.ensures.looked)

pub returns-in_err-block-clause-cause : goal.returns-in_err-block-clause-cause
returns-in_err-block-clause-cause g c =
    let p = err_from_is_err_and c.from_residual-in_err-block.result c.from_residual-in_err-block.ensures.1 in
    rw (p.1, p.2) (cause_since g.B.Blocks.blocks c.args.blocks.now c.loop-passed.blocks c.fetch.new.blocks c.in-Some.place.cid c.in_err-block.field-0.0 c.loop-passed.invariant.looked.so c.in_err-block.ensures.cause)

pub returns-in_default-2-clause-end : goal.returns-in_default-2-clause-end
returns-in_default-2-clause-end g c store told =
    let there : IsPlaceAlong c.args.root.now c.args.frames.now.query.path (g.B.Blocks.blocks.stored c.args.blocks.now) c.loop-passed.passed c.next_place.new.frames c.in-Some.place = (place_along c.args.root.now c.args.frames.now.query.path (g.B.Blocks.blocks.stored c.args.blocks.now) c.loop-passed.passed c.loop-passed.frames c.next_place.new.frames c.in-Some.place c.next_place.ensures.query c.loop-passed.invariant.along
    (subst (λ (found : Option Wanted). IsNextPlace c.loop-passed.frames (Ok found) c.next_place.new.frames) c.in-Some.is c.in_ok-place.ensures.next)) in
    elim c.if-passed-eq0.branch [
      | then-passed-eq0 w ↦ subst (λ (fault : ResolveFault). IsResolvedTo store c.args.root.now c.args.frames.now.query.path (Err fault)) (sym w.result-is)
          (no_root c.args.root.now c.args.frames.now.query.path (g.B.Blocks.blocks.stored c.args.blocks.now) store c.loop-passed.passed c.next_place.new.frames c.in-Some.place there w.if-passed-eq0.true (found_in (g.B.Blocks.blocks.stored c.loop-passed.blocks) store c.in-Some.place.cid c.in_ok-block.field-0 (c.loop-passed.invariant.looked.so.up.looked.stored ∙ told) c.in_ok-block.ensures.found ∙ c.in_default-2.is))
      | else-passed-eq0 w ↦ subst (λ (fault : ResolveFault). IsResolvedTo store c.args.root.now c.args.frames.now.query.path (Err fault)) (sym w.result-is)
          (gone_there c.resolved_paths.ensures c.args.root.now c.args.frames.now.query.path (g.B.Blocks.blocks.stored c.args.blocks.now) store c.loop-passed.passed c.next_place.new.frames c.in-Some.place c.requires.few told there w.if-passed-eq0.false (found_in (g.B.Blocks.blocks.stored c.loop-passed.blocks) store c.in-Some.place.cid c.in_ok-block.field-0 (c.loop-passed.invariant.looked.so.up.looked.stored ∙ told) c.in_ok-block.ensures.found ∙ c.in_default-2.is))
    ]

pub returns-in_default-2-clause-shape : goal.returns-in_default-2-clause-shape
returns-in_default-2-clause-shape g c =
    let there : IsPlaceAlong c.args.root.now c.args.frames.now.query.path (g.B.Blocks.blocks.stored c.args.blocks.now) c.loop-passed.passed c.next_place.new.frames c.in-Some.place = (place_along c.args.root.now c.args.frames.now.query.path (g.B.Blocks.blocks.stored c.args.blocks.now) c.loop-passed.passed c.loop-passed.frames c.next_place.new.frames c.in-Some.place c.next_place.ensures.query c.loop-passed.invariant.along
    (subst (λ (found : Option Wanted). IsNextPlace c.loop-passed.frames (Ok found) c.next_place.new.frames) c.in-Some.is c.in_ok-place.ensures.next)) in
    elim c.if-passed-eq0.branch [
      | then-passed-eq0 w ↦ subst (λ (fault : ResolveFault). HasResolveShape c.args.root.now c.args.frames.now.query.path (Err fault)) (sym w.result-is)
          (no_root_shape c.args.root.now c.args.frames.now.query.path (g.B.Blocks.blocks.stored c.args.blocks.now) c.loop-passed.passed c.next_place.new.frames c.in-Some.place c.in_ok-block.field-0 there w.if-passed-eq0.true c.in_ok-block.ensures.identity c.in_default-2.is)
      | else-passed-eq0 w ↦ subst (λ (fault : ResolveFault). HasResolveShape c.args.root.now c.args.frames.now.query.path (Err fault)) (sym w.result-is)
          (λ z. w.if-passed-eq0.false (there.only z))
    ]

pub returns-in_default-2-clause-looked : goal.returns-in_default-2-clause-looked
returns-in_default-2-clause-looked g c =
    looks_both g.B.Blocks.blocks c.args.blocks.now c.loop-passed.blocks c.fetch.new.blocks g.met.B.Blocks.joins c.loop-passed.invariant.looked.so.up (fetched_up _ _ _ c.in_ok-block.ensures.looked)

pub returns-in_default-2-clause-cause : goal.returns-in_default-2-clause-cause
returns-in_default-2-clause-cause g c =
    elim c.if-passed-eq0.branch [
      | then-passed-eq0 w ↦ subst (λ (fault : ResolveFault). HasResolveCause (Err fault) (g.B.Blocks.blocks.stored c.args.blocks.now) (looked_in g.B.Blocks.blocks c.args.blocks.now c.fetch.new.blocks)) (sym w.result-is) (looks_on g.B.Blocks.blocks c.args.blocks.now c.loop-passed.blocks c.fetch.new.blocks g.met.B.Blocks.joins c.loop-passed.invariant.looked.so (fetched_up _ _ _ c.in_ok-block.ensures.looked) c.in_ok-block.ensures.looked.quiet).quiet
      | else-passed-eq0 w ↦ subst (λ (fault : ResolveFault). HasResolveCause (Err fault) (g.B.Blocks.blocks.stored c.args.blocks.now) (looked_in g.B.Blocks.blocks c.args.blocks.now c.fetch.new.blocks)) (sym w.result-is) (looks_on g.B.Blocks.blocks c.args.blocks.now c.loop-passed.blocks c.fetch.new.blocks g.met.B.Blocks.joins c.loop-passed.invariant.looked.so (fetched_up _ _ _ c.in_ok-block.ensures.looked) c.in_ok-block.ensures.looked.quiet).quiet
    ]

pub returns-then-not-is_read-clause-end : goal.returns-then-not-is_read-clause-end
returns-then-not-is_read-clause-end g c store told =
    let there : IsPlaceAlong c.args.root.now c.args.frames.now.query.path (g.B.Blocks.blocks.stored c.args.blocks.now) c.loop-passed.passed c.next_place.new.frames c.in-Some.place = (place_along c.args.root.now c.args.frames.now.query.path (g.B.Blocks.blocks.stored c.args.blocks.now) c.loop-passed.passed c.loop-passed.frames c.next_place.new.frames c.in-Some.place c.next_place.ensures.query c.loop-passed.invariant.along
    (subst (λ (found : Option Wanted). IsNextPlace c.loop-passed.frames (Ok found) c.next_place.new.frames) c.in-Some.is c.in_ok-place.ensures.next)) in
    leads_there c.resolved_paths.ensures c.args.root.now c.args.frames.now.query.path (g.B.Blocks.blocks.stored c.args.blocks.now) store c.loop-passed.passed c.next_place.new.frames c.in-Some.place c.in-Some-2.block c.requires.few told there (found_in (g.B.Blocks.blocks.stored c.loop-passed.blocks) store c.in-Some.place.cid c.in_ok-block.field-0 (c.loop-passed.invariant.looked.so.up.looked.stored ∙ told) c.in_ok-block.ensures.found ∙ c.in-Some-2.is) (λ at w. sym (c.is_read.ensures at w) ∙ c.if-not-is_read.true)

pub returns-then-not-is_read-clause-looked : goal.returns-then-not-is_read-clause-looked
returns-then-not-is_read-clause-looked g c =
    looks_both g.B.Blocks.blocks c.args.blocks.now c.loop-passed.blocks c.fetch.new.blocks g.met.B.Blocks.joins c.loop-passed.invariant.looked.so.up (fetched_up _ _ _ c.in_ok-block.ensures.looked)

pub returns-then-not-is_read-clause-cause : goal.returns-then-not-is_read-clause-cause
returns-then-not-is_read-clause-cause g c =
    (looks_on g.B.Blocks.blocks c.args.blocks.now c.loop-passed.blocks c.fetch.new.blocks g.met.B.Blocks.joins c.loop-passed.invariant.looked.so (fetched_up _ _ _ c.in_ok-block.ensures.looked) c.in_ok-block.ensures.looked.quiet).quiet

pub open-requires : goal.open-requires
open-requires g c =
    let there : IsPlaceAlong c.args.root.now c.args.frames.now.query.path (g.B.Blocks.blocks.stored c.args.blocks.now) c.loop-passed.passed c.next_place.new.frames c.in-Some.place = (place_along c.args.root.now c.args.frames.now.query.path (g.B.Blocks.blocks.stored c.args.blocks.now) c.loop-passed.passed c.loop-passed.frames c.next_place.new.frames c.in-Some.place c.next_place.ensures.query c.loop-passed.invariant.along
    (subst (λ (found : Option Wanted). IsNextPlace c.loop-passed.frames (Ok found) c.next_place.new.frames) c.in-Some.is c.in_ok-place.ensures.next)) in
    wanted_here c.args.root.now c.args.frames.now.query.path (g.B.Blocks.blocks.stored c.args.blocks.now) c.loop-passed.passed c.next_place.new.frames c.in-Some.place there (let b = c.loop-passed-test.true in omega (arith, b))

pub returns-in_err-open-clause-end : goal.returns-in_err-open-clause-end
returns-in_err-open-clause-end g c store told =
    let there : IsPlaceAlong c.args.root.now c.args.frames.now.query.path (g.B.Blocks.blocks.stored c.args.blocks.now) c.loop-passed.passed c.next_place.new.frames c.in-Some.place = (place_along c.args.root.now c.args.frames.now.query.path (g.B.Blocks.blocks.stored c.args.blocks.now) c.loop-passed.passed c.loop-passed.frames c.next_place.new.frames c.in-Some.place c.next_place.ensures.query c.loop-passed.invariant.along
    (subst (λ (found : Option Wanted). IsNextPlace c.loop-passed.frames (Ok found) c.next_place.new.frames) c.in-Some.is c.in_ok-place.ensures.next)) in
    let p = err_from_is_err_and c.from_residual-in_err-open.result c.from_residual-in_err-open.ensures.1 in
    rw (p.1, p.2) (stops_at_block c.resolved_paths.ensures c.args.root.now c.args.frames.now.query.path (g.B.Blocks.blocks.stored c.args.blocks.now) store c.loop-passed.passed c.next_place.new.frames c.open.new.frames c.in-Some.place c.in-Some-2.block c.in_err-open.field-0.0
    c.requires.few told there (found_in (g.B.Blocks.blocks.stored c.loop-passed.blocks) store c.in-Some.place.cid c.in_ok-block.field-0 (c.loop-passed.invariant.looked.so.up.looked.stored ∙ told) c.in_ok-block.ensures.found ∙ c.in-Some-2.is) c.in_err-open.ensures.opened)

pub returns-in_err-open-clause-shape : goal.returns-in_err-open-clause-shape
returns-in_err-open-clause-shape g c =
    let there : IsPlaceAlong c.args.root.now c.args.frames.now.query.path (g.B.Blocks.blocks.stored c.args.blocks.now) c.loop-passed.passed c.next_place.new.frames c.in-Some.place = (place_along c.args.root.now c.args.frames.now.query.path (g.B.Blocks.blocks.stored c.args.blocks.now) c.loop-passed.passed c.loop-passed.frames c.next_place.new.frames c.in-Some.place c.next_place.ensures.query c.loop-passed.invariant.along
    (subst (λ (found : Option Wanted). IsNextPlace c.loop-passed.frames (Ok found) c.next_place.new.frames) c.in-Some.is c.in_ok-place.ensures.next)) in
    let p = err_from_is_err_and c.from_residual-in_err-open.result c.from_residual-in_err-open.ensures.1 in
    rw (p.1, p.2) (block_shape c.args.root.now c.args.frames.now.query.path (g.B.Blocks.blocks.stored c.args.blocks.now) c.loop-passed.passed c.next_place.new.frames c.open.new.frames c.in-Some.place c.in-Some-2.block c.in_err-open.field-0.0
    there (λ at w. sym (c.is_read.ensures at w) ∙ c.if-not-is_read.false) c.in_err-open.ensures.opened)

pub returns-in_err-open-clause-looked : goal.returns-in_err-open-clause-looked
returns-in_err-open-clause-looked g c =
    looks_both g.B.Blocks.blocks c.args.blocks.now c.loop-passed.blocks c.fetch.new.blocks g.met.B.Blocks.joins c.loop-passed.invariant.looked.so.up (fetched_up _ _ _ c.in_ok-block.ensures.looked)

pub returns-in_err-open-clause-cause : goal.returns-in_err-open-clause-cause
returns-in_err-open-clause-cause g c =
    let there : IsPlaceAlong c.args.root.now c.args.frames.now.query.path (g.B.Blocks.blocks.stored c.args.blocks.now) c.loop-passed.passed c.next_place.new.frames c.in-Some.place = (place_along c.args.root.now c.args.frames.now.query.path (g.B.Blocks.blocks.stored c.args.blocks.now) c.loop-passed.passed c.loop-passed.frames c.next_place.new.frames c.in-Some.place c.next_place.ensures.query c.loop-passed.invariant.along
    (subst (λ (found : Option Wanted). IsNextPlace c.loop-passed.frames (Ok found) c.next_place.new.frames) c.in-Some.is c.in_ok-place.ensures.next)) in
    let p = err_from_is_err_and c.from_residual-in_err-open.result c.from_residual-in_err-open.ensures.1 in
    rw (p.1, p.2) (block_cause c.args.root.now c.args.frames.now.query.path (g.B.Blocks.blocks.stored c.args.blocks.now) (g.B.Blocks.blocks.stored c.args.blocks.now) (looked_in g.B.Blocks.blocks c.args.blocks.now c.fetch.new.blocks) c.loop-passed.passed c.next_place.new.frames c.open.new.frames c.in-Some.place c.in-Some-2.block c.in_err-open.field-0.0
    there c.in_err-open.ensures.opened (looks_on g.B.Blocks.blocks c.args.blocks.now c.loop-passed.blocks c.fetch.new.blocks g.met.B.Blocks.joins c.loop-passed.invariant.looked.so (fetched_up _ _ _ c.in_ok-block.ensures.looked) c.in_ok-block.ensures.looked.quiet).quiet)

pub loop-passed-preserved : goal.loop-passed-preserved
loop-passed-preserved g c =
    let next : IsNextPlace c.loop-passed.frames (Ok (Some c.in-Some.place)) c.next_place.new.frames =
    subst (λ (found : Option Wanted). IsNextPlace c.loop-passed.frames (Ok found) c.next_place.new.frames) c.in-Some.is c.in_ok-place.ensures.next in
    let there : IsPlaceAlong c.args.root.now c.args.frames.now.query.path (g.B.Blocks.blocks.stored c.args.blocks.now) c.loop-passed.passed c.next_place.new.frames c.in-Some.place =
    place_along c.args.root.now c.args.frames.now.query.path (g.B.Blocks.blocks.stored c.args.blocks.now) c.loop-passed.passed c.loop-passed.frames c.next_place.new.frames c.in-Some.place c.next_place.ensures.query c.loop-passed.invariant.along next in
    record {
      along = goes_on c.resolved_paths.ensures c.args.root.now c.args.frames.now.query.path (g.B.Blocks.blocks.stored c.args.blocks.now) c.loop-passed.passed c.next_place.new.frames c.open.new.frames c.in-Some.place c.in-Some-2.block _ c.requires.few there
          (λ store told. (found_in (g.B.Blocks.blocks.stored c.loop-passed.blocks) store c.in-Some.place.cid c.in_ok-block.field-0 (c.loop-passed.invariant.looked.so.up.looked.stored ∙ told) c.in_ok-block.ensures.found ∙ c.in-Some-2.is)) c.open.ensures.query (λ at w. sym (c.is_read.ensures at w) ∙ c.if-not-is_read.false) c.in_ok-open.ensures.opened;
      looked = looks_past g.B.Blocks.blocks c.args.blocks.now c.loop-passed.blocks c.fetch.new.blocks g.met.B.Blocks.joins c.args.root.now c.args.frames.now.query.path (g.B.Blocks.blocks.stored c.args.blocks.now) c.loop-passed.passed c.loop-passed.frames c.next_place.new.frames c.open.new.frames c.in-Some.place c.in_ok-block.field-0 c.in-Some-2.block _
          c.loop-passed.invariant.along there next c.loop-passed.invariant.looked c.in_ok-block.ensures.looked
          (λ store told. (found_in (g.B.Blocks.blocks.stored c.loop-passed.blocks) store c.in-Some.place.cid c.in_ok-block.field-0 (c.loop-passed.invariant.looked.so.up.looked.stored ∙ told) c.in_ok-block.ensures.found ∙ c.in-Some-2.is)) (λ at w. sym (c.is_read.ensures at w) ∙ c.if-not-is_read.false) c.in_ok-open.ensures.opened;
    }

pub returns-clause-end : goal.returns-clause-end
returns-clause-end g c store told =
    elim c.loop-passed-test.branch [
      | else-loop-passed-test w ↦ absurd (let m = (c.loop-passed.invariant.along.way store told).1 in let b = w.loop-passed-test.false in omega (arith, m, b))
      | then-loop-passed-test+in_ok-place+in_default w ↦ never_ends c.args.root.now c.args.frames.now.query.path (g.B.Blocks.blocks.stored c.args.blocks.now) c.loop-passed.passed c.loop-passed.frames w.next_place.new.frames c.loop-passed.invariant.along
          (subst (λ (found : Option Wanted). IsNextPlace c.loop-passed.frames (Ok found) w.next_place.new.frames) w.in_default.is w.in_ok-place.ensures.next)
    ]

pub returns-clause-shape : goal.returns-clause-shape
returns-clause-shape g c z =
    elim c.loop-passed-test.branch [
      | else-loop-passed-test w ↦ let m = c.loop-passed.invariant.along.only z in let b = w.loop-passed-test.false in omega (arith, m, b)
      | then-loop-passed-test+in_ok-place+in_default w ↦ never_ends c.args.root.now c.args.frames.now.query.path (g.B.Blocks.blocks.stored c.args.blocks.now) c.loop-passed.passed c.loop-passed.frames w.next_place.new.frames c.loop-passed.invariant.along
          (subst (λ (found : Option Wanted). IsNextPlace c.loop-passed.frames (Ok found) w.next_place.new.frames) w.in_default.is w.in_ok-place.ensures.next)
    ]

pub returns-clause-looked : goal.returns-clause-looked
returns-clause-looked g c =
    c.loop-passed.invariant.looked.so.up

pub returns-clause-cause : goal.returns-clause-cause
returns-clause-cause g c =
    c.loop-passed.invariant.looked.so.quiet

-- ---- what was looked up in a store that tells its blocks

pub returns-in_err-place-clause-along : goal.returns-in_err-place-clause-along
returns-in_err-place-clause-along g c store told =
    let p = err_from_is_err_and c.from_residual.result c.from_residual.ensures.1 in
    rw (p.1, p.2) (before_along c.args.root.now c.args.frames.now.query.path (g.B.Blocks.blocks.stored c.args.blocks.now) store c.loop-passed.passed c.loop-passed.frames c.next_place.new.frames c.in_err-place.field-0.0
    (looked_in g.B.Blocks.blocks c.args.blocks.now c.loop-passed.blocks) told c.loop-passed.invariant.along c.in_err-place.ensures.next c.loop-passed.invariant.looked)

pub returns-in_err-block-clause-along : goal.returns-in_err-block-clause-along
returns-in_err-block-clause-along g c store told =
    let next : IsNextPlace c.loop-passed.frames (Ok (Some c.in-Some.place)) c.next_place.new.frames =
    subst (λ (found : Option Wanted). IsNextPlace c.loop-passed.frames (Ok found) c.next_place.new.frames) c.in-Some.is c.in_ok-place.ensures.next in
    let there : IsPlaceAlong c.args.root.now c.args.frames.now.query.path (g.B.Blocks.blocks.stored c.args.blocks.now) c.loop-passed.passed c.next_place.new.frames c.in-Some.place =
    place_along c.args.root.now c.args.frames.now.query.path (g.B.Blocks.blocks.stored c.args.blocks.now) c.loop-passed.passed c.loop-passed.frames c.next_place.new.frames c.in-Some.place c.next_place.ensures.query c.loop-passed.invariant.along next in
    let p = err_from_is_err_and c.from_residual-in_err-block.result c.from_residual-in_err-block.ensures.1 in
    rw (p.1, p.2) (failed_along g.B.Blocks.blocks c.args.blocks.now c.loop-passed.blocks c.fetch.new.blocks g.met.B.Blocks.joins c.args.root.now c.args.frames.now.query.path (g.B.Blocks.blocks.stored c.args.blocks.now) c.loop-passed.passed c.loop-passed.frames c.next_place.new.frames c.in-Some.place c.loop-passed.invariant.along there next c.loop-passed.invariant.looked store c.in_err-block.field-0.0 told c.in_err-block.ensures.looked c.in_err-block.ensures.no_memory)

pub returns-in_default-2-clause-along : goal.returns-in_default-2-clause-along
returns-in_default-2-clause-along g c store told =
    let next : IsNextPlace c.loop-passed.frames (Ok (Some c.in-Some.place)) c.next_place.new.frames =
    subst (λ (found : Option Wanted). IsNextPlace c.loop-passed.frames (Ok found) c.next_place.new.frames) c.in-Some.is c.in_ok-place.ensures.next in
    let there : IsPlaceAlong c.args.root.now c.args.frames.now.query.path (g.B.Blocks.blocks.stored c.args.blocks.now) c.loop-passed.passed c.next_place.new.frames c.in-Some.place =
    place_along c.args.root.now c.args.frames.now.query.path (g.B.Blocks.blocks.stored c.args.blocks.now) c.loop-passed.passed c.loop-passed.frames c.next_place.new.frames c.in-Some.place c.next_place.ensures.query c.loop-passed.invariant.along next in
    let none = (found_in (g.B.Blocks.blocks.stored c.loop-passed.blocks) store c.in-Some.place.cid c.in_ok-block.field-0 (c.loop-passed.invariant.looked.so.up.looked.stored ∙ told) c.in_ok-block.ensures.found ∙ c.in_default-2.is) in
    elim c.if-passed-eq0.branch [
      | then-passed-eq0 w ↦ subst (λ (fault : ResolveFault). HasLookedAlong store c.args.root.now c.args.frames.now.query.path (Err fault) (looked_in g.B.Blocks.blocks c.args.blocks.now c.fetch.new.blocks)) (sym w.result-is)
          (no_root_along g.B.Blocks.blocks c.args.blocks.now c.loop-passed.blocks c.fetch.new.blocks g.met.B.Blocks.joins c.args.root.now c.args.frames.now.query.path (g.B.Blocks.blocks.stored c.args.blocks.now) c.loop-passed.passed c.loop-passed.frames c.next_place.new.frames c.in-Some.place c.loop-passed.invariant.along there next c.loop-passed.invariant.looked store c.in_ok-block.field-0 told c.in_ok-block.ensures.looked none)
      | else-passed-eq0 w ↦ subst (λ (fault : ResolveFault). HasLookedAlong store c.args.root.now c.args.frames.now.query.path (Err fault) (looked_in g.B.Blocks.blocks c.args.blocks.now c.fetch.new.blocks)) (sym w.result-is)
          (gone_along g.B.Blocks.blocks c.args.blocks.now c.loop-passed.blocks c.fetch.new.blocks g.met.B.Blocks.joins c.args.root.now c.args.frames.now.query.path (g.B.Blocks.blocks.stored c.args.blocks.now) c.loop-passed.passed c.loop-passed.frames c.next_place.new.frames c.in-Some.place c.loop-passed.invariant.along there next c.loop-passed.invariant.looked store c.in_ok-block.field-0 told c.in_ok-block.ensures.looked none)
    ]

pub returns-then-not-is_read-clause-along : goal.returns-then-not-is_read-clause-along
returns-then-not-is_read-clause-along g c store told =
    let next : IsNextPlace c.loop-passed.frames (Ok (Some c.in-Some.place)) c.next_place.new.frames =
    subst (λ (found : Option Wanted). IsNextPlace c.loop-passed.frames (Ok found) c.next_place.new.frames) c.in-Some.is c.in_ok-place.ensures.next in
    let there : IsPlaceAlong c.args.root.now c.args.frames.now.query.path (g.B.Blocks.blocks.stored c.args.blocks.now) c.loop-passed.passed c.next_place.new.frames c.in-Some.place =
    place_along c.args.root.now c.args.frames.now.query.path (g.B.Blocks.blocks.stored c.args.blocks.now) c.loop-passed.passed c.loop-passed.frames c.next_place.new.frames c.in-Some.place c.next_place.ensures.query c.loop-passed.invariant.along next in
    leads_along g.B.Blocks.blocks c.args.blocks.now c.loop-passed.blocks c.fetch.new.blocks g.met.B.Blocks.joins c.args.root.now c.args.frames.now.query.path (g.B.Blocks.blocks.stored c.args.blocks.now) c.loop-passed.passed c.loop-passed.frames c.next_place.new.frames c.in-Some.place c.loop-passed.invariant.along there next c.loop-passed.invariant.looked store c.in_ok-block.field-0 told c.in_ok-block.ensures.looked (λ at w. sym (c.is_read.ensures at w) ∙ c.if-not-is_read.true)

pub returns-in_err-open-clause-along : goal.returns-in_err-open-clause-along
returns-in_err-open-clause-along g c store told =
    let next : IsNextPlace c.loop-passed.frames (Ok (Some c.in-Some.place)) c.next_place.new.frames =
    subst (λ (found : Option Wanted). IsNextPlace c.loop-passed.frames (Ok found) c.next_place.new.frames) c.in-Some.is c.in_ok-place.ensures.next in
    let there : IsPlaceAlong c.args.root.now c.args.frames.now.query.path (g.B.Blocks.blocks.stored c.args.blocks.now) c.loop-passed.passed c.next_place.new.frames c.in-Some.place =
    place_along c.args.root.now c.args.frames.now.query.path (g.B.Blocks.blocks.stored c.args.blocks.now) c.loop-passed.passed c.loop-passed.frames c.next_place.new.frames c.in-Some.place c.next_place.ensures.query c.loop-passed.invariant.along next in
    let p = err_from_is_err_and c.from_residual-in_err-open.result c.from_residual-in_err-open.ensures.1 in
    rw (p.1, p.2) (bad_along g.B.Blocks.blocks c.args.blocks.now c.loop-passed.blocks c.fetch.new.blocks g.met.B.Blocks.joins c.args.root.now c.args.frames.now.query.path (g.B.Blocks.blocks.stored c.args.blocks.now) c.loop-passed.passed c.loop-passed.frames c.next_place.new.frames c.in-Some.place c.loop-passed.invariant.along there next c.loop-passed.invariant.looked store c.in_ok-block.field-0 c.in-Some-2.block c.in_err-open.field-0.0 c.open.new.frames told c.in_ok-block.ensures.looked
    (found_in (g.B.Blocks.blocks.stored c.loop-passed.blocks) store c.in-Some.place.cid c.in_ok-block.field-0 (c.loop-passed.invariant.looked.so.up.looked.stored ∙ told) c.in_ok-block.ensures.found ∙ c.in-Some-2.is) c.in_err-open.ensures.opened)

pub returns-clause-along : goal.returns-clause-along
returns-clause-along g c store told =
    elim c.loop-passed-test.branch [
      | else-loop-passed-test w ↦ absurd (let m = (c.loop-passed.invariant.along.way store told).1 in let b = w.loop-passed-test.false in omega (arith, m, b))
      | then-loop-passed-test+in_ok-place+in_default w ↦ never_ends c.args.root.now c.args.frames.now.query.path (g.B.Blocks.blocks.stored c.args.blocks.now) c.loop-passed.passed c.loop-passed.frames w.next_place.new.frames c.loop-passed.invariant.along
          (subst (λ (found : Option Wanted). IsNextPlace c.loop-passed.frames (Ok found) w.next_place.new.frames) w.in_default.is w.in_ok-place.ensures.next)
    ]
