use Rattle.std.proofs.Common.{Bool, List, Ok, Option, arith, ap, false, refl, subst, sym, true, ℕ, ◌<◌, ◌∙◌, ◌≡◌, ◌≤◌}
use Rattle.std.proofs.lemmas.Result.{err_from_is_err_and}
use Rattle.std.specs.Prelude.{IfSome, IsSome}
use Rattle.tg_cid.specs.Cid.{CidParts}
use Rattle.tg_model.specs.Queries.{QueryParts}
use Rattle.tg_model.specs.Stores.{looked_in}
use Rattle.tg_model.specs.Traversal.{is_asked}
use Rattle.tg_model_laws.specs.SentSections.{taken_if}
use Rattle.tg_model_laws.specs.StoreWalks.{section_of}
use Rattle.tg_model_laws.specs.TakenBlocks.{opened_by}
use Rattle.tg_walk.proofs.Giving.{front_so, goes_once, looked_since, noted_asked, opened_so, own_cause, passed_none, passed_since, refused_before, refused_behind, stops}
use Rattle.tg_walk.specs.Walks.{HasComeTo, HasGone, HasLookedOnce, IsOnWalk, HasOpenedAt, IsPlaceNow, blocks_left}
use Rattle.tg_walk.specs.declared.known.Opened.{Opened}
use Rattle.tg_walk.proofs.walk.next_once.Goals as goal

pub loop-place-init : goal.loop-place-init
loop-place-init g c = record {
  query = refl;
  stands = λ store sections told on. on;
  fewer = omega arith;
  looked = passed_none g.B.Blocks.blocks c.args.blocks.now c.args.frames.now.query (g.met.B.Blocks.rests c.args.blocks.now);
}

pub returns-in_err-place-clause-stands : goal.returns-in_err-place-clause-stands
returns-in_err-place-clause-stands g c store sections told start =
    let p = err_from_is_err_and c.from_residual.result c.from_residual.ensures.1 in
    rw (p.1, p.2) (c.in_err-place.ensures.stands store sections (c.loop-place.invariant.stands store sections told start))

pub returns-in_err-place-clause-looked : goal.returns-in_err-place-clause-looked
returns-in_err-place-clause-looked g c =
    let p = err_from_is_err_and c.from_residual.result c.from_residual.ensures.1 in
    rw (p.1, p.2) (refused_before c.args.frames.now.query c.in_err-place.field-0.0 _ c.requires c.in_err-place.ensures.fault c.loop-place.invariant.looked)

pub returns-in_err-place-clause-cause : goal.returns-in_err-place-clause-cause
returns-in_err-place-clause-cause g c =
    let p = err_from_is_err_and c.from_residual.result c.from_residual.ensures.1 in
    rw (p.1, p.2) (own_cause _ c.in_err-place.field-0.0 _ c.in_err-place.ensures.fault c.loop-place.invariant.looked.quiet)

pub returns-in_err-found-clause-stands : goal.returns-in_err-found-clause-stands
returns-in_err-found-clause-stands g c store sections told start =
    let p = err_from_is_err_and c.from_residual-in_err-found.result c.from_residual-in_err-found.ensures.1 in
    let on = subst (λ (found : Option Opened). HasComeTo (Ok found) c.next_unknown.new.frames c.next_unknown.new.known store sections) c.in-Some.is
    (c.in_ok-place.ensures.stands store sections (c.loop-place.invariant.stands store sections told start)) in
    rw (p.1, p.2) (stops 512 c.next_unknown.new.frames c.step.new.frames c.next_unknown.new.known store sections c.in_err-found.field-0.0 c.step.ensures.query on
    (c.in_err-found.ensures.stands store _ (c.loop-place.invariant.looked.looked.stored ∙ told) (opened_so 512 c.next_unknown.new.frames c.next_unknown.new.known store sections on)))

pub returns-in_err-found-clause-looked : goal.returns-in_err-found-clause-looked
returns-in_err-found-clause-looked g c =
    let p = err_from_is_err_and c.from_residual-in_err-found.result c.from_residual-in_err-found.ensures.1 in
    rw (p.1, p.2) (looked_since g.B.Blocks.blocks c.args.blocks.now c.loop-place.blocks c.step.new.blocks c.args.frames.now.query _ g.met.B.Blocks.joins c.loop-place.invariant.looked c.in_err-found.ensures.looked)

pub returns-in_default-2-clause-stands : goal.returns-in_default-2-clause-stands
returns-in_default-2-clause-stands g c store sections told start =
    let place = subst (λ (found : Option Opened). IfSome found (λ place. IsPlaceNow c.next_unknown.new.frames c.next_unknown.new.known place)) c.in-Some.is c.in_ok-place.ensures.place in
    let none : false ≡ true = subst (λ (found : Option (CidParts × List ℕ)). IsSome found) c.in_default-2.is (c.in_ok-found.ensures.there place.at place.wanted) in
    absurd (cc none)

pub returns-in_default-2-clause-looked : goal.returns-in_default-2-clause-looked
returns-in_default-2-clause-looked g c =
    let looked = subst (λ (found : Option (CidParts × List ℕ)). HasLookedOnce (Ok found) (looked_in g.B.Blocks.blocks c.loop-place.blocks c.step.new.blocks)) c.in_default-2.is c.in_ok-found.ensures.looked in
    looked_since g.B.Blocks.blocks c.args.blocks.now c.loop-place.blocks c.step.new.blocks c.args.frames.now.query _ g.met.B.Blocks.joins c.loop-place.invariant.looked looked

pub returns-in_err-given-clause-stands : goal.returns-in_err-given-clause-stands
returns-in_err-given-clause-stands g c store sections told start =
    let p = err_from_is_err_and c.from_residual-in_err-given.result c.from_residual-in_err-given.ensures.1 in
    let on = subst (λ (found : Option Opened). HasComeTo (Ok found) c.next_unknown.new.frames c.next_unknown.new.known store sections) c.in-Some.is
    (c.in_ok-place.ensures.stands store sections (c.loop-place.invariant.stands store sections told start)) in
    rw (p.1, p.2) (front_so c.store_walks.ensures 512 c.next_unknown.new.frames c.step.new.frames.query c.next_unknown.new.known store sections c.step.ensures.query on)

pub returns-in_err-given-clause-looked : goal.returns-in_err-given-clause-looked
returns-in_err-given-clause-looked g c =
    let p = err_from_is_err_and c.from_residual-in_err-given.result c.from_residual-in_err-given.ensures.1 in
    let looked = subst (λ (found : Option (CidParts × List ℕ)). HasLookedOnce (Ok found) (looked_in g.B.Blocks.blocks c.loop-place.blocks c.step.new.blocks)) c.in-Some-2.is c.in_ok-found.ensures.looked in
    rw (p.1, p.2) (looked_since g.B.Blocks.blocks c.args.blocks.now c.loop-place.blocks c.step.new.blocks c.args.frames.now.query _ g.met.B.Blocks.joins c.loop-place.invariant.looked (refused_behind _ _ looked))

pub returns-in_err-open-clause-stands : goal.returns-in_err-open-clause-stands
returns-in_err-open-clause-stands g c store sections told start =
    let p = err_from_is_err_and c.from_residual-in_err-open.result c.from_residual-in_err-open.ensures.1 in
    let on = subst (λ (found : Option Opened). HasComeTo (Ok found) c.next_unknown.new.frames c.next_unknown.new.known store sections) c.in-Some.is
    (c.in_ok-place.ensures.stands store sections (c.loop-place.invariant.stands store sections told start)) in
    rw (p.1, p.2) (front_so c.store_walks.ensures 512 c.next_unknown.new.frames c.step.new.frames.query c.next_unknown.new.known store sections c.step.ensures.query on)

pub returns-in_err-open-clause-looked : goal.returns-in_err-open-clause-looked
returns-in_err-open-clause-looked g c =
    let p = err_from_is_err_and c.from_residual-in_err-open.result c.from_residual-in_err-open.ensures.1 in
    let looked = subst (λ (found : Option (CidParts × List ℕ)). HasLookedOnce (Ok found) (looked_in g.B.Blocks.blocks c.loop-place.blocks c.step.new.blocks)) c.in-Some-2.is c.in_ok-found.ensures.looked in
    rw (p.1, p.2) (looked_since g.B.Blocks.blocks c.args.blocks.now c.loop-place.blocks c.step.new.blocks c.args.frames.now.query _ g.met.B.Blocks.joins c.loop-place.invariant.looked (refused_behind _ _ looked))

pub returns-then-given-clause-stands : goal.returns-then-given-clause-stands
returns-then-given-clause-stands g c store sections told start =
    let on = subst (λ (found : Option Opened). HasComeTo (Ok found) c.next_unknown.new.frames c.next_unknown.new.known store sections) c.in-Some.is
    (c.in_ok-place.ensures.stands store sections (c.loop-place.invariant.stands store sections told start)) in
    let place = subst (λ (found : Option Opened). IfSome found (λ place. IsPlaceNow c.next_unknown.new.frames c.next_unknown.new.known place)) c.in-Some.is c.in_ok-place.ensures.place in
    let there = subst (λ (found : Option (CidParts × List ℕ)). IfSome found (λ block. HasOpenedAt c.next_unknown.new.frames store place.at block c.step.new.frames)) c.in-Some-2.is
    (c.in_ok-found.ensures.opened store place.at (c.loop-place.invariant.looked.looked.stored ∙ told) place.wanted) in
    let opened = c.in_ok-found.ensures.stands store _ (c.loop-place.invariant.looked.looked.stored ∙ told) (opened_so 512 c.next_unknown.new.frames c.next_unknown.new.known store sections on) in
    let more = subst (λ (found : Option (CidParts × List ℕ)). HasGone (Ok found) 512 c.step.new.frames store (opened_by on.given)) c.in-Some-2.is opened in
    subst (λ (b : Bool). IsOnWalk 512 c.step.new.frames c.open.new.self store (taken_if b sections (section_of c.in-Some-2.found.0 c.in-Some-2.found.1))) c.if-given.true
    (goes_once 512 c.next_unknown.new.frames c.step.new.frames c.next_unknown.new.known c.is_given.new.known c.open.new.self store sections c.in-Some-2.found (is_asked c.query.result.now c.in-Some-2.found.0)
    c.in_ok-given.given c.in-Some.place c.step.ensures.query (ap (λ (q : QueryParts). q.dups) (c.next_unknown.ensures.query ∙ c.loop-place.invariant.query) ∙ c.requires) on
    (ap (λ (q : QueryParts). is_asked q c.in-Some-2.found.0) (sym (c.query.ensures ∙ c.step.ensures.query))) place.at place.wanted there place.is place.above c.in_ok-given.ensures c.in_ok-open.ensures more)

pub returns-then-given-clause-asked : goal.returns-then-given-clause-asked
returns-then-given-clause-asked g c =
    ap (λ (q : QueryParts). is_asked q c.in-Some-2.found.0) (sym (c.query.ensures ∙ c.step.ensures.query ∙ c.next_unknown.ensures.query ∙ c.loop-place.invariant.query))
    ∙ noted_asked (is_asked c.query.result.now c.in-Some-2.found.0) c.next_unknown.new.known c.is_given.new.known c.in-Some-2.found.0 c.in_ok-given.given c.in_ok-given.ensures c.if-given.true

pub returns-then-given-clause-looked : goal.returns-then-given-clause-looked
returns-then-given-clause-looked g c =
    let looked = subst (λ (found : Option (CidParts × List ℕ)). HasLookedOnce (Ok found) (looked_in g.B.Blocks.blocks c.loop-place.blocks c.step.new.blocks)) c.in-Some-2.is c.in_ok-found.ensures.looked in
    looked_since g.B.Blocks.blocks c.args.blocks.now c.loop-place.blocks c.step.new.blocks c.args.frames.now.query _ g.met.B.Blocks.joins c.loop-place.invariant.looked looked

pub loop-place-preserved : goal.loop-place-preserved
loop-place-preserved g c =
    let looked = subst (λ (found : Option (CidParts × List ℕ)). HasLookedOnce (Ok found) (looked_in g.B.Blocks.blocks c.loop-place.blocks c.step.new.blocks)) c.in-Some-2.is c.in_ok-found.ensures.looked in
    let less = subst (λ (found : Option (CidParts × List ℕ)). IfSome found (λ _. blocks_left c.step.new.frames < blocks_left c.next_unknown.new.frames)) c.in-Some-2.is c.in_ok-found.ensures.fewer in
    let to = subst (λ (found : Option Opened). IfSome found (λ _. blocks_left c.next_unknown.new.frames ≤ blocks_left c.loop-place.frames)) c.in-Some.is c.in_ok-place.ensures.fewer in
    let before = c.loop-place.invariant.fewer in
    record {
      query = c.step.ensures.query ∙ c.next_unknown.ensures.query ∙ c.loop-place.invariant.query;
      stands = λ store sections told start.
          let on = subst (λ (found : Option Opened). HasComeTo (Ok found) c.next_unknown.new.frames c.next_unknown.new.known store sections) c.in-Some.is
          (c.in_ok-place.ensures.stands store sections (c.loop-place.invariant.stands store sections told start)) in
          let place = subst (λ (found : Option Opened). IfSome found (λ place. IsPlaceNow c.next_unknown.new.frames c.next_unknown.new.known place)) c.in-Some.is c.in_ok-place.ensures.place in
          let there = subst (λ (found : Option (CidParts × List ℕ)). IfSome found (λ block. HasOpenedAt c.next_unknown.new.frames store place.at block c.step.new.frames)) c.in-Some-2.is
          (c.in_ok-found.ensures.opened store place.at (c.loop-place.invariant.looked.looked.stored ∙ told) place.wanted) in
          let opened = c.in_ok-found.ensures.stands store _ (c.loop-place.invariant.looked.looked.stored ∙ told) (opened_so 512 c.next_unknown.new.frames c.next_unknown.new.known store sections on) in
          let more = subst (λ (found : Option (CidParts × List ℕ)). HasGone (Ok found) 512 c.step.new.frames store (opened_by on.given)) c.in-Some-2.is opened in
          subst (λ (b : Bool). IsOnWalk 512 c.step.new.frames c.open.new.self store (taken_if b sections (section_of c.in-Some-2.found.0 c.in-Some-2.found.1))) c.if-given.false
          (goes_once 512 c.next_unknown.new.frames c.step.new.frames c.next_unknown.new.known c.is_given.new.known c.open.new.self store sections c.in-Some-2.found (is_asked c.query.result.now c.in-Some-2.found.0)
          c.in_ok-given.given c.in-Some.place c.step.ensures.query (ap (λ (q : QueryParts). q.dups) (c.next_unknown.ensures.query ∙ c.loop-place.invariant.query) ∙ c.requires) on
          (ap (λ (q : QueryParts). is_asked q c.in-Some-2.found.0) (sym (c.query.ensures ∙ c.step.ensures.query))) place.at place.wanted there place.is place.above c.in_ok-given.ensures c.in_ok-open.ensures more);
      fewer = omega (arith, less, to, before);
      looked = passed_since g.B.Blocks.blocks c.args.blocks.now c.loop-place.blocks c.step.new.blocks c.args.frames.now.query _ g.met.B.Blocks.joins c.loop-place.invariant.looked looked
          (λ e. let both : false ≡ true = sym c.requires ∙ e in absurd (cc both));
    }

pub returns-clause-stands : goal.returns-clause-stands
returns-clause-stands g c store sections told start =
    subst (λ (found : Option Opened). HasComeTo (Ok found) c.next_unknown.new.frames c.next_unknown.new.known store sections) c.in_default.is
    (c.in_ok-place.ensures.stands store sections (c.loop-place.invariant.stands store sections told start))
