use Rattle.std.proofs.Common.{List, Ok, Option, arith, ap, refl, subst, sym, ℕ, ◌<◌, ◌∙◌}
use Rattle.std.proofs.lemmas.Result.{err_from_is_err_and}
use Rattle.std.specs.Prelude.{IfSome}
use Rattle.tg_cid.specs.Cid.{CidParts}
use Rattle.tg_model.specs.Queries.{QueryParts}
use Rattle.tg_model.specs.Stores.{looked_in}
use Rattle.tg_model.specs.Traversal.{is_asked}
use Rattle.tg_model_laws.specs.SentSections.{unasked_identity}
use Rattle.tg_model_laws.specs.TakenBlocks.{opened_by}
use Rattle.tg_model_laws.specs.StoreWalks.{section_of}
use Rattle.tg_walk.proofs.Giving.{all_gone, goes_repeated, looked_since, opened_so, passed_none, passed_since, stops}
use Rattle.tg_walk.specs.Walks.{HasGone, HasLookedOnce, blocks_left}
use Rattle.tg_walk.proofs.walk.next_repeated.Goals as goal

pub loop-found-init : goal.loop-found-init
loop-found-init g c = record {
  query = refl;
  stands = λ store sections told known on. on;
  fewer = omega arith;
  looked = passed_none g.B.Blocks.blocks c.args.blocks.now c.args.frames.now.query (g.met.B.Blocks.rests c.args.blocks.now);
}

pub returns-in_err-found-clause-stands : goal.returns-in_err-found-clause-stands
returns-in_err-found-clause-stands g c store sections told known start =
    let p = err_from_is_err_and c.from_residual.result c.from_residual.ensures.1 in
    let on = c.loop-found.invariant.stands store sections told known start in
    rw (p.1, p.2) (stops 512 c.loop-found.frames c.step.new.frames known store sections c.in_err-found.field-0.0 c.step.ensures.query on
    (c.in_err-found.ensures.stands store _ (c.loop-found.invariant.looked.looked.stored ∙ told) (opened_so 512 c.loop-found.frames known store sections on)))

pub returns-in_err-found-clause-looked : goal.returns-in_err-found-clause-looked
returns-in_err-found-clause-looked g c =
    let p = err_from_is_err_and c.from_residual.result c.from_residual.ensures.1 in
    rw (p.1, p.2) (looked_since g.B.Blocks.blocks c.args.blocks.now c.loop-found.blocks c.step.new.blocks c.args.frames.now.query _ g.met.B.Blocks.joins c.loop-found.invariant.looked c.in_err-found.ensures.looked)

pub returns-then-asks-clause-stands : goal.returns-then-asks-clause-stands
returns-then-asks-clause-stands g c store sections told known start =
    let on = c.loop-found.invariant.stands store sections told known start in
    let opened = c.in_ok-found.ensures.stands store _ (c.loop-found.invariant.looked.looked.stored ∙ told) (opened_so 512 c.loop-found.frames known store sections on) in
    let more = subst (λ (found : Option (CidParts × List ℕ)). HasGone (Ok found) 512 c.step.new.frames store (opened_by on.given)) c.in-Some.is opened in
    let asks = ap (λ (q : QueryParts). is_asked q c.in-Some.found.0) (sym (c.query.ensures ∙ c.step.ensures.query)) ∙ sym c.asks.ensures ∙ c.if-asks.true in
    goes_repeated 512 c.loop-found.frames c.step.new.frames known store sections (section_of c.in-Some.found.0 c.in-Some.found.1) _ c.step.ensures.query
    (ap (λ (q : QueryParts). q.dups) c.loop-found.invariant.query ∙ c.requires) on asks more

pub returns-then-asks-clause-asked : goal.returns-then-asks-clause-asked
returns-then-asks-clause-asked g c =
    ap (λ (q : QueryParts). is_asked q c.in-Some.found.0) (sym (c.query.ensures ∙ c.step.ensures.query ∙ c.loop-found.invariant.query)) ∙ sym c.asks.ensures ∙ c.if-asks.true

pub returns-then-asks-clause-looked : goal.returns-then-asks-clause-looked
returns-then-asks-clause-looked g c =
    let looked = subst (λ (found : Option (CidParts × List ℕ)). HasLookedOnce (Ok found) (looked_in g.B.Blocks.blocks c.loop-found.blocks c.step.new.blocks)) c.in-Some.is c.in_ok-found.ensures.looked in
    looked_since g.B.Blocks.blocks c.args.blocks.now c.loop-found.blocks c.step.new.blocks c.args.frames.now.query _ g.met.B.Blocks.joins c.loop-found.invariant.looked looked

pub loop-found-preserved : goal.loop-found-preserved
loop-found-preserved g c =
    let looked = subst (λ (found : Option (CidParts × List ℕ)). HasLookedOnce (Ok found) (looked_in g.B.Blocks.blocks c.loop-found.blocks c.step.new.blocks)) c.in-Some.is c.in_ok-found.ensures.looked in
    let less = subst (λ (found : Option (CidParts × List ℕ)). IfSome found (λ _. blocks_left c.step.new.frames < blocks_left c.loop-found.frames)) c.in-Some.is c.in_ok-found.ensures.fewer in
    let before = c.loop-found.invariant.fewer in
    let asks = ap (λ (q : QueryParts). is_asked q c.in-Some.found.0) (sym (c.query.ensures ∙ c.step.ensures.query)) ∙ sym c.asks.ensures ∙ c.if-asks.false in
    record {
      query = c.step.ensures.query ∙ c.loop-found.invariant.query;
      stands = λ store sections told known start.
          let on = c.loop-found.invariant.stands store sections told known start in
          let opened = c.in_ok-found.ensures.stands store _ (c.loop-found.invariant.looked.looked.stored ∙ told) (opened_so 512 c.loop-found.frames known store sections on) in
          let more = subst (λ (found : Option (CidParts × List ℕ)). HasGone (Ok found) 512 c.step.new.frames store (opened_by on.given)) c.in-Some.is opened in
          goes_repeated 512 c.loop-found.frames c.step.new.frames known store sections (section_of c.in-Some.found.0 c.in-Some.found.1) _ c.step.ensures.query
          (ap (λ (q : QueryParts). q.dups) c.loop-found.invariant.query ∙ c.requires) on asks more;
      fewer = omega (arith, less, before);
      looked = passed_since g.B.Blocks.blocks c.args.blocks.now c.loop-found.blocks c.step.new.blocks c.args.frames.now.query _ g.met.B.Blocks.joins c.loop-found.invariant.looked looked
          (λ e. unasked_identity c.loop-found.frames.query c.in-Some.found.0 asks);
    }

pub returns-clause-stands : goal.returns-clause-stands
returns-clause-stands g c store sections told known start =
    let on = c.loop-found.invariant.stands store sections told known start in
    let opened = c.in_ok-found.ensures.stands store _ (c.loop-found.invariant.looked.looked.stored ∙ told) (opened_so 512 c.loop-found.frames known store sections on) in
    let ended = subst (λ (found : Option (CidParts × List ℕ)). HasGone (Ok found) 512 c.step.new.frames store (opened_by on.given)) c.in_default.is opened in
    all_gone 512 c.loop-found.frames c.step.new.frames known store sections c.step.ensures.query (ap (λ (q : QueryParts). q.dups) c.loop-found.invariant.query ∙ c.requires) on ended

pub returns-clause-looked : goal.returns-clause-looked
returns-clause-looked g c =
    let looked = subst (λ (found : Option (CidParts × List ℕ)). HasLookedOnce (Ok found) (looked_in g.B.Blocks.blocks c.loop-found.blocks c.step.new.blocks)) c.in_default.is c.in_ok-found.ensures.looked in
    looked_since g.B.Blocks.blocks c.args.blocks.now c.loop-found.blocks c.step.new.blocks c.args.frames.now.query _ g.met.B.Blocks.joins c.loop-found.invariant.looked looked
