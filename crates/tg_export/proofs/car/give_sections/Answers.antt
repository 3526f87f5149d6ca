use Rattle.std.proofs.Common.{rules, ◌∙◌, List, Ok, Option, refl, subst, ℕ}
use Rattle.std.proofs.lemmas.Result.{err_from_is_err_and}
use Rattle.tg_cid.specs.Cid.{CidParts}
use Rattle.tg_export.proofs.Moves.{looked_by, looks_both, looks_nothing, looks_on}
use Rattle.tg_export.proofs.Parts.{HasNext, all_given, gives_more, none_given, sink_ends, walk_ends}
use Rattle.tg_export.specs.Given.{FailsIn, Gives, HasText, giving_in}
use Rattle.tg_model.specs.Stores.{looked_in}
use Rattle.tg_streams.specs.Streams.{into}
use Rattle.tg_model_laws.specs.StoreWalks.{section_of}
use Rattle.tg_walk.specs.Walks.{HasLookedUp, IsNamedFound}
use Rattle.tg_export.proofs.car.give_sections.Goals as goal

pub loop-cid-init : goal.loop-cid-init
loop-cid-init g c = record {
  query = refl;
  fresh = c.requires.fresh;
  looked = looks_nothing g.B.Blocks.blocks c.args.blocks.now (g.met.B.Blocks.rests c.args.blocks.now);
  texts = none_given g.S.Sink.sink c.args.out.now c.args.gathering.now _ c.args.walk.now (g.met.S.Sink.rests c.args.out.now) c.requires.stands;
}

pub returns-in_err-cid-clause-given : goal.returns-in_err-cid-clause-given
returns-in_err-cid-clause-given g c =
    let p = err_from_is_err_and c.from_residual.result c.from_residual.ensures.1 in
    rw (p.1, p.2) (walk_ends _ c.args.walk.now.left.query _ (g.B.Blocks.blocks.stored c.loop-cid.blocks) c.loop-cid.walk c.next.new.self c.in_err-cid.field-0.0
    c.loop-cid.invariant.looked.up.looked.stored (c.next.ensures.query ∙ c.loop-cid.invariant.query) c.in_err-cid.ensures.refused c.in_err-cid.ensures.stands c.loop-cid.invariant.texts)

pub returns-in_err-cid-clause-looked : goal.returns-in_err-cid-clause-looked
returns-in_err-cid-clause-looked g c =
    let found = c.in_err-cid.ensures.looked in
    looks_both g.B.Blocks.blocks c.args.blocks.now c.loop-cid.blocks c.next.new.blocks g.met.B.Blocks.joins c.loop-cid.invariant.looked.up (looked_by _ _ _ found)

pub returns-clause-given : goal.returns-clause-given
returns-clause-given g c =
    let next = subst (λ (found : Option (CidParts × List ℕ)). HasNext (g.B.Blocks.blocks.stored c.loop-cid.blocks) c.loop-cid.walk (Ok found) c.next.new.self) c.in_default.is c.in_ok-cid.ensures.stands in
    all_given _ c.args.walk.now.left.query _ (g.B.Blocks.blocks.stored c.loop-cid.blocks) c.loop-cid.walk c.next.new.self c.loop-cid.invariant.looked.up.looked.stored (c.next.ensures.query ∙ c.loop-cid.invariant.query)
    next c.loop-cid.invariant.texts

pub returns-clause-looked : goal.returns-clause-looked
returns-clause-looked g c =
    let found = subst (λ (found : Option (CidParts × List ℕ)). HasLookedUp c.loop-cid.walk.left.query (Ok found) (looked_in g.B.Blocks.blocks c.loop-cid.blocks c.next.new.blocks)) c.in_default.is c.in_ok-cid.ensures.looked in
    looks_both g.B.Blocks.blocks c.args.blocks.now c.loop-cid.blocks c.next.new.blocks g.met.B.Blocks.joins c.loop-cid.invariant.looked.up (looked_by _ _ _ found)

pub returns-in_err-give_section-clause-given : goal.returns-in_err-give_section-clause-given
returns-in_err-give_section-clause-given g c =
    let next = subst (λ (found : Option (CidParts × List ℕ)). HasNext (g.B.Blocks.blocks.stored c.loop-cid.blocks) c.loop-cid.walk (Ok found) c.next.new.self) c.in-Some.is c.in_ok-cid.ensures.stands in
    let named = subst (λ (found : Option (CidParts × List ℕ)). IsNamedFound (Ok found)) c.in-Some.is c.in_ok-cid.ensures.named in
    let given : HasText (section_of c.in-Some.cid c.in-Some.block) (FailsIn (giving_in c.loop-cid.gathering c.give_section.new.gathering (into g.S.Sink.sink c.loop-cid.out c.give_section.new.out))) = search (rules, c.in_err-give_section.ensures.1) in
    let p = err_from_is_err_and c.from_residual-in_err-give_section.result c.from_residual-in_err-give_section.ensures.1 in
    rw (p.1, p.2, c.in_err-give_section.ensures.0) (sink_ends g.S.Sink.sink c.args.out.now c.loop-cid.out c.give_section.new.out c.args.gathering.now c.loop-cid.gathering c.give_section.new.gathering c.store_walks.ensures c.args.walk.now.left.query _ (g.B.Blocks.blocks.stored c.loop-cid.blocks)
    c.loop-cid.walk c.next.new.self c.in-Some.cid c.in-Some.block g.met.S.Sink.joins c.loop-cid.invariant.looked.up.looked.stored (c.next.ensures.query ∙ c.loop-cid.invariant.query) c.in_ok-cid.ensures.refused
    next named given c.in_err-give_section.ensures.2 c.loop-cid.invariant.texts)

pub returns-in_err-give_section-clause-looked : goal.returns-in_err-give_section-clause-looked
returns-in_err-give_section-clause-looked g c =
    let found = subst (λ (found : Option (CidParts × List ℕ)). HasLookedUp c.loop-cid.walk.left.query (Ok found) (looked_in g.B.Blocks.blocks c.loop-cid.blocks c.next.new.blocks)) c.in-Some.is c.in_ok-cid.ensures.looked in
    looks_both g.B.Blocks.blocks c.args.blocks.now c.loop-cid.blocks c.next.new.blocks g.met.B.Blocks.joins c.loop-cid.invariant.looked.up (looked_by _ _ _ found)

pub loop-cid-preserved : goal.loop-cid-preserved
loop-cid-preserved g c =
    let next = subst (λ (found : Option (CidParts × List ℕ)). HasNext (g.B.Blocks.blocks.stored c.loop-cid.blocks) c.loop-cid.walk (Ok found) c.next.new.self) c.in-Some.is c.in_ok-cid.ensures.stands in
    let named = subst (λ (found : Option (CidParts × List ℕ)). IsNamedFound (Ok found)) c.in-Some.is c.in_ok-cid.ensures.named in
    let found = subst (λ (found : Option (CidParts × List ℕ)). HasLookedUp c.loop-cid.walk.left.query (Ok found) (looked_in g.B.Blocks.blocks c.loop-cid.blocks c.next.new.blocks)) c.in-Some.is c.in_ok-cid.ensures.looked in
    let given : HasText (section_of c.in-Some.cid c.in-Some.block) (Gives (giving_in c.loop-cid.gathering c.give_section.new.gathering (into g.S.Sink.sink c.loop-cid.out c.give_section.new.out))) = search (rules, c.in_ok-give_section.ensures) in
    record {
      query = c.next.ensures.query ∙ c.loop-cid.invariant.query;
      fresh = c.in_ok-cid.ensures.refused;
      looked = looks_on g.B.Blocks.blocks c.args.blocks.now c.loop-cid.blocks c.next.new.blocks g.met.B.Blocks.joins c.loop-cid.invariant.looked (looked_by _ _ _ found) found.quiet;
      texts = gives_more g.S.Sink.sink c.args.out.now c.loop-cid.out c.give_section.new.out c.args.gathering.now c.loop-cid.gathering c.give_section.new.gathering _ (g.B.Blocks.blocks.stored c.loop-cid.blocks) c.loop-cid.walk c.next.new.self c.in-Some.cid c.in-Some.block g.met.S.Sink.joins
          c.loop-cid.invariant.looked.up.looked.stored next named given c.loop-cid.invariant.texts;
    }
