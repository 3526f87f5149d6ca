use Rattle.std.proofs.Common.{arith, ◌∙◌, List, Ok, Option, refl, subst, ℕ}
use Rattle.std.proofs.lemmas.Result.{err_from_is_err_and}
use Rattle.tg_cid.specs.Cid.{CidParts}
use Rattle.tg_model.specs.Stores.{looked_in}
use Rattle.tg_replying.proofs.Looking.{end_cause, looked_by, looks_both, looks_nothing, looks_on}
use Rattle.tg_replying.proofs.Sections.{HasNext, all_given, fails_section, front_given, gives_section, none_given}
use Rattle.tg_replying.proofs.Sections.{refused_ends, walk_ended}
use Rattle.tg_reply.specs.CarBytes.{section_bytes}
use Rattle.tg_replying.specs.Bodies.{FailsIn, Gives, giving_in, part_bytes}
use Rattle.tg_model_laws.specs.StoreWalks.{section_of}
use Rattle.tg_walk.specs.Walks.{IsAskedFound, IsNamedFound}
use Rattle.tg_replying.proofs.body.give_sections.Goals as goal

pub loop-cid-init : goal.loop-cid-init
loop-cid-init g c = record {
  query = refl;
  fresh = c.requires.fresh;
  looked = looks_nothing g.B.Blocks.blocks c.args.blocks.now (g.met.B.Blocks.rests c.args.blocks.now);
  given = none_given g.S.Sink.sink c.args.out.now c.args.gathering.now c.args.minor c.args.walk.now.left.query
      (g.B.Blocks.blocks.stored c.args.blocks.now) c.args.walk.now
      (g.met.S.Sink.rests c.args.out.now) c.requires.stands;
}

pub returns-in_err-give_section-in-Ok-Some-clause-ends :
    goal.returns-in_err-give_section-in-Ok-Some-clause-ends
returns-in_err-give_section-in-Ok-Some-clause-ends g c =
    let told = g.B.Blocks.blocks.stored c.loop-cid.blocks in
    let next = subst (λ (found : Option (CidParts × List ℕ)). HasNext told c.loop-cid.walk (Ok found)
    c.next.new.self) c.in-Ok-Some.field-0-is c.in-Ok-Some.ensures.stands in
    let named = subst (λ (found : Option (CidParts × List ℕ)). IsNamedFound (Ok found)) c.in-Ok-Some.field-0-is
    c.in-Ok-Some.ensures.named in
    let asks = subst (λ (found : Option (CidParts × List ℕ)). IsAskedFound c.loop-cid.walk.left.query (Ok found))
    c.in-Ok-Some.field-0-is c.in-Ok-Some.ensures.asked in
    let fails = subst (λ (block : List ℕ). FailsIn (giving_in g.S.Sink.sink c.loop-cid.gathering
    c.give_section.new.gathering c.loop-cid.out c.give_section.new.out)
    (part_bytes c.args.minor (section_bytes (section_of c.in-Ok-Some.cid block)))) c.as_slice.ensures
    c.in_err-give_section-in-Ok-Some.ensures in
    let p = err_from_is_err_and c.from_residual.result c.from_residual.ensures.1 in
    rw (p.1, p.2) (fails_section g.S.Sink.sink c.args.out.now c.loop-cid.out c.give_section.new.out
    c.args.gathering.now c.loop-cid.gathering c.give_section.new.gathering c.walks_send.ensures.fronts
    c.args.minor c.args.walk.now.left.query (g.B.Blocks.blocks.stored c.args.blocks.now) told c.loop-cid.walk
    c.next.new.self c.in-Ok-Some.cid c.in-Ok-Some.block
    g.met.S.Sink.joins c.loop-cid.invariant.looked.up.looked.stored c.loop-cid.invariant.query
    (c.next.ensures.query ∙ c.loop-cid.invariant.query) c.in-Ok-Some.ensures.refused
    next named asks fails c.loop-cid.invariant.given)

pub returns-in_err-give_section-in-Ok-Some-clause-looked :
    goal.returns-in_err-give_section-in-Ok-Some-clause-looked
returns-in_err-give_section-in-Ok-Some-clause-looked g c =
    looks_both g.B.Blocks.blocks c.args.blocks.now c.loop-cid.blocks c.next.new.blocks g.met.B.Blocks.joins
    c.loop-cid.invariant.looked.up (looked_by _ _ _ c.next.ensures.looked)

pub returns-in_err-give_section-in-Ok-Some-clause-counted :
    goal.returns-in_err-give_section-in-Ok-Some-clause-counted
returns-in_err-give_section-in-Ok-Some-clause-counted g c = omega (
  arith,
  c.next.ensures.counted,
  c.loop-cid.invariant.looked.quiet,
)

pub loop-cid-smaller : goal.loop-cid-smaller
loop-cid-smaller g c =
    rw c.in-Ok-Some.field-0-is at c.in-Ok-Some.ensures.fewer

pub loop-cid-preserved : goal.loop-cid-preserved
loop-cid-preserved g c =
    let told = g.B.Blocks.blocks.stored c.loop-cid.blocks in
    let next = subst (λ (found : Option (CidParts × List ℕ)). HasNext told c.loop-cid.walk (Ok found)
    c.next.new.self) c.in-Ok-Some.field-0-is c.in-Ok-Some.ensures.stands in
    let named = subst (λ (found : Option (CidParts × List ℕ)). IsNamedFound (Ok found)) c.in-Ok-Some.field-0-is
    c.in-Ok-Some.ensures.named in
    let asks = subst (λ (found : Option (CidParts × List ℕ)). IsAskedFound c.loop-cid.walk.left.query (Ok found))
    c.in-Ok-Some.field-0-is c.in-Ok-Some.ensures.asked in
    let gave = subst (λ (block : List ℕ). Gives (giving_in g.S.Sink.sink c.loop-cid.gathering
    c.give_section.new.gathering c.loop-cid.out c.give_section.new.out)
    (part_bytes c.args.minor (section_bytes (section_of c.in-Ok-Some.cid block)))) c.as_slice.ensures
    c.in_ok-give_section-in-Ok-Some.ensures in
    record {
      query = c.next.ensures.query ∙ c.loop-cid.invariant.query;
      fresh = c.in-Ok-Some.ensures.refused;
      looked = looks_on g.B.Blocks.blocks c.args.blocks.now c.loop-cid.blocks c.next.new.blocks g.met.B.Blocks.joins
          c.loop-cid.invariant.looked (looked_by _ _ _ c.next.ensures.looked)
          c.in-Ok-Some.ensures.looked.quiet;
      given = gives_section g.S.Sink.sink c.args.out.now c.loop-cid.out c.give_section.new.out c.args.gathering.now
          c.loop-cid.gathering c.give_section.new.gathering
          c.args.minor c.args.walk.now.left.query (g.B.Blocks.blocks.stored c.args.blocks.now) told c.loop-cid.walk
          c.next.new.self c.in-Ok-Some.cid c.in-Ok-Some.block
          g.met.S.Sink.joins c.loop-cid.invariant.looked.up.looked.stored c.loop-cid.invariant.query next named asks
          gave c.loop-cid.invariant.given;
    }

pub returns-in-Ok-None-clause-ends : goal.returns-in-Ok-None-clause-ends
returns-in-Ok-None-clause-ends g c =
    let told = g.B.Blocks.blocks.stored c.loop-cid.blocks in
    let next = subst (λ (found : Option (CidParts × List ℕ)). HasNext told c.loop-cid.walk (Ok found)
    c.next.new.self) c.in-Ok-None.field-0-is c.in-Ok-None.ensures.stands in (
      all_given c.walks_send.ensures.ended c.args.minor c.args.walk.now.left.query
          (g.B.Blocks.blocks.stored c.args.blocks.now) told c.loop-cid.walk c.next.new.self
          (giving_in g.S.Sink.sink c.args.gathering.now c.loop-cid.gathering c.args.out.now c.loop-cid.out)
          c.loop-cid.invariant.looked.up.looked.stored
          (c.next.ensures.query ∙ c.loop-cid.invariant.query) next c.loop-cid.invariant.given,
      c.in-Ok-None.ensures.looked.quiet ∙ c.loop-cid.invariant.looked.quiet,
    )

pub returns-in-Ok-None-clause-looked : goal.returns-in-Ok-None-clause-looked
returns-in-Ok-None-clause-looked g c =
    looks_both g.B.Blocks.blocks c.args.blocks.now c.loop-cid.blocks c.next.new.blocks g.met.B.Blocks.joins
    c.loop-cid.invariant.looked.up (looked_by _ _ _ c.next.ensures.looked)

pub returns-in-Ok-None-clause-counted : goal.returns-in-Ok-None-clause-counted
returns-in-Ok-None-clause-counted g c = omega (arith, c.next.ensures.counted, c.loop-cid.invariant.looked.quiet)

pub returns-in-Err-clause-ends : goal.returns-in-Err-clause-ends
returns-in-Err-clause-ends g c =
    let told = g.B.Blocks.blocks.stored c.args.blocks.now in
    let q = c.args.walk.now.left.query in
    let giving = giving_in g.S.Sink.sink c.args.gathering.now c.loop-cid.gathering c.args.out.now c.loop-cid.out in
    refused_ends c.args.minor q told (looked_in g.B.Blocks.blocks c.args.blocks.now c.next.new.blocks) giving
    c.in-Err.fault c.end_of.result c.end_of.ensures.other c.end_of.ensures.memory c.end_of.ensures.wanted
    (end_cause g.B.Blocks.blocks c.args.blocks.now c.loop-cid.blocks c.next.new.blocks c.in-Err.fault
    c.loop-cid.invariant.looked (c.in-Err.ensures.cause c.loop-cid.invariant.fresh))
    (walk_ended c.walks_send.ensures.ended c.walks_send.ensures.deep c.walks_send.ensures.fronts c.args.minor q
    told (g.B.Blocks.blocks.stored c.loop-cid.blocks)
    c.loop-cid.walk c.next.new.self giving c.in-Err.fault c.loop-cid.invariant.looked.up.looked.stored
    c.loop-cid.invariant.query c.loop-cid.invariant.fresh
    (c.next.ensures.query ∙ c.loop-cid.invariant.query) c.in-Err.ensures.refused c.in-Err.ensures.stands
    c.loop-cid.invariant.given)
    (front_given c.walks_send.ensures.fronts c.args.minor q told c.loop-cid.walk giving c.loop-cid.invariant.query
    c.loop-cid.invariant.fresh c.loop-cid.invariant.given)

pub returns-in-Err-clause-looked : goal.returns-in-Err-clause-looked
returns-in-Err-clause-looked g c =
    looks_both g.B.Blocks.blocks c.args.blocks.now c.loop-cid.blocks c.next.new.blocks g.met.B.Blocks.joins
    c.loop-cid.invariant.looked.up (looked_by _ _ _ c.next.ensures.looked)

pub returns-in-Err-clause-counted : goal.returns-in-Err-clause-counted
returns-in-Err-clause-counted g c = omega (arith, c.next.ensures.counted, c.loop-cid.invariant.looked.quiet)
