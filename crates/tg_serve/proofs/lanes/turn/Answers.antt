use Rattle.std.proofs.Common.{◌≡◌, ap, arith, false, length, refl, subst, sym, true, ◌∙◌}
use Rattle.std.specs.Prelude.{◌||◌}
use Rattle.tg_model.specs.Stores.{looked_in}
use Rattle.tg_serve.proofs.Runs.{looks_both, neither}
use Rattle.tg_serve.proofs.Turning.{may_as, may_both, may_then, some_busy, went_on}
use Rattle.tg_serve.specs.Turns.{MayGoOn, moment_of}
use Rattle.tg_walk.specs.Walks.{HaveLookedUp}
use Rattle.tg_serve.proofs.lanes.turn.Goals as goal

pub returns-then-not-went_on-clause-goes : goal.returns-then-not-went_on-clause-goes
returns-then-not-went_on-clause-goes g c =
    let d = g.L.Door.door in
    let m = g.L.Link.Link.link in
    let source = g.L.Link.Source.source in
    let told = g.B.Blocks.blocks.stored c.args.lanes.now.blocks in
    let most = c.args.lanes.now.most in
    let came = c.admit_links-came in
    let heard = c.hear_links-heard in
    let x = moment_of g.B.Blocks.blocks c.args.lanes.now c.args.turns.now.links.items c.args.turns.now.left c.args.turns.now.happened c.args.door.now in
    let y = moment_of g.B.Blocks.blocks came.new.lanes came.new.turns.links.items came.new.turns.left came.new.turns.happened came.new.door in
    let z = moment_of g.B.Blocks.blocks heard.new.lanes heard.new.turns.links.items heard.new.turns.left heard.new.turns.happened heard.new.door in
    let first_two = may_both d m source told most x y z came.result heard.result
    (subst (λ v. MayGoOn d m source told most came.result (moment_of g.B.Blocks.blocks c.args.lanes.now c.args.turns.now.links.items c.args.turns.now.left c.args.turns.now.happened v) y)
    c.wait-coming.ensures came.ensures.goes)
    (may_as d m source (g.B.Blocks.blocks.stored came.new.lanes.blocks) told came.new.lanes.most most heard.result y z
    (ap g.B.Blocks.blocks.stored came.ensures.blocks) came.ensures.most heard.ensures.goes) in
    let none = neither came.result heard.result c.if-not-went_on.true in
    let w = moment_of g.B.Blocks.blocks c.hear_links.new.lanes c.hear_links.new.turns.links.items c.hear_links.new.turns.left c.hear_links.new.turns.happened c.hear_links.new.door in
    let busy = some_busy c.args.turns.now.busy c.args.turns.now.left c.max.result (length c.args.turns.now.links.items) c.requires.going
    (λ p q r. let f : true ≡ false = sym (came.ensures.tries p q r) ∙ none.0 in let never : ⊥ = cc in never)
    (λ zero_is. let one : c.from-least.result ≡ 1 = rw zero_is at c.from-least.ensures in let most = c.max.ensures in omega (arith, one, most)) c.requires.lanes.some in
    let still = heard.ensures.busy none.1 ∙ came.ensures.busy none.0 in
    may_then d m source told most x z w (came.result || heard.result) first_two
    (went_on d m source told most c.hear_links.result z w
    (may_as d m source (g.B.Blocks.blocks.stored heard.new.lanes.blocks) told heard.new.lanes.most most c.hear_links.result z w
    (heard.ensures.looked.looked.stored ∙ ap g.B.Blocks.blocks.stored came.ensures.blocks) (heard.ensures.most ∙ came.ensures.most) c.hear_links.ensures.goes)
    (c.hear_links.ensures.hears refl (omega (arith, busy, still))))

pub returns-then-not-went_on-clause-looked : goal.returns-then-not-went_on-clause-looked
returns-then-not-went_on-clause-looked g c =
    looks_both g.B.Blocks.blocks _ _ _ g.met.B.Blocks.joins
    (subst (λ b. HaveLookedUp (looked_in g.B.Blocks.blocks b c.hear_links-heard.new.lanes.blocks)) c.admit_links-came.ensures.blocks c.hear_links-heard.ensures.looked)
    c.hear_links.ensures.looked

pub returns-else-not-went_on-clause-goes : goal.returns-else-not-went_on-clause-goes
returns-else-not-went_on-clause-goes g c =
    let d = g.L.Door.door in
    let m = g.L.Link.Link.link in
    let source = g.L.Link.Source.source in
    let told = g.B.Blocks.blocks.stored c.args.lanes.now.blocks in
    let most = c.args.lanes.now.most in
    let came = c.admit_links-came in
    let heard = c.hear_links-heard in
    let x = moment_of g.B.Blocks.blocks c.args.lanes.now c.args.turns.now.links.items c.args.turns.now.left c.args.turns.now.happened c.args.door.now in
    let y = moment_of g.B.Blocks.blocks came.new.lanes came.new.turns.links.items came.new.turns.left came.new.turns.happened came.new.door in
    let z = moment_of g.B.Blocks.blocks heard.new.lanes heard.new.turns.links.items heard.new.turns.left heard.new.turns.happened heard.new.door in
    let first_two = may_both d m source told most x y z came.result heard.result
    (subst (λ v. MayGoOn d m source told most came.result (moment_of g.B.Blocks.blocks c.args.lanes.now c.args.turns.now.links.items c.args.turns.now.left c.args.turns.now.happened v) y)
    c.wait-coming.ensures came.ensures.goes)
    (may_as d m source (g.B.Blocks.blocks.stored came.new.lanes.blocks) told came.new.lanes.most most heard.result y z
    (ap g.B.Blocks.blocks.stored came.ensures.blocks) came.ensures.most heard.ensures.goes) in
    went_on d m source told most (came.result || heard.result) x z first_two c.if-not-went_on.false
