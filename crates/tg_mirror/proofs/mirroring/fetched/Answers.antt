use Rattle.std.proofs.Common.{List, Some, subst, ℕ, ◌≡◌}
use Rattle.tg_dials.specs.Dials.{Dialling, at_dial}
use Rattle.tg_fetch.specs.Keeping.{FetchKeeps}
use Rattle.tg_fetch.specs.Laws.{IsAcceptedElse, TellsCarried}
use Rattle.tg_heard.specs.Exchanges.{HasOneBlockEach}
use Rattle.tg_mirror.proofs.Steps.{whole_query}
use Rattle.tg_mirror.specs.Filled.{filled_in}
use Rattle.tg_mirror.specs.Mirrors.{dropped}
use Rattle.tg_model.specs.Answer.{answer}
use Rattle.tg_model.specs.Dag.{Dag, Section, root_cid}
use Rattle.tg_model.specs.Fits.{Fits}
use Rattle.tg_model.specs.Queries.{QueryParts}
use Rattle.tg_model.specs.Sound.{IsSound}
use Rattle.tg_model.specs.Traversal.{block_list}
use Rattle.tg_verify.specs.Laws.{IsWithinLimits}
use Rattle.tg_mirror.proofs.mirroring.fetched.Goals as goal

pub returns-clause-kept : goal.returns-clause-kept
returns-clause-kept g c =
    subst (λ (q : QueryParts). FetchKeeps q c.args.limits (at_dial g.D.Dial.dial c.args.dial.now c.fetch_keep.new.dial) dropped (filled_in g.P.Pack.pack c.args.filling.now.store c.fetch_keep.new.keep.store) c.fetch_keep.result)
    (whole_query c.car-query.result c.args.root c.new.result c.new.ensures c.car-query.ensures) c.fetch_keep.ensures.kept

pub returns-clause-fitting : goal.returns-clause-fitting
returns-clause-fitting g c =
    let dial : Dialling = at_dial g.D.Dial.dial c.args.dial.now c.fetch_keep.new.dial in
    subst (λ (q : QueryParts). (d : Dag) (sections : List Section) (text : List ℕ) → Fits d q sections text → IsWithinLimits q c.args.limits d
    → TellsCarried q c.args.limits dial sections → IsAcceptedElse text dropped c.fetch_keep.result)
    (whole_query c.car-query.result c.args.root c.new.result c.new.ensures c.car-query.ensures) c.fetch_keep.ensures.fitting

pub returns-clause-own : goal.returns-clause-own
returns-clause-own g c =
    let dial : Dialling = at_dial g.D.Dial.dial c.args.dial.now c.fetch_keep.new.dial in
    subst (λ (q : QueryParts). (d : Dag) (text : List ℕ) → IsSound d → root_cid d ≡ q.root → answer q d ≡ Some text → HasOneBlockEach d
    → IsWithinLimits q c.args.limits d → TellsCarried q c.args.limits dial (block_list q d) → IsAcceptedElse text dropped c.fetch_keep.result)
    (whole_query c.car-query.result c.args.root c.new.result c.new.ensures c.car-query.ensures) c.fetch_keep.ensures.own
