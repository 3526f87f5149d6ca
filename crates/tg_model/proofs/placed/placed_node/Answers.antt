use Rattle.std.proofs.Common.{◌≡◌, Ok, Option, Result, inl, inr, sym, ap, ◌∙◌, subst}
use Rattle.tg_model.proofs.PlacedAnswers.{read_as}
use Rattle.tg_model.specs.Computed.{unix_or_fault, unix_with_fault}
use Rattle.tg_model.specs.Placed.{StandsForAnswer, TakesMemory}
use Rattle.tg_model.specs.PlacedSteps.{block_cids, block_links, data_unix}
use Rattle.tg_model.specs.declared.fault.BlockFault.{BlockFault}
use Rattle.tg_model.specs.declared.kinds.Kind.{Kind}
use Rattle.tg_pbtable.specs.Place.{placed_bytes}
use Rattle.tg_pbtable.specs.declared.table.Place.{Place}
use Rattle.tg_model.proofs.placed.placed_node.Goals as goal

pub returns : goal.returns
returns c =
    let block = c.args.block.now in
    let places = c.in_ok-places.places in
    let unix = data_unix block places in
    let node = c.in_ok-payload.ensures.1 in
    let found = c.in_ok-places.ensures in
    let payload : unix_or_fault (placed_bytes block c.in_ok-payload.payload) ≡ Ok unix =
    ap (λ (o : Option Place). unix_or_fault (placed_bytes block o)) found.0 ∙ ap unix_with_fault found.1.computed in
    let same = read_as block (block_links block) (block_cids block) (placed_bytes block c.in_ok-payload.payload) unix node.computed c.in_ok-links.ensures.1 payload in
    elim c.placed_kind.ensures [
      | inl h ↦ inl (subst (λ (r : Result Kind BlockFault). StandsForAnswer block c.placed_kind.result r) (sym same) h)
      | inr h ↦ inr (h.0, subst (λ (r : Result Kind BlockFault). TakesMemory r) (sym same) h.1)
    ]
