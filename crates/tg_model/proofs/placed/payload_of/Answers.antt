use Rattle.std.proofs.Common.{◌≡◌, ◌<◌, ℕ, All, Ok, Err, Option, List, [], sym, ap, ap₂, ◌∙◌, subst, arith}
use Rattle.std.proofs.lemmas.List.Elements.{All-from_get_or}
use Rattle.std.proofs.lemmas.Result.{err_from_is_err_and}
use Rattle.tg_dagpb.specs.Computed.{node_of}
use Rattle.tg_dagpb.specs.Cursor.{IsBetween}
use Rattle.tg_dagpb.specs.declared.Link.{Link}
use Rattle.tg_model.specs.Computed.{node_or_fault}
use Rattle.tg_model.specs.PlacedSteps.{block_links, links_in}
use Rattle.tg_model.specs.declared.fault.BlockFault.{BlockFault}
use Rattle.tg_pbtable.specs.Place.{placed_bytes}
use Rattle.tg_model.proofs.placed.payload_of.Goals as goal

pub returns-in_err-payload_at : goal.returns-in_err-payload_at
returns-in_err-payload_at c =
    let block = c.args.block.now in
    let are_bytes : All (λ b. b < 256) block = All-from_get_or (λ b. b < 256) block 0 (λ i l. omega (arith, c.type_inv.block i)) in
    let fault = c.in_err-payload_at.field-0.0 in
    let told : node_of block ≡ Err fault = (c.computes.ensures.fault block fault are_bytes).1 c.in_err-payload_at.ensures.cause in
    let p = err_from_is_err_and c.from_residual.result c.from_residual.ensures.1 in
    rw p.1 (ap node_or_fault told ∙ ap (λ (fault : BlockFault). Err fault) (sym p.2))

pub returns : goal.returns
returns c =
    let block = c.args.block.now in
    let are_bytes : All (λ b. b < 256) block = All-from_get_or (λ b. b < 256) block 0 (λ i l. omega (arith, c.type_inv.block i)) in
    let found = c.in_ok-payload_at.ensures.found in
    let told = (c.computes.ensures.node block found.node are_bytes).1 found.is_text in
    let links : block_links block ≡ found.node.links = ap links_in told in
    let payload = placed_bytes block c.in_ok-payload_at.field-0 in
    let computed : node_of block ≡ Ok (record { links = block_links block; payload = payload }) =
    told ∙ ap₂ (λ (ls : List Link) (o : Option (List ℕ)). Ok (record { links = ls; payload = o })) (sym links) (sym found.payload_is) in (
      c.in_ok-payload_at.ensures.inside,
      record {
        computed = computed;
        ahead = record { behind = []; between = subst (λ (ls : List Link). IsBetween block 0 [] ls) (sym links) (c.one_text.ensures.start found.node block found.is_text) };
      },
    )
