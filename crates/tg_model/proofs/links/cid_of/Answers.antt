use Rattle.std.proofs.Common.{◌<◌, All, arith, ◌∙◌}
use Rattle.std.proofs.lemmas.List.Elements.{All-from_get_or}
use Rattle.tg_model.proofs.LinkCids.{cid_found}
use Rattle.tg_model.proofs.links.cid_of.Goals as goal

pub returns-clause-computed : goal.returns-clause-computed
returns-clause-computed c =
    let are_bytes : All (λ b. b < 256) c.args.hash.now = All-from_get_or (λ b. b < 256) c.args.hash.now 0 (λ i l. omega (arith, c.type_inv.hash i)) in
    c.ok.ensures.value ∙ cid_found c.computes.ensures.cid c.args.hash.now c.from_bytes.result are_bytes c.from_bytes.ensures.found c.from_bytes.ensures.only
