use Rattle.std.proofs.Common.{◌<◌, All, arith}
use Rattle.std.proofs.lemmas.List.Elements.{All-from_get_or}
use Rattle.tg_cid.proofs.Heads.{no_head, past_name, fewest_name}
use Rattle.tg_cid.proofs.cid.Cid.fewest.Goals as goal

pub returns-in_default : goal.returns-in_default
returns-in_default c = no_head c.spelling_laws.ensures c.args.bytes.now c.in_default.ensures

pub returns-then-bytes-count : goal.returns-then-bytes-count
returns-then-bytes-count c = past_name c.spelling_laws.ensures c.args.bytes.now c.in-Some.count c.in-Some.ensures c.if-bytes-count.true

pub returns : goal.returns
returns c =
    let bytes : All (λ b. b < 256) c.args.bytes.now =
    All-from_get_or (λ b. b < 256) c.args.bytes.now 0 (λ i l. omega (arith, c.type_inv.bytes i)) in
    fewest_name c.spelling_laws.ensures c.args.bytes.now c.in-Some.count c.in-Some.ensures c.if-bytes-count.false bytes
