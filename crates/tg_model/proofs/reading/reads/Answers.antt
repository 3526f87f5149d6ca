use Rattle.std.proofs.Common.{◌<◌, All, arith}
use Rattle.std.proofs.lemmas.List.Elements.{All-from_get_or}
use Rattle.tg_model.proofs.KindAnswers.{given_found, given_inner, given_only}
use Rattle.tg_model.specs.Computed.{read}
use Rattle.tg_model.specs.Reading.{Reads}
use Rattle.tg_model.proofs.reading.reads.Goals as goal

pub returns-clause-found : goal.returns-clause-found
returns-clause-found c =
    let block = c.args.block.now in
    let cid = c.args.cid.now in
    let are_bytes : All (λ b. b < 256) block = All-from_get_or (λ b. b < 256) block 0 (λ i l. omega (arith, c.type_inv.block i)) in
    given_found c.read_block.result (read cid block) (Reads cid block) c.read_block.ensures (λ kind. (c.readings.ensures.computed cid block kind are_bytes).0)

pub returns-clause-only : goal.returns-clause-only
returns-clause-only c = λ kind reads.
    let block = c.args.block.now in
    let cid = c.args.cid.now in
    let are_bytes : All (λ b. b < 256) block = All-from_get_or (λ b. b < 256) block 0 (λ i l. omega (arith, c.type_inv.block i)) in
    given_only c.read_block.result (read cid block) kind c.read_block.ensures ((c.readings.ensures.computed cid block kind are_bytes).1 reads)

pub returns-clause-given : goal.returns-clause-given
returns-clause-given c = c.read_block.ensures

pub returns-clause-inner : goal.returns-clause-inner
returns-clause-inner c =
    let block = c.args.block.now in
    let cid = c.args.cid.now in
    let are_bytes : All (λ b. b < 256) block = All-from_get_or (λ b. b < 256) block 0 (λ i l. omega (arith, c.type_inv.block i)) in
    given_inner c.read_block.result (read cid block) c.read_block.ensures (λ fault. c.readings.ensures.inner cid block fault are_bytes)
