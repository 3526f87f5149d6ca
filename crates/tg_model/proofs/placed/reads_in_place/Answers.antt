use Rattle.tg_model.proofs.PlacedAnswers.{cursor_in, found_of, inner_of, only_of}
use Rattle.tg_model.specs.Computed.{read}
use Rattle.tg_model.specs.Reading.{Reads}
use Rattle.std.proofs.Common.{◌<◌, All, arith}
use Rattle.std.proofs.lemmas.List.Elements.{All-from_get_or}
use Rattle.tg_model.proofs.placed.reads_in_place.Goals as goal

pub returns-clause-found : goal.returns-clause-found
returns-clause-found c =
    let block = c.args.block.now in
    let cid = c.args.cid.now in
    let are_bytes : All (λ b. b < 256) block = All-from_get_or (λ b. b < 256) block 0 (λ i l. omega (arith, c.type_inv.block i)) in
    found_of block c.placed_block.result (read cid block) (Reads cid block) c.placed_block.ensures (λ kind. (c.readings.ensures.computed cid block kind are_bytes).0)

pub returns-clause-cursor : goal.returns-clause-cursor
returns-clause-cursor c = cursor_in c.args.block.now c.placed_block.result (Reads c.args.cid.now c.args.block.now) (returns-clause-found c)

pub returns-clause-only : goal.returns-clause-only
returns-clause-only c = λ kind reads.
    let block = c.args.block.now in
    let cid = c.args.cid.now in
    let are_bytes : All (λ b. b < 256) block = All-from_get_or (λ b. b < 256) block 0 (λ i l. omega (arith, c.type_inv.block i)) in
    only_of block c.placed_block.result (read cid block) kind c.placed_block.ensures ((c.readings.ensures.computed cid block kind are_bytes).1 reads)

pub returns-clause-inner : goal.returns-clause-inner
returns-clause-inner c =
    let block = c.args.block.now in
    let cid = c.args.cid.now in
    let are_bytes : All (λ b. b < 256) block = All-from_get_or (λ b. b < 256) block 0 (λ i l. omega (arith, c.type_inv.block i)) in
    inner_of block c.placed_block.result (read cid block) c.placed_block.ensures (λ fault. c.readings.ensures.inner cid block fault are_bytes)
