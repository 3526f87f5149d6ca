use Rattle.std.proofs.Common.{◌<◌, All, arith}
use Rattle.std.proofs.lemmas.List.{take_rest}
use Rattle.std.proofs.lemmas.Result.{err_from_is_err_and}
use Rattle.std.proofs.lemmas.List.Elements.{All-from_get_or}
use Rattle.tg_car.proofs.Takings.{stops_part, takes_block, takes_head, takes_both}
use Rattle.tg_car.proofs.part.Part.take.Goals as goal

pub returns-in-Some-clause-took : goal.returns-in-Some-clause-took
returns-in-Some-clause-took c =
    let bytes : All (λ b. b < 256) c.args.piece.now =
    All-from_get_or (λ b. b < 256) c.args.piece.now 0 (λ i l. omega (arith, c.type_inv.piece i)) in
    takes_block c.text_laws.ensures c.args.limit c.in-Some.declared c.args.self.now c.take_block.new.self c.args.piece.now c.take_block.result.0 c.take_block.result.1
    c.requires c.in-Some.is bytes c.take_block.ensures.took

pub returns-in_err-taken-clause-took : goal.returns-in_err-taken-clause-took
returns-in_err-taken-clause-took c =
    let p = err_from_is_err_and c.from_residual.result c.from_residual.ensures.1 in
    rw (p.1, p.2) (stops_part c.args.limit c.args.self.now c.args.piece.now c.in_err-taken.field-0.0 c.requires c.in_default.is c.in_err-taken.ensures.1)

pub returns-in_default-declared-clause-took : goal.returns-in_default-declared-clause-took
returns-in_default-declared-clause-took c =
    takes_head c.text_laws.ensures c.args.limit c.args.self.now c.take_head.new.self c.args.piece.now c.in_ok-taken.taken c.requires c.in_default.is
    (rw c.in_default-declared.is at c.in_ok-taken.ensures)

pub returns-clause-took : goal.returns-clause-took
returns-clause-took c =
    let bytes : All (λ b. b < 256) c.args.piece.now =
    All-from_get_or (λ b. b < 256) c.args.piece.now 0 (λ i l. omega (arith, c.type_inv.piece i)) in
    takes_both c.text_laws.ensures c.args.limit c.in-Some-declared.declared c.args.self.now c.take_head.new.self c.take_block-more.new.self c.args.piece.now
    c.in_ok-taken.taken c.take_block-more.result.0 c.take_block-more.result.1 c.requires c.in_default.is bytes (rw c.in-Some-declared.is at c.in_ok-taken.ensures)
    (rw (take_rest c.args.piece.now c.in_ok-taken.taken) at c.take_block-more.ensures.took)
