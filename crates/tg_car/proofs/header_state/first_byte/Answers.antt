-- A length of one byte.
use Rattle.std.proofs.Common.{subst}
use Rattle.tg_car.proofs.Lengths.{IsMapOf, one_step}
use Rattle.tg_car.proofs.header_state.first_byte.Goals as goal

pub returns : goal.returns
returns c =
    one_step c.args.byte c.map_of.result c.if-byte-ge128.false
    (subst (λ n. IsMapOf n c.map_of.result) c.from.ensures c.map_of.ensures)
