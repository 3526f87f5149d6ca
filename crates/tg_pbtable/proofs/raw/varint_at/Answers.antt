use Rattle.std.proofs.Common.{sym, arith}
use Rattle.tg_pbtable.proofs.Varints.{byte_alone}
use Rattle.tg_pbtable.proofs.raw.varint_at.Goals as goal

pub returns-in-Some : goal.returns-in-Some
returns-in-Some c = rw c.from.ensures (byte_alone c.args.bytes.now c.in-Some.byte.now (sym c.in-Some.ensures.value) (omega arith))
