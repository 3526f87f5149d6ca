use Rattle.std.proofs.Common.{drop}
use Rattle.tg_pbtable.proofs.Whole.{number_there, unsliced}
use Rattle.tg_pbtable.proofs.raw.value_at.Goals as goal

pub returns-in_ok-number-in-Varint : goal.returns-in_ok-number-in-Varint
returns-in_ok-number-in-Varint c =
    let there = number_there c.args.at (drop c.args.at c.args.bytes.now) c.in_ok-number-in-Varint.number c.in_ok-number-in-Varint.size (unsliced c.args.at c.args.bytes.now _ _ c.in_ok-number-in-Varint.ensures) in
    (c.in-Some.ensures, rw c.in-Varint.is there)
