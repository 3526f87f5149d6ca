-- A length of two bytes.
use Rattle.std.proofs.Common.{◌≡◌, ◌+◌, ◌*◌, ◌%◌, arith}
use Rattle.tg_car.proofs.Lengths.{two_step, second_refused}
use Rattle.tg_car.proofs.header_state.second_byte.Goals as goal
use Rattle.tg_car.proofs.header_state.second_byte.Goals.{then-byte-eq0-via-then-byte-eq0, then-byte-eq0-via-else-byte-eq0+then-byte-ge128}

pub returns : goal.returns
returns c =
    let size = c.from.result + 128 * c.from-2.result in
    let low : c.from.result ≡ c.args.first % 128 = c.from.ensures in
    let high : c.from-2.result ≡ c.args.byte = c.from-2.ensures in
    two_step c.args.first c.args.byte size c.map_of.result (omega arith) (omega arith) (omega arith) c.map_of.ensures

pub returns-then-byte-eq0 : goal.returns-then-byte-eq0
returns-then-byte-eq0 c = λ live rest f.
    let kept = second_refused c.args.first c.args.byte rest live.0 f in
    elim c.then-byte-eq0.branch [
      | then-byte-eq0-via-then-byte-eq0 w ↦ omega (arith, kept.0)
      | then-byte-eq0-via-else-byte-eq0+then-byte-ge128 w ↦ omega (arith, kept.1)
    ]
