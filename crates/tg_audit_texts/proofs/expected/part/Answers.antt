use Rattle.std.proofs.Common.{ap, arith, drop, take, ℕ, ◌+◌, ◌-◌, ◌≡◌}
use Rattle.tg_audit_texts.proofs.expected.part.Goals as goal
use Rattle.tg_audit_texts.specs.Expected.{part}

pub returns : goal.returns
unfolding part
returns c =
    let bytes = c.args.bytes.now in
    let same : (c.args.from + c.args.count) - c.args.from ≡ c.args.count = omega arith in
    ap (λ (n : ℕ). take n (drop c.args.from bytes)) same
