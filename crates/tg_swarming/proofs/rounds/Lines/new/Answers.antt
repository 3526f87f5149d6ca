use Rattle.std.proofs.Common.{None, ap, arith, replicate, ◌∙◌}
use Rattle.tg_swarming.proofs.rounds.Lines.new.Goals as goal

pub returns : goal.returns
returns g c =
    let most = c.loop.invariant.most in
    let end = c.loop-test.false in
    c.loop.invariant.links ∙ ap (λ n. replicate n None) (omega (arith, most, end))
