use Rattle.std.proofs.Common.{sym, refl}
use Rattle.tg_pbtable.proofs.Rules.{ruled_at, wrong_value}
use Rattle.tg_pbtable.proofs.ruled.ruled_field.Goals as goal

pub returns-then-eq : goal.returns-then-eq
returns-then-eq g c =
    ruled_at c.args.rules.now c.args.at _ c.in-Some.index c.in-Ok.raw c.in-Some-value.found _ c.in-Ok.ensures c.in-Some-value.is c.in-Some.ensures (sym c.if-eq.ensures)

pub returns-else-eq : goal.returns-else-eq
returns-else-eq g c =
    (refl, wrong_value c.args.rules.now c.args.at _ c.in-Some.index c.in-Ok.raw c.in-Some-value.found _ c.in-Ok.ensures c.in-Some-value.is c.in-Some.ensures (sym c.if-eq.ensures))
