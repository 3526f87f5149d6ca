use Rattle.std.proofs.Common.{true, ◌≡◌, refl}
use Rattle.tg_model.specs.Traversal.{is_met}
use Rattle.tg_model_laws.proofs.examples.parts_at_a_range.Goals as goal

pub returns-clause-met : goal.returns-clause-met
returns-clause-met c = (c.met_parts.ensures 2 4 3 3).0 refl

pub returns-clause-unmet : goal.returns-clause-unmet
returns-clause-unmet c = λ both.
    let met : is_met 2 4 4 3 ≡ true = (c.met_parts.ensures 2 4 4 3).1 both in
    absurd cc
