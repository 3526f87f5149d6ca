use Rattle.std.proofs.Common.{sym, subst}
use Rattle.tg_traversal.specs.Left.{IsFitting}
use Rattle.tg_traversal.specs.Places.{standing_of}
use Rattle.tg_traversal.specs.declared.position.Position.{Position}
use Rattle.tg_traversal.proofs.reading.fitting.Goals as goal

pub returns-in-Part : goal.returns-in-Part
returns-in-Part c = λ block kind stands.
    subst (λ (position : Position). IsFitting (standing_of position) kind c.args.found c.fitting_part.result) (sym c.in-Part.is)
    (c.fitting_part.ensures c.in-Part.field-0 block kind stands)
