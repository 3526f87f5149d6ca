use Rattle.tg_dagpb.proofs.Checking.{placed_is}
use Rattle.tg_dagpb.proofs.reading.link_place.Goals as goal

pub returns-in-Place : goal.returns-in-Place
returns-in-Place c = placed_is c.args.field.now c.in-Place.start c.in-Place.end c.requires c.if-field-eq2.true c.in-Place.is
