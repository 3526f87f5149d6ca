use Rattle.tg_unixfs.proofs.Timing.{timed_is, among_last}
use Rattle.tg_unixfs.proofs.places.with_time.Goals as goal

pub returns-in-Place-clause-among : goal.returns-in-Place-clause-among
returns-in-Place-clause-among c = λ before h. among_last before c.args.field.now c.in-Place.start c.in-Place.end (timed_is c.args.field.now c.in-Place.start c.in-Place.end c.requires c.if-field-eq8.true c.in-Place.is)
