use Rattle.std.proofs.Common.{◌+◌, subst}
use Rattle.std.specs.Prelude.{slice_range}
use Rattle.tg_pbtable.specs.Emitted.{LiesIn}
use Rattle.tg_pbtable.specs.declared.table.Value.{Value}
use Rattle.tg_pbtable.specs.declared.table.Value.TheVariants.{Place}
use Rattle.tg_dagpb.specs.Cursor.{placed_link}
use Rattle.tg_dagpb.proofs.Gathering.{hash_put, name_put}
use Rattle.tg_dagpb.proofs.reading.with_part.Goals as goal

pub returns-in-1-clause-gathers : goal.returns-in-1-clause-gathers
returns-in-1-clause-gathers c =
    let text = c.args.bytes.now in
    let part = slice_range text c.args.start c.args.end in
    let lies : LiesIn part (Place c.in-Place.from c.in-Place.to) = subst (λ (v : Value). LiesIn part v) c.in-Place.is c.requires.lies in
    hash_put part c.args.field.now c.in-Place.from c.in-Place.to (placed_link text c.args.places) (slice_range text (c.args.start + c.in-Place.from) (c.args.start + c.in-Place.to)) c.in-1.is c.in-Place.is
    (c.place_laws.ensures.in_part text c.args.start c.args.end c.in-Place.from c.in-Place.to c.requires.rises c.requires.inside lies.0 lies.1)

pub returns-in-2-clause-gathers : goal.returns-in-2-clause-gathers
returns-in-2-clause-gathers c =
    let text = c.args.bytes.now in
    let part = slice_range text c.args.start c.args.end in
    let lies : LiesIn part (Place c.in-Place.from c.in-Place.to) = subst (λ (v : Value). LiesIn part v) c.in-Place.is c.requires.lies in
    name_put part c.args.field.now c.in-Place.from c.in-Place.to (placed_link text c.args.places) (slice_range text (c.args.start + c.in-Place.from) (c.args.start + c.in-Place.to)) c.in-2.is c.in-Place.is
    (c.place_laws.ensures.in_part text c.args.start c.args.end c.in-Place.from c.in-Place.to c.requires.rises c.requires.inside lies.0 lies.1)
