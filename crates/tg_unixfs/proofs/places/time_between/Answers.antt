use Rattle.std.proofs.Common.{◌-◌, ◌≤◌, length, drop, arith}
use Rattle.std.specs.Prelude.{slice_range}
use Rattle.std.proofs.lemmas.List.{length-take}
use Rattle.tg_pbtable.specs.declared.table.Order.TheVariants.{Ascending}
use Rattle.tg_pbtable.specs.Faults.{place_of}
use Rattle.tg_unixfs.specs.declared.TheConstants.{TIME}
use Rattle.tg_unixfs.proofs.places.time_between.Goals as goal

pub moved_by-requires : goal.moved_by-requires
moved_by-requires c =
    let part = slice_range c.args.bytes.now c.args.start c.args.end in
    let inside : place_of c.in-Err.fault ≤ length part = c.table_laws.ensures.messages.place TIME.now Ascending part c.in-Err.fault c.in-Err.ensures in
    omega (arith, length-take (c.args.end - c.args.start) (drop c.args.start c.args.bytes.now), c.ranges.end.fits)
