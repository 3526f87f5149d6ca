use Rattle.std.proofs.Common.{◌≡◌, None}
use Rattle.tg_export.proofs.Moves.{HasLooked}
use Rattle.tg_export.proofs.Parts.{HasGivenTexts}
use Rattle.tg_export.specs.Given.{giving_in}
use Rattle.tg_model.specs.Stores.{looked_in}
use Rattle.tg_streams.specs.Streams.{into}
use Rattle.tg_walk.specs.Walks.{blocks_left}
use Rattle.tg_export.proofs.car.give_sections.Given as goal

-- the sections of what the walk has given were given, and no fault was counted
abbrev pub invariant-loop-cid : goal.invariant-loop-cid
invariant-loop-cid g l = record {
  query : l.walk.left.query ≡ l.fn.walk.left.query;
  fresh : l.walk.refused ≡ None;
  looked : HasLooked (looked_in g.B.Blocks.blocks l.fn.blocks l.blocks);
  texts : HasGivenTexts (g.B.Blocks.blocks.stored l.fn.blocks) l.walk (giving_in l.fn.gathering l.gathering (into g.S.Sink.sink l.fn.out l.out));
}

-- each further block leaves fewer
abbrev pub decreases-loop-cid : goal.decreases-loop-cid
decreases-loop-cid g l = blocks_left l.walk.left
