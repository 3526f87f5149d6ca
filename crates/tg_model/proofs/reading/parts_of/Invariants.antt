-- the parts so far, and those that are ahead
use Rattle.std.proofs.Common.{◌≡◌, ◌++◌, ◌-◌, List, length}
use Rattle.tg_model.specs.Placed.{ArePartsAhead, IsPartCursor}
use Rattle.tg_model.specs.declared.kinds.Part.{Part}
use Rattle.tg_model.proofs.reading.parts_of.Given as goal

abbrev pub invariant-loop-part : goal.invariant-loop-part
invariant-loop-part l = record {
  cursor : IsPartCursor l.block l.cursor;
  so_far : (parts : List Part) → ArePartsAhead l.block l.initial.cursor parts
      → (more : List Part) × (parts ≡ l.parts ++ more) × ArePartsAhead l.block l.cursor more;
}

abbrev pub decreases-loop-part : goal.decreases-loop-part
decreases-loop-part l = length l.block - l.cursor.link
