use Rattle.std.proofs.Common.{take}
use Rattle.tg_pbtable.specs.Emitted.{FieldTexts}
use Rattle.tg_pbtable.proofs.writing.emit.Given as goal

abbrev pub invariant-loop-field : goal.invariant-loop-field
invariant-loop-field g l = FieldTexts l.source (take l.field-index l.field-items) l.text.items
