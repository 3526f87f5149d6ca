use Rattle.std.proofs.Common.{◌≡◌, []}
use Rattle.tg_pbtable.proofs.writing.size_of_fields.Given as goal

abbrev pub invariant-loop-field : goal.invariant-loop-field
invariant-loop-field l = l.fields ≡ [] → l.size ≡ 0
