use Rattle.std.proofs.Common.{◌≡◌, drop}
use Rattle.tg_query.specs.Accepts.{first_form, ranges_of}
use Rattle.tg_query.proofs.accepts.first_form.Given as goal

abbrev pub invariant-loop-value : goal.invariant-loop-value
invariant-loop-value l = first_form (ranges_of l.values) ≡ first_form (ranges_of (drop l.value-index l.values))
