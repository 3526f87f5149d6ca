use Rattle.std.proofs.Common.{◌≡◌, drop, length}
use Rattle.tg_query.specs.Cuts.{cut_at}
use Rattle.tg_query.specs.Accepts.{first_form}
use Rattle.tg_query.proofs.accepts.form_in.Given as goal

abbrev pub invariant-loop-range : goal.invariant-loop-range
invariant-loop-range l =
    (goal.iterator-loop-range).can_next l.range-iterator
    × (goal.iterator-loop-range).is_finite l.range-iterator
    × (first_form (cut_at 44 l.value) ≡ first_form (drop (length l.yielded) (cut_at 44 l.value)))
