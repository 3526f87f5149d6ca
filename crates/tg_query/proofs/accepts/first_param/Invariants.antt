use Rattle.std.proofs.Common.{◌≡◌, drop, length}
use Rattle.tg_query.specs.Cuts.{cut_at}
use Rattle.tg_query.specs.Accepts.{first_param}
use Rattle.tg_query.proofs.accepts.first_param.Given as goal

abbrev pub invariant-loop-param : goal.invariant-loop-param
invariant-loop-param l =
    (goal.iterator-loop-param).can_next l.param-iterator
    × (goal.iterator-loop-param).is_finite l.param-iterator
    × (first_param l.name (cut_at 59 l.params) ≡ first_param l.name (drop (length l.yielded) (cut_at 59 l.params)))
