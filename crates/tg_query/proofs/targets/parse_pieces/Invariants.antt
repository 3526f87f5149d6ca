use Rattle.std.proofs.Common.{◌≡◌, drop, length}
use Rattle.tg_query.specs.Cuts.{cut_at}
use Rattle.tg_query.specs.Targets.{nothing, with_pieces}
use Rattle.tg_query.proofs.targets.parse_pieces.Given as goal

abbrev pub invariant-loop-piece : goal.invariant-loop-piece
invariant-loop-piece l =
    (goal.iterator-loop-piece).can_next l.piece-iterator
    × (goal.iterator-loop-piece).is_finite l.piece-iterator
    × (with_pieces nothing (cut_at 38 l.query) ≡ with_pieces l.asked (drop (length l.yielded) (cut_at 38 l.query)))
