use Rattle.std.proofs.Common.{◌≡◌, ◌≤◌, true, map, length}
use Rattle.std.specs.List.{list_all}
use Rattle.percent_encoding.specs.Percent.{percent_decode}
use Rattle.tg_model.specs.Computed.{is_good_name}
use Rattle.tg_query.proofs.paths.parse_path.Given as goal

abbrev pub invariant-loop-segment : goal.invariant-loop-segment
invariant-loop-segment l =
    (goal.iterator-loop-segment).can_next l.segment-iterator
    × (goal.iterator-loop-segment).is_finite l.segment-iterator
    × (l.path ≡ map (λ segment. percent_decode segment.now) l.yielded)
    × (list_all is_good_name l.path ≡ true)
    × (length l.path ≤ 128)
