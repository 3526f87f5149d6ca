-- A path walk by slots and a look-up by names end alike.
use Rattle.tg_model.specs.Lookup as lookup
use Rattle.tg_model.specs.PathWalk as walk
use Rattle.std.specs.Prelude.{◌≡◌}
use Rattle.tg_model.specs.Lookup.{LookupEnd, found}
use Rattle.tg_model.specs.PathWalk.{PathEnd, Stop, not_reached, terminal}

-- with the same stop at the same segment
abbrev pub StopsAlike : Stop → LookupEnd → Type 0
StopsAlike (walk.not_there i) (lookup.not_there j) = i ≡ j
StopsAlike (walk.not_folder i) (lookup.not_folder j) = i ≡ j
StopsAlike stop other = ⊥

-- at the same node, or with the same stop
abbrev pub EndsAlike : PathEnd → LookupEnd → Type 0
EndsAlike (terminal d) (found other) = d ≡ other
EndsAlike (not_reached stop) other = StopsAlike stop other
EndsAlike (terminal d) other = ⊥
