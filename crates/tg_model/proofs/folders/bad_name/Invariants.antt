-- the search goes on in the links that are left
use Rattle.std.proofs.Common.{◌≡◌, ◌≤◌, ◌-◌, length, map, not}
use Rattle.tg_model.proofs.Ahead.{LinksLeft}
use Rattle.tg_model.specs.Computed.{first_from, is_good_name}
use Rattle.tg_model.specs.PlacedSteps.{block_links}
use Rattle.tg_model.specs.Reading.{name_of}
use Rattle.tg_model.proofs.folders.bad_name.Given as goal

abbrev pub invariant-loop-link : goal.invariant-loop-link
invariant-loop-link l = record {
  left : LinksLeft l.block l.at (λ links. first_from (λ name. not (is_good_name name)) 0 (map name_of (block_links l.block))
      ≡ first_from (λ name. not (is_good_name name)) l.index (map name_of links));
  count : l.index ≤ l.at;
}

abbrev pub decreases-loop-link : goal.decreases-loop-link
decreases-loop-link l = length l.block - l.at
