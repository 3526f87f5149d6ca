-- Of how many peers something is asked.
use Rattle.std.proofs.Common.{List, ap, arith, get_or, length, refl, take, ℕ, ◌+◌, ◌<◌, ◌≡◌, ◌≤◌}
use Rattle.std.proofs.lemmas.List.Sums.{sum-map, sum_by_more}
use Rattle.tg_swarm.specs.Peers.{busy_count, one_if_busy}
use Rattle.tg_swarm.specs.declared.peers.Call.{Call}
use Rattle.tg_swarm.specs.declared.peers.Peer.{Peer}
use Rattle.tg_swarm.specs.declared.peers.Peer.TheVariants.{Busy, Idle, Refused}

one_at_most : {C : Type 0} (peer : Peer C) → one_if_busy peer ≤ 1
one_at_most Idle = omega arith
one_at_most (Busy call) = omega arith
one_at_most (Refused fault) = omega arith

pub none_if_not : {C : Type 0} (peer : Peer C) → (((call : Call C) × (peer ≡ Busy call)) → ⊥) → one_if_busy peer ≡ 0
none_if_not Idle not = refl
none_if_not (Busy call) not = absurd (not (call, refl))
none_if_not (Refused fault) not = refl

-- of the first peers it is so many
pub record IsBusyCount {C : Type 0} (peers : List (Peer C)) (i busy : ℕ) : Type 0 where
  pub count_is : busy ≡ busy_count (take i peers)
  pub within : busy ≤ i

-- and of one more
pub busy_more : {C : Type 0} (peers : List (Peer C)) (i before busy : ℕ) (peer : Peer C) → IsBusyCount peers i before → i < length peers
    → peer ≡ get_or peers i peer → busy ≡ before + one_if_busy peer → IsBusyCount peers (i + 1) busy
busy_more peers i before busy peer h within is next = record {
  count_is = omega (
    arith,
    next,
    h.count_is,
    sum-map one_if_busy (take i peers),
    sum-map one_if_busy (take (i + 1) peers),
    sum_by_more one_if_busy peers i peer within,
    ap one_if_busy is,
  );
  within = omega (arith, next, one_at_most peer, h.within);
}
