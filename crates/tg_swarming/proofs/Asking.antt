-- What a peer is asked.
use Rattle.std.proofs.Common.{MatchOption, None, Option, Some, refl, subst, ℕ, ◌≡◌}
use Rattle.tg_model.specs.Queries.{QueryParts}
use Rattle.tg_swarm.specs.Swarms.{HasAsked, NothingAsked, SwarmState}

pub asked_some : (old new : SwarmState) (peer : ℕ) (asked : Option QueryParts) (q : QueryParts) → asked ≡ Some q
    → MatchOption asked (NothingAsked old new peer) (HasAsked old new peer) → HasAsked old new peer q
asked_some old new peer asked q is h = subst (λ (o : Option QueryParts). MatchOption o (NothingAsked old new peer) (HasAsked old new peer)) is h

pub nothing_asked : (old new : SwarmState) (peer : ℕ) (asked : Option QueryParts) → ((q : QueryParts) → asked ≡ Some q → ⊥)
    → MatchOption asked (NothingAsked old new peer) (HasAsked old new peer) → NothingAsked old new peer
nothing_asked old new peer (Some q) not h = absurd (not q refl)
nothing_asked old new peer None not h = h
