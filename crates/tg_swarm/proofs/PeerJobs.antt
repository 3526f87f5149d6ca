-- Which jobs are asked of which peers, once one of them changed.
use Rattle.std.proofs.Common.{List, Some, ap, inl, inr, length, sym, ℕ, ◌<◌, ◌∙◌, ◌≡◌, ◌≢◌, ◌⊎◌}
use Rattle.std.proofs.lemmas.Bool.{cases_eq}
use Rattle.std.specs.List.{slice_get}
use Rattle.std.specs.Prelude.{slice_set}
use Rattle.tg_swarm.proofs.Places.{get_set_other, get_set_same}
use Rattle.tg_swarm.specs.Peers.{HasJob, job_of}
use Rattle.tg_swarm.specs.declared.peers.Peer.{Peer}

module _ {C : Type 0} (peers : List (Peer C)) (at : ℕ) (peer : Peer C) (within : at < length peers) where
  -- what stands at a place
  pub peer_at : (i : ℕ) (other : Peer C) → slice_get (slice_set peers at peer) i ≡ Some other
      → ((i ≡ at) × (peer ≡ other)) ⊎ ((i ≢ at) × (slice_get peers i ≡ Some other))
  peer_at i other h = elim (cases_eq i at) [
    | inl same ↦
        let there : Some peer ≡ Some other =
        sym (get_set_same peers at peer within) ∙ ap (slice_get (slice_set peers at peer)) (sym same) ∙ h in
        inl (same, cc)
    | inr differs ↦ inr (differs, sym (get_set_other peers at i peer differs) ∙ h)
  ]

  -- and which job is asked of it
  pub job_at : (i job : ℕ) → HasJob (slice_set peers at peer) i job → ((i ≡ at) × (job_of peer ≡ Some job)) ⊎ ((i ≢ at) × HasJob peers i job)
  job_at i job (other, there, has) = elim (peer_at i other there) [
    | inl (same, is) ↦ inl (same, ap job_of is ∙ has)
    | inr (differs, before) ↦ inr (differs, (other, before, has))
  ]
