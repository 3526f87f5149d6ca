-- Whether a swarm has ended is nothing of what else an event makes of it.
use Rattle.std.proofs.Common.{Err, List, None, Ok, Option, Result, Some, inl, inr, ℕ, ◌≡◌}
use Rattle.std.specs.Prelude.{MatchResult}
use Rattle.tg_fetch.specs.declared.client.Client.{Client}
use Rattle.tg_parts.specs.Connections.{Connection}
use Rattle.tg_streams.specs.Streams.{Output}
use Rattle.tg_swarm.specs.Swarms.{AfterEvent, EventEnds, PeerAfter, SwarmState}
use Rattle.tg_swarm.specs.declared.fault.SwarmFault.{SwarmFault}
use Rattle.tg_swarm.specs.declared.fault.SwarmFault.TheVariants as faults
use Rattle.tg_swarm.specs.declared.peers.Call.{Call}
use Rattle.tg_swarm.specs.declared.swarm.PeerEvent.{PeerEvent}
use Rattle.tg_verify.specs.declared.verifier.Progress.{Progress}

module _ (old s : SwarmState) (end : Option SwarmFault) where
  module _ (connections : List Connection) (written told : List ℕ) (call : Call Client) (out : Output) where
    pub ended_ends : (result : Result Progress SwarmFault) → MatchResult result (λ _. end ≡ None) (λ fault. end ≡ Some fault)
        → EventEnds old s connections written call told out result → EventEnds old (record s { ended = end }) connections written call told out result
    ended_ends (Ok progress) none h = record {
      later = h.later;
      told = h.told;
      text = h.text;
      put = h.put;
      quiet = h.quiet;
      stands = record { going = none; planned = h.stands.planned; jobs = h.stands.jobs; answers = h.stands.answers };
      progress_is = h.progress_is;
      left = h.left;
    }
    ended_ends (Err faults.NoPeerLeft) some h = record { refused = h.refused; unwritten = h.unwritten; unput = h.unput; quiet = h.quiet }
    ended_ends (Err faults.NotFile) some h = h
    ended_ends (Err (faults.BadRoot why)) some h = h
    ended_ends (Err (faults.Limit kind number)) some h = h
    ended_ends (Err faults.SinkFault) some h = record { later = h.later; told = h.told; failed = h.failed; raw = h.raw }
    ended_ends (Err faults.OutOfMemory) some h = h

  module _ (at : ℕ) (call : Call Client) (heard : List ℕ) (event : PeerEvent) where
    peer_ended : PeerAfter old s at call heard event → PeerAfter old (record s { ended = end }) at call heard event
    peer_ended (inl a) = inl (a.0, a.1, a.2, record { query = a.3.query; limits = a.3.limits; stands = a.3.stands })
    peer_ended (inr (inl a)) = inr (inl (a.0, a.1))
    peer_ended (inr (inr a)) = inr (inr a)

    pub ended_after : (result : Result Progress SwarmFault) → AfterEvent old s at call heard event result
        → AfterEvent old (record s { ended = end }) at call heard event result
    ended_after (Ok progress) a = peer_ended a
    ended_after (Err faults.NoPeerLeft) a = a
    ended_after (Err faults.NotFile) a = tt
    ended_after (Err (faults.BadRoot why)) a = tt
    ended_after (Err (faults.Limit kind number)) a = tt
    ended_after (Err faults.SinkFault) a = tt
    ended_after (Err faults.OutOfMemory) a = tt
