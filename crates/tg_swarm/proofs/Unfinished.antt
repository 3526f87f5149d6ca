-- What stands where a job isn't finished, and where a peer couldn't be heard.
use Rattle.std.proofs.Common.{Err, List, Ok, Result, Some, ap, refl, subst, sym, ℕ, ◌∙◌, ◌≡◌}
use Rattle.std.specs.List.{slice_get}
use Rattle.std.specs.Prelude.{MatchResult, OnErr, OnOk}
use Rattle.tg_fetch.specs.declared.client.Client.{Client}
use Rattle.tg_fetch.specs.declared.fault.FetchFault.{FetchFault}
use Rattle.tg_fetch.specs.declared.fault.FetchFault.TheVariants.{PeerFault}
use Rattle.tg_parts.specs.Connections.{Connection}
use Rattle.tg_streams.specs.Streams.{Output, OutputQuiet, Unput}
use Rattle.tg_swarm.proofs.Events.{busy_within, refused_has_none, set_twice, stands_again, stands_without}
use Rattle.tg_swarm.proofs.Places.{get_set_same}
use Rattle.tg_swarm.proofs.Starting.{set_in}
use Rattle.tg_swarm.specs.Said.{IsBeginning, IsBlaming, IsPuttingRoot}
use Rattle.tg_swarm.specs.Swarms.{IsAsBefore, IsPeersOwn, StandsFor, SwarmState}
use Rattle.tg_swarm.specs.declared.fault.SwarmFault.{SwarmFault}
use Rattle.tg_swarm.specs.declared.fault.SwarmFault.TheVariants as faults
use Rattle.tg_swarm.specs.declared.peers.Call.{Call}
use Rattle.tg_swarm.specs.declared.peers.Peer.{Peer}
use Rattle.tg_swarm.specs.declared.peers.Peer.TheVariants as kinds
use Rattle.tg_verify.specs.declared.verifier.Progress.{Progress}

-- ---- the root's block

pub begun_count : (old new : SwarmState) (total : ℕ) (result : Result Progress SwarmFault) → IsBeginning old new total result
    → OnErr result (new.jobs.count ≡ old.jobs.count)
begun_count old new total (Ok progress) h = tt
begun_count old new total (Err fault) h = ap (λ (s : SwarmState). s.jobs.count) h.0

pub put_count : (old new : SwarmState) (block : List ℕ) (out : Output) (result : Result Progress SwarmFault)
    → IsPuttingRoot old new block out result → OnErr result (new.jobs.count ≡ old.jobs.count)
put_count old new block out (Ok progress) h = tt
put_count old new block out (Err faults.SinkFault) h = ap (λ (s : SwarmState). s.jobs.count) h.0
put_count old new block out (Err (faults.Limit kind number)) h = ap (λ (s : SwarmState). s.jobs.count) h.0
put_count old new block out (Err faults.NoPeerLeft) h = absurd h
put_count old new block out (Err faults.NotFile) h = absurd h
put_count old new block out (Err (faults.BadRoot why)) h = absurd h
put_count old new block out (Err faults.OutOfMemory) h = absurd h

-- ---- the call was taken

module _ (old taken : SwarmState) (at : ℕ) (call : Call Client) (busy : slice_get old.jobs.peers at ≡ Some (kinds.Busy call))
    (taken_is : taken ≡ set_in old at kinds.Idle) where
  -- its job is finished
  pub idle_then : (new : SwarmState) → new.jobs.peers ≡ taken.jobs.peers → slice_get new.jobs.peers at ≡ Some kinds.Idle
  idle_then new same = ap (λ (p : List (Peer Client)). slice_get p at) (same ∙ ap (λ (t : SwarmState). t.jobs.peers) taken_is)
      ∙ get_set_same old.jobs.peers at kinds.Idle (busy_within old at call busy)

  refused_then : (new : SwarmState) (fault : FetchFault) → new ≡ set_in taken at (kinds.Refused fault)
      → slice_get new.jobs.peers at ≡ Some (kinds.Refused fault)
  refused_then new fault new_is =
      ap (λ (t : SwarmState). slice_get t.jobs.peers at) (set_twice old taken new at kinds.Idle (kinds.Refused fault) taken_is new_is)
      ∙ get_set_same old.jobs.peers at (kinds.Refused fault) (busy_within old at call busy)

  -- it couldn't be heard
  pub blamed_failed : (new : SwarmState) (fault : FetchFault) (result : Result Progress SwarmFault) → fault ≡ PeerFault
      → IsBlaming taken new at fault result
      → MatchResult result (λ _. slice_get new.jobs.peers at ≡ Some (kinds.Refused PeerFault)) (λ end. end ≡ faults.NoPeerLeft)
  blamed_failed new fault (Ok progress) is b =
      subst (λ (f : FetchFault). slice_get new.jobs.peers at ≡ Some (kinds.Refused f)) is (refused_then new fault b.2)
  blamed_failed new fault (Err faults.NoPeerLeft) is b = refl
  blamed_failed new fault (Err faults.OutOfMemory) is b = absurd (b.0 (subst (λ (f : FetchFault). IsPeersOwn f) (sym is) tt))
  blamed_failed new fault (Err faults.NotFile) is b = absurd b
  blamed_failed new fault (Err (faults.BadRoot why)) is b = absurd b
  blamed_failed new fault (Err (faults.Limit kind number)) is b = absurd b
  blamed_failed new fault (Err faults.SinkFault) is b = absurd b

  module _ (connections : List Connection) (written : List ℕ) (out : Output) (h : StandsFor old connections written) (unput : Unput out)
      (quiet : OutputQuiet out) where
    -- more is wanted of it
    pub more_before : (new : SwarmState) (later : Call Client) → later.job ≡ call.job → new ≡ set_in taken at (kinds.Busy later)
        → IsAsBefore old new connections written out
    more_before new later same new_is =
        let is : new ≡ set_in old at (kinds.Busy later) = set_twice old taken new at kinds.Idle (kinds.Busy later) taken_is new_is in
        record {
          plan = ap (λ (t : SwarmState). t.plan) is;
          stands = subst (λ (t : SwarmState). StandsFor t connections written) (sym is)
              (stands_again old at call busy later same connections written h);
          unput = unput;
          quiet = quiet;
        }

    -- it is blamed
    pub blamed_before : (new : SwarmState) (fault : FetchFault) (result : Result Progress SwarmFault) → IsBlaming taken new at fault result
        → OnOk result (IsAsBefore old new connections written out)
    blamed_before new fault (Ok progress) b =
        let is : new ≡ set_in old at (kinds.Refused fault) = set_twice old taken new at kinds.Idle (kinds.Refused fault) taken_is b.2 in
        record {
          plan = ap (λ (t : SwarmState). t.plan) is;
          stands = subst (λ (t : SwarmState). StandsFor t connections written) (sym is)
              (stands_without old at call busy (kinds.Refused fault) (refused_has_none fault) connections written h);
          unput = unput;
          quiet = quiet;
        }
    blamed_before new fault (Err other) b = tt
