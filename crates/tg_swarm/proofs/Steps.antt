-- Less is left to do behind a step.
use Rattle.std.proofs.Common.{Err, List, Ok, Result, Some, ap, arith, length, length-append, map, refl, subst, sum, sym, ℕ, ◌*◌, ◌+◌, ◌<◌, ◌∙◌, ◌≡◌, ◌≤◌}
use Rattle.std.proofs.lemmas.List.Sums.{sum-map, sum_by-set}
use Rattle.std.proofs.lemmas.Nat.{row_fits}
use Rattle.std.proofs.lemmas.Option.{get_or_from_slice_get, slice_get_within}
use Rattle.std.specs.List.{slice_get}
use Rattle.std.specs.Prelude.{OnOk, slice_set}
use Rattle.tg_fetch.specs.declared.client.Client.{Client}
use Rattle.tg_fetch.specs.declared.fault.FetchFault.{FetchFault}
use Rattle.tg_fetch.specs.declared.fault.FetchFault.TheVariants.{PeerFault}
use Rattle.tg_model.specs.LimitNumbers.{LimitNumbers}
use Rattle.tg_parts.specs.Connections.{Connection}
use Rattle.tg_streams.specs.Streams.{Output}
use Rattle.tg_swarm.proofs.Events.{set_twice}
use Rattle.tg_swarm.proofs.Starting.{set_in}
use Rattle.tg_swarm.specs.Said.{AcceptedEnds, CallHeard, IsBlaming}
use Rattle.tg_swarm.specs.Swarms.{CallStands, SettingsStay, SwarmState, TellsSome, bytes_of, jobs_left, left_to_do, limits_for, steps_left}
use Rattle.tg_swarm.specs.declared.fault.SwarmFault.{SwarmFault}
use Rattle.tg_swarm.specs.declared.peers.Call.{Call}
use Rattle.tg_swarm.specs.declared.peers.Peer.{Peer}
use Rattle.tg_swarm.specs.declared.peers.Peer.TheVariants as kinds
use Rattle.tg_swarm.specs.declared.swarm.PeerEvent.{PeerEvent}
use Rattle.tg_swarm.specs.declared.swarm.PeerEvent.TheVariants as events
use Rattle.tg_swarm.specs.declared.swarm.Plan.{Plan}
use Rattle.tg_swarm.specs.declared.swarm.Plan.TheVariants as plans
use Rattle.tg_verify.specs.declared.verifier.Progress.{Progress}
use Rattle.tg_verify.specs.declared.verifier.Progress.TheVariants as progresses

-- another peer stands in a place
sum_set : (f : Peer Client → ℕ) (peers : List (Peer Client)) (at : ℕ) (was new : Peer Client) → slice_get peers at ≡ Some was
    → sum (map f (slice_set peers at new)) + f was ≡ sum (map f peers) + f new
sum_set f peers at was new is = omega (
  arith,
  sum-map f (slice_set peers at new),
  sum-map f peers,
  sum_by-set f peers at new was (slice_get_within peers at was is),
  ap f (get_or_from_slice_get peers at was was is),
)

-- fewer jobs are left, and of steps not as many more as a job has
fewer_jobs : (jobs before steps was k : ℕ) → jobs < before → steps < was + k → jobs * k + steps < before * k + was
fewer_jobs jobs before steps was k less few = omega (arith, few, row_fits jobs k before k less (omega arith))

received_same : (limits : LimitNumbers) (plan : Plan) → (limits_for limits plan).received ≡ limits.received
received_same limits plans.Root = refl
received_same limits (plans.Parts total) = refl

module _ (old new : SwarmState) (at : ℕ) (was peer : Peer Client) (is_at : slice_get old.jobs.peers at ≡ Some was) where
  -- a peer has fewer steps left
  pub fewer_steps : new ≡ set_in old at peer → steps_left old.limits.received peer < steps_left old.limits.received was → left_to_do new < left_to_do old
  fewer_steps is less =
      subst (λ (t : SwarmState). left_to_do t < left_to_do old) (sym is)
      (omega (arith, less, sum_set (steps_left old.limits.received) old.jobs.peers at was peer is_at))

  -- a job less is left
  pub fewer_left : new.limits ≡ old.limits → new.jobs.peers ≡ slice_set old.jobs.peers at peer → jobs_left new < jobs_left old
      → steps_left old.limits.received peer < steps_left old.limits.received was + (old.limits.received + 3) → left_to_do new < left_to_do old
  fewer_left limits peers less few =
      let steps : sum (map (steps_left new.limits.received) new.jobs.peers) ≡ sum (map (steps_left old.limits.received) (slice_set old.jobs.peers at peer)) =
      ap (λ (l : LimitNumbers). sum (map (steps_left l.received) new.jobs.peers)) limits
      ∙ ap (λ (ps : List (Peer Client)). sum (map (steps_left old.limits.received) ps)) peers in
      subst (λ (l : LimitNumbers). jobs_left new * (l.received + 3) + sum (map (steps_left new.limits.received) new.jobs.peers) < left_to_do old) (sym limits)
      (fewer_jobs (jobs_left new) (jobs_left old) (sum (map (steps_left new.limits.received) new.jobs.peers))
      (sum (map (steps_left old.limits.received) old.jobs.peers)) (old.limits.received + 3) less
      (omega (arith, few, steps, sum_set (steps_left old.limits.received) old.jobs.peers at was peer is_at)))

-- it is asked
pub asked_shorter : (old new : SwarmState) (at : ℕ) (call : Call Client) → slice_get old.jobs.peers at ≡ Some kinds.Idle
    → new ≡ set_in old at (kinds.Busy call) → left_to_do new < left_to_do old
asked_shorter old new at call idle is = fewer_steps old new at kinds.Idle (kinds.Busy call) idle is (omega arith)

module _ (old : SwarmState) (at : ℕ) (call : Call Client) (heard : List ℕ) (busy : slice_get old.jobs.peers at ≡ Some (kinds.Busy call))
    (stands : CallStands old call heard) where
  -- no more was heard than its limit
  within : call.client.heard ≤ old.limits.received
  within = omega (
    arith,
    stands.stands.is_open.count,
    stands.stands.is_open.within,
    ap (λ (l : LimitNumbers). l.received) stands.limits,
    received_same old.limits old.plan,
  )

  -- more is wanted of it
  pub more_shorter : (taken new : SwarmState) (later : Call Client) (event : PeerEvent) → taken ≡ set_in old at kinds.Idle → new ≡ set_in taken at (kinds.Busy later)
      → CallHeard call later heard event (Ok progresses.More) → 0 < length (bytes_of event) → left_to_do new < left_to_do old
  more_shorter taken new later event taken_is new_is c some =
      let open_is = (c.says stands.stands).is_open in
      fewer_steps old new at (kinds.Busy call) (kinds.Busy later) busy (set_twice old taken new at kinds.Idle (kinds.Busy later) taken_is new_is)
      (omega (
        arith,
        some,
        within,
        stands.stands.is_open.count,
        open_is.count,
        open_is.within,
        length-append heard (bytes_of event),
        ap (λ (l : LimitNumbers). l.received) (c.limits ∙ stands.limits),
        received_same old.limits old.plan,
      ))

  -- it is blamed
  pub blamed_shorter : (taken new : SwarmState) (fault : FetchFault) (result : Result Progress SwarmFault) → taken ≡ set_in old at kinds.Idle
      → IsBlaming taken new at fault result → OnOk result (left_to_do new < left_to_do old)
  blamed_shorter taken new fault (Ok progress) taken_is b =
      fewer_steps old new at (kinds.Busy call) (kinds.Refused fault) busy (set_twice old taken new at kinds.Idle (kinds.Refused fault) taken_is b.2)
      (omega (arith, within))
  blamed_shorter taken new fault (Err other) taken_is b = tt

  -- its job is finished
  pub accepted_shorter : (taken new : SwarmState) (later : Call Client) (connections : List Connection) (written : List ℕ) (out : Output)
      (result : Result Progress SwarmFault) → taken ≡ set_in old at kinds.Idle → SettingsStay taken new → new.jobs.peers ≡ taken.jobs.peers
      → AcceptedEnds (set_in old at kinds.Idle) new connections written later out result → OnOk result (left_to_do new < left_to_do old)
  accepted_shorter taken new later connections written out (Ok progress) taken_is settings peers a =
      fewer_left old new at (kinds.Busy call) kinds.Idle busy (settings.limits ∙ ap (λ (t : SwarmState). t.limits) taken_is)
      (peers ∙ ap (λ (t : SwarmState). t.jobs.peers) taken_is) a.fewer (omega arith)
  accepted_shorter taken new later connections written out (Err fault) taken_is settings peers a = tt

-- what tells something, and wants more, is a piece
pub piece_tells : (event : PeerEvent) (result : Result Progress FetchFault) → TellsSome event → result ≡ Ok progresses.More
    → (event ≡ events.Ended → result ≡ Ok progresses.More → ⊥) → (event ≡ events.Failed → result ≡ Err PeerFault) → 0 < length (bytes_of event)
piece_tells (events.Piece piece) result some is ended failed = some
piece_tells events.Ended result some is ended failed = absurd (ended refl is)
piece_tells events.Failed result some is ended failed =
    let e : Ok progresses.More ≡ Err PeerFault = sym is ∙ failed refl in absurd (cc e)
