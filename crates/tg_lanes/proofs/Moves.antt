-- What lanes stand for behind an event and a renewal.
use Rattle.std.proofs.Common.{◌≡◌, ℕ, zero, suc, ◌<◌, ◌≤◌, Bool, Option, Some, None, Result, true, false, List, [], ◌∷◌, ◌++◌, append-nil, length, refl, sym, ap, subst, subst₂, ◌∙◌, arith, eq-eqb, eqb-true, ◌==◌}
use Rattle.std.specs.Prelude.{if◌then◌else◌, replicate, slice_get, slice_set}
use Rattle.tg_bytes.specs.Told.{grown}
use Rattle.tg_gateway.specs.Laws.{SessionsBegin}
use Rattle.tg_gateway.specs.Sessions.{SessionView, new_session}
use Rattle.tg_gateway.specs.declared.fault.GatewayFault.{GatewayFault}
use Rattle.tg_gateway.specs.declared.session.Next.{Next}
use Rattle.tg_lanes.proofs.Later.{stands_later}
use Rattle.tg_lanes.proofs.Standing.{GoesOn, SessionLaws, lane_ends, lane_on}
use Rattle.tg_lanes.specs.History.{Fed, FedStands, LaneStands, LanesStandFor, Move, fed_by, has_ended, own_behind, own_from, own_of, since_behind, since_of, was_fed, was_renewed}
use Rattle.tg_lanes.specs.Lanes.{AreAgreed, Feeds, IsAgreed}
use Rattle.tg_lanes.specs.Laws.{LanesBegin}
use Rattle.tg_lanes.specs.OwnLaws.{differ, get_elsewhere, get_here, get_other, got_set, own_anew, own_elsewhere, own_ended, own_here, own_kept, own_push, since_anew, since_kept, since_push, some_is}
use Rattle.tg_model.specs.Stores.{Lookups, Store}
use Rattle.tg_streams.specs.Streams.{Output, Put, SinkMeaning, into}

-- ---- an event

-- what stands stands by the same count and the same part
stands_by : (session : SessionView) (told : Option Store) (now since other : ℕ) (own part : List Fed) → since ≡ other → own ≡ part
    → LaneStands session told other now part → LaneStands session told since now own
stands_by session told now since other own part one same h =
    subst₂ (λ (n : ℕ) (l : List Fed). LaneStands session told n now l) (sym one) (sym same) h

module _ (laws : SessionLaws) (told : Option Store) (old new : List SessionView) (lane : ℕ) (piece : List ℕ) (lookups : Lookups) (out : Output)
    (le : lookups.faults_old ≤ lookups.faults_new) where
  pub lanes_fed : (before behind : SessionView) (same : Type 0) (result : Result Next GatewayFault) → (same → Put [] out)
      → slice_get old lane ≡ Some before → new ≡ slice_set old lane behind → Feeds told before behind piece lookups out same result
      → FedStands told old new lane piece lookups out result
  lanes_fed before behind same result idle was is feeds = record {
    written = on.written;
    put = on.put;
    session = behind;
    session_is = found;
    ends_as = lane_ends told before behind piece lookups out same result feeds;
    stand = λ since moves stand other session at. by since moves stand other session at (lane == other) refl;
  }
    where
      on : GoesOn told before behind piece lookups out
      on = lane_on laws told piece lookups out le before behind same result idle feeds

      f : Fed
      f = fed_by piece on.written lookups out

      found : slice_get new lane ≡ Some behind
      found = ap (λ (l : List SessionView). slice_get l lane) is ∙ get_here old lane before behind was

      by : (since : ℕ) (moves : List Move) → LanesStandFor old told since lookups.faults_old moves → (other : ℕ) (session : SessionView)
          → slice_get new other ≡ Some session → (b : Bool) → (lane == other) ≡ b
          → LaneStands session told (since_of other since (moves ++ was_fed lane f ∷ [])) lookups.faults_new (own_of other (moves ++ was_fed lane f ∷ []))
      by since moves stand other session at true here =
          let one : lane ≡ other = eqb-true lane other here in
          let same_session : behind ≡ session = some_is behind session (sym found ∙ ap (slice_get new) one ∙ at) in
          subst
          (λ (l : ℕ). LaneStands session told (since_of l since (moves ++ was_fed lane f ∷ [])) lookups.faults_new (own_of l (moves ++ was_fed lane f ∷ [])))
          one
          (stands_by session told lookups.faults_new (since_of lane since (moves ++ was_fed lane f ∷ [])) (since_of lane since moves)
          (own_of lane (moves ++ was_fed lane f ∷ [])) (own_of lane moves ++ f ∷ []) (since_push lane since moves (was_fed lane f)) (own_here lane moves f)
          (subst (λ (s : SessionView). LaneStands s told (since_of lane since moves) lookups.faults_new (own_of lane moves ++ f ∷ [])) same_session
          (on.stands (since_of lane since moves) (own_of lane moves) (stand lane before was))))
      by since moves stand other session at false apart =
          let kept : slice_get old other ≡ Some session =
          sym (ap (λ (l : List SessionView). slice_get l other) is ∙ get_elsewhere old lane other behind apart) ∙ at in
          stands_by session told lookups.faults_new (since_of other since (moves ++ was_fed lane f ∷ [])) (since_of other since moves)
          (own_of other (moves ++ was_fed lane f ∷ [])) (own_of other moves) (since_push other since moves (was_fed lane f))
          (own_elsewhere other lane moves f apart)
          (stands_later session told (since_of other since moves) lookups.faults_old lookups.faults_new (own_of other moves) le (stand other session kept))

-- a session agrees with its state where that of a lane was changed for one that does
pub agreed_set : (sessions : List SessionView) (lane : ℕ) (behind : SessionView) → AreAgreed sessions → IsAgreed behind
    → AreAgreed (slice_set sessions lane behind)
agreed_set sessions lane behind agreed is other session at = by (lane == other) refl
  where
    by : (b : Bool) → (lane == other) ≡ b → IsAgreed session
    by true here =
        let one : lane ≡ other = eqb-true lane other here in
        subst IsAgreed (got_set sessions lane behind session (ap (slice_get (slice_set sessions lane behind)) one ∙ at)) is
    by false apart = agreed other session (sym (get_elsewhere sessions lane other behind apart) ∙ at)

-- the peer of a lane said no more
pub lanes_ended : (told : Option Store) (sessions : List SessionView) (lane since now : ℕ) (moves : List Move) → LanesStandFor sessions told since now moves
    → LanesStandFor sessions told since now (moves ++ has_ended lane ∷ [])
lanes_ended told sessions lane since now moves stand other session at =
    stands_by session told now (since_of other since (moves ++ has_ended lane ∷ [])) (since_of other since moves)
    (own_of other (moves ++ has_ended lane ∷ [])) (own_of other moves) (since_push other since moves (has_ended lane)) (own_ended other lane moves)
    (stand other session at)

-- ---- new sessions

new_stands : SessionsBegin → (told : Option Store) (most since now : ℕ) → since ≤ now → LaneStands (new_session most) told since now []
new_stands begin told most since now le =
    stands_later (new_session most) told since since now [] le
    (record { in_turn = omega arith; sent = []; sent_in = refl; writes = record { stands = begin told most since; written_is = refl } })

-- a lane was renewed
pub lanes_renewed : SessionsBegin → (told : Option Store) (old new : List SessionView) (lane most since now : ℕ) (moves : List Move) (before : SessionView)
    → slice_get old lane ≡ Some before → new ≡ slice_set old lane (new_session most) → LanesStandFor old told since now moves
    → LanesStandFor new told since now (moves ++ was_renewed lane now ∷ [])
lanes_renewed begin told old new lane most since now moves before was is stand other session at = by (lane == other) refl
  where
    anew : List Move
    anew = moves ++ was_renewed lane now ∷ []

    by : (b : Bool) → (lane == other) ≡ b → LaneStands session told (since_of other since anew) now (own_of other anew)
    by true here =
        let one : lane ≡ other = eqb-true lane other here in
        let found : slice_get new lane ≡ Some (new_session most) = ap (λ (l : List SessionView). slice_get l lane) is ∙ get_here old lane before (new_session most) was in
        let same : new_session most ≡ session = some_is (new_session most) session (sym found ∙ ap (slice_get new) one ∙ at) in
        subst (λ (l : ℕ). LaneStands session told (since_of l since anew) now (own_of l anew)) one
        (stands_by session told now (since_of lane since anew) now (own_of lane anew) [] (since_anew lane since now moves) (own_anew lane now moves)
        (subst (λ (s : SessionView). LaneStands s told now now []) same (new_stands begin told most now now (omega arith))))
    by false apart =
        let found : slice_get old other ≡ Some session =
        sym (ap (λ (l : List SessionView). slice_get l other) is ∙ get_elsewhere old lane other (new_session most) apart) ∙ at in
        stands_by session told now (since_of other since anew) (since_of other since moves) (own_of other anew) (own_of other moves)
        (since_kept other lane since now moves apart) (own_kept other lane now moves apart) (stand other session found)

-- ---- new lanes

get_replicate : {X : Type 0} (n i : ℕ) (x y : X) → slice_get (replicate n x) i ≡ Some y → x ≡ y
get_replicate zero i x y h = cc
get_replicate (suc n) zero x y h = some_is x y h
get_replicate (suc n) (suc i) x y h = get_replicate n i x y h

pub lanes_begin : SessionsBegin → LanesBegin
lanes_begin begin told count most since now le lane session at =
    subst (λ (s : SessionView). LaneStands s told since now []) (get_replicate count lane (new_session most) session at)
    (new_stands begin told most since now le)

-- nothing was put
grown_none : (held : Option (List ℕ)) → held ≡ grown held []
grown_none None = refl
grown_none (Some l) = ap Some (sym (append-nil l))

pub idle_put : {S : Type 0} (m : SinkMeaning S) → ((s : S) → m.wrote s s []) → (a b : S) → b ≡ a → Put [] (into m a b)
idle_put {S} m rests a b e = record { moved = subst (λ (s : S). m.wrote a s []) (sym e) (rests a); held = ap m.held e ∙ grown_none (m.held a) }
