-- What an event makes of a swarm and of its peer.
use Rattle.std.proofs.Common.{Contains, Err, List, None, Ok, Option, Result, Some, [], ap, append-nil, arith, inl, inr, length, refl, subst, sym, ℕ, ◌++◌, ◌<◌, ◌∙◌, ◌∷◌, ◌≡◌, ◌≢◌, ◌≤◌}
use Rattle.std.proofs.lemmas.List.{set-set}
use Rattle.std.proofs.lemmas.List.Elements.{Contains-append_right}
use Rattle.std.proofs.lemmas.Option.{slice_get_within}
use Rattle.std.specs.List.{slice_get}
use Rattle.std.specs.Prelude.{slice_set}
use Rattle.tg_bytes.specs.Told.{grown}
use Rattle.tg_fetch.specs.declared.client.Client.{Client}
use Rattle.tg_fetch.specs.declared.fault.FetchFault.{FetchFault}
use Rattle.tg_model.specs.LimitNumbers.{LimitNumbers}
use Rattle.tg_model.specs.Queries.{QueryParts}
use Rattle.tg_parts.specs.Connections.{Connection, WasAccepted}
use Rattle.tg_parts.specs.PartLaws.{AcceptedStay, RootsStay, TotalsStay}
use Rattle.tg_streams.specs.Streams.{Output, OutputQuiet, Put, SinkMeaning, Unput, into}
use Rattle.tg_swarm.proofs.Keeping.{busy_again, left_alone, none_has}
use Rattle.tg_swarm.proofs.Longer.{stands_longer}
use Rattle.tg_swarm.proofs.Places.{get_set_other, get_set_same}
use Rattle.tg_swarm.proofs.Starting.{set_in, stands_peers}
use Rattle.tg_swarm.specs.Jobs.{IsOpen, IsProgress}
use Rattle.tg_swarm.specs.Peers.{AreRefused, HasJob, IsRefusedPeer, job_of}
use Rattle.tg_swarm.specs.Said.{AcceptedEnds, CallHeard, IsAccepting, IsBlaming, IsText, RootSays}
use Rattle.tg_swarm.specs.Swarms.{AfterEvent, AnswersJob, CallStands, EventEnds, GoesOn, IsBlamed, IsHeardAnswer, IsTold, PeerAfter, RootAccepted, StandsFor, SwarmState, asked_of, bytes_of, query_of}
use Rattle.tg_swarm.specs.declared.fault.SwarmFault.{SwarmFault}
use Rattle.tg_swarm.specs.declared.fault.SwarmFault.TheVariants as faults
use Rattle.tg_swarm.specs.declared.peers.Call.{Call}
use Rattle.tg_swarm.specs.declared.peers.Peer.{Peer}
use Rattle.tg_swarm.specs.declared.peers.Peer.TheVariants as kinds
use Rattle.tg_swarm.specs.declared.swarm.PeerEvent.{PeerEvent}
use Rattle.tg_verify.specs.Sound.{ForEachSound, IsItsAnswer}
use Rattle.tg_verify.specs.declared.verifier.Progress.{Progress}
use Rattle.tg_verify.specs.declared.verifier.Progress.TheVariants as progresses

-- ---- where out stays nothing was put

grown_nil : (x : Option (List ℕ)) → x ≡ grown x []
grown_nil None = refl
grown_nil (Some held) = ap (λ (t : List ℕ). Some t) (sym (append-nil held))

pub put_nothing : {S : Type 0} (m : SinkMeaning S) (out : S) → m.wrote out out [] → Put [] (into m out out)
put_nothing m out rests = record { moved = rests; held = grown_nil (m.held out) }

pub unput_still : {S : Type 0} (m : SinkMeaning S) (out : S) → m.wrote out out [] → Unput (into m out out)
unput_still m out rests = record { moved = rests; held = refl }

-- ---- peers

-- a peer that isn't refused
some_left : (peers : List (Peer Client)) (at : ℕ) (peer : Peer Client) → slice_get peers at ≡ Some peer → (IsRefusedPeer peer → ⊥)
    → AreRefused peers → ⊥
some_left peers at peer here not all = not (all at peer here)

idle_has_none : (job : ℕ) → job_of {C = Client} kinds.Idle ≡ Some job → ⊥
idle_has_none job h = cc

pub refused_has_none : (fault : FetchFault) (job : ℕ) → job_of {C = Client} (kinds.Refused fault) ≡ Some job → ⊥
refused_has_none fault job h = cc

pub same_call : (peers : List (Peer Client)) (at : ℕ) (one other : Call Client) → slice_get peers at ≡ Some (kinds.Busy one)
    → slice_get peers at ≡ Some (kinds.Busy other) → one ≡ other
same_call peers at one other h g =
    let both : Some (kinds.Busy one) ≡ Some (kinds.Busy other) = sym h ∙ g in
    let is : one ≡ other = cc in
    is

pub set_twice : (old taken new : SwarmState) (at : ℕ) (first peer : Peer Client) → taken ≡ set_in old at first → new ≡ set_in taken at peer
    → new ≡ set_in old at peer
set_twice old taken new at first peer taken_is new_is =
    new_is ∙ ap (λ (t : SwarmState). set_in t at peer) taken_is
    ∙ ap (λ (p : List (Peer Client)). record old { jobs = record old.jobs { peers = p } }) (set-set old.jobs.peers at first peer)

last_of : (connections : List Connection) (connection : Connection) → Contains (connections ++ connection ∷ []) connection
last_of connections connection = Contains-append_right connections (connection ∷ []) connection (0, omega arith, refl)

module _ (old : SwarmState) (at : ℕ) (call : Call Client) (busy : slice_get old.jobs.peers at ≡ Some (kinds.Busy call)) where
  pub busy_within : at < length old.jobs.peers
  busy_within = slice_get_within old.jobs.peers at (kinds.Busy call) busy

  abbrev with_peer : Peer Client → SwarmState
  with_peer peer = set_in old at peer

  its_open : (connections : List Connection) (written : List ℕ) → StandsFor old connections written → IsOpen old.jobs call.job
  its_open connections written h = h.jobs.almost.jobs at call.job (kinds.Busy call, busy, refl)

  unwritten : (connections : List Connection) (written : List ℕ) → StandsFor old connections written → old.jobs.written < old.jobs.count
  unwritten connections written h = let o = its_open connections written h in omega (arith, o.is_at, o.within)

  -- it has no job any more
  pub stands_without : (peer : Peer Client) → ((job : ℕ) → job_of peer ≡ Some job → ⊥) → (connections : List Connection) (written : List ℕ)
      → StandsFor old connections written → StandsFor (with_peer peer) connections written
  stands_without peer none connections written h = stands_peers old (slice_set old.jobs.peers at peer) connections written h
      (left_alone (AnswersJob (asked_of old connections)) old.jobs at busy_within h.jobs.almost peer none)

  -- it has the same job
  pub stands_again : (later : Call Client) → later.job ≡ call.job → (connections : List Connection) (written : List ℕ)
      → StandsFor old connections written → StandsFor (with_peer (kinds.Busy later)) connections written
  stands_again later same connections written h = stands_peers old (slice_set old.jobs.peers at (kinds.Busy later)) connections written h
      (busy_again (AnswersJob (asked_of old connections)) old.jobs at busy_within h.jobs.almost call later busy same)

  accepting : (later : Call Client) → later.job ≡ call.job → (connections : List Connection) (written : List ℕ) → StandsFor old connections written
      → WasAccepted connections (query_of old later.job) later.text.content → IsAccepting (with_peer kinds.Idle) later connections written
  accepting later same connections written h accepted = record {
    stands = stands_without kinds.Idle idle_has_none connections written h;
    is_open = let o = its_open connections written h in
        record {
          place = o.place;
          is_at = same ∙ o.is_at;
          within = subst (λ (n : ℕ). n < old.jobs.count)
              (sym same) o.within;
          unfinished = o.unfinished;
        };
    nobody = λ i has.
        none_has (AnswersJob (asked_of old connections)) old.jobs at busy_within h.jobs.almost call kinds.Idle busy idle_has_none i
        (subst (HasJob (slice_set old.jobs.peers at kinds.Idle) i) same has);
    accepted = accepted;
  }

  -- ---- more is wanted of it

  module _ (taken : SwarmState) (taken_is : taken ≡ set_in old at kinds.Idle) (connections : List Connection) (written told : List ℕ) (out : Output)
      (h : StandsFor old connections written) where
    pub more_ends : (new : SwarmState) (later : Call Client) (progress : Progress) → new ≡ set_in taken at (kinds.Busy later) → later.job ≡ call.job
        → Put [] out → OutputQuiet out → (new.jobs.written ≤ new.jobs.count → IsProgress new.jobs progress)
        → GoesOn old new connections written call told out progress
    more_ends new later progress new_is same put quiet far =
        let is : new ≡ with_peer (kinds.Busy later) = set_twice old taken new at kinds.Idle (kinds.Busy later) taken_is new_is in
        let stands : StandsFor new connections written =
        subst (λ (t : SwarmState). StandsFor t connections written) (sym is) (stands_again later same connections written h)
        in
        record {
          later = connections;
          told = inl refl;
          text = [];
          put = put;
          quiet = quiet;
          stands = subst (λ (w : List ℕ). StandsFor new connections w) (sym (append-nil written)) stands;
          progress_is = far stands.jobs.almost.within;
          left = subst (λ (t : SwarmState). AreRefused t.jobs.peers → ⊥) (sym is)
              (some_left (slice_set old.jobs.peers at (kinds.Busy later)) at (kinds.Busy later)
              (get_set_same old.jobs.peers at (kinds.Busy later) busy_within) (λ no. no));
        }

    -- ---- it is blamed

    blamed_goes : (new : SwarmState) (fault : FetchFault) (progress : Progress) → new ≡ set_in taken at (kinds.Refused fault)
        → progress ≡ progresses.More
        → (AreRefused new.jobs.peers → ⊥) → Put [] out → OutputQuiet out → GoesOn old new connections written call told out progress
    blamed_goes new fault progress new_is more left put quiet =
        let is : new ≡ with_peer (kinds.Refused fault) = set_twice old taken new at kinds.Idle (kinds.Refused fault) taken_is new_is in
        let stands : StandsFor new connections written =
        subst (λ (t : SwarmState). StandsFor t connections written) (sym is)
        (stands_without (kinds.Refused fault) (refused_has_none fault) connections written h)
        in
        record {
          later = connections;
          told = inl refl;
          text = [];
          put = put;
          quiet = quiet;
          stands = subst (λ (w : List ℕ). StandsFor new connections w) (sym (append-nil written)) stands;
          progress_is = subst (λ (p : Progress). IsProgress new.jobs p) (sym more)
              (subst (λ (t : SwarmState). t.jobs.written < t.jobs.count) (sym is) (unwritten connections written h));
          left = left;
        }

    pub blamed_ends : (new : SwarmState) (fault : FetchFault) (result : Result Progress SwarmFault) → IsBlaming taken new at fault result
        → Put [] out → Unput out → OutputQuiet out → EventEnds old new connections written call told out result
    blamed_ends new fault (Ok progress) b put unput quiet = blamed_goes new fault progress b.2 b.0 b.3 put quiet
    blamed_ends new fault (Err faults.NoPeerLeft) b put unput quiet =
        let is : new ≡ with_peer (kinds.Refused fault) = set_twice old taken new at kinds.Idle (kinds.Refused fault) taken_is b.1 in
        record {
          refused = b.2;
          unwritten = subst (λ (t : SwarmState). t.jobs.written < t.jobs.count) (sym is) (unwritten connections written h);
          unput = unput;
          quiet = quiet;
        }
    blamed_ends new fault (Err faults.OutOfMemory) b put unput quiet = (unput, quiet)
    blamed_ends new fault (Err faults.NotFile) b put unput quiet = absurd b
    blamed_ends new fault (Err (faults.BadRoot why)) b put unput quiet = absurd b
    blamed_ends new fault (Err (faults.Limit kind number)) b put unput quiet = absurd b
    blamed_ends new fault (Err faults.SinkFault) b put unput quiet = absurd b

  -- ---- its job is finished

  module _ (connections longer : List Connection) (written told : List ℕ) (out : Output)
      (is_told : IsTold call.client.limits call.client.query told connections longer) where
    root_said : (says : List Connection → List ℕ → Type 0) → RootSays (with_peer kinds.Idle) longer (says longer) out
        → RootAccepted old connections call told says out
    root_said says r = record {
      plan = r.plan;
      later = longer;
      told = is_told;
      block = r.block;
      block_is = r.block_is;
      says_so = r.says_so;
      unput = r.unput;
      quiet = r.quiet;
    }

    pub accepted_ends : (new : SwarmState) (later : Call Client) (result : Result Progress SwarmFault)
        → new.jobs.peers ≡ slice_set old.jobs.peers at kinds.Idle
        → AcceptedEnds (with_peer kinds.Idle) new longer written later out result → EventEnds old new connections written call told out result
    accepted_ends new later (Ok progress) peers a = record {
      later = longer;
      told = is_told;
      text = a.text;
      put = a.put;
      quiet = a.quiet;
      stands = a.stands;
      progress_is = a.progress_is;
      left = subst (λ (p : List (Peer Client)). AreRefused p → ⊥) (sym peers)
          (some_left (slice_set old.jobs.peers at kinds.Idle) at kinds.Idle (get_set_same old.jobs.peers at kinds.Idle busy_within) (λ no. no));
    }
    accepted_ends new later (Err faults.NoPeerLeft) peers a = absurd a
    accepted_ends new later (Err faults.NotFile) peers a = root_said _ a
    accepted_ends new later (Err (faults.BadRoot why)) peers a = root_said _ a
    accepted_ends new later (Err (faults.Limit kind number)) peers a = (a.0, a.1, root_said _ a.2)
    accepted_ends new later (Err faults.SinkFault) peers a = record { later = longer; told = is_told; failed = a.failed; raw = a.raw }
    accepted_ends new later (Err faults.OutOfMemory) peers a = a

    pub accepted_after : (new : SwarmState) (later : Call Client) (heard : List ℕ) (event : PeerEvent) (result : Result Progress SwarmFault)
        → new.jobs.peers ≡ slice_set old.jobs.peers at kinds.Idle → later.job ≡ call.job
        → AcceptedEnds (with_peer kinds.Idle) new longer written later out result → AfterEvent old new at call heard event result
    accepted_after new later heard event (Ok progress) peers same a = inr (inl (
      ap (λ (p : List (Peer Client)). slice_get p at) peers ∙ get_set_same old.jobs.peers at kinds.Idle busy_within,
      λ plan o. a.closed plan (subst (λ (j : ℕ). IsOpen new.jobs j) (sym same) o),
    ))
    accepted_after new later heard event (Err faults.NoPeerLeft) peers same a = absurd a
    accepted_after new later heard event (Err faults.NotFile) peers same a = tt
    accepted_after new later heard event (Err (faults.BadRoot why)) peers same a = tt
    accepted_after new later heard event (Err (faults.Limit kind number)) peers same a = tt
    accepted_after new later heard event (Err faults.SinkFault) peers same a = tt
    accepted_after new later heard event (Err faults.OutOfMemory) peers same a = tt

  -- ---- what its client says

  module _ (later : Call Client) (heard : List ℕ) (event : PeerEvent) (same : later.job ≡ call.job) (stands : CallStands old call heard) where
    pub more_after : (taken new : SwarmState) → taken ≡ set_in old at kinds.Idle → new ≡ set_in taken at (kinds.Busy later)
        → CallHeard call later heard event (Ok progresses.More) → PeerAfter old new at call heard event
    more_after taken new taken_is new_is c =
        let is : new ≡ with_peer (kinds.Busy later) = set_twice old taken new at kinds.Idle (kinds.Busy later) taken_is new_is in
        inl (
          later,
          ap (λ (t : SwarmState). slice_get t.jobs.peers at) is ∙ get_set_same old.jobs.peers at (kinds.Busy later) busy_within,
          same,
          subst (λ (t : SwarmState). CallStands t later (heard ++ bytes_of event)) (sym is) (record {
            query = c.query ∙ stands.query ∙ ap (query_of old) (sym same);
            limits = c.limits ∙ stands.limits;
            stands = c.says stands.stands;
          }),
        )

    was_blamed : (fault : FetchFault) → CallHeard call later heard event (Err fault)
        → IsBlamed later.client.query later.client.limits heard event fault
        → IsBlamed call.client.query call.client.limits heard event fault
    was_blamed fault c b =
        subst (λ (q : QueryParts). IsBlamed q call.client.limits heard event fault) c.query
        (subst (λ (l : LimitNumbers). IsBlamed later.client.query l heard event fault) c.limits b)

    refused_there : (taken new : SwarmState) (fault : FetchFault) → taken ≡ set_in old at kinds.Idle → new ≡ set_in taken at (kinds.Refused fault)
        → slice_get new.jobs.peers at ≡ Some (kinds.Refused fault)
    refused_there taken new fault taken_is new_is =
        ap (λ (t : SwarmState). slice_get t.jobs.peers at) (set_twice old taken new at kinds.Idle (kinds.Refused fault) taken_is new_is)
        ∙ get_set_same old.jobs.peers at (kinds.Refused fault) busy_within

    pub blamed_after : (taken new : SwarmState) (fault : FetchFault) (result : Result Progress SwarmFault) → taken ≡ set_in old at kinds.Idle
        → IsBlaming taken new at fault result → CallHeard call later heard event (Err fault) → AfterEvent old new at call heard event result
    blamed_after taken new fault (Ok progress) taken_is b c =
        inr (inr (fault, refused_there taken new fault taken_is b.2, was_blamed fault c (c.says stands.stands b.1)))
    blamed_after taken new fault (Err faults.NoPeerLeft) taken_is b c =
        (fault, refused_there taken new fault taken_is b.1, was_blamed fault c (c.says stands.stands b.0))
    blamed_after taken new fault (Err faults.NotFile) taken_is b c = tt
    blamed_after taken new fault (Err (faults.BadRoot why)) taken_is b c = tt
    blamed_after taken new fault (Err (faults.Limit kind number)) taken_is b c = tt
    blamed_after taken new fault (Err faults.SinkFault) taken_is b c = tt
    blamed_after taken new fault (Err faults.OutOfMemory) taken_is b c = tt

    -- the connection that is over
    module _ (c : CallHeard call later heard event (Ok progresses.Done)) where
      abbrev pub its_text : IsText later.client.query later.client.limits (heard ++ bytes_of event) later.text.content
      its_text = c.says stands.stands

      abbrev pub over : Connection
      over = record { query = call.client.query; heard = heard ++ bytes_of event; sections = its_text.sections }

      abbrev pub with_over : List Connection → List Connection
      with_over connections = connections ++ over ∷ []

      pub over_told : (connections : List Connection)
          → IsTold call.client.limits call.client.query (heard ++ bytes_of event) connections (with_over connections)
      over_told connections = inr (
        its_text.sections,
        subst (λ (q : QueryParts). IsHeardAnswer q call.client.limits (heard ++ bytes_of event) its_text.sections) c.query
            (subst (λ (l : LimitNumbers). IsHeardAnswer later.client.query l
            (heard ++ bytes_of event) its_text.sections) c.limits its_text.answered),
        refl,
      )

      over_accepted : (connections : List Connection) → WasAccepted (with_over connections) (query_of old later.job) later.text.content
      over_accepted connections =
          let query_is : call.client.query ≡ query_of old later.job = stands.query ∙ ap (query_of old) (sym same) in
          record {
            connection = over;
            among = last_of connections over;
            query_is = query_is;
            answer = subst (λ (q : QueryParts). ForEachSound q (λ d. IsItsAnswer q d its_text.sections later.text.content))
                (c.query ∙ query_is) its_text.sound;
          }

      pub over_accepting : AcceptedStay → RootsStay → TotalsStay → (taken : SwarmState) → taken ≡ set_in old at kinds.Idle
          → (connections : List Connection) (written : List ℕ) → StandsFor old connections written
          → IsAccepting taken later (with_over connections) written
      over_accepting stay block_stays total_stays taken taken_is connections written h =
          subst (λ (t : SwarmState). IsAccepting t later (with_over connections) written) (sym taken_is)
          (accepting later same (with_over connections) written (stands_longer stay block_stays total_stays connections (over ∷ []) old written h)
          (over_accepted connections))

-- ---- the other peers

pub taken_others : (old taken : SwarmState) (at : ℕ) → taken ≡ set_in old at kinds.Idle → (i : ℕ) → i ≢ at
    → slice_get taken.jobs.peers i ≡ slice_get old.jobs.peers i
taken_others old taken at taken_is i differs =
    ap (λ (t : SwarmState). slice_get t.jobs.peers i) taken_is ∙ get_set_other old.jobs.peers at i kinds.Idle differs

pub kept_others : (old taken new : SwarmState) (at : ℕ) → taken ≡ set_in old at kinds.Idle → new.jobs.peers ≡ taken.jobs.peers → (i : ℕ) → i ≢ at
    → slice_get new.jobs.peers i ≡ slice_get old.jobs.peers i
kept_others old taken new at taken_is same i differs = ap
    (λ (p : List (Peer Client)). slice_get p i) same ∙ taken_others old taken at taken_is i differs

pub set_others : (old taken new : SwarmState) (at : ℕ) (peer : Peer Client) → taken ≡ set_in old at kinds.Idle → new ≡ set_in taken at peer →
    (i : ℕ) → i ≢ at
    → slice_get new.jobs.peers i ≡ slice_get old.jobs.peers i
set_others old taken new at peer taken_is new_is i differs =
    ap (λ (t : SwarmState). slice_get t.jobs.peers i) (set_twice old taken new at kinds.Idle peer taken_is new_is)
    ∙ get_set_other old.jobs.peers at i peer differs

pub blamed_others : (old taken new : SwarmState) (at : ℕ) (fault : FetchFault) (result : Result Progress SwarmFault)
    → taken ≡ set_in old at kinds.Idle
    → IsBlaming taken new at fault result → (i : ℕ) → i ≢ at → slice_get new.jobs.peers i ≡ slice_get old.jobs.peers i
blamed_others old taken new at fault (Ok progress) taken_is b i differs = set_others old taken new at (kinds.Refused fault) taken_is b.2 i differs
blamed_others old taken new at fault (Err faults.NoPeerLeft) taken_is b i differs = set_others old taken new at
    (kinds.Refused fault) taken_is b.1 i differs
blamed_others old taken new at fault (Err faults.OutOfMemory) taken_is b i differs =
    kept_others old taken new at taken_is (ap (λ (t : SwarmState). t.jobs.peers) b.1) i differs
blamed_others old taken new at fault (Err faults.NotFile) taken_is b i differs = absurd b
blamed_others old taken new at fault (Err (faults.BadRoot why)) taken_is b i differs = absurd b
blamed_others old taken new at fault (Err (faults.Limit kind number)) taken_is b i differs = absurd b
blamed_others old taken new at fault (Err faults.SinkFault) taken_is b i differs = absurd b

-- ---- of the call that was taken, which is the peer's

pub heard_as : (one other later : Call Client) (heard : List ℕ) (event : PeerEvent) (result found : Result Progress FetchFault) → one ≡ other
    → result ≡ found → CallHeard one later heard event result → CallHeard other later heard event found
heard_as one other later heard event result found same is h =
    subst (λ (t : Call Client). CallHeard t later heard event found) same
    (subst (λ (r : Result Progress FetchFault). CallHeard one later heard event r) is h)

pub its_call : (inside now : SwarmState) (at : ℕ) (one other : Call Client) → inside ≡ now → slice_get inside.jobs.peers at ≡ Some (kinds.Busy one)
    → slice_get now.jobs.peers at ≡ Some (kinds.Busy other) → one ≡ other
its_call inside now at one other same h g = same_call now.jobs.peers at one other (ap (λ (s : SwarmState). slice_get s.jobs.peers at)
    (sym same) ∙ h) g
