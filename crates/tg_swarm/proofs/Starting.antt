-- A swarm of which nothing is asked yet, and what is asked of it.
use Rattle.std.proofs.Common.{Bool, List, None, Option, Some, [], ap, arith, false, is_some, length, refl, subst, sym, ℕ, ◌<◌, ◌∙◌, ◌∷◌, ◌≡◌}
use Rattle.std.specs.List.{slice_get}
use Rattle.std.specs.Prelude.{slice_set}
use Rattle.tg_cid.specs.Cid.{CidParts}
use Rattle.tg_fetch.specs.Clients as clients
use Rattle.tg_fetch.specs.declared.client.Client.{Client}
use Rattle.tg_model.specs.LimitNumbers.{LimitNumbers}
use Rattle.tg_model.specs.Queries.{QueryParts}
use Rattle.tg_parts.specs.Connections.{AreAnswers, Connection}
use Rattle.tg_parts.specs.Connections as connected
use Rattle.tg_swarm.proofs.Keeping.{asked_too}
use Rattle.tg_swarm.specs.Jobs.{AreIdle, AreNone, IsAlmost, IsLowest, IsWaiting, JobsState}
use Rattle.tg_swarm.specs.Peers.{job_of, slice_with}
use Rattle.tg_swarm.specs.Swarms.{AnswersFor, AnswersJob, CallStands, HasAsked, IsPlanned, NothingAsked, StandsFor, SwarmState, asked_of, limits_of, query_of}
use Rattle.tg_swarm.specs.declared.fault.SwarmFault.{SwarmFault}
use Rattle.tg_swarm.specs.declared.peers.Call.{Call}
use Rattle.tg_swarm.specs.declared.peers.Peer.{Peer}
use Rattle.tg_swarm.specs.declared.peers.Peer.TheVariants as kinds
use Rattle.tg_swarm.specs.declared.swarm.Plan.{Plan}
use Rattle.tg_swarm.specs.declared.swarm.Plan.TheVariants as plans

pub first_none : (parts : List (Option (List ℕ))) → AreNone parts → 0 < length parts → slice_get parts 0 ≡ Some None
first_none [] nothing h = absurd (omega (arith, h))
first_none (part ∷ parts) nothing h =
    let e : part ≡ None = nothing 0 part refl in subst (λ (p : Option (List ℕ)). Some p ≡ Some None) (sym e) refl

idle_no_job : (peer : Peer Client) (job : ℕ) → peer ≡ kinds.Idle → job_of peer ≡ Some job → ⊥
idle_no_job kinds.Idle job a b = cc
idle_no_job (kinds.Busy call) job a b = cc
idle_no_job (kinds.Refused fault) job a b = cc

pub new_stands : (root : CidParts) (part : ℕ) (limits : LimitNumbers) (jobs : JobsState Client) → jobs.count ≡ 1 → jobs.written ≡ 0
    → AreNone jobs.parts → 0 < length jobs.parts → AreIdle jobs.peers
    → StandsFor (record { root = root; part = part; limits = limits; plan = plans.Root; jobs = jobs; ended = None }) [] []
new_stands root part limits jobs one zero_is nothing room idle = record {
  going = refl;
  planned = (one, nothing, λ done. absurd (omega (arith, done, zero_is)));
  jobs = record {
    almost = record {
      within = omega (arith, one, zero_is);
      fits = omega (arith, one);
      room = room;
      jobs = λ i job h. absurd (idle_no_job h.0 job (idle i h.0 h.1) h.2);
      one = λ i j job h g. absurd (idle_no_job h.0 job (idle i h.0 h.1) h.2);
      done = λ k text h. absurd (let e : Some text ≡ None = nothing k (Some text) h in cc);
    };
    first = first_none jobs.parts nothing room;
  };
  answers = subst (λ (n : ℕ). AreAnswers (AnswersFor root part plans.Root []) n []) (sym zero_is) connected.none;
}

-- ---- other peers

pub planned_same : (root : CidParts) (part : ℕ) (plan : Plan) (old new : JobsState Client) (connections : List Connection) (written : List ℕ)
    → new.count ≡ old.count → new.written ≡ old.written → new.parts ≡ old.parts → IsPlanned root part plan old connections written
    → IsPlanned root part plan new connections written
planned_same root part plans.Root old new connections written count done parts h =
    (count ∙ h.0, subst AreNone (sym parts) h.1, λ e. h.2 (sym done ∙ e))
planned_same root part (plans.Parts total) old new connections written count done parts h = (h.0, count ∙ h.1)

pub stands_peers : (s : SwarmState) (peers : List (Peer Client)) (connections : List Connection) (written : List ℕ)
    → StandsFor s connections written → IsAlmost (AnswersJob (asked_of s connections)) (record s.jobs { peers = peers })
    → StandsFor (record s { jobs = record s.jobs { peers = peers } }) connections written
stands_peers s peers connections written h almost = record {
  going = h.going;
  planned = planned_same s.root s.part s.plan s.jobs (record s.jobs { peers = peers }) connections written refl refl refl h.planned;
  jobs = record { almost = almost; first = h.jobs.first };
  answers = h.answers;
}

-- with another peer in a place
abbrev pub set_in : SwarmState → ℕ → Peer Client → SwarmState
set_in s at peer = record s { jobs = record s.jobs { peers = slice_with s.jobs.peers at peer } }

pub set_is : (inside now : SwarmState) (jobs : JobsState Client) (at : ℕ) (peer : Peer Client) → inside ≡ now
    → jobs ≡ record inside.jobs { peers = slice_with inside.jobs.peers at peer } → record inside { jobs = jobs } ≡ set_in now at peer
set_is inside now jobs at peer same is =
    ap (λ (j : JobsState Client). record inside { jobs = j }) is ∙ ap (λ (s : SwarmState). set_in s at peer) same

-- ---- a job is asked

pub stands_asked : (old new : SwarmState) (at : ℕ) (call : Call Client) → at < length old.jobs.peers → IsLowest old.jobs call.job
    → new ≡ record old { jobs = record old.jobs { peers = slice_with old.jobs.peers at (kinds.Busy call) } } → (connections : List Connection)
    (written : List ℕ) → StandsFor old connections written → StandsFor new connections written
stands_asked old new at call within lowest new_is connections written h =
    subst (λ (t : SwarmState). StandsFor t connections written) (sym new_is)
    (stands_peers old (slice_set old.jobs.peers at (kinds.Busy call)) connections written h
    (asked_too (AnswersJob (asked_of old connections)) old.jobs at within h.jobs.almost call (lowest.0).0 (lowest.0).1))

pub nothing_asked : (now : SwarmState) (at : ℕ) (jobs : JobsState Client) → jobs ≡ now.jobs → ((job : ℕ) → IsWaiting jobs job → ⊥)
    → NothingAsked now now at
nothing_asked now at jobs same none = record {
  same = refl;
  why = λ idle going. subst (λ (j : JobsState Client). (job : ℕ) → IsWaiting j job → ⊥) same none;
}

pub has_asked : (old new : SwarmState) (at : ℕ) (q : QueryParts) (call : Call Client) → q ≡ query_of old call.job → call.client.query ≡ q
    → call.client.limits ≡ limits_of old → clients.StandsFor call.client [] [] → call.text.content ≡ []
    → slice_get old.jobs.peers at ≡ Some kinds.Idle → old.ended ≡ None → IsLowest old.jobs call.job
    → new ≡ record old { jobs = record old.jobs { peers = slice_with old.jobs.peers at (kinds.Busy call) } } → HasAsked old new at q
has_asked old new at q call query_is query limits stands text idle going lowest new_is = record {
  call = call;
  query_is = query_is;
  stands = subst (λ (t : SwarmState). CallStands t call []) (sym new_is) (record {
    query = query ∙ query_is;
    limits = limits;
    stands = subst (λ (t : List ℕ). clients.StandsFor call.client [] t) (sym text) stands;
  });
  idle = idle;
  going = going;
  lowest = lowest;
  new_is = new_is;
}

no_some : (x : Option SwarmFault) → is_some x ≡ false → x ≡ None
no_some None h = refl
no_some (Some fault) h = absurd cc

pub not_ended : (x y : Option SwarmFault) (r : Bool) → r ≡ is_some x → r ≡ false → x ≡ y → y ≡ None
not_ended x y r h g same = sym same ∙ no_some x (sym h ∙ g)
