-- How a swarm begins to run over a dial, and what is said of it in the end.
use Rattle.std.proofs.Common.{Err, List, None, Ok, Option, Result, Some, [], ap, arith, length, refl, replicate, subst, suc, zero, ℕ, ◌++◌, ◌∙◌, ◌∷◌, ◌≡◌}
use Rattle.std.proofs.lemmas.List.{length-replicate}
use Rattle.std.proofs.lemmas.List.Elements.{All-append, All-nil, Contains-append_left}
use Rattle.std.specs.List.{slice_get}
use Rattle.std.specs.Prelude.{⊤}
use Rattle.tg_dials.specs.Dials.{Dialling, at_dial}
use Rattle.tg_parts.specs.Connections.{Connection}
use Rattle.tg_streams.specs.Joining.{put_nothing}
use Rattle.tg_streams.specs.Streams.{Output, into}
use Rattle.tg_swarming.proofs.Causes.{caused_stay}
use Rattle.tg_swarming.proofs.Listening.{ends_wanting}
use Rattle.tg_swarming.proofs.Telling.{DialledStay, all_heard, overs_on, spoilt_least, tells_first}
use Rattle.tg_swarm.specs.Jobs.{AreIdle}
use Rattle.tg_swarm.specs.Peers.{refusals_of}
use Rattle.tg_swarming.specs.Rounds.{AreLeft, DialTells, Ended, EndsSo, HasHungUp, IsNewSwarm, IsOver, Meanings, Over, RunOver, Runs, Setup, StopsSo, SwarmEnds, WasHeardOn, WholePut, moment_of, setup_of}
use Rattle.tg_swarm.specs.Swarms.{SwarmState}
use Rattle.tg_swarm.specs.declared.fault.SwarmFault.{SwarmFault}
use Rattle.tg_swarm.specs.declared.fault.SwarmFault.TheVariants as faults
use Rattle.tg_swarm.specs.declared.peers.Peer.{Peer}
use Rattle.tg_swarm.specs.declared.peers.Peer.TheVariants as kinds

no_link_in : {L : Type 0} (n peer : ℕ) (link : L) → slice_get (replicate n None) peer ≡ Some (Some link) → ⊥
no_link_in zero peer link is = cc is
no_link_in (suc n) zero link is = cc is
no_link_in (suc n) (suc peer) link is = no_link_in n peer link is

idle_one : {C : Type 0} (peer : Peer C) (peers : List (Peer C)) → peer ≡ kinds.Idle → refusals_of (peer ∷ peers) ≡ refusals_of peers
idle_one kinds.Idle peers is = refl
idle_one (kinds.Busy call) peers is = absurd (cc is)
idle_one (kinds.Refused fault) peers is = absurd (cc is)

none_refused : {C : Type 0} (peers : List (Peer C)) → AreIdle peers → refusals_of peers ≡ []
none_refused [] idle = refl
none_refused (peer ∷ peers) idle = idle_one peer peers (idle 0 peer refl) ∙ none_refused peers (λ i other is. idle (suc i) other is)

-- a new swarm
module _ {D L S : Type 0} (m : Meanings D L S) (swarm : SwarmState) (addrs : List (List ℕ)) (is_new : IsNewSwarm swarm addrs) (a : D) (s : S)
    (rests : m.sink.wrote s s []) where
  pub begins : (links : List (Option L)) → links ≡ replicate (length addrs) None → Runs m (setup_of swarm addrs) a s (moment_of swarm links a s)
  begins links none = record {
    run = record {
      connections = [];
      written = [];
      overs = [];
      missed = 0;
      is_for = record { root = refl; part = refl; limits = refl; peers = is_new.peers };
      stands = is_new.stands;
      put = put_nothing S m.sink s rests;
      quiet = refl;
      tells = tells_first m.dial a;
      overs_are = All-nil (IsOver (setup_of swarm addrs) (m.dial.dialled a a));
      heard = All-nil (WasHeardOn []);
      caused = λ peer fault is. let idle = is_new.idle peer (kinds.Refused fault) is in absurd (cc idle);
      refused = let is = ap length (none_refused swarm.jobs.peers is_new.idle) in omega (arith, is);
    };
    lines = λ peer link is. absurd (no_link_in (length addrs) peer link (subst (λ (ls : List (Option L)). slice_get ls peer ≡ Some (Some link)) none is));
    number = ap length none ∙ length-replicate (length addrs) None;
  }

  -- no memory was found for its links
  pub ends_unbegun : SwarmEnds (setup_of swarm addrs) swarm (at_dial m.dial a a) (into m.sink s s) (Err faults.OutOfMemory)
  ends_unbegun =
      let links : List (Option L) = replicate (length addrs) None in (ends_wanting m (setup_of swarm addrs) a s swarm links a s (begins links refl)).over

-- ---- the end

stops_more : (setup : Setup) (now : SwarmState) (a b : Dialling) (on : (addr : List ℕ) → a.dialled addr → b.dialled addr) (out : Output) (fault : SwarmFault)
    (connections : List Connection) (overs more : List Over) (missed : ℕ) → StopsSo setup now a out fault connections overs missed
    → StopsSo setup now b out fault connections (overs ++ more) missed
stops_more setup now a b on out faults.NoPeerLeft connections overs more missed h = record {
  front = h.front;
  refused = h.refused;
  peers = h.peers;
  caused = caused_stay setup a b on overs (overs ++ more) missed missed (Contains-append_left overs more) (omega arith) now.jobs.peers h.caused;
  few = let least = spoilt_least overs more in let number = h.few in omega (arith, number, least);
}
stops_more setup now a b on out faults.NotFile connections overs more missed h = h
stops_more setup now a b on out (faults.BadRoot fault) connections overs more missed h = h
stops_more setup now a b on out (faults.Limit kind number) connections overs more missed h = h
stops_more setup now a b on out faults.SinkFault connections overs more missed h = h
stops_more setup now a b on out faults.OutOfMemory connections overs more missed h = h

whole_more : (setup : Setup) (now : SwarmState) (a b : Dialling) (on : (addr : List ℕ) → a.dialled addr → b.dialled addr) (out : Output)
    (connections : List Connection) (overs more : List Over) (missed : ℕ) → WholePut setup now a out connections overs missed
    → WholePut setup now b out connections (overs ++ more) missed
whole_more setup now a b on out connections overs more missed h = record {
  is_for = h.is_for;
  written = h.written;
  stands = h.stands;
  all = h.all;
  put = h.put;
  quiet = h.quiet;
  caused = caused_stay setup a b on overs (overs ++ more) missed missed (Contains-append_left overs more) (omega arith) now.jobs.peers h.caused;
}

module _ {D L S : Type 0} (m : Meanings D L S) (setup : Setup) (first b c : D) (start t : S) (now : SwarmState) (links : List (Option L))
    (back : (setup : Setup) (first : D) (overs : List Over) (missed : ℕ) → AreLeft m.link m.source setup (m.dial.dialled first b) links
    → DialTells (at_dial m.dial first b) overs missed → HasHungUp setup (at_dial m.dial first c) overs missed) (stay : DialledStay m.dial b c) where
  over_more : (ends : Dialling → List Connection → List Over → ℕ → Type 0)
      → ((connections : List Connection) (overs more : List Over) (missed : ℕ) → ends (at_dial m.dial first b) connections overs missed
      → ends (at_dial m.dial first c) connections (overs ++ more) missed)
      → Ended m setup first (moment_of now links b t) ends → RunOver setup (at_dial m.dial first c) (ends (at_dial m.dial first c))
  over_more ends more h =
      let hung = back setup first h.over.overs h.over.missed h.left h.over.tells in
      record {
        connections = h.over.connections;
        overs = h.over.overs ++ hung.more;
        missed = h.over.missed;
        tells = hung.tells;
        overs_are = All-append (IsOver setup (m.dial.dialled first c)) h.over.overs hung.more
            (overs_on setup (m.dial.dialled first b) (m.dial.dialled first c) (stay first) h.over.overs h.over.overs_are) hung.overs_are;
        heard = all_heard h.over.overs hung.more h.over.connections h.over.heard;
        ends_so = more h.over.connections h.over.overs hung.more h.over.missed h.over.ends_so;
      }

  pub ends_over : (which : Setup → Type 0) (swarm : SwarmState) (none : List (Option L)) (result : Result ⊤ SwarmFault) → which setup
      → Runs m setup first start (moment_of swarm none first start)
      → EndsSo m which (moment_of swarm none first start) (moment_of now links b t) result
      → SwarmEnds setup now (at_dial m.dial first c) (into m.sink start t) result
  ends_over which swarm none (Ok done) is runs ends =
      over_more (λ dial. WholePut setup now dial (into m.sink start t))
      (whole_more setup now (at_dial m.dial first b) (at_dial m.dial first c) (stay first) (into m.sink start t)) (ends setup first start is runs)
  ends_over which swarm none (Err fault) is runs ends =
      over_more (λ dial. StopsSo setup now dial (into m.sink start t) fault)
      (stops_more setup now (at_dial m.dial first b) (at_dial m.dial first c) (stay first) (into m.sink start t) fault) (ends setup first start is runs)
