-- Why a swarm ends, and what was put by then.
use Rattle.std.proofs.Common.{Err, List, Ok, Some, [], ap, arith, inl, inr, length, refl, subst, suc, sym, zero, ℕ, ◌++◌, ◌<◌, ◌∙◌, ◌∷◌, ◌≡◌}
use Rattle.std.specs.List.{slice_get}
use Rattle.tg_cid.specs.Cid.{CidParts}
use Rattle.tg_fetch.specs.declared.client.Client.{Client}
use Rattle.tg_model.specs.Computed.{read}
use Rattle.tg_model.specs.LimitNumbers.{LimitNumbers}
use Rattle.tg_model.specs.Queries.{QueryParts}
use Rattle.tg_model.specs.declared.kinds.Kind.TheVariants.{Raw}
use Rattle.tg_dials.specs.Dials.{Dialling}
use Rattle.tg_parts.specs.Connections.{AreAnswers, Connection, IsRootBlock, IsRootOfFile}
use Rattle.tg_parts.specs.Connections as connected
use Rattle.tg_parts.specs.PartLaws.{TotalsStay}
use Rattle.tg_streams.specs.Joining.{SinkJoins, put_put_front, put_unput}
use Rattle.tg_streams.specs.Streams.{OutputQuiet, Put, SinkMeaning, Unput, into}
use Rattle.tg_swarming.proofs.Causes.{AreCounted}
use Rattle.tg_swarming.proofs.Refusals.{all_refused}
use Rattle.tg_swarming.specs.Rounds.{AllRefused, FrontPut, IsFor, OutStops, Over, RootStops, Setup, StopsSo}
use Rattle.tg_swarm.specs.Swarms.{AnswersJob, EndsBy, IsNotFile, IsPlanned, IsTold, NoneLeft, OutFailed, RootAccepted, StandsFor, SwarmState, asked_of}
use Rattle.tg_swarm.specs.declared.fault.SwarmFault.{SwarmFault}
use Rattle.tg_swarm.specs.declared.fault.SwarmFault.TheVariants as faults
use Rattle.tg_swarm.specs.declared.peers.Call.{Call}
use Rattle.tg_swarm.specs.declared.peers.Peer.TheVariants as kinds
use Rattle.tg_swarm.specs.declared.swarm.Plan.{Plan}
use Rattle.tg_swarm.specs.declared.swarm.Plan.TheVariants as plans

none_written : (answers : ℕ → List ℕ → Type 0) (n : ℕ) (written : List ℕ) → AreAnswers answers n written → n ≡ 0 → written ≡ []
none_written answers zero written connected.none e = refl
none_written answers (suc n) written (connected.more m before text first a) e = absurd (omega (arith, e))

-- ---- further connections

file_told : TotalsStay → (limits : LimitNumbers) (q : QueryParts) (heard : List ℕ) (before later : List Connection) (root : CidParts) (total : ℕ)
    → IsTold limits q heard before later → IsRootOfFile root before total → IsRootOfFile root later total
file_told totals limits q heard before later root total (inl same) h = subst (λ (cs : List Connection). IsRootOfFile root cs total) (sym same) h
file_told totals limits q heard before later root total (inr (sections, answered, is)) h =
    subst (λ (cs : List Connection). IsRootOfFile root cs total) (sym is)
    (totals before (record { query = q; heard = heard; sections = sections } ∷ []) root total h)

-- ---- an event ends it

module _ {S : Type 0} (sink : SinkMeaning S) (joins : SinkJoins S sink) (totals : TotalsStay) (setup : Setup) (start s t : S) (old new : SwarmState)
    (size : length new.jobs.peers ≡ length old.jobs.peers) (connections : List Connection) (written : List ℕ) (is_for : IsFor setup old) (stands : StandsFor old connections written)
    (put : Put written (into sink start s)) (quiet : OutputQuiet (into sink start s)) where
  pub front_put : Unput (into sink s t) → OutputQuiet (into sink s t) → FrontPut setup connections (into sink start t)
  front_put unput still = record {
    s = old;
    is_for = is_for;
    written = written;
    stands = stands;
    put = put_unput S sink start s t written joins put unput;
    quiet = still ∙ quiet;
  }

  -- no peer is left
  pub none_left : (dial : Dialling) (overs : List Over) (missed : ℕ) → NoneLeft new (into sink s t) → AreCounted setup dial overs missed new.jobs.peers
      → AllRefused setup new dial (into sink start t) connections overs missed
  none_left dial overs missed none counted = record {
    front = front_put none.unput none.quiet;
    refused = none.refused;
    peers = size ∙ is_for.peers;
    caused = counted.0;
    few =
        let all = all_refused new.jobs.peers none.refused in
        let number = is_for.peers in
        let most = counted.1 in
        omega (arith, size, all, number, most);
  }

  module _ (heard : List ℕ) (call : Call Client) (peer : ℕ) (busy : slice_get old.jobs.peers peer ≡ Some (kinds.Busy call)) where
    -- nothing was written before the root's block was accepted
    none_yet : old.plan ≡ plans.Root → written ≡ []
    none_yet plan =
        let planned = subst (λ (p : Plan). IsPlanned old.root old.part p old.jobs connections written) plan stands.planned in
        let has = stands.jobs.almost.jobs peer call.job (kinds.Busy call, busy, refl) in
        let one = planned.0 in
        let at = has.is_at in
        let within = has.within in
        none_written (AnswersJob (asked_of old connections)) old.jobs.written written stands.answers (omega (arith, one, at, within))

    root_stops : (says : CidParts → List Connection → List ℕ → Type 0) (r : RootAccepted old connections call heard (says old.root) (into sink s t))
        → RootStops setup r.later (says setup.root r.later) (into sink start t)
    root_stops says r = record {
      block = r.block;
      block_is = subst (λ (root : CidParts). IsRootBlock root r.later r.block) is_for.root r.block_is;
      says_so = subst (λ (root : CidParts). says root r.later r.block) is_for.root r.says_so;
      put = subst (λ (l : List ℕ). Put l (into sink start t)) (none_yet r.plan) (put_unput S sink start s t written joins put r.unput);
      quiet = r.quiet ∙ quiet;
    }

    out_stops : new.jobs.count ≡ old.jobs.count → (f : OutFailed old new connections written call heard (into sink s t)) → OutStops setup f.later (into sink start t)
    out_stops count f = record {
      a = asked_of old f.later;
      root = is_for.root;
      part = is_for.part;
      connections_are = refl;
      job = f.failed.job;
      text = written ++ f.failed.text;
      answers = f.failed.answers;
      raw = λ plan.
          let planned = subst (λ (p : Plan). IsPlanned old.root old.part p old.jobs connections written) plan stands.planned in
          let one = planned.0 in
          let within = f.failed.within in (
            omega (arith, one, within, count),
            subst (λ (l : List ℕ). read old.root (l ++ f.failed.text) ≡ Ok Raw) (sym (none_yet plan)) (f.raw plan),
          );
      file = λ total plan.
          let planned = subst (λ (p : Plan). IsPlanned old.root old.part p old.jobs connections written) plan stands.planned in
          file_told totals call.client.limits call.client.query heard connections f.later old.root total f.told planned.0;
      front = put_put_front S sink start s t written f.failed.text joins put quiet f.failed.front;
    }

    -- what came by then, and why it ends: where no peer is left it is told why each was refused
    pub record StopsLater (dial : Dialling) (fault : SwarmFault) : Type 0 where
      pub later : List Connection
      pub told : IsTold call.client.limits call.client.query heard connections later
      pub so : (overs : List Over) (missed : ℕ) → (fault ≡ faults.NoPeerLeft → AreCounted setup dial overs missed new.jobs.peers)
          → StopsSo setup new dial (into sink start t) fault later overs missed

    pub stops : new.jobs.count ≡ old.jobs.count → (dial : Dialling) (fault : SwarmFault) → EndsBy old new connections written call heard (into sink s t) fault
        → StopsLater dial fault
    stops count dial faults.NoPeerLeft e =
        record { later = connections; told = inl refl; so = λ overs missed counted. none_left dial overs missed e (counted refl) }
    stops count dial faults.NotFile e =
        record { later = e.later; told = e.told; so = λ overs missed counted. root_stops (λ root later block. IsNotFile root later block) e }
    stops count dial (faults.BadRoot fault) e =
        record { later = e.later; told = e.told; so = λ overs missed counted. root_stops (λ root later block. read root block ≡ Err fault) e }
    stops count dial (faults.Limit kind number) (kind_is, number_is, e) =
        record {
          later = e.later;
          told = e.told;
          so = λ overs missed counted. (
            kind_is,
            number_is ∙ ap (λ (l : LimitNumbers). l.output) is_for.limits,
            root_stops (λ root later block. (total : ℕ) × IsRootOfFile root later total × (number < total)) e,
          );
        }
    stops count dial faults.SinkFault e = record { later = e.later; told = e.told; so = λ overs missed counted. out_stops count e }
    stops count dial faults.OutOfMemory e = record { later = connections; told = inl refl; so = λ overs missed counted. front_put e.0 e.1 }
