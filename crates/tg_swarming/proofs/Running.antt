-- A swarm that runs over a dial, from one moment to the next.
use Rattle.std.proofs.Common.{All, Bool, Contains, Err, IfSome, List, None, Ok, Option, Result, Some, [], ap, append_assoc, arith, false, inl, inr, length, length-set, refl, slice_set, subst, suc, sym, take, take_all, true, ℕ, ◌++◌, ◌<◌, ◌∙◌, ◌∷◌, ◌≡◌, ◌≢◌, ◌≤◌}
use Rattle.std.proofs.lemmas.Bool.{cases_eq}
use Rattle.std.proofs.lemmas.List.Elements.{All-push, Contains-append_left, Contains-push}
use Rattle.std.proofs.lemmas.Option.{get_or_from_slice_get, slice_get_within}
use Rattle.std.specs.List.{slice_get}
use Rattle.std.specs.Prelude.{MatchResult, OnErr, OnOk}
use Rattle.tg_dials.specs.Dials.{DialMeaning, DialQuiet, DialRose, Dialling, IsHungUp, KeepsCalls, KeepsMissed, at_dial}
use Rattle.tg_faults.specs.Faults.{counted}
use Rattle.tg_fetch.specs.declared.client.Client.{Client}
use Rattle.tg_fetch.specs.declared.fault.FetchFault.{FetchFault}
use Rattle.tg_fetch.specs.declared.fault.FetchFault.TheVariants.{PeerFault}
use Rattle.tg_links.specs.Links.{LinkMeaning}
use Rattle.tg_links.specs.Views.{LinkView, is_failed, view_of}
use Rattle.tg_model.specs.Queries.{QueryParts}
use Rattle.tg_parts.specs.Connections.{Connection}
use Rattle.tg_parts.specs.PartLaws.{TotalsStay}
use Rattle.tg_parts.specs.Parts.{part_count}
use Rattle.tg_query.specs.Requests.{request_text}
use Rattle.tg_streams.specs.Joining.{SinkJoins, put_put, put_unput}
use Rattle.tg_streams.specs.Streams.{Output, SinkMeaning, SourceMeaning, into}
use Rattle.tg_swarming.proofs.Causes.{AreCounted, caused_stay, counted_more, counted_same}
use Rattle.tg_swarming.proofs.Lists.{get_set_other, get_set_same}
use Rattle.tg_swarming.proofs.Stopping.{none_left, stops}
use Rattle.tg_swarming.proofs.Telling.{DialledStay, all_heard, overs_on, spoilt_more, tells_back, tells_made, tells_missed}
use Rattle.tg_swarm.specs.Jobs.{IsProgress, OthersStay}
use Rattle.tg_swarming.specs.Rounds.{AreLeft, AreLines, HasHeard, HasRun, HasSaid, HasSaidFront, IsAskedFor, IsFor, IsJobOf, IsLine, IsOver, IsSpoilt, IsWhole, Over, RunOver, Setup, StopsSo, WasHeardOn}
use Rattle.tg_swarm.specs.Swarms.{AfterEvent, CallStands, EventEnds, HasAsked, IsAsBefore, IsBlamed, IsPeersOwn, IsPlanned, IsRefusedReply, IsTold, PeerAfter, SettingsStay, StandsFor, SwarmState, TellsSome, bytes_of, left_to_do, limits_for, query_for}
use Rattle.tg_swarm.specs.declared.fault.SwarmFault.{SwarmFault}
use Rattle.tg_swarm.specs.declared.fault.SwarmFault.TheVariants as faults
use Rattle.tg_swarm.specs.declared.peers.Call.{Call}
use Rattle.tg_swarm.specs.declared.peers.Peer.TheVariants as kinds
use Rattle.tg_swarm.specs.declared.swarm.PeerEvent.{PeerEvent}
use Rattle.tg_swarm.specs.declared.swarm.PeerEvent.TheVariants as events
use Rattle.tg_swarm.specs.declared.swarm.Plan.{Plan}
use Rattle.tg_swarm.specs.declared.swarm.Plan.TheVariants as plans
use Rattle.tg_verify.specs.declared.verifier.Progress.{Progress}
use Rattle.tg_verify.specs.declared.verifier.Progress.TheVariants as progresses

-- ---- places

pub among_at : {X : Type 0} (xs : List X) (k : ℕ) (x : X) → slice_get xs k ≡ Some x → Contains xs x
among_at xs k x is = (k, slice_get_within xs k x is, get_or_from_slice_get xs k x x is)

pub for_stays : (setup : Setup) (old new : SwarmState) → SettingsStay old new → IsFor setup old → IsFor setup new
for_stays setup old new stay h = record {
  root = stay.root ∙ h.root;
  part = stay.part ∙ h.part;
  limits = stay.limits ∙ h.limits;
  peers = stay.peers ∙ h.peers;
}

pub call_stays : (old new : SwarmState) (call : Call Client) (heard : List ℕ) → new.root ≡ old.root → new.part ≡ old.part → new.limits ≡ old.limits
    → new.plan ≡ old.plan → CallStands old call heard → CallStands new call heard
call_stays old new call heard root part limits plan h = record {
  query = h.query ∙ sym (ap (λ r. query_for r new.part new.plan call.job) root ∙ ap (λ p. query_for old.root p new.plan call.job) part
      ∙ ap (λ p. query_for old.root old.part p call.job) plan);
  limits = h.limits ∙ sym (ap (λ l. limits_for l new.plan) limits ∙ ap (λ p. limits_for old.limits p) plan);
  stands = h.stands;
}

-- the line of a peer that was dialled, at a later moment
pub line_on : (setup : Setup) (before after : List ℕ → Type 0) → ((addr : List ℕ) → before addr → after addr) → (s : SwarmState) (peer : ℕ) (link : LinkView)
    → IsLine setup before s peer link → IsLine setup after s peer link
line_on setup before after on s peer link line = record {
  call = line.call;
  busy = line.busy;
  heard = line.heard;
  stands = line.stands;
  heard_is = line.heard_is;
  addr = line.addr;
  addr_is = line.addr_is;
  dialled = on line.addr line.dialled;
  said = line.said;
  whole = line.whole;
}

-- what is asked of a busy peer
pub asked_for : (setup : Setup) (s : SwarmState) (connections : List Connection) (written : List ℕ) → IsFor setup s → StandsFor s connections written → (peer : ℕ)
    (call : Call Client) (heard : List ℕ) → slice_get s.jobs.peers peer ≡ Some (kinds.Busy call) → CallStands s call heard
    → IsAskedFor setup call.client.query call.client.limits
asked_for setup s connections written is_for stands peer call heard busy standing = record {
  plan = s.plan;
  job = call.job;
  within = by s.plan refl;
  query_is = standing.query ∙ ap (λ r. query_for r s.part s.plan call.job) is_for.root ∙ ap (λ p. query_for setup.root p s.plan call.job) is_for.part;
  limits_are = standing.limits ∙ ap (λ l. limits_for l s.plan) is_for.limits;
}
  where
    by : (p : Plan) → s.plan ≡ p → IsJobOf setup.part p call.job
    by plans.Root is =
        let planned = subst (λ (p : Plan). IsPlanned s.root s.part p s.jobs connections written) is stands.planned in
        let count = planned.0 in
        let within = (stands.jobs.almost.jobs peer call.job (kinds.Busy call, busy, refl)).within in
        omega (arith, count, within)
    by (plans.Parts total) is =
        let planned = subst (λ (p : Plan). IsPlanned s.root s.part p s.jobs connections written) is stands.planned in
        subst (λ (n : ℕ). call.job < part_count n total) is_for.part
        (subst (λ (n : ℕ). call.job < n) planned.1 (stands.jobs.almost.jobs peer call.job (kinds.Busy call, busy, refl)).within)

none_behind : (front more : List ℕ) → front ++ more ≡ [] → more ≡ []
none_behind [] more is = is
none_behind (byte ∷ front) more is = absurd (cc is)

-- what was said is a front of it
pub said_front : (said : Option (List ℕ)) (text : List ℕ) → IfSome said (λ told. told ≡ text) → IfSome said (λ told. (count : ℕ) × (told ≡ take count text))
said_front (Some told) text is = (length text, is ∙ sym (take_all (length text) text (omega arith)))
said_front None text is = tt

-- ---- what an event says of a swarm, whatever was accepted and written

pub record EventSays {S : Type 0} (sink : SinkMeaning S) (s t : S) (old new : SwarmState) (peer : ℕ) (event : PeerEvent) (result : Result Progress SwarmFault) : Type 0 where
  pub ends : (connections : List Connection) (written heard : List ℕ) (call : Call Client) → StandsFor old connections written
      → slice_get old.jobs.peers peer ≡ Some (kinds.Busy call) → CallStands old call heard
      → EventEnds old new connections written call (heard ++ bytes_of event) (into sink s t) result
  pub after : (connections : List Connection) (written heard : List ℕ) (call : Call Client) → StandsFor old connections written
      → slice_get old.jobs.peers peer ≡ Some (kinds.Busy call) → CallStands old call heard → AfterEvent old new peer call heard event result
  pub unfinished : (connections : List Connection) (written : List ℕ) → StandsFor old connections written
      → (slice_get new.jobs.peers peer ≡ Some kinds.Idle → ⊥) → OnOk result (IsAsBefore old new connections written (into sink s t))
  pub others : OthersStay old.jobs.peers new.jobs.peers peer
  pub settings : SettingsStay old new
  pub count : OnErr result (new.jobs.count ≡ old.jobs.count)
  pub plan : (total : ℕ) → old.plan ≡ plans.Parts total → new.plan ≡ plans.Parts total
  pub failed : event ≡ events.Failed → old.ended ≡ None
      → MatchResult result (λ _. slice_get new.jobs.peers peer ≡ Some (kinds.Refused PeerFault)) (λ fault. fault ≡ faults.NoPeerLeft)
  pub shorter : (connections : List Connection) (written heard : List ℕ) (call : Call Client) → StandsFor old connections written
      → slice_get old.jobs.peers peer ≡ Some (kinds.Busy call) → CallStands old call heard → TellsSome event
      → OnOk result (left_to_do new < left_to_do old)

-- ---- the lines of the other peers

module _ {S : Type 0} (sink : SinkMeaning S) (s t : S) (old new : SwarmState) (peer : ℕ) (event : PeerEvent) (result : Result Progress SwarmFault)
    (says : EventSays sink s t old new peer event result) (setup : Setup) (connections : List Connection) (written : List ℕ)
    (stands : StandsFor old connections written) (call : Call Client) (busy : slice_get old.jobs.peers peer ≡ Some (kinds.Busy call)) where
  -- where another peer is busy there are parts
  same_plan : (p : Plan) → old.plan ≡ p → (other : ℕ) → other ≢ peer → (one : Call Client) → slice_get old.jobs.peers other ≡ Some (kinds.Busy one)
      → new.plan ≡ old.plan
  same_plan plans.Root is other ne one there =
      let planned = subst (λ (p : Plan). IsPlanned old.root old.part p old.jobs connections written) is stands.planned in
      let count = planned.0 in
      let mine = stands.jobs.almost.jobs peer call.job (kinds.Busy call, busy, refl) in
      let its = stands.jobs.almost.jobs other one.job (kinds.Busy one, there, refl) in
      let in_mine = mine.within in
      let in_its = its.within in
      let same : one.job ≡ call.job = omega (arith, count, in_mine, in_its) in
      absurd (ne (stands.jobs.almost.one other peer one.job (kinds.Busy one, there, refl) (kinds.Busy call, busy, ap Some (sym same))))
  same_plan (plans.Parts total) is other ne one there = says.plan total is ∙ sym is

  pub other_line : (before after : List ℕ → Type 0) → ((addr : List ℕ) → before addr → after addr) → (other : ℕ) → other ≢ peer → (link : LinkView)
      → IsLine setup before old other link → IsLine setup after new other link
  other_line before after on other ne link line = record {
    call = line.call;
    busy = says.others other ne ∙ line.busy;
    heard = line.heard;
    stands = call_stays old new line.call line.heard says.settings.root says.settings.part says.settings.limits
        (same_plan old.plan refl other ne line.call line.busy) line.stands;
    heard_is = line.heard_is;
    addr = line.addr;
    addr_is = line.addr_is;
    dialled = on line.addr line.dialled;
    said = line.said;
    whole = line.whole;
  }

module _ {L : Type 0} (m : LinkMeaning L) (source : SourceMeaning L) (setup : Setup) where
  -- the lines, where the others go on and this one is told of
  pub lines_with : (before after : List ℕ → Type 0) (old new : SwarmState) (links : List (Option L)) (peer : ℕ) (x : Option L) → peer < length links
      → ((other : ℕ) → other ≢ peer → (link : L) → IsLine setup before old other (view_of m source link) → IsLine setup after new other (view_of m source link))
      → ((link : L) → x ≡ Some link → IsLine setup after new peer (view_of m source link))
      → AreLines m source setup before old links → AreLines m source setup after new (slice_set links peer x)
  lines_with before after old new links peer x lt others mine lines other link is = elim (cases_eq other peer) [
    | inl e ↦
        let here = subst (λ (n : ℕ). slice_get (slice_set links peer x) n ≡ Some (Some link)) e is in
        let there = get_set_same links peer x lt in
        let same : x ≡ Some link = let both : Some x ≡ Some (Some link) = sym there ∙ here in cc in
        subst (λ (n : ℕ). IsLine setup after new n (view_of m source link)) (sym e) (mine link same)
    | inr ne ↦ others other ne link (lines other link (sym (get_set_other links peer other x ne) ∙ is))
  ]

  -- the lines where the swarm ended
  pub lines_left : (s : SwarmState) (dial : Dialling) (out : Output) → HasRun setup s dial out → (links : List (Option L))
      → AreLines m source setup dial.dialled s links → AreLeft m source setup dial.dialled links
  lines_left s dial out run links lines peer link is =
      let line = lines peer link is in (
        line.call.client.query,
        line.call.client.limits,
        line.addr,
        record {
          peer = among_at setup.addrs peer line.addr line.addr_is;
          dialled = line.dialled;
          asked = asked_for setup s run.connections run.written run.is_for run.stands peer line.call line.heard line.busy line.stands;
          said = said_front (m.said link) (request_text line.call.client.query line.addr) line.said;
          whole = λ _. line.said;
          why = λ fault no. absurd (cc no);
        },
      )

-- ---- a job is asked of a peer

module _ (old new : SwarmState) (peer : ℕ) (q : QueryParts) (asked : HasAsked old new peer q) (within : peer < length old.jobs.peers) where
  -- with this call
  pub asked_busy : slice_get new.jobs.peers peer ≡ Some (kinds.Busy asked.call)
  asked_busy = subst (λ (t : SwarmState). slice_get t.jobs.peers peer ≡ Some (kinds.Busy asked.call)) (sym asked.new_is)
      (get_set_same old.jobs.peers peer (kinds.Busy asked.call) within)

  pub asked_others : OthersStay old.jobs.peers new.jobs.peers peer
  asked_others i ne = subst (λ (t : SwarmState). slice_get t.jobs.peers i ≡ slice_get old.jobs.peers i) (sym asked.new_is)
      (get_set_other old.jobs.peers peer i (kinds.Busy asked.call) ne)

  asked_length : length new.jobs.peers ≡ length old.jobs.peers
  asked_length = subst (λ (t : SwarmState). length t.jobs.peers ≡ length old.jobs.peers) (sym asked.new_is) (length-set old.jobs.peers peer (kinds.Busy asked.call))

  asked_line : (setup : Setup) (dialled : List ℕ → Type 0) (other : ℕ) (link : LinkView) → IsLine setup dialled old other link → IsLine setup dialled new other link
  asked_line setup dialled other link line =
      let ne = λ (e : other ≡ peer).
      let here = sym line.busy ∙ ap (slice_get old.jobs.peers) e ∙ asked.idle in let no : ⊥ = cc in no in
      record {
        call = line.call;
        busy = asked_others other ne ∙ line.busy;
        heard = line.heard;
        stands = call_stays old new line.call line.heard (ap (λ (t : SwarmState). t.root) asked.new_is) (ap (λ (t : SwarmState). t.part) asked.new_is)
            (ap (λ (t : SwarmState). t.limits) asked.new_is) (ap (λ (t : SwarmState). t.plan) asked.new_is) line.stands;
        heard_is = line.heard_is;
        addr = line.addr;
        addr_is = line.addr_is;
        dialled = line.dialled;
        said = line.said;
        whole = line.whole;
      }

  pub asked_lines : {L : Type 0} (m : LinkMeaning L) (source : SourceMeaning L) (setup : Setup) (dialled : List ℕ → Type 0) (links : List (Option L))
      → AreLines m source setup dialled old links → AreLines m source setup dialled new links
  asked_lines m source setup dialled links lines other link is = asked_line setup dialled other (view_of m source link) (lines other link is)

  pub asked_run : {D S : Type 0} (d : DialMeaning D) (sink : SinkMeaning S) (setup : Setup) (first b : D) (start s : S)
      → ((connections : List Connection) (written : List ℕ) → StandsFor old connections written → StandsFor new connections written)
      → HasRun setup old (at_dial d first b) (into sink start s) → HasRun setup new (at_dial d first b) (into sink start s)
  asked_run d sink setup first b start s stands run =
      let counted = counted_same setup (at_dial d first b) (at_dial d first b) (λ addr is. is) run.overs run.overs run.missed run.missed (λ o among. among) (omega arith)
      old.jobs.peers new.jobs.peers peer asked_length asked_others (run.caused, run.refused) (omega arith)
      (λ fault is. let here = sym asked_busy ∙ is in let no : ⊥ = cc in no) in
      record {
        connections = run.connections;
        written = run.written;
        overs = run.overs;
        missed = run.missed;
        is_for = record {
          root = ap (λ (t : SwarmState). t.root) asked.new_is ∙ run.is_for.root;
          part = ap (λ (t : SwarmState). t.part) asked.new_is ∙ run.is_for.part;
          limits = ap (λ (t : SwarmState). t.limits) asked.new_is ∙ run.is_for.limits;
          peers = asked_length ∙ run.is_for.peers;
        };
        stands = stands run.connections run.written run.stands;
        put = run.put;
        quiet = run.quiet;
        tells = run.tells;
        overs_are = run.overs_are;
        heard = run.heard;
        caused = counted.0;
        refused = counted.1;
      }

-- ---- a link was made

pub made_run : {D S : Type 0} (d : DialMeaning D) (sink : SinkMeaning S) (setup : Setup) (first b c : D) (start s : S) (now : SwarmState)
    → KeepsMissed (at_dial d b c) → DialQuiet (at_dial d b c) → KeepsCalls (at_dial d b c) → DialledStay d b c
    → HasRun setup now (at_dial d first b) (into sink start s) → HasRun setup now (at_dial d first c) (into sink start s)
made_run d sink setup first b c start s now keeps quiet calls stay run = record {
  connections = run.connections;
  written = run.written;
  overs = run.overs;
  missed = run.missed;
  is_for = run.is_for;
  stands = run.stands;
  put = run.put;
  quiet = run.quiet;
  tells = tells_made d first b c run.overs run.missed run.tells keeps quiet calls;
  overs_are = overs_on setup (d.dialled first b) (d.dialled first c) (stay first) run.overs run.overs_are;
  heard = run.heard;
  caused = caused_stay setup (at_dial d first b) (at_dial d first c) (stay first) run.overs run.overs run.missed run.missed (λ o among. among) (omega arith)
      now.jobs.peers run.caused;
  refused = run.refused;
}

-- ---- an event of a link

-- what a run is behind an event
abbrev pub RunsOrEnds : {D S : Type 0} → DialMeaning D → SinkMeaning S → Setup → D → S → SwarmState → D → S → Result Progress SwarmFault → Type 0
RunsOrEnds d sink setup first start new c t (Ok progress) = HasRun setup new (at_dial d first c) (into sink start t) × (progress ≡ progresses.Done → IsWhole new)
RunsOrEnds d sink setup first start new c t (Err fault) = RunOver setup (at_dial d first c) (StopsSo setup new (at_dial d first c) (into sink start t) fault)

pub whole_by : (new : SwarmState) (progress : Progress) → IsProgress new.jobs progress → progress ≡ progresses.Done → IsWhole new
whole_by new progresses.More h e = absurd (cc e)
whole_by new progresses.Done h e = h

module _ {D S : Type 0} (d : DialMeaning D) (sink : SinkMeaning S) (joins : SinkJoins S sink) (totals : TotalsStay) (setup : Setup) (first b c : D) (start s t : S)
    (old new : SwarmState) (peer : ℕ) (event : PeerEvent) (run : HasRun setup old (at_dial d first b) (into sink start s)) (call : Call Client)
    (busy : slice_get old.jobs.peers peer ≡ Some (kinds.Busy call)) (heard : List ℕ) (stands : CallStands old call heard) where
  -- its peer is busy still
  pub still_runs : (progress : Progress) → EventSays sink s t old new peer event (Ok progress) → (later : Call Client)
      → slice_get new.jobs.peers peer ≡ Some (kinds.Busy later) → HasRun setup new (at_dial d first b) (into sink start t)
  still_runs progress says later is =
      let before = says.unfinished run.connections run.written run.stands (λ idle. let here = sym is ∙ idle in let no : ⊥ = cc in no) in
      let counted = counted_same setup (at_dial d first b) (at_dial d first b) (λ addr is. is) run.overs run.overs run.missed run.missed (λ o among. among) (omega arith)
      old.jobs.peers new.jobs.peers peer says.settings.peers says.others (run.caused, run.refused) (omega arith)
      (λ fault no. let here = sym is ∙ no in let never : ⊥ = cc in never) in
      record {
        connections = run.connections;
        written = run.written;
        overs = run.overs;
        missed = run.missed;
        is_for = for_stays setup old new says.settings run.is_for;
        stands = before.stands;
        put = put_unput S sink start s t run.written joins run.put before.unput;
        quiet = before.quiet ∙ run.quiet;
        tells = run.tells;
        overs_are = run.overs_are;
        heard = run.heard;
        caused = counted.0;
        refused = counted.1;
      }

  module _ (addr : List ℕ) (at : slice_get setup.addrs peer ≡ Some addr) where
    -- the dial was missed
    module _ (one : d.missed c ≡ counted (d.missed b)) (rose : DialRose (at_dial d b c)) (calls : KeepsCalls (at_dial d b c)) (le : d.faults b ≤ d.faults c)
        (dialled : d.dialled first c addr) (stay : DialledStay d b c) where
      missed_overs : All (IsOver setup (d.dialled first c)) run.overs
      missed_overs = overs_on setup (d.dialled first b) (d.dialled first c) (stay first) run.overs run.overs_are

      missed_counted : OthersStay old.jobs.peers new.jobs.peers peer → SettingsStay old new → slice_get new.jobs.peers peer ≡ Some (kinds.Refused PeerFault)
          → AreCounted setup (at_dial d first c) run.overs (suc run.missed) new.jobs.peers
      missed_counted others settings refused =
          counted_more setup (at_dial d first b) (at_dial d first c) (stay first) run.overs run.overs run.missed (suc run.missed) (λ o among. among) (omega arith)
          old.jobs.peers new.jobs.peers peer settings.peers others (run.caused, run.refused) (omega arith) (λ fault is. record {
            addr = addr;
            addr_is = at;
            dialled = dialled;
            why = inl (omega arith, let both = sym refused ∙ is in cc);
          })

      pub missed_runs : (result : Result Progress SwarmFault) → EventSays sink s t old new peer event result
          → event ≡ events.Failed → RunsOrEnds d sink setup first start new c t result
      missed_runs (Ok progress) says is_failed =
          let refused = says.failed is_failed run.stands.going in
          let before = says.unfinished run.connections run.written run.stands (λ idle. let here = sym refused ∙ idle in let no : ⊥ = cc in no) in
          let goes = says.ends run.connections run.written heard call run.stands busy stands in
          let counted = missed_counted says.others says.settings refused in (
            record {
              connections = run.connections;
              written = run.written;
              overs = run.overs;
              missed = suc run.missed;
              is_for = for_stays setup old new says.settings run.is_for;
              stands = before.stands;
              put = put_unput S sink start s t run.written joins run.put before.unput;
              quiet = before.quiet ∙ run.quiet;
              tells = tells_missed d first b c run.overs run.missed run.tells one rose calls le;
              overs_are = missed_overs;
              heard = run.heard;
              caused = counted.0;
              refused = counted.1;
            },
            whole_by new progress goes.progress_is,
          )
      missed_runs (Err fault) says is_failed =
          let none = says.failed is_failed run.stands.going in
          let ends = subst (λ (f : SwarmFault). EventEnds old new run.connections run.written call (heard ++ bytes_of event) (into sink s t) (Err f)) none
          (says.ends run.connections run.written heard call run.stands busy stands) in
          let (why, refused, blamed) = subst (λ (f : SwarmFault). AfterEvent old new peer call heard event (Err f)) none
          (says.after run.connections run.written heard call run.stands busy stands) in
          let is : why ≡ PeerFault = subst (λ (e : PeerEvent). IsBlamed call.client.query call.client.limits heard e why) is_failed blamed in
          record {
            connections = run.connections;
            overs = run.overs;
            missed = suc run.missed;
            tells = tells_missed d first b c run.overs run.missed run.tells one rose calls le;
            overs_are = missed_overs;
            heard = run.heard;
            ends_so = subst (λ (f : SwarmFault). StopsSo setup new (at_dial d first c) (into sink start t) f run.connections run.overs (suc run.missed)) (sym none)
                (none_left sink joins totals setup start s t old new says.settings.peers run.connections run.written run.is_for run.stands run.put run.quiet
                (at_dial d first c) run.overs (suc run.missed) ends
                (missed_counted says.others says.settings (subst (λ (f : FetchFault). slice_get new.jobs.peers peer ≡ Some (kinds.Refused f)) is refused)));
          }

    module _ (link : LinkView) (dialled : d.dialled first b addr) where
      -- its link goes on
      pub still_line : HasSaid link (request_text call.client.query addr) → (progress : Progress) → EventSays sink s t old new peer event (Ok progress) → (later : Call Client)
          → slice_get new.jobs.peers peer ≡ Some (kinds.Busy later) → HasHeard link (heard ++ bytes_of event) → is_failed link.faults ≡ false
          → IsLine setup (d.dialled first b) new peer link
      still_line said progress says later is heard_is whole = by (says.after run.connections run.written heard call run.stands busy stands)
        where
          by : PeerAfter old new peer call heard event → IsLine setup (d.dialled first b) new peer link
          by (inl (one, there, job, standing)) =
              let before = says.unfinished run.connections run.written run.stands (λ idle. let here = sym is ∙ idle in let no : ⊥ = cc in no) in
              let query = standing.query ∙ ap (λ r. query_for r new.part new.plan one.job) says.settings.root
              ∙ ap (λ p. query_for old.root p new.plan one.job) says.settings.part ∙ ap (λ p. query_for old.root old.part p one.job) before.plan
              ∙ ap (λ j. query_for old.root old.part old.plan j) job ∙ sym stands.query in
              record {
                call = one;
                busy = there;
                heard = heard ++ bytes_of event;
                stands = standing;
                heard_is = heard_is;
                addr = addr;
                addr_is = at;
                dialled = dialled;
                said = subst (λ (q : QueryParts). HasSaid link (request_text q addr)) (sym query) said;
                whole = whole;
              }
          by (inr (inl finished)) = let here = sym is ∙ finished.0 in let no : ⊥ = cc in absurd no
          by (inr (inr (fault, refused, blamed))) = let here = sym is ∙ refused in let no : ⊥ = cc in absurd no

      module _ (said : HasSaidFront link (request_text call.client.query addr)) (all_said : is_failed link.faults ≡ false → HasSaid link (request_text call.client.query addr))
          (heard_is : HasHeard link (heard ++ bytes_of event)) (ended : event ≡ events.Ended → link.over ≡ true) (failed : event ≡ events.Failed → is_failed link.faults ≡ true)
          (hung : IsHungUp link (at_dial d b c)) (keeps : KeepsMissed (at_dial d b c)) (stay : DialledStay d b c) where
        abbrev over : Option FetchFault → Over
        over refusal = record { query = call.client.query; limits = call.client.limits; addr = addr; link = link; refusal = refusal }

        overs_with : (refusal : Option FetchFault) → ((fault : FetchFault) → refusal ≡ Some fault → IsSpoilt (over refusal) fault)
            → All (IsOver setup (d.dialled first c)) (run.overs ++ over refusal ∷ [])
        overs_with refusal why = All-push (IsOver setup (d.dialled first c)) run.overs (over refusal)
            (overs_on setup (d.dialled first b) (d.dialled first c) (stay first) run.overs run.overs_are) (record {
              peer = among_at setup.addrs peer addr at;
              dialled = stay first addr dialled;
              asked = asked_for setup old run.connections run.written run.is_for run.stands peer call heard busy stands;
              said = said;
              whole = all_said;
              why = why;
            })

        refused_over : (refusal : Option FetchFault) (piece : List ℕ) (at_end : Bool) (fault : FetchFault) → (at_end ≡ true → (link.over ≡ true) × (piece ≡ []))
            → HasHeard link (heard ++ piece) → IsRefusedReply call.client.query call.client.limits heard piece at_end fault → IsPeersOwn fault → IsSpoilt (over refusal) fault
        refused_over refusal piece at_end fault last is r own = inr (record {
          front = heard ++ r.front;
          more = r.more;
          heard = subst (λ (l : List ℕ). HasHeard link l) (ap (λ (l : List ℕ). heard ++ l) r.whole ∙ sym (append_assoc heard r.front r.more)) is;
          ended = at_end;
          last = λ yes. ((last yes).0, none_behind r.front r.more (sym r.whole ∙ (last yes).1));
          sections = r.sections;
          text = r.text;
          refused = r.refused;
          own = own;
        })

        spoilt_by : (refusal : Option FetchFault) (e : PeerEvent) → e ≡ event → (fault : FetchFault) → IsBlamed call.client.query call.client.limits heard e fault
            → IsSpoilt (over refusal) fault
        spoilt_by refusal (events.Piece piece) is fault (r, own) =
            refused_over refusal piece.now false fault (λ no. absurd (cc no)) (subst (λ (e : PeerEvent). HasHeard link (heard ++ bytes_of e)) (sym is) heard_is) r own
        spoilt_by refusal events.Ended is fault (r, own) =
            refused_over refusal [] true fault (λ _. (ended (sym is), refl)) (subst (λ (e : PeerEvent). HasHeard link (heard ++ bytes_of e)) (sym is) heard_is) r own
        spoilt_by refusal events.Failed is fault blamed = inl (failed (sym is), blamed)

        spoilt_for : (fault : FetchFault) → IsBlamed call.client.query call.client.limits heard event fault → (other : FetchFault) → Some fault ≡ Some other
            → IsSpoilt (over (Some fault)) other
        spoilt_for fault blamed other is =
            subst (λ (f : FetchFault). IsSpoilt (over (Some fault)) f) (let same : fault ≡ other = cc in same) (spoilt_by (Some fault) event refl fault blamed)

        told_heard : (refusal : Option FetchFault) (later : List Connection) → IsTold call.client.limits call.client.query (heard ++ bytes_of event) run.connections later
            → All (WasHeardOn (run.overs ++ over refusal ∷ [])) later
        told_heard refusal later (inl same) =
            subst (λ (cs : List Connection). All (WasHeardOn (run.overs ++ over refusal ∷ [])) cs) (sym same)
            (all_heard run.overs (over refusal ∷ []) run.connections run.heard)
        told_heard refusal later (inr (sections, answered, is)) =
            subst (λ (cs : List Connection). All (WasHeardOn (run.overs ++ over refusal ∷ [])) cs) (sym is)
            (All-push (WasHeardOn (run.overs ++ over refusal ∷ [])) run.connections _ (all_heard run.overs (over refusal ∷ []) run.connections run.heard)
            (record { over = over refusal; among = Contains-push run.overs (over refusal); query = refl; heard = heard_is; answered = answered }))

        -- how many were refused, where this peer isn't, and where it is
        abbrev Counted : Option FetchFault → Type 0
        Counted refusal = AreCounted setup (at_dial d first c) (run.overs ++ over refusal ∷ []) run.missed new.jobs.peers

        counted_none : OthersStay old.jobs.peers new.jobs.peers peer → SettingsStay old new
            → ((fault : FetchFault) → slice_get new.jobs.peers peer ≡ Some (kinds.Refused fault) → ⊥) → Counted None
        counted_none others settings not =
            counted_same setup (at_dial d first b) (at_dial d first c) (stay first) run.overs (run.overs ++ over None ∷ []) run.missed run.missed
            (Contains-append_left run.overs (over None ∷ [])) (omega arith) old.jobs.peers new.jobs.peers peer settings.peers others (run.caused, run.refused)
            (let more = spoilt_more run.overs (over None) in omega (arith, more)) not

        counted_one : OthersStay old.jobs.peers new.jobs.peers peer → SettingsStay old new → (fault : FetchFault)
            → slice_get new.jobs.peers peer ≡ Some (kinds.Refused fault) → Counted (Some fault)
        counted_one others settings fault refused =
            counted_more setup (at_dial d first b) (at_dial d first c) (stay first) run.overs (run.overs ++ over (Some fault) ∷ []) run.missed run.missed
            (Contains-append_left run.overs (over (Some fault) ∷ [])) (omega arith) old.jobs.peers new.jobs.peers peer settings.peers others (run.caused, run.refused)
            (let more = spoilt_more run.overs (over (Some fault)) in omega (arith, more)) (λ other is. record {
              addr = addr;
              addr_is = at;
              dialled = stay first addr dialled;
              why = inr (over (Some fault), Contains-push run.overs (over (Some fault)), refl, (let both = sym refused ∙ is in cc));
            })

        goes_back : (progress : Progress) → EventSays sink s t old new peer event (Ok progress) → (refusal : Option FetchFault)
            → ((fault : FetchFault) → refusal ≡ Some fault → IsSpoilt (over refusal) fault) → Counted refusal → HasRun setup new (at_dial d first c) (into sink start t)
        goes_back progress says refusal why counted =
            let goes = says.ends run.connections run.written heard call run.stands busy stands in
            record {
              connections = goes.later;
              written = run.written ++ goes.text;
              overs = run.overs ++ over refusal ∷ [];
              missed = run.missed;
              is_for = for_stays setup old new says.settings run.is_for;
              stands = goes.stands;
              put = put_put S sink start s t run.written goes.text joins run.put goes.put;
              quiet = goes.quiet ∙ run.quiet;
              tells = tells_back d first b c run.overs run.missed run.tells (over refusal) hung keeps;
              overs_are = overs_with refusal why;
              heard = told_heard refusal goes.later goes.told;
              caused = counted.0;
              refused = counted.1;
            }

        by_after : (progress : Progress) → EventSays sink s t old new peer event (Ok progress) → PeerAfter old new peer call heard event
            → HasRun setup new (at_dial d first c) (into sink start t)
        by_after progress says (inl (one, there, job, standing)) =
            goes_back progress says None (λ fault no. absurd (cc no))
            (counted_none says.others says.settings (λ fault no. let here = sym there ∙ no in let never : ⊥ = cc in never))
        by_after progress says (inr (inl finished)) =
            goes_back progress says None (λ fault no. absurd (cc no))
            (counted_none says.others says.settings (λ fault no. let here = sym finished.0 ∙ no in let never : ⊥ = cc in never))
        by_after progress says (inr (inr (fault, refused, blamed))) =
            goes_back progress says (Some fault) (spoilt_for fault blamed) (counted_one says.others says.settings fault refused)

        ends_back : (fault : SwarmFault) → EventSays sink s t old new peer event (Err fault) → (refusal : Option FetchFault)
            → ((why : FetchFault) → refusal ≡ Some why → IsSpoilt (over refusal) why) → (fault ≡ faults.NoPeerLeft → Counted refusal)
            → RunOver setup (at_dial d first c) (StopsSo setup new (at_dial d first c) (into sink start t) fault)
        ends_back fault says refusal why counted =
            let stop = stops sink joins totals setup start s t old new says.settings.peers run.connections run.written run.is_for run.stands run.put run.quiet
            (heard ++ bytes_of event) call peer busy says.count (at_dial d first c) fault (says.ends run.connections run.written heard call run.stands busy stands) in
            record {
              connections = stop.later;
              overs = run.overs ++ over refusal ∷ [];
              missed = run.missed;
              tells = tells_back d first b c run.overs run.missed run.tells (over refusal) hung keeps;
              overs_are = overs_with refusal why;
              heard = told_heard refusal stop.later stop.told;
              ends_so = stop.so (run.overs ++ over refusal ∷ []) run.missed counted;
            }

        not_left : (fault : SwarmFault) → fault ≢ faults.NoPeerLeft → EventSays sink s t old new peer event (Err fault)
            → RunOver setup (at_dial d first c) (StopsSo setup new (at_dial d first c) (into sink start t) fault)
        not_left fault other says = ends_back fault says None (λ why no. absurd (cc no)) (λ is. absurd (other is))

        by_fault : (fault : SwarmFault) → EventSays sink s t old new peer event (Err fault)
            → RunOver setup (at_dial d first c) (StopsSo setup new (at_dial d first c) (into sink start t) fault)
        by_fault faults.NoPeerLeft says =
            let (fault, refused, blamed) = says.after run.connections run.written heard call run.stands busy stands in
            ends_back faults.NoPeerLeft says (Some fault) (spoilt_for fault blamed) (λ is. counted_one says.others says.settings fault refused)
        by_fault faults.NotFile says = not_left faults.NotFile (λ is. cc is) says
        by_fault (faults.BadRoot fault) says = not_left (faults.BadRoot fault) (λ is. cc is) says
        by_fault (faults.Limit kind number) says = not_left (faults.Limit kind number) (λ is. cc is) says
        by_fault faults.SinkFault says = not_left faults.SinkFault (λ is. cc is) says
        by_fault faults.OutOfMemory says = not_left faults.OutOfMemory (λ is. cc is) says

        -- its link was given back
        pub back_runs : (result : Result Progress SwarmFault) → EventSays sink s t old new peer event result → RunsOrEnds d sink setup first start new c t result
        back_runs (Ok progress) says =
            let goes = says.ends run.connections run.written heard call run.stands busy stands in
            (by_after progress says (says.after run.connections run.written heard call run.stands busy stands), whole_by new progress goes.progress_is)
        back_runs (Err fault) says = by_fault fault says
