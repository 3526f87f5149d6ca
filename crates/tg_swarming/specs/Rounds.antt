-- A swarm that runs over a dial: what was said and heard on the links of its peers, and what is written of that (RFC 9112;
-- Trustless Gateway specification, entity-bytes).
use Rattle.std.specs.List.{slice_get}
use Rattle.std.specs.Prelude.{All, Bool, Contains, Err, IfSome, List, None, Ok, Option, Result, Some, [], false, length, map, suc, sum, take, true, zero, ⊤, ℕ, ◌+◌, ◌++◌, ◌<◌, ◌∷◌, ◌≡◌, ◌≤◌, ◌⊎◌}
use Rattle.tg_cid.specs.Cid.{CidParts}
use Rattle.tg_dials.specs.Dials.{DialMeaning, DialRose, Dialling, at_dial}
use Rattle.tg_bytes.specs.Told.{grown}
use Rattle.tg_faults.specs.Faults.{Rose, counted}
use Rattle.tg_fetch.specs.Replies.{RefusedBy}
use Rattle.tg_fetch.specs.declared.client.Client.{Client}
use Rattle.tg_fetch.specs.declared.fault.FetchFault.{FetchFault}
use Rattle.tg_fetch.specs.declared.fault.FetchFault.TheVariants.{PeerFault}
use Rattle.tg_links.specs.Links.{LinkMeaning}
use Rattle.tg_links.specs.Views.{LinkView, and_call, is_failed, told_call, view_of}
use Rattle.tg_links.specs.declared.call.Call as told
use Rattle.tg_model.specs.Computed.{read}
use Rattle.tg_model.specs.Dag.{Section}
use Rattle.tg_model.specs.LimitNumbers.{LimitNumbers}
use Rattle.tg_model.specs.Queries.{QueryParts}
use Rattle.tg_model.specs.declared.kinds.Kind.TheVariants.{Raw}
use Rattle.tg_model.specs.declared.limits.LimitKind.TheVariants as limit_kinds
use Rattle.tg_parts.specs.Connections.{AreAnswers, Connection, IsRootBlock, IsRootOfFile}
use Rattle.tg_parts.specs.Parts.{part_count}
use Rattle.tg_query.specs.Requests.{request_text}
use Rattle.tg_streams.specs.Streams.{Output, OutputQuiet, Put, PutFront, SinkMeaning, SourceMeaning, into}
use Rattle.tg_swarm.specs.Jobs.{AreIdle, IsWaiting}
use Rattle.tg_swarm.specs.Peers.{AreRefused, refusals_of}
use Rattle.tg_swarm.specs.Swarms.{AnswersJob, Asked, CallStands, IsHeardAnswer, IsNotFile, IsPeersOwn, StandsFor, SwarmState, bytes_of, left_to_do, limits_for, query_for}
use Rattle.tg_swarm.specs.declared.fault.SwarmFault.{SwarmFault}
use Rattle.tg_swarm.specs.declared.fault.SwarmFault.TheVariants as faults
use Rattle.tg_swarm.specs.declared.peers.Call.{Call}
use Rattle.tg_swarm.specs.declared.peers.Peer.{Peer}
use Rattle.tg_swarm.specs.declared.peers.Peer.TheVariants as kinds
use Rattle.tg_swarm.specs.declared.swarm.PeerEvent.{PeerEvent}
use Rattle.tg_swarm.specs.declared.swarm.PeerEvent.TheVariants as events
use Rattle.tg_swarm.specs.declared.swarm.Plan.{Plan}
use Rattle.tg_swarm.specs.declared.swarm.Plan.TheVariants as plans

pub record Setup : Type 0 where
  pub root : CidParts
  pub part : ℕ
  pub limits : LimitNumbers
  pub addrs : List (List ℕ)

abbrev pub setup_of : SwarmState → List (List ℕ) → Setup
setup_of s addrs = record { root = s.root; part = s.part; limits = s.limits; addrs = addrs }

-- a new swarm, with a peer for each address
pub record IsNewSwarm (s : SwarmState) (addrs : List (List ℕ)) : Type 0 where
  pub stands : StandsFor s [] []
  pub idle : AreIdle s.jobs.peers
  pub peers : length s.jobs.peers ≡ length addrs

-- ---- links that were given back

-- a link that was given back: which query was asked of which peer, with which limits, and what went through it
pub record Over : Type 0 where
  pub query : QueryParts
  pub limits : LimitNumbers
  pub addr : List ℕ
  pub link : LinkView
  pub refusal : Option FetchFault  -- why its peer was refused for it, where it was

-- this was heard, and this, or a front of it, was said, as far as they are told
abbrev pub HasHeard : LinkView → List ℕ → Type 0
HasHeard link heard = IfSome link.heard (λ told. told ≡ heard)

abbrev pub HasSaid : LinkView → List ℕ → Type 0
HasSaid link text = IfSome link.said (λ told. told ≡ text)

abbrev pub HasSaidFront : LinkView → List ℕ → Type 0
HasSaidFront link text = IfSome link.said (λ told. (count : ℕ) × (told ≡ take count text))

-- what was heard isn't the answer, for a cause of its bytes or of its end
pub record IsRefusedOver (o : Over) (fault : FetchFault) : Type 0 where
  pub front : List ℕ
  pub more : List ℕ
  pub heard : HasHeard o.link (front ++ more)
  pub ended : Bool
  pub last : ended ≡ true → (o.link.over ≡ true) × (more ≡ [])
  pub sections : List Section
  pub text : List ℕ
  pub refused : RefusedBy o.query o.limits front more ended sections text fault
  pub own : IsPeersOwn fault

-- the link failed, or that
abbrev pub IsSpoilt : Over → FetchFault → Type 0
IsSpoilt o fault = ((is_failed o.link.faults ≡ true) × (fault ≡ PeerFault)) ⊎ IsRefusedOver o fault

-- the query is that for the root's block, or for a part of a file with so many bytes, with the limits of its client
abbrev pub IsJobOf : ℕ → Plan → ℕ → Type 0
IsJobOf part plans.Root job = job ≡ 0
IsJobOf part (plans.Parts total) job = job < part_count part total

pub record IsAskedFor (setup : Setup) (q : QueryParts) (limits : LimitNumbers) : Type 0 where
  pub plan : Plan
  pub job : ℕ
  pub within : IsJobOf setup.part plan job
  pub query_is : q ≡ query_for setup.root setup.part plan job
  pub limits_are : limits ≡ limits_for setup.limits plan

-- one of the peers was dialled at its address and asked for that: the request was said, or a front of it where the link failed; and
-- where the peer was refused for it, it is spoilt
pub record IsOver (setup : Setup) (was_dialled : List ℕ → Type 0) (o : Over) : Type 0 where
  pub peer : Contains setup.addrs o.addr
  pub dialled : was_dialled o.addr
  pub asked : IsAskedFor setup o.query o.limits
  pub said : HasSaidFront o.link (request_text o.query o.addr)
  pub whole : is_failed o.link.faults ≡ false → HasSaid o.link (request_text o.query o.addr)
  pub why : (fault : FetchFault) → o.refusal ≡ Some fault → IsSpoilt o fault

-- what a dial tells of them behind other calls
abbrev pub and_overs : Option (List told.Call) → List Over → Option (List told.Call)
and_overs told [] = told
and_overs told (o ∷ overs) = and_overs (and_call told (told_call o.link)) overs

-- for how many of them a peer was refused
abbrev pub one_if : Option FetchFault → ℕ
one_if (Some fault) = 1
one_if None = 0

abbrev pub spoilt_count : List Over → ℕ
spoilt_count overs = sum (map (λ o. one_if o.refusal) overs)

-- what was accepted was heard on one of them, and is the answer to what was asked on it
pub record WasHeardOn (overs : List Over) (c : Connection) : Type 0 where
  pub over : Over
  pub among : Contains overs over
  pub query : over.query ≡ c.query
  pub heard : HasHeard over.link c.heard
  pub answered : IsHeardAnswer c.query over.limits c.heard c.sections

-- a count that was raised so often, and stands still at the last value of its type
abbrev pub counted_by : ℕ → ℕ → ℕ
counted_by count zero = count
counted_by count (suc times) = counted (counted_by count times)

-- what the dial tells: of the links that were given back what went through each, unless it tells nothing any more; and so many
-- dials were missed
pub record DialTells (dial : Dialling) (overs : List Over) (missed : ℕ) : Type 0 where
  pub calls : (dial.calls_new ≡ and_overs dial.calls_old overs) ⊎ (dial.calls_new ≡ None)
  pub missed_is : dial.missed_new ≡ counted_by dial.missed_old missed
  pub rose : (0 < missed) ⊎ ((o : Over) × Contains overs o × (is_failed o.link.faults ≡ true)) → DialRose dial
  pub counted : dial.faults_old ≤ dial.faults_new

-- why a peer was refused: a dial of its address was missed, or it was refused for a link to it
pub record IsRefusedFor (setup : Setup) (dial : Dialling) (overs : List Over) (missed peer : ℕ) (fault : FetchFault) : Type 0 where
  pub addr : List ℕ
  pub addr_is : slice_get setup.addrs peer ≡ Some addr
  pub dialled : dial.dialled addr
  pub why : ((0 < missed) × (fault ≡ PeerFault)) ⊎ ((o : Over) × Contains overs o × (o.addr ≡ addr) × (o.refusal ≡ Some fault))

abbrev pub AreCaused : Setup → Dialling → List Over → ℕ → List (Peer Client) → Type 0
AreCaused setup dial overs missed peers =
    (peer : ℕ) (fault : FetchFault) → slice_get peers peer ≡ Some (kinds.Refused fault) → IsRefusedFor setup dial overs missed peer fault

-- ---- while it runs

-- the settings of a swarm, which has a peer for each address
pub record IsFor (setup : Setup) (s : SwarmState) : Type 0 where
  pub root : s.root ≡ setup.root
  pub part : s.part ≡ setup.part
  pub limits : s.limits ≡ setup.limits
  pub peers : length s.jobs.peers ≡ length setup.addrs

-- the link of a busy peer, which was dialled for it, on which its request was said and nothing failed, and whose client stands for
-- what was heard on it
pub record IsLine (setup : Setup) (was_dialled : List ℕ → Type 0) (s : SwarmState) (peer : ℕ) (link : LinkView) : Type 0 where
  pub call : Call Client
  pub busy : slice_get s.jobs.peers peer ≡ Some (kinds.Busy call)
  pub heard : List ℕ
  pub stands : CallStands s call heard
  pub heard_is : HasHeard link heard
  pub addr : List ℕ
  pub addr_is : slice_get setup.addrs peer ≡ Some addr
  pub dialled : was_dialled addr
  pub said : HasSaid link (request_text call.client.query addr)
  pub whole : is_failed link.faults ≡ false

-- each link is that of a busy peer
abbrev pub AreLines : {L : Type 0} → LinkMeaning L → SourceMeaning L → Setup → (List ℕ → Type 0) → SwarmState → List (Option L) → Type 0
AreLines {L} m source setup dialled s links =
    (peer : ℕ) (link : L) → slice_get links peer ≡ Some (Some link) → IsLine setup dialled s peer (view_of m source link)

-- what came of the links that were given back, and of the dials that were missed, by then
pub record HasRun (setup : Setup) (s : SwarmState) (dial : Dialling) (out : Output) : Type 0 where
  pub connections : List Connection
  pub written : List ℕ
  pub overs : List Over
  pub missed : ℕ
  pub is_for : IsFor setup s
  pub stands : StandsFor s connections written
  pub put : Put written out
  pub quiet : OutputQuiet out
  pub tells : DialTells dial overs missed
  pub overs_are : All (IsOver setup dial.dialled) overs
  pub heard : All (WasHeardOn overs) connections
  -- each peer that was refused has a cause, and no more were than dials were missed and links spoilt
  pub caused : AreCaused setup dial overs missed s.jobs.peers
  pub refused : length (refusals_of s.jobs.peers) ≤ missed + spoilt_count overs

-- ---- how it ends

-- these connections, links and missed dials were behind it
pub record RunOver (setup : Setup) (dial : Dialling) (ends : List Connection → List Over → ℕ → Type 0) : Type 0 where
  pub connections : List Connection
  pub overs : List Over
  pub missed : ℕ
  pub tells : DialTells dial overs missed
  pub overs_are : All (IsOver setup dial.dialled) overs
  pub heard : All (WasHeardOn overs) connections
  pub ends_so : ends connections overs missed

-- the whole file was put, and each peer that was refused has a cause
pub record WholePut (setup : Setup) (now : SwarmState) (dial : Dialling) (out : Output) (connections : List Connection) (overs : List Over) (missed : ℕ) : Type 0 where
  pub is_for : IsFor setup now
  pub written : List ℕ
  pub stands : StandsFor now connections written
  pub all : now.jobs.written ≡ now.jobs.count
  pub put : Put written out
  pub quiet : OutputQuiet out
  pub caused : AreCaused setup dial overs missed now.jobs.peers

-- what was put stands for these connections
pub record FrontPut (setup : Setup) (connections : List Connection) (out : Output) : Type 0 where
  pub s : SwarmState
  pub is_for : IsFor setup s
  pub written : List ℕ
  pub stands : StandsFor s connections written
  pub put : Put written out
  pub quiet : OutputQuiet out

-- the block that was accepted for the root's says so, and nothing was put
pub record RootStops (setup : Setup) (connections : List Connection) (says : List ℕ → Type 0) (out : Output) : Type 0 where
  pub block : List ℕ
  pub block_is : IsRootBlock setup.root connections block
  pub says_so : says block
  pub put : Put [] out
  pub quiet : OutputQuiet out

-- out failed in texts that were accepted for the first jobs
pub record OutStops (setup : Setup) (connections : List Connection) (out : Output) : Type 0 where
  pub a : Asked
  pub root : a.root ≡ setup.root
  pub part : a.part ≡ setup.part
  pub connections_are : a.connections ≡ connections
  pub job : ℕ
  pub text : List ℕ
  pub answers : AreAnswers (AnswersJob a) job text
  pub raw : a.plan ≡ plans.Root → (job ≤ 1) × read a.root text ≡ Ok Raw
  pub file : (total : ℕ) → a.plan ≡ plans.Parts total → IsRootOfFile a.root connections total
  pub front : PutFront text out

-- each peer was refused, with a cause, and no more were than dials were missed and links spoilt
pub record AllRefused (setup : Setup) (now : SwarmState) (dial : Dialling) (out : Output) (connections : List Connection) (overs : List Over) (missed : ℕ) : Type 0 where
  pub front : FrontPut setup connections out
  pub refused : AreRefused now.jobs.peers
  pub peers : length now.jobs.peers ≡ length setup.addrs
  pub caused : AreCaused setup dial overs missed now.jobs.peers
  pub few : length setup.addrs ≤ missed + spoilt_count overs

abbrev pub StopsSo : Setup → SwarmState → Dialling → Output → SwarmFault → List Connection → List Over → ℕ → Type 0
StopsSo setup now dial out faults.NoPeerLeft connections overs missed = AllRefused setup now dial out connections overs missed
StopsSo setup now dial out faults.NotFile connections overs missed = RootStops setup connections (λ block. IsNotFile setup.root connections block) out
StopsSo setup now dial out (faults.BadRoot fault) connections overs missed = RootStops setup connections (λ block. read setup.root block ≡ Err fault) out
StopsSo setup now dial out (faults.Limit kind number) connections overs missed =
    (kind ≡ limit_kinds.Output) × (number ≡ setup.limits.output)
    × RootStops setup connections (λ block. (total : ℕ) × IsRootOfFile setup.root connections total × (number < total)) out
StopsSo setup now dial out faults.SinkFault connections overs missed = OutStops setup connections out
StopsSo setup now dial out faults.OutOfMemory connections overs missed = FrontPut setup connections out

-- the swarm is this one then
abbrev pub SwarmEnds : Setup → SwarmState → Dialling → Output → Result ⊤ SwarmFault → Type 0
SwarmEnds setup now dial out (Ok done) = RunOver setup dial (WholePut setup now dial out)
SwarmEnds setup now dial out (Err fault) = RunOver setup dial (StopsSo setup now dial out fault)

-- ---- from one moment to a later one

-- what the kinds of the dial, of its links and of out mean
pub record Meanings (D L S : Type 0) : Type 1 where
  pub dial : DialMeaning D
  pub link : LinkMeaning L
  pub source : SourceMeaning L
  pub sink : SinkMeaning S

abbrev pub meanings : {D L S : Type 0} → DialMeaning D → LinkMeaning L → SourceMeaning L → SinkMeaning S → Meanings D L S
meanings dial link source sink = record { dial = dial; link = link; source = source; sink = sink }

-- the swarm, the links of its peers, the dial and out at one moment
pub record Moment (D L S : Type 0) : Type 0 where
  pub swarm : SwarmState
  pub links : List (Option L)
  pub dial : D
  pub out : S

abbrev pub moment_of : {D L S : Type 0} → SwarmState → List (Option L) → D → S → Moment D L S
moment_of swarm links dial out = record { swarm = swarm; links = links; dial = dial; out = out }

-- it runs, since the dial and out were these
pub record Runs {D L S : Type 0} (m : Meanings D L S) (setup : Setup) (first : D) (start : S) (at : Moment D L S) : Type 0 where
  pub run : HasRun setup at.swarm (at_dial m.dial first at.dial) (into m.sink start at.out)
  pub lines : AreLines m.link m.source setup (m.dial.dialled first at.dial) at.swarm at.links
  pub number : length at.links ≡ length setup.addrs

-- a link that wasn't given back yet: what was asked on it of which of the peers, none of which was refused for it
abbrev pub over_with : QueryParts → LimitNumbers → List ℕ → LinkView → Over
over_with query limits addr link = record { query = query; limits = limits; addr = addr; link = link; refusal = None }

abbrev pub IsLeft : Setup → (List ℕ → Type 0) → LinkView → Type 0
IsLeft setup dialled link = (query : QueryParts) × (limits : LimitNumbers) × (addr : List ℕ) × IsOver setup dialled (over_with query limits addr link)

abbrev pub AreLeft : {L : Type 0} → LinkMeaning L → SourceMeaning L → Setup → (List ℕ → Type 0) → List (Option L) → Type 0
AreLeft {L} m source setup dialled links =
    (peer : ℕ) (link : L) → slice_get links peer ≡ Some (Some link) → IsLeft setup dialled (view_of m source link)

-- it came to an end so, and these links are to be given back
pub record Ended {D L S : Type 0} (m : Meanings D L S) (setup : Setup) (first : D) (at : Moment D L S) (ends : Dialling → List Connection → List Over → ℕ → Type 0) : Type 0 where
  pub over : RunOver setup (at_dial m.dial first at.dial) (ends (at_dial m.dial first at.dial))
  pub left : AreLeft m.link m.source setup (m.dial.dialled first at.dial) at.links

-- which runs are spoken of: those with these addresses, those with this one at a peer's place, or all
abbrev pub HasAddrs : List (List ℕ) → Setup → Type 0
HasAddrs addrs setup = setup.addrs ≡ addrs

abbrev pub HasAddr : ℕ → List ℕ → Setup → Type 0
HasAddr peer addr setup = slice_get setup.addrs peer ≡ Some addr

abbrev pub IsAny : Setup → Type 0
IsAny setup = ⊤

-- it runs, since some moment
pub record IsRunning {D L S : Type 0} (m : Meanings D L S) (which : Setup → Type 0) (at : Moment D L S) : Type 0 where
  pub setup : Setup
  pub first : D
  pub start : S
  pub is_which : which setup
  pub runs : Runs m setup first start at

-- what ran before runs now; or it ended
abbrev pub GoOn : {D L S : Type 0} → Meanings D L S → (Setup → Type 0) → Moment D L S → Moment D L S → Type 0
GoOn {D} {L} {S} m which old new = (setup : Setup) (first : D) (start : S) → which setup → Runs m setup first start old → Runs m setup first start new

abbrev pub Stop : {D L S : Type 0} → Meanings D L S → (Setup → Type 0) → Moment D L S → Moment D L S → SwarmFault → Type 0
Stop {D} {L} {S} m which old new fault = (setup : Setup) (first : D) (start : S) → which setup → Runs m setup first start old
    → Ended m setup first new (λ dial. StopsSo setup new.swarm dial (into m.sink start new.out) fault)

abbrev pub GoSo : {A D L S : Type 0} → Meanings D L S → (Setup → Type 0) → Moment D L S → Moment D L S → Result A SwarmFault → Type 0
GoSo m which old new (Ok went) = GoOn m which old new
GoSo m which old new (Err fault) = Stop m which old new fault

-- the file is whole
abbrev pub IsWhole : SwarmState → Type 0
IsWhole s = s.jobs.written ≡ s.jobs.count

-- ---- a step

-- there is a link in this place
abbrev pub HasLink : {L : Type 0} → List (Option L) → ℕ → Type 0
HasLink {L} links peer = (link : L) × (slice_get links peer ≡ Some (Some link))

-- each busy peer has one
abbrev pub AreLinked : {L : Type 0} → SwarmState → List (Option L) → Type 0
AreLinked s links = (peer : ℕ) (call : Call Client) → slice_get s.jobs.peers peer ≡ Some (kinds.Busy call) → HasLink links peer

-- a job isn't done with, and some peer isn't refused
pub record IsUnended (s : SwarmState) : Type 0 where
  pub unwritten : s.jobs.written < s.jobs.count
  pub left : AreRefused s.jobs.peers → ⊥

-- more is wanted, and less is left to do
pub record GoesShorter (old new : SwarmState) : Type 0 where
  pub unended : IsUnended new
  pub shorter : left_to_do new < left_to_do old

-- nothing was done at a peer: where it has no job none waits
pub record WentNowhere (old new : SwarmState) (peer : ℕ) : Type 0 where
  pub same : new ≡ old
  pub none : slice_get old.jobs.peers peer ≡ Some kinds.Idle → (job : ℕ) → IsWaiting old.jobs job → ⊥

-- what was done at a peer: nothing, or a step behind which more is wanted, or another
pub record WentSo (old new : SwarmState) (peer : ℕ) (nowhere on : Type 0) : Type 0 where
  pub most : left_to_do new ≤ left_to_do old
  pub is_nowhere : nowhere → WentNowhere old new peer
  pub is_on : on → GoesShorter old new

-- ---- the end

-- the end of a run, and that end once a dial was told that links were given back
abbrev pub EndsSo : {D L S : Type 0} → Meanings D L S → (Setup → Type 0) → Moment D L S → Moment D L S → Result ⊤ SwarmFault → Type 0
EndsSo {D} {L} {S} m which old new (Ok done) = (setup : Setup) (first : D) (start : S) → which setup → Runs m setup first start old
    → Ended m setup first new (λ dial. WholePut setup new.swarm dial (into m.sink start new.out))
EndsSo m which old new (Err fault) = Stop m which old new fault

-- behind a call in which links were given back these are told behind the others
pub record HasHungUp (setup : Setup) (new : Dialling) (overs : List Over) (missed : ℕ) : Type 0 where
  pub more : List Over
  pub tells : DialTells new (overs ++ more) missed
  pub overs_are : All (IsOver setup new.dialled) more

-- what a take of a link told: what it heard, its end, or a fault of its own
pub record IsHeard (old new : LinkView) (event : PeerEvent) : Type 0 where
  pub ended : event ≡ events.Ended → new.over ≡ true
  pub heard : new.heard ≡ grown old.heard (bytes_of event)
  pub said : new.said ≡ old.said
  pub failed : event ≡ events.Failed → Rose old.faults new.faults
  pub quiet : (event ≡ events.Failed → ⊥) → new.faults ≡ old.faults
