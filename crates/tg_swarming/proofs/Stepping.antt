-- Less is left to do behind each step, and while a job waits some step can be taken.
use Rattle.std.proofs.Common.{Bool, Err, IfOk, List, None, Ok, Option, Result, Some, [], ap, arith, false, inl, inr, is_ok, length, refl, slice_set, subst, suc, sym, true, zero, ℕ, ◌+◌, ◌<◌, ◌∙◌, ◌∷◌, ◌≡◌, ◌≤◌, ◌⊎◌}
use Rattle.std.proofs.lemmas.Bool.{cases_eq}
use Rattle.std.proofs.lemmas.Option.{slice_get_within}
use Rattle.std.specs.List.{slice_get}
use Rattle.std.specs.Prelude.{MatchOption, OnOk, ⊤}
use Rattle.tg_cid.specs.Cid.{CidParts}
use Rattle.tg_fetch.specs.declared.client.Client.{Client}
use Rattle.tg_fetch.specs.declared.fault.FetchFault.TheVariants.{PeerFault}
use Rattle.tg_model.specs.Queries.{QueryParts}
use Rattle.tg_parts.specs.Connections.{AreAnswers, Connection, IsRootBlock, WasAccepted}
use Rattle.tg_parts.specs.Connections as connected
use Rattle.tg_parts.specs.Parts.{part_query, root_query}
use Rattle.tg_streams.specs.Streams.{SinkMeaning}
use Rattle.tg_swarm.specs.Jobs.{AreIdle, IsWaiting, NoneBusy, OthersStay}
use Rattle.tg_swarm.specs.Laws.{FirstWaits}
use Rattle.tg_swarm.specs.Peers.{AreRefused, HasJob, IsRefusedPeer, job_of}
use Rattle.tg_swarm.specs.Swarms.{AnswersFor, CallStands, HasAsked, IsPlanned, NothingAsked, StandsFor, SwarmState, TellsSome, asked_of, left_to_do}
use Rattle.tg_swarm.specs.declared.fault.SwarmFault.{SwarmFault}
use Rattle.tg_swarm.specs.declared.peers.Call.{Call}
use Rattle.tg_swarm.specs.declared.peers.Peer.{Peer}
use Rattle.tg_swarm.specs.declared.peers.Peer.TheVariants as kinds
use Rattle.tg_swarm.specs.declared.swarm.PeerEvent.{PeerEvent}
use Rattle.tg_swarm.specs.declared.swarm.PeerEvent.TheVariants as events
use Rattle.tg_swarm.specs.declared.swarm.Plan.{Plan}
use Rattle.tg_swarm.specs.declared.swarm.Plan.TheVariants as plans
use Rattle.tg_swarming.proofs.Lists.{get_set_other, get_set_same}
use Rattle.tg_swarming.proofs.Running.{EventSays, asked_busy, asked_others}
use Rattle.tg_swarming.specs.Rounds.{AreLinked, GoesShorter, HasLink, IsNewSwarm, IsUnended, WentNowhere, WentSo}
use Rattle.tg_verify.specs.declared.verifier.Progress.{Progress}
use Rattle.tg_verify.specs.declared.verifier.Progress.TheVariants as progresses

pub place_of : {L : Type 0} (links : List (Option L)) (peer : ℕ) → HasLink links peer → peer < length links
place_of links peer has = slice_get_within links peer (Some has.0) has.1

-- it was found
pub not_absent : {L : Type 0} (links : List (Option L)) (peer : ℕ) (found : Option L) → slice_get links peer ≡ Some found → HasLink links peer
    → ((link : L) → found ≡ Some link → ⊥) → ⊥
not_absent links peer found is has none = let both : Some found ≡ Some (Some has.0) = sym is ∙ has.1 in none has.0 cc

pub if_ok : {A E : Type 0} {P : Type 0} (r : Result A E) → P → OnOk r P
if_ok (Ok x) p = p
if_ok (Err e) p = tt

pub not_ok : {A E : Type 0} (P : Type 0) (r : Result A E) → is_ok r ≡ false → OnOk r P
not_ok P (Ok x) is = absurd (let f : true ≡ false = is in cc)
not_ok P (Err e) is = tt

-- ---- each busy peer has a link

-- the link of this one is another, or it isn't busy
pub linked_with : {L : Type 0} (old new : SwarmState) (peer : ℕ) (links : List (Option L)) (x : Option L) → peer < length links
    → OthersStay old.jobs.peers new.jobs.peers peer
    → ((call : Call Client) → slice_get new.jobs.peers peer ≡ Some (kinds.Busy call) → (link : L) × (x ≡ Some link))
    → AreLinked old links → AreLinked new (slice_set links peer x)
linked_with {L} old new peer links x lt others mine linked other call busy = elim (cases_eq other peer) [
  | inl e ↦
      let has = mine call (subst (λ (n : ℕ). slice_get new.jobs.peers n ≡ Some (kinds.Busy call)) e busy) in
      (has.0, ap (slice_get (slice_set links peer x)) e ∙ get_set_same links peer x lt ∙ ap Some has.1)
  | inr ne ↦ let has = linked other call (sym (others other ne) ∙ busy) in (has.0, get_set_other links peer other x ne ∙ has.1)
]

-- this one isn't busy
pub linked_same : {L : Type 0} (old new : SwarmState) (peer : ℕ) (links : List (Option L)) → OthersStay old.jobs.peers new.jobs.peers peer
    → ((call : Call Client) → slice_get new.jobs.peers peer ≡ Some (kinds.Busy call) → ⊥) → AreLinked old links → AreLinked new links
linked_same {L} old new peer links others mine linked other call busy = elim (cases_eq other peer) [
  | inl e ↦ absurd (mine call (subst (λ (n : ℕ). slice_get new.jobs.peers n ≡ Some (kinds.Busy call)) e busy))
  | inr ne ↦ linked other call (sym (others other ne) ∙ busy)
]

-- ---- a peer is heard

module _ {S : Type 0} (sink : SinkMeaning S) (s t : S) (old new : SwarmState) (peer : ℕ) (event : PeerEvent) (connections : List Connection)
    (written heard : List ℕ) (call : Call Client) (stands : StandsFor old connections written)
    (busy : slice_get old.jobs.peers peer ≡ Some (kinds.Busy call)) (standing : CallStands old call heard) where
  pub event_unended : (progress : Progress) → EventSays sink s t old new peer event (Ok progress) → progress ≡ progresses.More → IsUnended new
  event_unended progresses.More says is =
      let goes = says.ends connections written heard call stands busy standing in record { unwritten = goes.progress_is; left = goes.left }
  event_unended progresses.Done says is = absurd (cc is)

  pub event_shorter : (result : Result Progress SwarmFault) → EventSays sink s t old new peer event result → TellsSome event
      → OnOk result (left_to_do new < left_to_do old)
  event_shorter result says tells = says.shorter connections written heard call stands busy standing tells

  pub event_steps : (result : Result Progress SwarmFault) → EventSays sink s t old new peer event result → TellsSome event
      → IfOk result (λ progress. progress ≡ progresses.More → GoesShorter old new)
  event_steps (Ok progress) says tells = λ is. record { unended = event_unended progress says is; shorter = event_shorter (Ok progress) says tells }
  event_steps (Err fault) says tells = tt

-- ---- a peer is asked

module _ (old now : SwarmState) (peer : ℕ) (q : QueryParts) (asked : HasAsked old now peer q) (within : peer < length old.jobs.peers) where
  pub asked_unended : IsUnended now
  asked_unended = record {
    unwritten = subst (λ (t : SwarmState). t.jobs.written < t.jobs.count) (sym asked.new_is)
        (let o = (asked.lowest.0).0 in omega (arith, o.is_at, o.within));
    left = λ all. all peer (kinds.Busy asked.call) (asked_busy old now peer q asked within);
  }

  pub asked_linked : {L : Type 0} (links : List (Option L)) (link : L) → peer < length links → AreLinked old links
      → AreLinked now (slice_set links peer (Some link))
  asked_linked links link lt linked =
      linked_with old now peer links (Some link) lt (asked_others old now peer q asked within) (λ call busy. (link, refl)) linked

  -- where it couldn't be heard it isn't busy any more
  pub failed_linked : {L S : Type 0} (sink : SinkMeaning S) (s t : S) (new : SwarmState) (progress : Progress)
      → EventSays sink s t now new peer events.Failed (Ok progress) → (links : List (Option L)) → AreLinked old links → AreLinked new links
  failed_linked sink s t new progress says links linked = linked_same old new peer links
      (λ i ne. says.others i ne ∙ asked_others old now peer q asked within i ne)
      (λ call busy.
      let refused : slice_get new.jobs.peers peer ≡ Some (kinds.Refused PeerFault) =
      says.failed refl (ap (λ (x : SwarmState). x.ended) asked.new_is ∙ asked.going) in
      let no : Some (kinds.Refused PeerFault) ≡ Some (kinds.Busy call) = sym refused ∙ busy in cc)
      linked

  module _ (nowhere on : Type 0) (not : nowhere → ⊥) (shorter : left_to_do now < left_to_do old) where
    -- its request was put
    pub asked_steps : WentSo old now peer nowhere on
    asked_steps = record {
      most = omega (arith, shorter);
      is_nowhere = λ is. absurd (not is);
      is_on = λ is. record { unended = asked_unended; shorter = shorter };
    }

    -- it couldn't be heard
    module _ {S : Type 0} (sink : SinkMeaning S) (s t : S) (new : SwarmState) (progress : Progress)
        (says : EventSays sink s t now new peer events.Failed (Ok progress)) where
      pub failed_steps : (connections : List Connection) (written : List ℕ) → StandsFor now connections written → (on → progress ≡ progresses.More)
          → WentSo old new peer nowhere on
      failed_steps connections written stands more =
          let busy = asked_busy old now peer q asked within in
          let later : left_to_do new < left_to_do now =
          event_shorter sink s t now new peer events.Failed connections written [] asked.call stands busy asked.stands (Ok progress) says tt in
          record {
            most = omega (arith, shorter, later);
            is_nowhere = λ is. absurd (not is);
            is_on = λ is. record {
              unended = event_unended sink s t now new peer events.Failed connections written [] asked.call stands busy asked.stands progress says (more is);
              shorter = omega (arith, shorter, later);
            };
          }

-- nothing was asked of it
pub nowhere_steps : (old new : SwarmState) (peer : ℕ) (nowhere on : Type 0) → NothingAsked old new peer → old.ended ≡ None → (on → ⊥)
    → WentSo old new peer nowhere on
nowhere_steps old new peer nowhere on nothing going not = record {
  most = subst (λ (t : SwarmState). left_to_do t ≤ left_to_do old) (sym nothing.same) (omega arith);
  is_nowhere = λ is. record { same = nothing.same; none = λ idle. nothing.why idle going };
  is_on = λ is. absurd (not is);
}

pub shorter_some : {A : Type 0} {P : Type 0} (asked : Option A) (x : A) → asked ≡ Some x → MatchOption asked ⊤ (λ _. P) → P
shorter_some {P = P} asked x is h = subst (λ o. MatchOption o ⊤ (λ _. P)) is h

-- a peer was asked or not, and heard then
pub heard_steps : (old now new : SwarmState) (peer : ℕ) (nowhere on : Type 0) → left_to_do now ≤ left_to_do old → left_to_do new < left_to_do now
    → (nowhere → ⊥) → (on → GoesShorter now new) → WentSo old new peer nowhere on
heard_steps old now new peer nowhere on most shorter not goes = record {
  most = omega (arith, most, shorter);
  is_nowhere = λ is. absurd (not is);
  is_on = λ is. record { unended = (goes is).unended; shorter = omega (arith, most, shorter) };
}

-- ---- a step can be taken

-- some peer isn't refused
some_left : {C : Type 0} (peers : List (Peer C)) → (AreRefused peers → ⊥) → (i : ℕ) × (peer : Peer C) × (slice_get peers i ≡ Some peer) × (IsRefusedPeer peer → ⊥)
some_left [] left = absurd (left (λ i peer is. absurd (cc is)))
some_left {C} (kinds.Idle ∷ peers) left = (0, kinds.Idle, refl, λ no. no)
some_left {C} (kinds.Busy call ∷ peers) left = (0, kinds.Busy call, refl, λ no. no)
some_left {C} (kinds.Refused fault ∷ peers) left =
    let (i, peer, is, not) = some_left peers (λ all. left (behind all)) in (suc i, peer, is, not)
  where
    behind : AreRefused peers → AreRefused (kinds.Refused fault ∷ peers)
    behind all zero peer is = let e : kinds.Refused fault ≡ peer = cc in subst (λ (p : Peer C). IsRefusedPeer p) e tt
    behind all (suc i) peer is = all i peer is

-- one is busy, or none has a job
busy_or_not : {C : Type 0} (peers : List (Peer C)) → ((i : ℕ) × (call : Call C) × (slice_get peers i ≡ Some (kinds.Busy call)))
    ⊎ ((i job : ℕ) → HasJob peers i job → ⊥)
busy_or_not [] = inr (λ i job has. absurd (let h = has.1 in cc))
busy_or_not {C} (peer ∷ peers) = go peer refl (busy_or_not peers)
  where
    Found : List (Peer C) → Type 0
    Found ps = (i : ℕ) × (call : Call C) × (slice_get ps i ≡ Some (kinds.Busy call))

    none : (first : Peer C) → job_of first ≡ None → ((i job : ℕ) → HasJob peers i job → ⊥) → (i job : ℕ) → HasJob (first ∷ peers) i job → ⊥
    none first not others zero job has =
        let here : Some first ≡ Some has.0 = has.1 in
        let same : first ≡ has.0 = cc in
        let no : None ≡ Some job = sym not ∙ ap job_of same ∙ has.2 in absurd (cc no)
    none first not others (suc i) job has = others i job has

    go : (first : Peer C) → peer ≡ first → Found peers ⊎ ((i job : ℕ) → HasJob peers i job → ⊥) → Found (peer ∷ peers) ⊎ ((i job : ℕ) → HasJob (peer ∷ peers) i job → ⊥)
    go (kinds.Busy call) is rest = inl (0, call, ap Some is)
    go kinds.Idle is (inl (i, call, at)) = inl (suc i, call, at)
    go (kinds.Refused fault) is (inl (i, call, at)) = inl (suc i, call, at)
    go kinds.Idle is (inr not) = inr (none peer (ap job_of is) not)
    go (kinds.Refused fault) is (inr not) = inr (none peer (ap job_of is) not)

-- where nothing is asked of an idle peer some peer has a link
pub some_link : {L : Type 0} (first : FirstWaits) (s : SwarmState) (connections : List Connection) (written : List ℕ) (links : List (Option L))
    → StandsFor s connections written → IsUnended s → AreLinked s links
    → ((peer : ℕ) → peer < length s.jobs.peers → slice_get s.jobs.peers peer ≡ Some kinds.Idle → (job : ℕ) → IsWaiting s.jobs job → ⊥)
    → (peer : ℕ) × HasLink links peer
some_link {L} first s connections written links stands un linked none = elim (busy_or_not s.jobs.peers) [
  | inl (i, call, is) ↦ (i, linked i call is)
  | inr not ↦
      let (i, peer, is, kept) = some_left s.jobs.peers un.left in
      absurd (idle i peer is kept not)
]
  where
    idle : (i : ℕ) (peer : Peer Client) → slice_get s.jobs.peers i ≡ Some peer → (IsRefusedPeer peer → ⊥) → NoneBusy s.jobs → ⊥
    idle i kinds.Idle is kept not =
        none i (slice_get_within s.jobs.peers i kinds.Idle is) is s.jobs.written (first (asked_of s connections) s.jobs stands.jobs un.unwritten not)
    idle i (kinds.Busy call) is kept not = not i call.job (kinds.Busy call, is, refl)
    idle i (kinds.Refused fault) is kept not = kept tt

-- ---- a round

-- whether no step was taken yet, of the peers before this one
abbrev pub HasCome : Bool → SwarmState → SwarmState → ℕ → Type 0
HasCome true old s k =
    (s ≡ old) × ((peer : ℕ) → peer < k → slice_get old.jobs.peers peer ≡ Some kinds.Idle → (job : ℕ) → IsWaiting old.jobs job → ⊥)
HasCome false old s k = left_to_do s < left_to_do old

-- of all
pub come_all : (old s : SwarmState) (k : ℕ) → HasCome true old s k → length s.jobs.peers ≤ k
    → (peer : ℕ) → peer < length s.jobs.peers → slice_get s.jobs.peers peer ≡ Some kinds.Idle → (job : ℕ) → IsWaiting s.jobs job → ⊥
come_all old s k come all peer within =
    let below : peer < k = omega (arith, within, all) in
    subst (λ (t : SwarmState). slice_get t.jobs.peers peer ≡ Some kinds.Idle → (job : ℕ) → IsWaiting t.jobs job → ⊥) (sym come.0) (come.1 peer below)

-- a peer was gone to at which nothing was done, or a step was taken
pub come_nowhere : (waits : Bool) (old s new : SwarmState) (k next : ℕ) → next ≤ k + 1 → HasCome waits old s k → WentNowhere s new k → HasCome waits old new next
come_nowhere true old s new k next le come went = (
  went.same ∙ come.0,
  λ peer below idle. elim (cases_eq peer k) [
    | inl e ↦ subst (λ (t : SwarmState). (job : ℕ) → IsWaiting t.jobs job → ⊥) come.0
        (went.none (subst (λ (t : SwarmState). slice_get t.jobs.peers k ≡ Some kinds.Idle) (sym come.0)
        (subst (λ (n : ℕ). slice_get old.jobs.peers n ≡ Some kinds.Idle) e idle)))
    | inr ne ↦ come.1 peer (omega (arith, below, le, ne)) idle
  ],
)
come_nowhere false old s new k next le come went = subst (λ (t : SwarmState). left_to_do t < left_to_do old) (sym went.same) come

pub come_on : (waits : Bool) (old s new : SwarmState) (k : ℕ) → HasCome waits old s k → left_to_do new < left_to_do s → left_to_do new < left_to_do old
come_on true old s new k come shorter = subst (λ (t : SwarmState). left_to_do new < left_to_do t) come.0 shorter
come_on false old s new k come shorter = omega (arith, shorter, come)

-- ---- a new swarm

unaccepted : (root : QueryParts) (text : List ℕ) → WasAccepted [] root text → ⊥
unaccepted root text a = let (k, lt, is) = a.among in absurd (omega (arith, lt))

nothing_written : (root : CidParts) (part : ℕ) (plan : Plan) (n : ℕ) (written : List ℕ) → AreAnswers (AnswersFor root part plan []) n written → n ≡ 0
nothing_written root part plan zero written connected.none = refl
nothing_written root part plans.Root (suc n) written (connected.more m before text first a) = absurd (unaccepted (root_query root) text a.accepted)
nothing_written root part (plans.Parts total) (suc n) written (connected.more m before text first a) =
    absurd (unaccepted (part_query root part total n) text a)

all_idle : (peers : List (Peer Client)) → AreIdle peers → 0 < length peers → AreRefused peers → ⊥
all_idle [] idle some all = omega (arith, some)
all_idle (peer ∷ peers) idle some all = subst (λ (p : Peer Client). IsRefusedPeer p) (idle 0 peer refl) (all 0 peer refl)

pub new_unended : (s : SwarmState) (addrs : List (List ℕ)) → IsNewSwarm s addrs → 0 < length addrs → IsUnended s
new_unended s addrs is_new some = record {
  unwritten = by s.plan refl;
  left = all_idle s.jobs.peers is_new.idle (omega (arith, some, is_new.peers));
}
  where
    by : (p : Plan) → s.plan ≡ p → s.jobs.written < s.jobs.count
    by plans.Root is =
        let planned = subst (λ (p : Plan). IsPlanned s.root s.part p s.jobs [] []) is is_new.stands.planned in
        let count = planned.0 in
        let none = nothing_written s.root s.part s.plan s.jobs.written [] is_new.stands.answers in
        omega (arith, count, none)
    by (plans.Parts total) is =
        let planned = subst (λ (p : Plan). IsPlanned s.root s.part p s.jobs [] []) is is_new.stands.planned in
        absurd (unaccepted (root_query s.root) (planned.0).block ((planned.0).block_is).accepted)

pub new_linked : {L : Type 0} (s : SwarmState) (addrs : List (List ℕ)) (links : List (Option L)) → IsNewSwarm s addrs → AreLinked s links
new_linked s addrs links is_new peer call busy = let no = is_new.idle peer (kinds.Busy call) busy in absurd (cc no)
