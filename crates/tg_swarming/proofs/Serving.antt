-- Where no fault of the dial is counted, a peer that serves a DAG rightly isn't refused; and where all do, its file is put.
use Rattle.std.proofs.Common.{All, Bool, Contains, Err, List, Ok, Option, Result, Some, [], ap, append-nil, arith, false, inl, inr, length, refl, subst, subst₂, suc, sym, true, zero, ℕ, ◌++◌, ◌<◌, ◌∙◌, ◌∷◌, ◌≡◌, ◌⊎◌}
use Rattle.std.proofs.lemmas.List.Elements.{All-contains, Contains-append_cases}
use Rattle.std.proofs.lemmas.Option.{same_Some, slice_get-get_or}
use Rattle.std.specs.List.{slice_get}
use Rattle.std.specs.Prelude.{IfSome, ⊤}
use Rattle.tg_cid.specs.Cid.{CidParts}
use Rattle.tg_dials.specs.Dials.{DialRose, Dialling}
use Rattle.tg_fetch.specs.Laws.{CarriedIsAnswer, CarriedIsTaken, CarriesWithin, IsOwnFault, NoPeerFault}
use Rattle.tg_fetch.specs.Replies.{RefusedBy}
use Rattle.tg_fetch.specs.declared.client.Client.{Client}
use Rattle.tg_fetch.specs.declared.fault.FetchFault.{FetchFault}
use Rattle.tg_fetch.specs.declared.fault.FetchFault.TheVariants as fetches
use Rattle.tg_heard.specs.Exchanges.{HasOneBlockEach as HasOneBlock}
use Rattle.tg_links.specs.Views.{is_failed}
use Rattle.tg_model.specs.Answer.{answer}
use Rattle.tg_model.specs.Counts.{counts}
use Rattle.tg_model.specs.Dag.{Dag, Section, blocks, root_cid}
use Rattle.tg_model.specs.Fits.{CollisionPair, Fits, HasOneBlockEach, IfOnce, IsOpenedFor}
use Rattle.tg_model.specs.LimitNumbers.{AreWithin, LimitNumbers}
use Rattle.tg_model.specs.Queries.{QueryParts}
use Rattle.tg_model.specs.Sound.{IsSound}
use Rattle.tg_model.specs.Stores.{as_v1}
use Rattle.tg_model.specs.Traversal.{block_list, opened_list}
use Rattle.tg_parts.specs.Connections.{Connection, all_sections}
use Rattle.tg_parts.specs.PartLaws.{OwnAreBlocks}
use Rattle.tg_query.specs.Requests.{request_text}
use Rattle.tg_streams.specs.Streams.{Output, Put}
use Rattle.tg_swarm.specs.Laws.{IsFrontOfFile}
use Rattle.tg_swarm.specs.Peers.{AreRefused}
use Rattle.tg_swarm.specs.Swarms.{IsHeardAnswer, IsPeersOwn, SwarmState, query_for}
use Rattle.tg_swarm.specs.declared.fault.SwarmFault.{SwarmFault}
use Rattle.tg_swarm.specs.declared.fault.SwarmFault.TheVariants as faults
use Rattle.tg_swarm.specs.declared.peers.Peer.{Peer}
use Rattle.tg_swarm.specs.declared.peers.Peer.TheVariants as kinds
use Rattle.tg_swarm.specs.declared.swarm.Plan.{Plan}
use Rattle.tg_swarm.specs.declared.swarm.Plan.TheVariants as plans
use Rattle.tg_swarming.proofs.Calls.{behind_in, first_in, has_call, tells_of}
use Rattle.tg_swarming.proofs.Vouching.{EndsWith, Says, SoundLaws, end_says, run_over}
use Rattle.tg_swarming.specs.Rounds.{AreCaused, DialTells, HasHeard, IsAskedFor, IsOver, IsSpoilt, Over, Setup, SwarmEnds, WasHeardOn}
use Rattle.tg_swarming.specs.Sound.{IsDoneFor, IsOwnCallTo, IsServed, IsServedAt, IsntRefused, SaysOfEnd}
use Rattle.tg_verify.specs.Laws.{IsWithinLimits}
use Rattle.tg_verify.specs.declared.fault.Refusal.TheVariants as refusals

-- ---- the laws of crates below

-- the sections of a sound DAG's own traversal fit, and what they open counts no more than the DAG, or there is a pair
abbrev pub OwnFits : Type 0
OwnFits = (q : QueryParts) (d : Dag) (text : List ℕ) → IsSound d → root_cid d ≡ q.root → IfOnce q.dups (HasOneBlockEach (opened_list q d)) → answer q d ≡ Some text
    → (s : Dag) × Fits s q (block_list q d) text

abbrev pub OpenedCounts : Type 0
OpenedCounts = (q : QueryParts) (d s : Dag) → IsSound d → root_cid d ≡ q.root → IsOpenedFor s q → AreWithin (counts q d) (counts q s) ⊎ CollisionPair (block_list q s) d

pub record ServedLaws : Type 0 where
  pub sound : SoundLaws
  pub taken : CarriedIsTaken
  pub answered : CarriedIsAnswer
  pub no_peer : NoPeerFault
  pub fits : OwnFits
  pub counted : OpenedCounts
  pub blocks : OwnAreBlocks

-- ---- what is asked

-- it has the root, and repeats are asked for
record IsOfRoot (root : CidParts) (q : QueryParts) : Type 0 where
  root_is : q.root ≡ root
  dups : q.dups ≡ true

of_plan : (root : CidParts) (part : ℕ) (plan : Plan) (job : ℕ) → IsOfRoot root (query_for root part plan job)
of_plan root part plans.Root job = record { root_is = refl; dups = refl }
of_plan root part (plans.Parts total) job = record { root_is = refl; dups = refl }

of_root : (setup : Setup) (q : QueryParts) (limits : LimitNumbers) → IsAskedFor setup q limits → IsOfRoot setup.root q
of_root setup q limits a = subst (IsOfRoot setup.root) (sym a.query_is) (of_plan setup.root setup.part a.plan a.job)

-- ---- counts and pairs

within_both : (most some n : LimitNumbers) → AreWithin most some → AreWithin some n → AreWithin most n
within_both most some n a b = record {
  block = omega (arith, a.block, b.block);
  depth = omega (arith, a.depth, b.depth);
  entries = omega (arith, a.entries, b.entries);
  names = omega (arith, a.names, b.names);
  received = omega (arith, a.received, b.received);
  output = omega (arith, a.output, b.output);
  seen_blocks = omega (arith, a.seen_blocks, b.seen_blocks);
  seen_bytes = omega (arith, a.seen_bytes, b.seen_bytes);
  reused = omega (arith, a.reused, b.reused);
}

-- one of the connections has the section
in_one : (connections : List Connection) (section : Section) → Contains (all_sections connections) section
    → (c : Connection) × Contains connections c × Contains c.sections section
in_one [] section there = let lt = there.1 in absurd (omega (arith, lt))
in_one (first ∷ others) section there = by (Contains-append_cases first.sections (all_sections others) section there) (in_one others section)
  where
    by : Contains first.sections section ⊎ Contains (all_sections others) section
        → (Contains (all_sections others) section → (c : Connection) × Contains others c × Contains c.sections section)
        → (c : Connection) × Contains (first ∷ others) c × Contains c.sections section
    by (inl here) behind = (first, first_in first others, here)
    by (inr more) behind = let (c, among, has) = behind more in (c, behind_in first c others among, has)

-- blocks of a DAG, of which no two different ones stand under one CID, are no pair with it
no_pair : (sections : List Section) (d : Dag) → HasOneBlock d → ((section : Section) → Contains sections section → Contains (blocks d) section)
    → CollisionPair sections d → ⊥
no_pair sections d one are p = p.differ (one p.received p.held (are p.received p.is_received) p.is_held (ap as_v1 p.same_cid))

-- ---- faults

-- one that is one's own and the peer's too is the peer's
not_own : (fault : FetchFault) → IsOwnFault fault → IsPeersOwn fault → fault ≡ fetches.PeerFault
not_own fetches.PeerFault own peers = refl
not_own (fetches.Refused refusals.SinkFault) own peers = absurd peers
not_own fetches.KeepFault own peers = absurd peers
not_own fetches.OutOfMemory own peers = absurd peers
not_own _ own peers = absurd own

-- one of peers that were refused
refused_at : {C : Type 0} (peers : List (Peer C)) (at : ℕ) → at < length peers → AreRefused peers → (fault : FetchFault) × (slice_get peers at ≡ Some (kinds.Refused fault))
refused_at [] at lt all = absurd (omega (arith, lt))
refused_at (kinds.Idle ∷ peers) zero lt all = absurd (all 0 kinds.Idle refl)
refused_at (kinds.Busy call ∷ peers) zero lt all = absurd (all 0 (kinds.Busy call) refl)
refused_at (kinds.Refused fault ∷ peers) zero lt all = (fault, refl)
refused_at (first ∷ peers) (suc at) lt all = refused_at peers at (omega (arith, lt)) (λ i peer is. all (suc i) peer is)

-- one of the addresses
some_in : {X : Type 0} (xs : List X) → 0 < length xs → (x : X) × Contains xs x
some_in [] some = absurd (omega (arith, some))
some_in (x ∷ xs) some = (x, first_in x xs)

-- ---- a link that was given back

-- what was heard on it carries the sections of the DAG's own traversal, which fit and pass no limit
record IsServedOn (d : Dag) (o : Over) : Type 0 where
  s : Dag
  text : List ℕ
  fits : Fits s o.query (block_list o.query d) text
  within : IsWithinLimits o.query o.limits s
  blocks_of : (section : Section) → Contains (block_list o.query d) section → Contains (blocks d) section
  carries : (heard : List ℕ) → HasHeard o.link heard → CarriesWithin o.query o.limits heard o.link.over (block_list o.query d)

-- where all peers serve it rightly each does
served_at : (setup : Setup) (d : Dag) (dial : Dialling) → IsServed setup d dial → (addr : List ℕ) → Contains setup.addrs addr → IsServedAt setup d addr dial
served_at setup d dial h addr there = record {
  peer = there;
  by = record {
    sound = h.by.sound;
    root = h.by.root;
    one_each = h.by.one_each;
    before = h.by.before;
    calls = h.by.calls;
    old = h.by.old;
    new = h.by.new;
    own = λ k call lt q limits asked said. h.by.own k call lt q limits addr asked there said;
  };
}

module _ (laws : ServedLaws) (setup : Setup) (d : Dag) (dial : Dialling) (quiet : DialRose dial → ⊥) (overs : List Over) (missed : ℕ) (tells : DialTells dial overs missed)
    (are : All (IsOver setup dial.dialled) overs) where
  whole : (o : Over) → Contains overs o → is_failed o.link.faults ≡ false
  whole o among = by (is_failed o.link.faults) refl
    where
      by : (b : Bool) → is_failed o.link.faults ≡ b → is_failed o.link.faults ≡ false
      by false e = e
      by true e = absurd (quiet (tells.rose (inr (o, among, e))))

  -- ---- a peer that serves the DAG rightly

  module _ (addr : List ℕ) (served : IsServedAt setup d addr dial) where
    own_within : (q : QueryParts) (limits : LimitNumbers) (s : Dag) (text : List ℕ) → IsWithinLimits q limits d → Fits s q (block_list q d) text
        → ((section : Section) → Contains (block_list q d) section → Contains (blocks d) section) → AreWithin (counts q d) (counts q s) ⊎ CollisionPair (block_list q s) d
        → IsWithinLimits q limits s
    own_within q limits s text within fits held (inl fewer) = within_both limits (counts q d) (counts q s) within fewer
    own_within q limits s text within fits held (inr pair) =
        absurd (no_pair (block_list q d) d served.by.one_each held (subst (λ (l : List Section). CollisionPair l d) fits.list pair))

    served_on : (o : Over) → Contains overs o → o.addr ≡ addr → IsServedOn d o
    served_on o among at =
        let is = All-contains (IsOver setup dial.dialled) overs o are among in
        let (call, new, e) = has_call dial overs missed served.by.before served.by.calls o tells served.by.old served.by.new among in
        let of = tells_of o.link call e in
        let said = subst (λ (said : Option (List ℕ)). IfSome said (λ told. told ≡ request_text o.query o.addr)) of.said (is.whole (whole o among)) in
        let own = All-contains (IsOwnCallTo setup d addr) served.by.calls call served.by.own new o.query o.limits is.asked
        (said ∙ ap (λ (a : List ℕ). request_text o.query a) at) in
        let q = of_root setup o.query o.limits is.asked in
        let root = served.by.root ∙ sym q.root_is in
        let (s, fits) = laws.fits o.query d own.text served.by.sound root (subst (λ (b : Bool). IfOnce b (HasOneBlockEach (opened_list o.query d))) (sym q.dups) tt) own.answers in
        let held = λ (section : Section) (there : Contains (block_list o.query d) section).
        All-contains (Contains (blocks d)) (block_list o.query d) section (laws.blocks o.query d served.by.sound root) there in
        record {
          s = s;
          text = own.text;
          fits = fits;
          within = own_within o.query o.limits s own.text own.within fits held (laws.counted o.query d s served.by.sound root fits.right);
          blocks_of = held;
          carries = λ heard is_heard.
              subst₂ (λ (l : List ℕ) (over : Bool). CarriesWithin o.query o.limits l over (block_list o.query d))
              (subst (λ (heard_on : Option (List ℕ)). IfSome heard_on (λ told. told ≡ heard)) of.heard is_heard) of.over own.carries;
        }

    -- so it wasn't refused for a link to it
    unrefused : (o : Over) (fault : FetchFault) → Contains overs o → o.addr ≡ addr → o.refusal ≡ Some fault → ⊥
    unrefused o fault among at is = by ((All-contains (IsOver setup dial.dialled) overs o are among).why fault is)
      where
        by : IsSpoilt o fault → ⊥
        by (inl (failed, e)) = quiet (tells.rose (inr (o, among, failed)))
        by (inr r) =
            let on = served_on o among at in
            let carries = subst (λ (l : List ℕ). CarriesWithin o.query o.limits l o.link.over (block_list o.query d)) (ap (λ (l : List ℕ). r.front ++ l) (sym (append-nil r.more)))
            (on.carries (r.front ++ r.more) r.heard) in
            let own = laws.taken o.query o.limits on.s (block_list o.query d) on.text r.front r.more [] r.ended o.link.over r.sections r.text fault on.fits on.within carries
            (λ e. let (over, none) = r.last e in (over, none, refl)) r.refused in
            laws.no_peer o.query o.limits r.front r.more r.ended r.sections r.text
            (subst (λ (f : FetchFault). RefusedBy o.query o.limits r.front r.more r.ended r.sections r.text f) (not_own fault own r.own) r.refused)

    -- nor for a missed dial
    uncaused : (peers : List (Peer Client)) → AreCaused setup dial overs missed peers → (peer : ℕ) (fault : FetchFault) → slice_get setup.addrs peer ≡ Some addr
        → slice_get peers peer ≡ Some (kinds.Refused fault) → ⊥
    uncaused peers caused peer fault at is = let r = caused peer fault is in by (same_Some r.addr addr (sym r.addr_is ∙ at)) r.why
      where
        by : {other : List ℕ} → other ≡ addr → ((0 < missed) × (fault ≡ fetches.PeerFault)) ⊎ ((o : Over) × Contains overs o × (o.addr ≡ other) × (o.refusal ≡ Some fault)) → ⊥
        by same (inl (dials, e)) = quiet (tells.rose (inl dials))
        by same (inr (o, among, e, refusal)) = unrefused o fault among (e ∙ same) refusal

    isnt_refused : (now : SwarmState) (out : Output) (connections : List Connection) (result : Result ⊤ SwarmFault) → EndsWith setup now dial out result connections overs missed
        → IsntRefused setup now addr result
    isnt_refused now out connections (Ok done) ends = uncaused now.jobs.peers ends.caused
    isnt_refused now out connections (Err faults.NoPeerLeft) ends =
        let (at, lt, is) = served.peer in
        let (fault, refused) = refused_at now.jobs.peers at (omega (arith, lt, ends.peers)) ends.refused in
        uncaused now.jobs.peers ends.caused at fault (slice_get-get_or setup.addrs at addr lt ∙ ap Some is) refused
    isnt_refused now out connections (Err _) ends = tt

  -- ---- all peers do

  module _ (served : IsServed setup d dial) where
    -- what was accepted on a link is blocks of the DAG
    accepted_blocks : (c : Connection) → WasHeardOn overs c → (section : Section) → Contains c.sections section → Contains (blocks d) section
    accepted_blocks c h section there =
        let peer = (All-contains (IsOver setup dial.dialled) overs h.over are h.among).peer in
        let on = served_on h.over.addr (served_at setup d dial served h.over.addr peer) h.over h.among refl in
        let a = subst (λ (q : QueryParts). IsHeardAnswer q h.over.limits c.heard c.sections) (sym h.query) h.answered in
        let carries = subst (λ (l : List ℕ). CarriesWithin h.over.query h.over.limits l h.over.link.over (block_list h.over.query d)) a.whole (on.carries c.heard h.heard) in
        let same = (laws.answered h.over.query h.over.limits on.s (block_list h.over.query d) on.text a.front a.more a.ended h.over.link.over c.sections a.text on.fits carries a.last a.answered).0 in
        on.blocks_of section (subst (λ (l : List Section). Contains l section) same there)

    module _ (now : SwarmState) (out : Output) (connections : List Connection) (heard : All (WasHeardOn overs) connections) where
      unpaired : CollisionPair (all_sections connections) d → ⊥
      unpaired = no_pair (all_sections connections) d served.by.one_each (λ section there.
          let (c, among, has) = in_one connections section there in
          accepted_blocks c (All-contains (WasHeardOn overs) connections c heard among) section has)

      says_only : (result : Result ⊤ SwarmFault) → (says : Says connections out result d) → SaysOfEnd result says.written d
      says_only result says = by says.says
        where
          by : (IsFrontOfFile says.written d × SaysOfEnd result says.written d) ⊎ CollisionPair (all_sections connections) d → SaysOfEnd result says.written d
          by (inl (front, is)) = is
          by (inr pair) = absurd (unpaired pair)

      done_for : 0 < length setup.addrs → (result : Result ⊤ SwarmFault) → EndsWith setup now dial out result connections overs missed → Says connections out result d → IsDoneFor d out result
      done_for some (Ok done) ends says = subst (λ (l : List ℕ). Put l out) (says_only (Ok done) says).1 says.put
      done_for some (Err faults.NoPeerLeft) ends says =
          let (addr, there) = some_in setup.addrs some in
          absurd (isnt_refused addr (served_at setup d dial served addr there) now out connections (Err faults.NoPeerLeft) ends)
      done_for some (Err faults.NotFile) ends says = says_only (Err faults.NotFile) says served.file
      done_for some (Err (faults.BadRoot fault)) ends says = says_only (Err (faults.BadRoot fault)) says
      done_for some (Err (faults.Limit kind number)) ends says =
          let above = (says_only (Err (faults.Limit kind number)) says).1 in
          let number_is = ends.1 in
          let few = served.few in
          omega (arith, above, number_is, few)
      done_for some (Err faults.SinkFault) ends says = ends.front.rose
      done_for some (Err faults.OutOfMemory) ends says = tt

-- ---- a run

module _ (laws : ServedLaws) (setup : Setup) (now : SwarmState) (dial : Dialling) (out : Output) (result : Result ⊤ SwarmFault) (ends : SwarmEnds setup now dial out result) where
  pub right : (d : Dag) (addr : List ℕ) → IsServedAt setup d addr dial → (DialRose dial → ⊥) → IsntRefused setup now addr result
  right d addr is quiet =
      let over = run_over setup now dial out result ends in
      isnt_refused laws setup d dial quiet over.overs over.missed over.tells over.overs_are addr is now out over.connections result over.ends_so

  pub served : 0 < setup.part → 0 < length setup.addrs → (d : Dag) → IsServed setup d dial → (DialRose dial → ⊥) → IsDoneFor d out result
  served part some d is quiet =
      let over = run_over setup now dial out result ends in
      done_for laws setup d dial quiet over.overs over.missed over.tells over.overs_are is now out over.connections over.heard some result over.ends_so
      (end_says laws.sound setup part d is.by.sound is.by.root over.connections out now dial over.overs over.missed result over.ends_so)
