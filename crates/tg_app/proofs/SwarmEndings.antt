-- What each exit status says of `swarm`.
use Rattle.std.proofs.Common.{All, Contains, Err, List, None, Ok, Option, Result, Some, [], ap, arith, false, inl, inr, nat_eq, refl, slice_get, subst, suc, sym, true, zero, ℕ, ◌<◌, ◌∙◌, ◌≡◌, ◌≢◌, ◌≤◌, ◌⊎◌, ◌∷◌}
use Rattle.std.proofs.lemmas.List.Elements.{All-contains}
use Rattle.std.specs.Prelude.{⊤}
use Rattle.tg_app.proofs.PathlessReplies.{IsNoReplyFault, no_reply}
use Rattle.tg_app.proofs.Statuses.{differs}
use Rattle.tg_app.proofs.VerifyEndings.{unput_of}
use Rattle.tg_app.specs.Commands.{AllUntouched, CommandEnds, NoMemoryEnds}
use Rattle.tg_app.specs.Objects.{DialUse, Objects}
use Rattle.tg_app.specs.Runs.{Run, SwarmRun}
use Rattle.tg_app.specs.Swarms.{HasSwarmPair, IsSwarmEnd, IsSwarmRefusal, IsWholeSwarm, SwarmAnswers, SwarmRan, SwarmSays, SwarmUnbegun, VouchedSwarm, first_status, peer_status, swarm_setup}
use Rattle.tg_commands.specs.Blocks.{OutputUntouched}
use Rattle.tg_commands.specs.Lines.{Says, exit_status, status_of}
use Rattle.tg_commands.specs.declared.fault.CommandFault.TheVariants as refusals
use Rattle.tg_commands.specs.declared.fault.CommandFault.{CommandFault}
use Rattle.tg_dials.specs.Dials.{DialRose, Dialling}
use Rattle.tg_fetch.specs.declared.fault.FetchFault.TheVariants as fetches
use Rattle.tg_fetch.specs.declared.fault.FetchFault.{FetchFault}
use Rattle.tg_links.specs.Views.{is_failed}
use Rattle.tg_model.specs.Content.{content}
use Rattle.tg_model.specs.Dag.{Dag, root_cid}
use Rattle.tg_model.specs.Queries.{QueryParts}
use Rattle.tg_model.specs.Sound.{IsSound}
use Rattle.tg_model.specs.declared.fault.BlockFault.{BlockFault}
use Rattle.tg_model.specs.declared.limits.LimitKind.{LimitKind}
use Rattle.tg_model.specs.LimitNumbers.{standard}
use Rattle.tg_model_laws.specs.FileSizes.{HasFileRoot, root_total}
use Rattle.tg_streams.specs.Streams.{Output, OutputQuiet, OutputRose, Put}
use Rattle.tg_swarm.specs.Laws.{IsFrontOfFile}
use Rattle.tg_swarm.specs.Peers.{refusals_of}
use Rattle.tg_swarm.specs.Swarms.{IsPeersOwn, SwarmState, query_for}
use Rattle.tg_swarm.specs.declared.fault.SwarmFault.TheVariants as faults
use Rattle.tg_swarm.specs.declared.fault.SwarmFault.{SwarmFault}
use Rattle.tg_swarm.specs.declared.peers.Peer.TheVariants as kinds
use Rattle.tg_swarm.specs.declared.peers.Peer.{Peer}
use Rattle.tg_swarm.specs.declared.swarm.Plan.TheVariants as plans
use Rattle.tg_swarm.specs.declared.swarm.Plan.{Plan}
use Rattle.tg_swarming.specs.Counts.{AllBack}
use Rattle.tg_swarming.specs.Rounds.{DialTells, IsOver, IsRefusedFor, IsSpoilt, Over, Setup, SwarmEnds}
use Rattle.tg_swarming.specs.Sound.{IsDoneFor, IsServed, IsServedAt, IsntRefused, SaysOfEnd}
use Rattle.tg_verify.specs.declared.fault.Refusal.TheVariants as verifiers
use Rattle.tg_words.specs.SwarmLines.{SwarmParts}
use Rattle.tg_words.specs.declared.Command.TheVariants.{Swarm}

-- ---- the status of peers that were all refused

-- that of a reply that wasn't accepted; or 5, where a fault of the dial was counted
abbrev IsReplyStatus : ℕ → Type 0
IsReplyStatus n = (n ≡ 3) ⊎ ((n ≡ 4) ⊎ (n ≡ 7))

abbrev IsPeersStatus : Dialling → ℕ → Type 0
IsPeersStatus dial n = IsReplyStatus n ⊎ ((n ≡ 5) × DialRose dial)

peers_rose : (dial : Dialling) (n : ℕ) → n ≡ 5 → IsPeersStatus dial n → DialRose dial
peers_rose dial n e (inl (inl three)) = absurd (differs 3 5 refl (sym three ∙ e))
peers_rose dial n e (inl (inr (inl four))) = absurd (differs 4 5 refl (sym four ∙ e))
peers_rose dial n e (inl (inr (inr seven))) = absurd (differs 7 5 refl (sym seven ∙ e))
peers_rose dial n e (inr five) = five.1

-- another status
peers_apart : (dial : Dialling) (n : ℕ) → nat_eq 3 n ≡ false → nat_eq 4 n ≡ false → nat_eq 5 n ≡ false → nat_eq 7 n ≡ false → IsPeersStatus dial n → ⊥
peers_apart dial n not_3 not_4 not_5 not_7 (inl (inl three)) = differs 3 n not_3 (sym three)
peers_apart dial n not_3 not_4 not_5 not_7 (inl (inr (inl four))) = differs 4 n not_4 (sym four)
peers_apart dial n not_3 not_4 not_5 not_7 (inl (inr (inr seven))) = differs 7 n not_7 (sym seven)
peers_apart dial n not_3 not_4 not_5 not_7 (inr five) = differs 5 n not_5 (sym five.0)

reply_status : (fault : FetchFault) → (IsNoReplyFault fault → ⊥) → IsPeersOwn fault → IsReplyStatus (peer_status fault)
reply_status (fetches.Refused (verifiers.Limit kind number)) can own = inr (inr refl)
reply_status (fetches.Refused (verifiers.NotFolder segment)) can own = absurd (can tt)
reply_status (fetches.Refused (verifiers.NotThere segment)) can own = absurd (can tt)
reply_status (fetches.Refused verifiers.SinkFault) can own = absurd own
reply_status (fetches.Refused verifiers.OutOfMemory) can own = absurd (can tt)
reply_status (fetches.Refused fault) can own = inl refl
reply_status (fetches.Status status) can own = inr (inl refl)
reply_status fetches.PeerFault can own = absurd (can tt)
reply_status fetches.KeepFault can own = absurd own
reply_status fetches.OutOfMemory can own = absurd own
reply_status fault can own = inl refl

pathless : (setup : Setup) (plan : Plan) (job : ℕ) → (query_for setup.root setup.part plan job).path ≡ []
pathless setup plans.Root job = refl
pathless setup (plans.Parts total) job = refl

module _ (setup : Setup) (dial : Dialling) where
  spoilt_status : (o : Over) (fault : FetchFault) → o.query.path ≡ [] → (is_failed o.link.faults ≡ true → DialRose dial) → IsSpoilt o fault
      → IsPeersStatus dial (peer_status fault)
  spoilt_status o fault none rose (inl failed) = inr (ap peer_status failed.1, rose failed.0)
  spoilt_status o fault none rose (inr h) =
      inl (reply_status fault (λ never. no_reply o.query o.limits h.sections h.text fault none never h.front h.more h.ended h.refused) h.own)

  over_status : (o : Over) (fault : FetchFault) → IsOver setup dial.dialled o → o.refusal ≡ Some fault → (is_failed o.link.faults ≡ true → DialRose dial)
      → IsPeersStatus dial (peer_status fault)
  over_status o fault over is rose =
      let asked = over.asked in
      spoilt_status o fault (ap (λ (q : QueryParts). q.path) asked.query_is ∙ pathless setup asked.plan asked.job) rose (over.why fault is)

  refused_status : (overs : List Over) (missed peer : ℕ) (fault : FetchFault) → DialTells dial overs missed → All (IsOver setup dial.dialled) overs
      → IsRefusedFor setup dial overs missed peer fault → IsPeersStatus dial (peer_status fault)
  refused_status overs missed peer fault tells all h = by h.why
    where
      by : ((0 < missed) × (fault ≡ fetches.PeerFault)) ⊎ ((o : Over) × Contains overs o × (o.addr ≡ h.addr) × (o.refusal ≡ Some fault)) → IsPeersStatus dial (peer_status fault)
      by (inl (some, is)) = inr (ap peer_status is, tells.rose (inl some))
      by (inr (o, among, at, is)) =
          over_status o fault (All-contains (IsOver setup dial.dialled) overs o all among) is (λ failed. tells.rose (inr (o, among, failed)))

-- the first of them
record FirstRefused {C : Type 0} (peers : List (Peer C)) : Type 0 where
  peer : ℕ
  fault : FetchFault
  is : slice_get peers peer ≡ Some (kinds.Refused fault)
  status : first_status (refusals_of peers) ≡ peer_status fault

first_behind : {C : Type 0} (first : Peer C) (peers : List (Peer C)) → refusals_of (first ∷ peers) ≡ refusals_of peers → FirstRefused peers → FirstRefused (first ∷ peers)
first_behind first peers same h = record { peer = suc h.peer; fault = h.fault; is = h.is; status = ap first_status same ∙ h.status }

first_refused : {C : Type 0} (peers : List (Peer C)) → (first_status (refusals_of peers) ≡ 3) ⊎ FirstRefused peers
first_refused [] = inl refl
first_refused (kinds.Idle ∷ peers) = elim (first_refused peers) [ inl three ↦ inl three | inr h ↦ inr (first_behind kinds.Idle peers refl h) ]
first_refused (kinds.Busy call ∷ peers) = elim (first_refused peers) [ inl three ↦ inl three | inr h ↦ inr (first_behind (kinds.Busy call) peers refl h) ]
first_refused (kinds.Refused fault ∷ peers) = inr (record { peer = zero; fault = fault; is = refl; status = refl })

peers_status : (setup : Setup) (now : SwarmState) (dial : Dialling) (out : Output) → SwarmEnds setup now dial out (Err faults.NoPeerLeft)
    → IsPeersStatus dial (first_status (refusals_of now.jobs.peers))
peers_status setup now dial out ends = elim (first_refused now.jobs.peers) [ inl three ↦ inl (inl three) | inr h ↦ by h ]
  where
    by : FirstRefused now.jobs.peers → IsPeersStatus dial (first_status (refusals_of now.jobs.peers))
    by h = subst (IsPeersStatus dial) (sym h.status)
        (refused_status setup dial ends.overs ends.missed h.peer h.fault ends.tells ends.overs_are (ends.ends_so.caused h.peer h.fault h.is))

-- ---- the status of each fault

-- where memory is found for the words of the peers' refusals
abbrev IsFaultStatus : Dialling → SwarmFault → ℕ → Type 0
IsFaultStatus dial faults.NoPeerLeft n = IsPeersStatus dial n
IsFaultStatus dial faults.NotFile n = n ≡ 9
IsFaultStatus dial (faults.BadRoot fault) n = n ≡ 3
IsFaultStatus dial (faults.Limit kind number) n = n ≡ 7
IsFaultStatus dial faults.SinkFault n = n ≡ 6
IsFaultStatus dial faults.OutOfMemory n = n ≡ 8

never_0 : (dial : Dialling) (fault : SwarmFault) → IsFaultStatus dial fault 0 → ⊥
never_0 dial faults.NoPeerLeft is = peers_apart dial 0 refl refl refl refl is
never_0 dial fault is = cc

never_2 : (dial : Dialling) (fault : SwarmFault) → IsFaultStatus dial fault 2 → ⊥
never_2 dial faults.NoPeerLeft is = peers_apart dial 2 refl refl refl refl is
never_2 dial fault is = cc

rose_at_5 : (dial : Dialling) (fault : SwarmFault) → IsFaultStatus dial fault 5 → DialRose dial
rose_at_5 dial faults.NoPeerLeft is = peers_rose dial 5 refl is
rose_at_5 dial fault is = cc

sink_at_6 : (dial : Dialling) (fault : SwarmFault) → IsFaultStatus dial fault 6 → fault ≡ faults.SinkFault
sink_at_6 dial faults.SinkFault is = refl
sink_at_6 dial faults.NoPeerLeft is = absurd (peers_apart dial 6 refl refl refl refl is)
sink_at_6 dial fault is = cc

file_at_9 : (dial : Dialling) (fault : SwarmFault) → IsFaultStatus dial fault 9 → fault ≡ faults.NotFile
file_at_9 dial faults.NotFile is = refl
file_at_9 dial faults.NoPeerLeft is = absurd (peers_apart dial 9 refl refl refl refl is)
file_at_9 dial fault is = cc

-- it is that of the fault, or memory was wanted
refusal_status : (setup : Setup) (now : SwarmState) (dial : Dialling) (out : Output) (fault : SwarmFault) (refusal : CommandFault) → SwarmEnds setup now dial out (Err fault)
    → IsSwarmRefusal (refusals_of now.jobs.peers) fault refusal → IsFaultStatus dial fault (status_of refusal) ⊎ (refusal ≡ refusals.OutOfMemory)
refusal_status setup now dial out faults.NoPeerLeft refusal ends (inl is) = inl (subst (IsPeersStatus dial) (sym (ap status_of is)) (peers_status setup now dial out ends))
refusal_status setup now dial out faults.NoPeerLeft refusal ends (inr is) = inr is
refusal_status setup now dial out faults.NotFile refusal ends is = inl (ap status_of is)
refusal_status setup now dial out (faults.BadRoot fault) refusal ends is = inl (ap status_of is)
refusal_status setup now dial out (faults.Limit kind number) refusal ends is = inl (ap status_of is)
refusal_status setup now dial out faults.SinkFault refusal ends is = inl (ap status_of is)
refusal_status setup now dial out faults.OutOfMemory refusal ends is = inr is

memory_at_8 : (setup : Setup) (now : SwarmState) (dial : Dialling) (out : Output) (fault : SwarmFault) (refusal : CommandFault) → status_of refusal ≡ 8
    → SwarmEnds setup now dial out (Err fault) → IsSwarmRefusal (refusals_of now.jobs.peers) fault refusal → refusal ≡ refusals.OutOfMemory
memory_at_8 setup now dial out faults.OutOfMemory refusal e ends is = is
memory_at_8 setup now dial out faults.NoPeerLeft refusal e ends (inl is) =
    absurd (peers_apart dial 8 refl refl refl refl (subst (IsPeersStatus dial) (sym (ap status_of is) ∙ e) (peers_status setup now dial out ends)))
memory_at_8 setup now dial out faults.NoPeerLeft refusal e ends (inr is) = is
memory_at_8 setup now dial out fault refusal e ends is = cc

-- ---- what a refusal tells

-- that the root's block has no kind
no_kind : (peers : List FetchFault) (fault : SwarmFault) (refusal : CommandFault) (bad : BlockFault) (written : List ℕ) (d : Dag) → IsSwarmRefusal peers fault refusal
    → refusal ≡ refusals.BadRoot bad → SaysOfEnd (Err fault) written d → ⊥
no_kind peers (faults.BadRoot fault) refusal bad written d is e says = says
no_kind peers faults.NoPeerLeft refusal bad written d (inl is) e says = cc
no_kind peers faults.NoPeerLeft refusal bad written d (inr is) e says = cc
no_kind peers fault refusal bad written d is e says = cc

-- that the file has more bytes than the limit
too_large : (peers : List FetchFault) (fault : SwarmFault) (refusal : CommandFault) (kind : LimitKind) (number : ℕ) (written : List ℕ) (d : Dag) → IsSwarmRefusal peers fault refusal
    → refusal ≡ refusals.Limit kind number → SaysOfEnd (Err fault) written d → HasFileRoot d × (number < root_total d)
too_large peers (faults.Limit limit few) refusal kind number written d is e says =
    let same : few ≡ number = cc in
    (says.0, subst (λ (n : ℕ). n < root_total d) same says.1)
too_large peers faults.NoPeerLeft refusal kind number written d (inl is) e says = cc
too_large peers faults.NoPeerLeft refusal kind number written d (inr is) e says = cc
too_large peers fault refusal kind number written d is e says = cc

-- and not where it has no more
not_above : (number total most : ℕ) → number ≡ most → number < total → total ≤ most → ⊥
not_above number total most is above few = omega (arith, is, above, few)

-- ---- how it ended

-- nothing was done; or all of the file was put; or it ended by this fault, which the refusal tells
data EndedBy (parts : SwarmParts) (dial : DialUse) (out : Output) (end : Option CommandFault) : Type 0 where
  undone : SwarmUnbegun dial out end → EndedBy parts dial out end
  whole : (now : SwarmState) → end ≡ None → SwarmEnds (swarm_setup parts) now dial.dialling out (Ok tt) → EndedBy parts dial out end
  refused : (now : SwarmState) (fault : SwarmFault) (refusal : CommandFault) → end ≡ Some refusal → IsSwarmRefusal (refusals_of now.jobs.peers) fault refusal
      → SwarmEnds (swarm_setup parts) now dial.dialling out (Err fault) → EndedBy parts dial out end

module _ (parts : SwarmParts) (dial : DialUse) (out : Output) (end : Option CommandFault) where
  ended : SwarmAnswers parts dial out end → EndedBy parts dial out end
  ended (inl h) = EndedBy.undone h
  ended (inr ran) = by ran.result ran.ends ran.end_is
    where
      by : (result : Result ⊤ SwarmFault) → SwarmEnds (swarm_setup parts) ran.now dial.dialling out result → IsSwarmEnd (refusals_of ran.now.jobs.peers) result end
          → EndedBy parts dial out end
      by (Ok done) ends is = EndedBy.whole ran.now is ends
      by (Err fault) ends (refusal, is, tells) = EndedBy.refused ran.now fault refusal is tells ends

  unbegun_isnt : (n : ℕ) → nat_eq 8 n ≡ false → exit_status end ≡ n → SwarmUnbegun dial out end → ⊥
  unbegun_isnt n apart e h = differs 8 n apart (sym (ap exit_status h.is) ∙ e)

  done_isnt : (n : ℕ) → nat_eq 0 n ≡ false → exit_status end ≡ n → end ≡ None → ⊥
  done_isnt n apart e is = differs 0 n apart (sym (ap exit_status is) ∙ e)

  module _ (now : SwarmState) (fault : SwarmFault) (refusal : CommandFault) (is : end ≡ Some refusal) (tells : IsSwarmRefusal (refusals_of now.jobs.peers) fault refusal)
      (ends : SwarmEnds (swarm_setup parts) now dial.dialling out (Err fault)) where
    fault_at : (n : ℕ) → nat_eq n 8 ≡ false → exit_status end ≡ n → IsFaultStatus dial.dialling fault n
    fault_at n apart e = elim (refusal_status (swarm_setup parts) now dial.dialling out fault refusal ends tells) [
      | inl status ↦ subst (IsFaultStatus dial.dialling fault) (sym (ap exit_status is) ∙ e) status
      | inr memory ↦ absurd (differs n 8 apart (sym e ∙ (ap exit_status is ∙ ap status_of memory)))
    ]

    -- the end of this fault
    ends_for : (other : SwarmFault) → fault ≡ other → SwarmEnds (swarm_setup parts) now dial.dialling out (Err other)
    ends_for other same = subst (λ (f : SwarmFault). SwarmEnds (swarm_setup parts) now dial.dialling out (Err f)) same ends

  whole_by : exit_status end ≡ 0 → EndedBy parts dial out end → IsWholeSwarm parts dial.dialling out
  whole_by e (EndedBy.undone h) = absurd (unbegun_isnt 0 refl e h)
  whole_by e (EndedBy.whole now is ends) = (now, ends)
  whole_by e (EndedBy.refused now fault refusal is tells ends) = absurd (never_0 dial.dialling fault (fault_at now fault refusal is tells ends 0 refl e))

  no_usage_by : exit_status end ≡ 2 → EndedBy parts dial out end → ⊥
  no_usage_by e (EndedBy.undone h) = unbegun_isnt 2 refl e h
  no_usage_by e (EndedBy.whole now is ends) = done_isnt 2 refl e is
  no_usage_by e (EndedBy.refused now fault refusal is tells ends) = never_2 dial.dialling fault (fault_at now fault refusal is tells ends 2 refl e)

  rose_by : exit_status end ≡ 5 → EndedBy parts dial out end → DialRose dial.dialling
  rose_by e (EndedBy.undone h) = absurd (unbegun_isnt 5 refl e h)
  rose_by e (EndedBy.whole now is ends) = absurd (done_isnt 5 refl e is)
  rose_by e (EndedBy.refused now fault refusal is tells ends) = rose_at_5 dial.dialling fault (fault_at now fault refusal is tells ends 5 refl e)

  fault_by : exit_status end ≡ 6 → EndedBy parts dial out end → OutputRose out
  fault_by e (EndedBy.undone h) = absurd (unbegun_isnt 6 refl e h)
  fault_by e (EndedBy.whole now is ends) = absurd (done_isnt 6 refl e is)
  fault_by e (EndedBy.refused now fault refusal is tells ends) =
      (ends_for now fault refusal is tells ends faults.SinkFault (sink_at_6 dial.dialling fault (fault_at now fault refusal is tells ends 6 refl e))).ends_so.front.rose

  nothing_by : exit_status end ≡ 9 → EndedBy parts dial out end → OutputUntouched out
  nothing_by e (EndedBy.undone h) = absurd (unbegun_isnt 9 refl e h)
  nothing_by e (EndedBy.whole now is ends) = absurd (done_isnt 9 refl e is)
  nothing_by e (EndedBy.refused now fault refusal is tells ends) =
      let stops = (ends_for now fault refusal is tells ends faults.NotFile (file_at_9 dial.dialling fault (fault_at now fault refusal is tells ends 9 refl e))).ends_so in
      record { unput = unput_of [] out refl stops.put; quiet = stops.quiet }

  memory_by : exit_status end ≡ 8 → EndedBy parts dial out end → end ≡ Some refusals.OutOfMemory
  memory_by e (EndedBy.undone h) = h.is
  memory_by e (EndedBy.whole now is ends) = absurd (done_isnt 8 refl e is)
  memory_by e (EndedBy.refused now fault refusal is tells ends) =
      is ∙ ap Some (memory_at_8 (swarm_setup parts) now dial.dialling out fault refusal (sym (ap exit_status is) ∙ e) ends tells)

  quiet_by : exit_status end ≢ 6 → EndedBy parts dial out end → OutputQuiet out
  quiet_by ne (EndedBy.undone h) = h.unput.quiet
  quiet_by ne (EndedBy.whole now is ends) = ends.ends_so.quiet
  quiet_by ne (EndedBy.refused now faults.NoPeerLeft refusal is tells ends) = ends.ends_so.front.quiet
  quiet_by ne (EndedBy.refused now faults.NotFile refusal is tells ends) = ends.ends_so.quiet
  quiet_by ne (EndedBy.refused now (faults.BadRoot fault) refusal is tells ends) = ends.ends_so.quiet
  quiet_by ne (EndedBy.refused now (faults.Limit kind number) refusal is tells ends) = ends.ends_so.2.quiet
  quiet_by ne (EndedBy.refused now faults.SinkFault refusal is tells ends) = absurd (ne (ap exit_status is ∙ ap status_of tells))
  quiet_by ne (EndedBy.refused now faults.OutOfMemory refusal is tells ends) = ends.ends_so.quiet

  -- ---- for the words of any command

  -- it doesn't end as words that are no command
  pub no_swarm_usage : exit_status end ≡ 2 → SwarmAnswers parts dial out end → ⊥
  no_swarm_usage e answers = no_usage_by e (ended answers)

  pub swarm_fault : exit_status end ≡ 6 → SwarmAnswers parts dial out end → OutputRose out
  swarm_fault e answers = fault_by e (ended answers)

  pub swarm_quiet : exit_status end ≢ 6 → SwarmAnswers parts dial out end → OutputQuiet out
  swarm_quiet ne answers = quiet_by ne (ended answers)

  -- and no refusal of the peers has the status of want of memory
  pub swarm_memory : exit_status end ≡ 8 → SwarmAnswers parts dial out end → end ≡ Some refusals.OutOfMemory
  swarm_memory e answers = memory_by e (ended answers)

  -- ---- beside a sound DAG

  says_by : (d : Dag) (written : List ℕ) (now : SwarmState) (result : Result ⊤ SwarmFault) → SwarmEnds (swarm_setup parts) now dial.dialling out result
      → IsSwarmEnd (refusals_of now.jobs.peers) result end → IsFrontOfFile written d → SaysOfEnd result written d → SwarmSays d written (exit_status end) end
  says_by d written now (Ok done) ends is front says = record {
    front = front;
    whole = λ zero. says;
    no_file = λ nine. absurd (done_isnt 9 refl nine is);
    reads = λ bad e. let wrong : None ≡ Some (refusals.BadRoot bad) = sym is ∙ e in cc;
    large = λ kind number e. let wrong : None ≡ Some (refusals.Limit kind number) = sym is ∙ e in cc;
  }
  says_by d written now (Err fault) ends (refusal, is, tells) front says = record {
    front = front;
    whole = λ zero. absurd (never_0 dial.dialling fault (fault_at now fault refusal is tells ends 0 refl zero));
    no_file = λ nine. subst (λ (f : SwarmFault). SaysOfEnd (Err f) written d) (file_at_9 dial.dialling fault (fault_at now fault refusal is tells ends 9 refl nine)) says;
    reads = λ bad e. no_kind (refusals_of now.jobs.peers) fault refusal bad written d tells (told _ e) says;
    large = λ kind number e. too_large (refusals_of now.jobs.peers) fault refusal kind number written d tells (told _ e) says;
  }
    where
      told : (other : CommandFault) → end ≡ Some other → refusal ≡ other
      told other e = let same : Some refusal ≡ Some other = sym is ∙ e in cc

  vouched_of : (d : Dag) (err : Output) (status : ℕ) → IsSound d → root_cid d ≡ parts.root → status ≡ exit_status end → Says end err → SwarmRan parts dial.dialling out end
      → VouchedSwarm parts d dial.dialling out err status
  vouched_of d err status sound root e line ran =
      let did = ran.sound d sound root in
      record {
        connections = did.connections;
        told = did.told;
        received = did.received;
        written = did.written;
        put = did.put;
        end = end;
        status_is = e;
        line = line;
        says = elim did.says [
          | inl says ↦ inl (subst (λ (n : ℕ). SwarmSays d did.written n end) (sym e) (says_by d did.written ran.now ran.result ran.ends ran.end_is says.0 says.1))
          | inr pair ↦ inr pair
        ];
      }

  -- ---- peers that serve rightly

  -- a counted fault or want of memory is left
  done_for : (peers : List FetchFault) (d : Dag) (result : Result ⊤ SwarmFault) → (OutputRose out → ⊥) → IsSwarmEnd peers result end → IsDoneFor d out result
      → (exit_status end ≡ 8) ⊎ ((exit_status end ≡ 0) × Put (content d) out)
  done_for peers d (Ok done) no_out is own = inr (ap exit_status is, own)
  done_for peers d (Err faults.SinkFault) no_out is own = absurd (no_out own)
  done_for peers d (Err faults.OutOfMemory) no_out (refusal, is, tells) own = inl (ap exit_status is ∙ ap status_of tells)
  done_for peers d (Err fault) no_out is own = absurd own

  answered_of : (d : Dag) → IsServed (swarm_setup parts) d dial.dialling → (DialRose dial.dialling → ⊥) → (OutputRose out → ⊥) → SwarmAnswers parts dial out end
      → (exit_status end ≡ 8) ⊎ ((exit_status end ≡ 0) × Put (content d) out)
  answered_of d served no_dial no_out (inl h) = inl (ap exit_status h.is)
  answered_of d served no_dial no_out (inr ran) = done_for (refusals_of ran.now.jobs.peers) d ran.result no_out ran.end_is (ran.own d served no_dial)

  back_of : exit_status end ≢ 8 → SwarmAnswers parts dial out end → AllBack dial.dialling
  back_of ne (inl h) = absurd (ne (ap exit_status h.is))
  back_of ne (inr ran) = ran.back

  -- ---- one peer that serves rightly

  -- no refusal of the root, and no want of a peer, is left: the root is a file of no more bytes than the limit
  right_for : (now : SwarmState) (d : Dag) (addr written : List ℕ) (result : Result ⊤ SwarmFault) → HasFileRoot d → root_total d ≤ (swarm_setup parts).limits.output
      → (OutputRose out → ⊥) → SwarmEnds (swarm_setup parts) now dial.dialling out result → IsSwarmEnd (refusals_of now.jobs.peers) result end → Put written out
      → SaysOfEnd result written d → IsntRefused (swarm_setup parts) now addr result → (exit_status end ≡ 8) ⊎ ((exit_status end ≡ 0) × Put (content d) out)
  right_for now d addr written (Ok done) file few no_out ends is put says left =
      inr (ap exit_status is, subst (λ (text : List ℕ). Put text out) says.1 put)
  right_for now d addr written (Err faults.NoPeerLeft) file few no_out ends is put says left = absurd left
  right_for now d addr written (Err faults.NotFile) file few no_out ends is put says left = absurd (says file)
  right_for now d addr written (Err (faults.BadRoot fault)) file few no_out ends is put says left = absurd says
  right_for now d addr written (Err (faults.Limit kind number)) file few no_out ends is put says left =
      absurd (not_above number (root_total d) (swarm_setup parts).limits.output ends.ends_so.1 says.1 few)
  right_for now d addr written (Err faults.SinkFault) file few no_out ends is put says left = absurd (no_out ends.ends_so.front.rose)
  right_for now d addr written (Err faults.OutOfMemory) file few no_out ends (refusal, is, tells) put says left = inl (ap exit_status is ∙ ap status_of tells)

  right_of : (d : Dag) (addr : List ℕ) → HasFileRoot d → root_total d ≤ standard.output → IsServedAt (swarm_setup parts) d addr dial.dialling
      → (DialRose dial.dialling → ⊥) → (OutputRose out → ⊥) → SwarmAnswers parts dial out end
      → (exit_status end ≡ 8) ⊎ (((exit_status end ≡ 0) × Put (content d) out) ⊎ HasSwarmPair parts d dial.dialling)
  right_of d addr file few served no_dial no_out (inl h) = inl (ap exit_status h.is)
  right_of d addr file few served no_dial no_out (inr ran) =
      let did = ran.sound d served.by.sound served.by.root in
      elim did.says [
        | inl says ↦ elim (right_for ran.now d addr did.written ran.result file few no_out ran.ends ran.end_is did.put says.1 (ran.right d addr served no_dial)) [
          | inl memory ↦ inl memory
          | inr done ↦ inr (inl done)
        ]
        | inr pair ↦ inr (inr (record { connections = did.connections; told = did.told; received = did.received; pair = pair }))
      ]

-- ---- the run

-- no memory was found for the words, or the command ended as itself: the swarm says both
ends_of : (parts : SwarmParts) (objects : Objects) (end : Option CommandFault) → NoMemoryEnds objects end ⊎ CommandEnds (Swarm parts) objects end → CommandEnds (Swarm parts) objects end
ends_of parts objects end (inl memory) =
    let all = memory.untouched in
    (all.files, all.streams.untaken, inl (record { undialled = all.dial; unput = all.streams.unput; is = memory.end_is }))
ends_of parts objects end (inr did) = did

pub swarm_runs : (parts : SwarmParts) (run : Run) (end : Option CommandFault) → run.status ≡ exit_status end → Says end run.err → run.objects.door.same_door → run.objects.making.same
    → NoMemoryEnds run.objects end ⊎ CommandEnds (Swarm parts) run.objects end → SwarmRun parts run
swarm_runs parts run end status line same_door same_making words_end = record {
  ends = (end, status, did, line);
  swarmed = λ zero. whole_by parts dial out end (has zero) how;
  nothing = λ nine. nothing_by parts dial out end (has nine) how;
  back = λ ne. back_of parts dial out end (λ eight. ne (status ∙ eight)) did.2;
  dial_fault = λ five. rose_by parts dial out end (has five) how;
  fault = λ six. fault_by parts dial out end (has six) how;
  vouched = λ d sound root. elim did.2 [
    | inl unbegun ↦ inl (status ∙ ap exit_status unbegun.is, untouched unbegun)
    | inr ran ↦ inr (vouched_of parts dial out end d run.err run.status sound root status line ran)
  ];
  one_right = λ d addr file few served no_dial no_out.
      subst (λ (n : ℕ). (n ≡ 8) ⊎ (((n ≡ 0) × Put (content d) out) ⊎ HasSwarmPair parts d dial.dialling)) (sym status)
      (right_of parts dial out end d addr file few served no_dial no_out did.2);
  answered = λ d served no_dial no_out. subst (λ (n : ℕ). (n ≡ 8) ⊎ ((n ≡ 0) × Put (content d) out)) (sym status)
      (answered_of parts dial out end d served no_dial no_out did.2);
}
  where
    dial : DialUse
    dial = run.objects.dial

    out : Output
    out = run.objects.out

    did : CommandEnds (Swarm parts) run.objects end
    did = ends_of parts run.objects end words_end

    how : EndedBy parts dial out end
    how = ended parts dial out end did.2

    has : {n : ℕ} → run.status ≡ n → exit_status end ≡ n
    has e = sym status ∙ e

    untouched : SwarmUnbegun dial out end → AllUntouched run.objects
    untouched unbegun = record { files = did.0; making = same_making; door = same_door; dial = unbegun.undialled; streams = record { untaken = did.1; unput = unbegun.unput } }
