-- What each exit status says of `fetch`.
use Rattle.std.proofs.Common.{◌+◌, ◌<◌, ◌≡◌, ◌≢◌, ◌⊎◌, ◌∙◌, Bool, Err, List, [], Ok, Option, Some, ap, arith, inl, inr, nat_eq, false, refl, suc, sym, subst, true, zero, ℕ}
use Rattle.std.specs.Prelude.{Result, ⊤, ◌^◌}
use Rattle.tg_app.proofs.Refusals.{fetch_own}
use Rattle.tg_app.proofs.Statuses.{IsOwn, differs, not_zero}
use Rattle.tg_app.proofs.VerifyEndings.{ended_none, has_status, refused_none, status_for, unput_of}
use Rattle.tg_commands.specs.Blocks.{OutputUntouched}
use Rattle.tg_app.specs.Fetches.{Fetched, FetchedStatus, FetchAnswers, IsAbsentReply, IsFetchEnd, IsFetchRefusal, IsGoodReply, SaysFetchLine, VouchedFetch, miss_refusal}
use Rattle.tg_commands.specs.Lines.{Says, exit_status, status_of}
use Rattle.tg_commands.specs.Verify.{IsNoAnswer, ShowsSome}
use Rattle.tg_commands.specs.declared.fault.CommandFault.{CommandFault}
use Rattle.tg_commands.specs.declared.fault.CommandFault.TheVariants as refusals
use Rattle.tg_client.specs.Body.{unknown}
use Rattle.tg_client.specs.declared.fault.ClientFault.{ClientFault}
use Rattle.tg_client.specs.declared.fault.ClientFault.TheVariants as clients
use Rattle.tg_dials.specs.Dials.{DialRose, Dialling}
use Rattle.tg_faults.specs.Faults.{Rose}
use Rattle.tg_fetch.specs.Bodies.{BodyFails, BodyStops, SaysOf}
use Rattle.tg_fetch.specs.Calls.{FetchEnds, HeardBy, LinkCalled}
use Rattle.tg_fetch.specs.Faults.{QuietUnlessSink, fault_of_client, fault_of_refusal}
use Rattle.tg_fetch.specs.Laws.{IsAcceptedElse, IsNowhereElse}
use Rattle.tg_fetch.specs.Received.{SaysOfCall}
use Rattle.tg_fetch.specs.Replies.{RefusedBy}
use Rattle.tg_fetch.specs.declared.fault.FetchFault.{FetchFault}
use Rattle.tg_fetch.specs.declared.fault.FetchFault.TheVariants as faults
use Rattle.tg_http.specs.declared.reply.ReplyHead.{ReplyHead}
use Rattle.tg_links.specs.Steps.{LinkRose, LinkStep}
use Rattle.tg_links.specs.Views.{between, is_failed}
use Rattle.tg_model.specs.Dag.{Dag, Section, root_cid}
use Rattle.tg_model.specs.Fits.{CollisionPair}
use Rattle.tg_model.specs.LimitNumbers.{LimitNumbers, standard}
use Rattle.tg_model.specs.Queries.{QueryParts}
use Rattle.tg_model.specs.Sound.{IsSound}
use Rattle.tg_streams.specs.Streams.{Output, OutputQuiet, OutputRose, Put, Unput}
use Rattle.tg_model_laws.specs.Tasks.{Miss, no_directory, no_entry}
use Rattle.tg_model_laws.specs.Verified.{VerifiedMisses}
use Rattle.tg_verify.specs.Laws.{AnswerIsFront, IsMissOf}
use Rattle.tg_verify.specs.Sound.{IsItsAnswer, IsItsFront}
use Rattle.tg_verify.specs.declared.fault.Refusal.{Refusal}
use Rattle.tg_verify.specs.declared.fault.Refusal.TheVariants as verifiers
use Rattle.tg_words.specs.FetchLines.{FetchParts}

-- ---- the status of each fault

-- where memory is found for its line
abbrev pub fetch_status : FetchFault → ℕ
fetch_status (faults.Refused fault) = status_for (clients.Refused fault)
fetch_status (faults.Status status) = 4
fetch_status faults.BadType = 3
fetch_status faults.BadReplyHead = 3
fetch_status faults.BadFraming = 3
fetch_status (faults.BadCar fault) = 3
fetch_status faults.PeerFault = 5
fetch_status faults.KeepFault = 6
fetch_status faults.OutOfMemory = 8

-- where the text of a CID has to be shown
abbrev ShowsText : FetchFault → Type 0
ShowsText (faults.Refused fault) = ShowsSome (clients.Refused fault)
ShowsText other = ⊥

-- the status is that of the fault, or memory was wanted for its line
abbrev pub IsStatusOf : FetchFault → ℕ → Type 0
IsStatusOf fault n = (n ≡ fetch_status fault) ⊎ (ShowsText fault × (n ≡ 8))

pub refusal_status : (fault : FetchFault) (refusal : CommandFault) → IsFetchRefusal fault refusal → IsStatusOf fault (status_of refusal)
refusal_status (faults.Refused fault) refusal h = has_status (clients.Refused fault) refusal h
refusal_status (faults.Status status) refusal h = inl (ap status_of h)
refusal_status faults.BadType refusal h = inl (ap status_of h)
refusal_status faults.BadReplyHead refusal h = inl (ap status_of h)
refusal_status faults.BadFraming refusal h = inl (ap status_of h)
refusal_status (faults.BadCar fault) refusal h = inl (ap status_of h)
refusal_status faults.PeerFault refusal h = inl (ap status_of h)
refusal_status faults.KeepFault refusal h = inl (ap status_of h)
refusal_status faults.OutOfMemory refusal h = inl (ap status_of h)

pub end_status : (fault : FetchFault) (end : Option CommandFault) → IsFetchEnd (Err fault) end → IsStatusOf fault (exit_status end)
end_status fault end (refusal, is, tells) = subst (IsStatusOf fault) (sym (ap exit_status is)) (refusal_status fault refusal tells)

pub by_status : (n : ℕ) (fault : FetchFault) → nat_eq n 8 ≡ false → IsStatusOf fault n → fetch_status fault ≡ n
by_status n fault apart (inl e) = sym e
by_status n fault apart (inr memory) = absurd (differs n 8 apart memory.1)

-- an end with this status is one for a fault that has it
pub fault_has : (n : ℕ) (fault : FetchFault) (end : Option CommandFault) → nat_eq n 8 ≡ false → exit_status end ≡ n → IsFetchEnd (Err fault) end → fetch_status fault ≡ n
fault_has n fault end apart e is = by_status n fault apart (subst (IsStatusOf fault) e (end_status fault end is))

pub done_is : (n : ℕ) (done : ⊤) (end : Option CommandFault) → nat_eq 0 n ≡ false → exit_status end ≡ n → IsFetchEnd (Ok done) end → ⊥
done_is n done end apart e is = differs 0 n apart (sym (ap exit_status is) ∙ e)

-- ---- status 2

never_2 : (fault : FetchFault) → fetch_status fault ≡ 2 → ⊥
never_2 (faults.Refused (verifiers.Extra sections)) e = cc
never_2 (faults.Refused fault) e = cc
never_2 fault e = cc

-- no refusal of a reply says that the words are no command
pub no_fetch_refusal : (fault : FetchFault) → IsFetchRefusal fault refusals.Usage → ⊥
no_fetch_refusal fault h = never_2 fault (by_status 2 fault refl (refusal_status fault refusals.Usage h))

no_usage_by : (result : Result ⊤ FetchFault) → IsFetchEnd result (Some refusals.Usage) → ⊥
no_usage_by (Ok done) is = done_is 2 done (Some refusals.Usage) refl refl is
no_usage_by (Err fault) is = never_2 fault (fault_has 2 fault (Some refusals.Usage) refl refl is)

pub no_fetch_usage : (parts : FetchParts) (dial : Dialling) (out : Output) → FetchAnswers parts dial out (Some refusals.Usage) → ⊥
no_fetch_usage parts dial out h = no_usage_by h.result h.end_is

-- ---- a status of its own

own_by : (result : Result ⊤ FetchFault) (refusal : CommandFault) → IsFetchEnd result (Some refusal) → IsOwn refusal
own_by (Ok done) refusal is = λ words status e. cc
own_by (Err fault) refusal (told, is, tells) = λ words status e. fetch_own fault told tells words status (cc)

pub fetch_answers_own : (parts : FetchParts) (dial : Dialling) (out : Output) (refusal : CommandFault) → FetchAnswers parts dial out (Some refusal) → IsOwn refusal
fetch_answers_own parts dial out refusal h = own_by h.result refusal h.end_is

-- ---- status 6

rose_at_6 : (out : Output) (fault : FetchFault) → fetch_status fault ≡ 6 → QuietUnlessSink {A = ⊤} out (Err fault) → OutputRose out
rose_at_6 out (faults.Refused verifiers.SinkFault) e cause = cause
rose_at_6 out (faults.Refused fault) e cause = cc
rose_at_6 out faults.KeepFault e cause = absurd cause
rose_at_6 out fault e cause = cc

rose_by : (out : Output) (result : Result ⊤ FetchFault) (end : Option CommandFault) → exit_status end ≡ 6 → IsFetchEnd result end → QuietUnlessSink out result → OutputRose out
rose_by out (Ok done) end e is cause = absurd (done_is 6 done end refl e is)
rose_by out (Err fault) end e is cause = rose_at_6 out fault (fault_has 6 fault end refl e is) cause

pub fetch_fault : (parts : FetchParts) (dial : Dialling) (out : Output) (end : Option CommandFault) → exit_status end ≡ 6 → FetchAnswers parts dial out end → OutputRose out
fetch_fault parts dial out end e h = rose_by out h.result end e h.end_is h.cause

sink_is_6 : (end : Option CommandFault) → IsFetchEnd (Err (faults.Refused verifiers.SinkFault)) end → exit_status end ≡ 6
sink_is_6 end (refusal, is, inl tells) = ap exit_status is ∙ ap status_of tells
sink_is_6 end (refusal, is, inr memory) = absurd memory.0

quiet_by : (out : Output) (result : Result ⊤ FetchFault) (end : Option CommandFault) → exit_status end ≢ 6 → IsFetchEnd result end → QuietUnlessSink out result → OutputQuiet out
quiet_by out (Ok done) end ne is cause = cause
quiet_by out (Err (faults.Refused verifiers.SinkFault)) end ne is cause = absurd (ne (sink_is_6 end is))
quiet_by out (Err (faults.Refused fault)) end ne is cause = cause
quiet_by out (Err faults.KeepFault) end ne is cause = absurd cause
quiet_by out (Err fault) end ne is cause = cause

pub fetch_quiet : (parts : FetchParts) (dial : Dialling) (out : Output) (end : Option CommandFault) → exit_status end ≢ 6 → FetchAnswers parts dial out end → OutputQuiet out
fetch_quiet parts dial out end ne h = quiet_by out h.result end ne h.end_is h.cause

-- ---- status 0

pub never_0 : (fault : FetchFault) (end : Option CommandFault) → exit_status end ≡ 0 → IsFetchEnd (Err fault) end → ⊥
never_0 fault end e (refusal, is, tells) = not_zero refusal (fetch_own fault refusal tells) (sym (ap exit_status is) ∙ e)

fetched_by : (parts : FetchParts) (dial : Dialling) (out : Output) (result : Result ⊤ FetchFault) (end : Option CommandFault) → exit_status end ≡ 0 → IsFetchEnd result end
    → FetchEnds parts.query standard parts.addr dial out result → QuietUnlessSink out result → Fetched parts dial out
fetched_by parts dial out (Ok done) end e is ends cause = record { ends = ends; quiet = cause }
fetched_by parts dial out (Err fault) end e is ends cause = absurd (never_0 fault end e is)

pub fetched_of : (parts : FetchParts) (dial : Dialling) (out : Output) (end : Option CommandFault) → exit_status end ≡ 0 → FetchAnswers parts dial out end → Fetched parts dial out
fetched_of parts dial out end e h = fetched_by parts dial out h.result end e h.end_is h.ends h.cause

-- ---- whom it called

pub dialled_of : (parts : FetchParts) (dial : Dialling) (out : Output) (end : Option CommandFault) → FetchAnswers parts dial out end → dial.dialled parts.addr
dialled_of parts dial out end h = by h.ends
  where
    by : FetchEnds parts.query standard parts.addr dial out h.result → dial.dialled parts.addr
    by (inl called) = called.dialled
    by (inr missed) = missed.dialled

-- ---- status 4

status_at_4 : (fault : FetchFault) → fetch_status fault ≡ 4 → (status : ℕ) × (fault ≡ faults.Status status)
status_at_4 (faults.Status status) e = (status, refl)
status_at_4 (faults.Refused (verifiers.Extra sections)) e = cc
status_at_4 (faults.Refused fault) e = cc
status_at_4 fault e = cc

other_by : (parts : FetchParts) (dial : Dialling) (out : Output) (result : Result ⊤ FetchFault) (end : Option CommandFault) → exit_status end ≡ 4 → IsFetchEnd result end
    → FetchEnds parts.query standard parts.addr dial out result → FetchedStatus parts dial out
other_by parts dial out (Ok done) end e is ends = absurd (done_is 4 done end refl e is)
other_by parts dial out (Err fault) end e is ends =
    let (status, same) = status_at_4 fault (fault_has 4 fault end refl e is) in
    record { status = status; ends = subst (λ (f : FetchFault). FetchEnds parts.query standard parts.addr dial out (Err f)) same ends }

pub fetch_other_of : (parts : FetchParts) (dial : Dialling) (out : Output) (end : Option CommandFault) → exit_status end ≡ 4 → FetchAnswers parts dial out end → FetchedStatus parts dial out
fetch_other_of parts dial out end e h = other_by parts dial out h.result end e h.end_is h.ends

-- ---- status 5

pub peer_at_5 : (fault : FetchFault) → fetch_status fault ≡ 5 → fault ≡ faults.PeerFault
peer_at_5 faults.PeerFault e = refl
peer_at_5 (faults.Refused (verifiers.Extra sections)) e = cc
peer_at_5 (faults.Refused fault) e = cc
peer_at_5 fault e = cc

-- a count of faults that rose from 0 is one of a link that failed
failed_by : (n : ℕ) → Rose 0 n → is_failed n ≡ true
failed_by zero rose = let few : 0 + 1 < 2 ^ 64 = omega arith in let up = rose few in absurd (omega (arith, up))
failed_by (suc n) rose = refl

link_rose : (q : QueryParts) (limits : LimitNumbers) (addr : List ℕ) (link : LinkStep) (out : Output) → LinkCalled q limits addr link out (Err faults.PeerFault) → LinkRose link
link_rose q limits addr link out (inl whole) = whole.rose
link_rose q limits addr link out (inr front) = front.why

-- a fault of the peer is one of the dial, or of the link that was given back to it
pub peer_rose : (q : QueryParts) (limits : LimitNumbers) (addr : List ℕ) (dial : Dialling) (out : Output) → FetchEnds q limits addr dial out (Err faults.PeerFault) → DialRose dial
peer_rose q limits addr dial out (inl call) =
    let rose = link_rose q limits addr (between call.made call.link) out call.called in
    call.hung_up.failed (failed_by call.link.faults (subst (λ (n : ℕ). Rose n call.link.faults) call.is_new.faults rose))
peer_rose q limits addr dial out (inr missed) = missed.rose

dial_by : (parts : FetchParts) (dial : Dialling) (out : Output) (result : Result ⊤ FetchFault) (end : Option CommandFault) → exit_status end ≡ 5 → IsFetchEnd result end
    → FetchEnds parts.query standard parts.addr dial out result → DialRose dial
dial_by parts dial out (Ok done) end e is ends = absurd (done_is 5 done end refl e is)
dial_by parts dial out (Err fault) end e is ends =
    peer_rose parts.query standard parts.addr dial out
    (subst (λ (f : FetchFault). FetchEnds parts.query standard parts.addr dial out (Err f)) (peer_at_5 fault (fault_has 5 fault end refl e is)) ends)

pub fetch_rose_of : (parts : FetchParts) (dial : Dialling) (out : Output) (end : Option CommandFault) → exit_status end ≡ 5 → FetchAnswers parts dial out end → DialRose dial
fetch_rose_of parts dial out end e h = dial_by parts dial out h.result end e h.end_is h.ends

-- ---- status 9

client_9 : (fault : ClientFault) → fetch_status (fault_of_client fault) ≡ 9 → status_for fault ≡ 9
client_9 (clients.Refused fault) e = e
client_9 fault e = cc

refusal_9 : (fault : Refusal) → fetch_status (fault_of_refusal fault) ≡ 9 → status_for (clients.Refused fault) ≡ 9
refusal_9 verifiers.OutOfMemory e = cc
refusal_9 fault e = e

-- a fault of another status
not_9 : (fault other : FetchFault) → nat_eq (fetch_status other) 9 ≡ false → fetch_status fault ≡ 9 → fault ≡ other → ⊥
not_9 fault other apart e is = differs (fetch_status other) 9 apart (sym (ap fetch_status is) ∙ e)

module _ (misses : VerifiedMisses) (q : QueryParts) (limits : LimitNumbers) (sections : List Section) (text : List ℕ) (fault : FetchFault) (e : fetch_status fault ≡ 9) where
  stopped_none : (head : ReplyHead) (bytes : List ℕ) → BodyStops q limits head bytes sections text fault → text ≡ []
  stopped_none head bytes (BodyStops.answer h) =
      ended_none misses q limits sections text unknown h.are_heard.heard h.are_heard.unheard h.cause (client_9 h.cause (sym (ap fetch_status h.fault_is) ∙ e)) h.ends
  stopped_none head bytes (BodyStops.absence h) = h.no_text
  stopped_none head bytes (BodyStops.reaches h) = h.no_text
  stopped_none head bytes (BodyStops.block h) = h.no_text

  failed_none : (head : ReplyHead) (body : List ℕ) → BodyFails q limits head body sections text fault → text ≡ []
  failed_none head body (BodyFails.answer h) = absurd (not_9 fault _ refl e h.fault_is)
  failed_none head body (BodyFails.absence h) = h.no_text
  failed_none head body (BodyFails.reaches h) = h.no_text
  failed_none head body (BodyFails.block h) =
      refused_none misses q limits sections text h.cause (refusal_9 h.cause (sym (ap fetch_status h.fault_is) ∙ e)) h.refused

  reply_none : (heard unheard : List ℕ) (ended : Bool) → RefusedBy q limits heard unheard ended sections text fault → text ≡ []
  reply_none heard unheard ended (RefusedBy.bad_head is bad no_section no_text) = no_text
  reply_none heard unheard ended (RefusedBy.cut_head is over no_more front no_section no_text) = no_text
  reply_none heard unheard ended (RefusedBy.at_head stops no_section no_text) = no_text
  reply_none heard unheard ended (RefusedBy.in_body h) = stopped_none h.head h.given h.stops
  reply_none heard unheard ended (RefusedBy.at_end h) = failed_none h.head h.given h.fails
  reply_none heard unheard ended (RefusedBy.breaks is h) = absurd (not_9 fault _ refl e is)
  reply_none heard unheard ended (RefusedBy.cut_body is over no_more h) = absurd (not_9 fault _ refl e is)
  reply_none heard unheard ended (RefusedBy.past is h) = absurd (not_9 fault _ refl e is)
  reply_none heard unheard ended (RefusedBy.memory is h) = absurd (not_9 fault _ refl e is)

module _ (misses : VerifiedMisses) (q : QueryParts) (limits : LimitNumbers) (out : Output) where
  heard_none : (heard : List ℕ) (over : Bool) (fault : FetchFault) → fetch_status fault ≡ 9 → HeardBy q limits heard over out (Err fault) → Unput out
  heard_none heard over (faults.Refused fault) e h =
      unput_of h.text out (reply_none misses q limits h.sections h.text (faults.Refused fault) e h.front h.more h.ended h.refused) h.put
  heard_none heard over fault e h = cc

  link_none : (addr : List ℕ) (link : LinkStep) (fault : FetchFault) → fetch_status fault ≡ 9 → LinkCalled q limits addr link out (Err fault) → Unput out
  link_none addr link fault e (inl whole) = heard_none whole.heard link.over_new fault e whole.ends
  link_none addr link fault e (inr front) = unput_of [] out refl front.unput

  dial_none : (addr : List ℕ) (dial : Dialling) (fault : FetchFault) → fetch_status fault ≡ 9 → FetchEnds q limits addr dial out (Err fault) → Unput out
  dial_none addr dial fault e (inl call) = link_none addr _ fault e call.called
  dial_none addr dial fault e (inr missed) = unput_of [] out refl missed.unput

nothing_by : VerifiedMisses → (parts : FetchParts) (dial : Dialling) (out : Output) (result : Result ⊤ FetchFault) (end : Option CommandFault) → exit_status end ≡ 9 → IsFetchEnd result end
    → FetchEnds parts.query standard parts.addr dial out result → Unput out
nothing_by misses parts dial out (Ok done) end e is ends = absurd (done_is 9 done end refl e is)
nothing_by misses parts dial out (Err fault) end e is ends = dial_none misses parts.query standard out parts.addr dial fault (fault_has 9 fault end refl e is) ends

pub fetch_nothing_of : VerifiedMisses → (parts : FetchParts) (dial : Dialling) (out : Output) (end : Option CommandFault) → exit_status end ≡ 9 → FetchAnswers parts dial out end → OutputUntouched out
fetch_nothing_of misses parts dial out end e h = record {
  unput = nothing_by misses parts dial out h.result end e h.end_is h.ends;
  quiet = fetch_quiet parts dial out end (λ six. differs 9 6 refl (sym e ∙ six)) h;
}

-- ---- a good reply

-- a counted fault or want of memory is left
own_8 : (parts : FetchParts) (dial : Dialling) (out : Output) (text : List ℕ) (result : Result ⊤ FetchFault) (end : Option CommandFault) → (DialRose dial → ⊥) → (OutputRose out → ⊥)
    → IsFetchEnd result end → FetchEnds parts.query standard parts.addr dial out result → QuietUnlessSink out result → IsAcceptedElse text out result
    → (exit_status end ≡ 8) ⊎ ((exit_status end ≡ 0) × Put text out)
own_8 parts dial out text (Ok done) end no_dial no_out is ends cause put = inr (ap exit_status is, put)
own_8 parts dial out text (Err (faults.Refused verifiers.SinkFault)) end no_dial no_out is ends cause own = absurd (no_out cause)
own_8 parts dial out text (Err faults.PeerFault) end no_dial no_out is ends cause own = absurd (no_dial (peer_rose parts.query standard parts.addr dial out ends))
own_8 parts dial out text (Err faults.KeepFault) end no_dial no_out is ends cause own = absurd cause
own_8 parts dial out text (Err faults.OutOfMemory) end no_dial no_out (refusal, is, tells) ends cause own = inl (ap exit_status is ∙ ap status_of tells)
own_8 parts dial out text (Err (faults.Refused fault)) end no_dial no_out is ends cause own = absurd own
own_8 parts dial out text (Err fault) end no_dial no_out is ends cause own = absurd own

pub fetch_answered_of : (parts : FetchParts) (dial : Dialling) (out : Output) (end : Option CommandFault) (text : List ℕ) → IsGoodReply parts.query dial text
    → (DialRose dial → ⊥) → (OutputRose out → ⊥) → FetchAnswers parts dial out end → (exit_status end ≡ 8) ⊎ ((exit_status end ≡ 0) × Put text out)
fetch_answered_of parts dial out end text good no_dial no_out h = own_8 parts dial out text h.result end no_dial no_out h.end_is h.ends h.cause (h.accepts text good)

-- ---- a reply that shows that the path leads nowhere

-- the line on err names the segment
miss_told : (miss : Miss) (fault : Refusal) (refusal : CommandFault) → IsMissOf miss fault → IsFetchRefusal (faults.Refused fault) refusal → refusal ≡ miss_refusal miss
miss_told (no_entry i) (verifiers.NotThere segment) refusal m (inl tells) = tells ∙ ap refusals.NotThere m
miss_told (no_entry i) (verifiers.NotThere segment) refusal m (inr memory) = absurd memory.0
miss_told (no_directory i) (verifiers.NotFolder segment) refusal m (inl tells) = tells ∙ ap refusals.NotFolder m
miss_told (no_directory i) (verifiers.NotFolder segment) refusal m (inr memory) = absurd memory.0
miss_told _ _ refusal m tells = absurd m

-- a fault of the peer or want of memory is left
absent_by : (parts : FetchParts) (dial : Dialling) (out : Output) (miss : Miss) (result : Result ⊤ FetchFault) (end : Option CommandFault) → (DialRose dial → ⊥)
    → IsFetchEnd result end → FetchEnds parts.query standard parts.addr dial out result → IsNowhereElse miss out result
    → (exit_status end ≡ 8) ⊎ (end ≡ Some (miss_refusal miss))
absent_by parts dial out miss (Err (faults.Refused fault)) end no_dial (refusal, is, tells) ends told = inr (is ∙ ap Some (miss_told miss fault refusal told.0 tells))
absent_by parts dial out miss (Err faults.PeerFault) end no_dial is ends told = absurd (no_dial (peer_rose parts.query standard parts.addr dial out ends))
absent_by parts dial out miss (Err faults.OutOfMemory) end no_dial (refusal, is, tells) ends told = inl (ap exit_status is ∙ ap status_of tells)
absent_by parts dial out miss (Err fault) end no_dial is ends told = absurd told
absent_by parts dial out miss (Ok done) end no_dial is ends told = absurd told

miss_9 : (miss : Miss) → status_of (miss_refusal miss) ≡ 9
miss_9 (no_entry i) = refl
miss_9 (no_directory i) = refl

pub fetch_absent_of : (parts : FetchParts) (dial : Dialling) (out err : Output) (status : ℕ) (end : Option CommandFault) (miss : Miss) → IsAbsentReply parts.query dial miss
    → (DialRose dial → ⊥) → status ≡ exit_status end → Says end err → FetchAnswers parts dial out end → (status ≡ 8) ⊎ ((status ≡ 9) × Says (Some (miss_refusal miss)) err)
fetch_absent_of parts dial out err status end miss shown no_dial e line h =
    by (absent_by parts dial out miss h.result end no_dial h.end_is h.ends (h.absent miss shown))
  where
    by : (exit_status end ≡ 8) ⊎ (end ≡ Some (miss_refusal miss)) → (status ≡ 8) ⊎ ((status ≡ 9) × Says (Some (miss_refusal miss)) err)
    by (inl eight) = inl (e ∙ eight)
    by (inr is) = inr (e ∙ (ap exit_status is ∙ miss_9 miss), subst (λ (o : Option CommandFault). Says o err) is line)

-- ---- beside a sound DAG

pub answer_by : (q : QueryParts) (d : Dag) (sections : List Section) (text : List ℕ) (result : Result ⊤ FetchFault) (end : Option CommandFault) → exit_status end ≡ 0 → IsFetchEnd result end
    → SaysOfCall q sections text result d → IsItsAnswer q d sections text
answer_by q d sections text (Ok done) end e is says = says
answer_by q d sections text (Err fault) end e is says = absurd (never_0 fault end e is)

pub front_by : AnswerIsFront → (q : QueryParts) (d : Dag) (sections : List Section) (text : List ℕ) (result : Result ⊤ FetchFault) → SaysOfCall q sections text result d → IsItsFront q d sections text
front_by law q d sections text (Ok done) says = law q d sections text says
front_by law q d sections text (Err fault) says = says.0

nowhere_at_9 : (q : QueryParts) (d : Dag) (sections : List Section) (fault : FetchFault) → fetch_status fault ≡ 9 → SaysOf q d sections fault → IsNoAnswer q d ⊎ CollisionPair sections d
nowhere_at_9 q d sections (faults.Refused (verifiers.NotThere segment)) e (inl leads) = inl (inl (segment, leads))
nowhere_at_9 q d sections (faults.Refused (verifiers.NotThere segment)) e (inr pair) = inr pair
nowhere_at_9 q d sections (faults.Refused (verifiers.NotFolder segment)) e (inl leads) = inl (inr (segment, leads))
nowhere_at_9 q d sections (faults.Refused (verifiers.NotFolder segment)) e (inr pair) = inr pair
nowhere_at_9 q d sections (faults.Refused fault) e says = cc
nowhere_at_9 q d sections fault e says = cc

pub nowhere_by : (q : QueryParts) (d : Dag) (sections : List Section) (text : List ℕ) (result : Result ⊤ FetchFault) (end : Option CommandFault) → exit_status end ≡ 9 → IsFetchEnd result end
    → SaysOfCall q sections text result d → IsNoAnswer q d ⊎ CollisionPair sections d
nowhere_by q d sections text (Ok done) end e is says = absurd (done_is 9 done end refl e is)
nowhere_by q d sections text (Err fault) end e is says = nowhere_at_9 q d sections fault (fault_has 9 fault end refl e is) says.1

says_by : (q : QueryParts) (d : Dag) (sections : List Section) (text : List ℕ) (result : Result ⊤ FetchFault) → SaysOfCall q sections text result d → SaysFetchLine q d sections result
says_by q d sections text (Ok done) says = tt
says_by q d sections text (Err fault) says = says.1

pub fetch_vouched_of : AnswerIsFront → (parts : FetchParts) (d : Dag) (dial : Dialling) (out err : Output) (status : ℕ) (end : Option CommandFault) → IsSound d → root_cid d ≡ parts.query.root
    → status ≡ exit_status end → Says end err → FetchAnswers parts dial out end → VouchedFetch parts d dial out err status
fetch_vouched_of law parts d dial out err status end sound root e line h =
    let q = parts.query in
    let did = h.sound in
    let says = did.sound d sound root in
    record {
      result = h.result;
      ends = h.ends;
      sections = did.sections;
      heard = did.heard;
      heard_in = did.heard_in;
      received = did.received;
      text = did.text;
      put = did.put;
      accepted = λ done. answer_by q d did.sections did.text h.result end (sym e ∙ done) h.end_is says;
      front = front_by law q d did.sections did.text h.result says;
      nowhere = λ nine. nowhere_by q d did.sections did.text h.result end (sym e ∙ nine) h.end_is says;
      says = says_by q d did.sections did.text h.result says;
      end = end;
      end_is = h.end_is;
      status_is = e;
      line = line;
    }
