-- What a session answers for the bytes at the front of those that it keeps: nothing, or one reply, whole or broken off.
use Rattle.std.proofs.Common.{◌≡◌, ℕ, ◌+◌, ◌≤◌, Bool, true, false, List, [], ◌∷◌, ◌++◌, Result, Ok, Err, Option, length, refl, sym, ap, subst, ◌∙◌, arith}
use Rattle.std.specs.Prelude.{IfErr, OnOk, if◌then◌else◌, take}
use Rattle.std.proofs.lemmas.List.{append-nil}
use Rattle.tg_gateway.specs.Steps.{Answered, BreaksOff, HasAnswered, IfOpenKeeps, RefuseEnds, WasBroken, counted, fault_of_reply}
use Rattle.tg_gateway.specs.declared.fault.GatewayFault.{GatewayFault}
use Rattle.tg_gateway.specs.declared.fault.GatewayFault.TheVariants as faults
use Rattle.tg_http.specs.declared.request.RequestHead.{RequestHead}
use Rattle.tg_model.specs.Stores.{Lookups, LookupsQuiet, Store}
use Rattle.tg_reply.specs.Replies.{refused_bytes, reply_bytes}
use Rattle.tg_reply.specs.Streams.{BeginsRequest}
use Rattle.tg_reply.specs.declared.refusal.Refusal.{Refusal}
use Rattle.tg_replying.specs.Replying.{HasReply, PutQuiet, ReplyEnds, TellsOf, is_broken_reply}
use Rattle.tg_replying.specs.declared.fault.ReplyFault.{ReplyFault}
use Rattle.tg_replying.specs.declared.fault.ReplyFault.TheVariants as replies
use Rattle.tg_replying.specs.declared.reply.Replied.{Replied}
use Rattle.tg_reply.specs.Sent.{Sent, SentBy, count_if, is_broken, last, next, no_more, quiet, sent_bytes}
use Rattle.tg_reply.specs.Sessions.{IsOpen, NumbersGoOn, SessionState}
use Rattle.tg_reply.specs.Shapes.{SentOver}
use Rattle.tg_streams.specs.Streams.{Output, OutputRose, Put, SinkMeaning, into}
use Rattle.tg_streams.specs.Joining.{put_nothing}

-- a session that keeps other bytes
abbrev pub keeping : SessionState → List ℕ → SessionState
keeping old kept = record old { kept = kept }

-- ---- nothing

-- a session that keeps what it kept
pub same_kept : (closed : Bool) (kept rest : List ℕ) → kept ≡ rest → IfOpenKeeps closed kept rest
same_kept true kept rest e = tt
same_kept false kept rest e = e

-- what is sent for bytes is sent for these with nothing behind
alone : (told : Option Store) (bytes behind : List ℕ) (sent : List Sent) → SentBy (SentOver told) bytes sent behind
    → SentBy (SentOver told) (bytes ++ []) sent behind
alone told bytes behind sent h = subst (λ (l : List ℕ). SentBy (SentOver told) l sent behind) (sym (append-nil bytes)) h

-- it has the numbers that it had
same_numbers : (old : SessionState) (kept : List ℕ) → NumbersGoOn old (keeping old kept) []
same_numbers old kept = record {
  requests_are = omega arith;
  broken_are = omega arith;
  failed_are = omega arith;
  most_is = refl;
}

pub none_answered : (told : Option Store) (old : SessionState) (kept : List ℕ) (before : ℕ) → IsOpen old → kept ≡ old.kept
    → Answered told old (keeping old kept) [] [] before before
none_answered told old kept before open_is same = record {
  unrefused = open_is.unrefused;
  behind = old.kept;
  sent_is = alone told old.kept old.kept [] (no_more old.kept);
  kept_is = same_kept old.closed kept old.kept same;
  closed_is = open_is.unclosed;
  numbers = same_numbers old kept;
  received_is = omega arith;
  counts = refl;
}

-- nothing was put
pub none_put : (S : Type 0) (m : SinkMeaning S) (out : S) → m.wrote out out [] → PutQuiet (into m out out) []
none_put S m out rests = record { put = put_nothing S m out rests; quiet = refl }

-- ---- one reply

-- the reply to a head is what is sent, up to a close or the bytes behind the head
one_sent : (told : Option Store) (closes : Bool) (bytes rest : List ℕ) (head : RequestHead) (sent : Sent)
    → BeginsRequest bytes head rest
    → SentOver told head sent → sent.reply.closes ≡ closes
    → (behind : List ℕ) × SentBy (SentOver told) bytes (sent ∷ []) behind × IfOpenKeeps closes rest behind
one_sent told true bytes rest head sent begins f e = ([], last bytes rest head sent begins f e, tt)
one_sent told false bytes rest head sent begins f e =
    (rest, next bytes rest rest head sent [] begins f e (no_more rest), refl)

-- one more is counted
count_one : (b : Bool) (n : ℕ) → count_if b n ≡ n + count_if b 0
count_one true n = refl
count_one false n = omega arith

-- one reply closes the connection, or leaves it open
closed_one : (b : Bool) → b ≡ (if b then true else false)
closed_one true = refl
closed_one false = refl

-- with the bytes of one reply this was done
one_done : (done : List ℕ → Type 0) (sent : Sent) → done (reply_bytes sent.reply) → done (sent_bytes (sent ∷ []))
one_done done sent d = subst done (sym (append-nil (reply_bytes sent.reply))) d

-- the numbers of one reply
one_number : (old : SessionState) (kept : List ℕ) (replied : Replied) (sent : Sent) → TellsOf sent replied
    → NumbersGoOn old (counted (keeping old kept) replied) (sent ∷ [])
one_number old kept replied sent t = record {
  requests_are = refl;
  broken_are = ap (λ (b : Bool). count_if b old.broken) t.broken ∙ count_one (is_broken_reply sent.reply) old.broken;
  failed_are = ap (λ (b : Bool). count_if b old.failed) t.failed ∙ count_one (is_broken sent.course) old.failed;
  most_is = refl;
}

pub reply_answered : (told : Option Store) (old new : SessionState) (kept : List ℕ) (head : RequestHead)
    (lookups : Lookups) (replied : Replied) (out : Output)
    → IsOpen old → BeginsRequest old.kept head kept → HasReply (SentOver told) head lookups replied (PutQuiet out)
    → lookups.faults_old ≤ lookups.faults_new → new ≡ counted (keeping old kept) replied
    → HasAnswered told old new [] lookups out
reply_answered told old new kept head lookups replied out open_is begins r le e =
    let one = one_sent told replied.closes old.kept kept head r.sent begins r.is_sent (sym r.told.closes) in
    subst (λ (s : SessionState). HasAnswered told old s [] lookups out) (sym e) (record {
      more = r.sent ∷ [];
      answered = record {
        unrefused = open_is.unrefused;
        behind = one.0;
        sent_is = alone told old.kept one.0 (r.sent ∷ []) one.1;
        kept_is = one.2;
        closed_is = r.told.closes ∙ closed_one r.sent.reply.closes;
        numbers = one_number old kept replied r.sent r.told;
        received_is = omega arith;
        counts = (r.counts.before, omega (arith, le, r.counts.now), sym r.counts.now);
      };
      put = one_done (PutQuiet out) r.sent r.is_done;
    })

-- ---- a refusal

-- what is told of it
abbrev pub closing : Replied
closing = record { closes = true; broken = false; failed = false }

pub refusal_answered : (told : Option Store) (old new was : SessionState) (kept : List ℕ) (refusal : Refusal)
    (lookups : Lookups) (out : Output)
    (result : Result Bool GatewayFault) → IsOpen old → was ≡ keeping old kept
    → SentBy (SentOver told) old.kept (quiet (refused_bytes refusal) lookups.faults_old ∷ []) []
    → TellsOf (quiet (refused_bytes refusal) lookups.faults_old) closing
    → LookupsQuiet lookups → RefuseEnds refusal was new out result → OnOk result (HasAnswered told old new [] lookups out)
refusal_answered told old new was kept refusal lookups out (Err fault) open_is same s t still ends = tt
refusal_answered told old new was kept refusal lookups out (Ok follows) open_is same s t still ends =
    let sent = quiet (refused_bytes refusal) lookups.faults_old in
    let is : new ≡ record (counted (keeping old kept) closing) { kept = [] } =
    ends.2 ∙ ap (λ (w : SessionState). record (counted w closing) { kept = [] }) same in
    subst (λ (w : SessionState). HasAnswered told old w [] lookups out) (sym is) (record {
      more = sent ∷ [];
      answered = record {
        unrefused = open_is.unrefused;
        behind = [];
        sent_is = alone told old.kept [] (sent ∷ []) s;
        kept_is = tt;
        closed_is = t.closes ∙ closed_one sent.reply.closes;
        numbers = record {
          requests_are = refl;
          broken_are = (one_number old kept closing sent t).broken_are;
          failed_are = (one_number old kept closing sent t).failed_are;
          most_is = refl;
        };
        received_is = omega arith;
        counts = (refl, omega arith, still);
      };
      put = one_done (PutQuiet out) sent ends.1;
    })

-- ---- broken off

-- in a reply, or before it
in_one : (told : Option Store) (old : SessionState) (kept behind : List ℕ) (sent : List Sent) (count : ℕ)
    (lookups : Lookups) (done : List ℕ → Type 0)
    → SentBy (SentOver told) old.kept sent behind → length sent ≤ 1 → old.received ≤ old.most
    → lookups.faults_old ≤ lookups.faults_new
    → done (take count (sent_bytes sent)) → WasBroken told old (keeping old kept) [] lookups done
in_one told old kept behind sent count lookups done s few within le d = record {
  looked = [];
  dropped = [];
  piece_is = refl;
  more = [];
  next = sent;
  behind = behind;
  sent_is = alone told old.kept behind sent s;
  within = omega (arith, within);
  at_most_one = few;
  left_open = refl;
  count = count;
  is_done = d;
  numbers = same_numbers old kept;
  counts = le;
}

-- before a reply
pub none_broken : (told : Option Store) (old : SessionState) (kept : List ℕ) (lookups : Lookups) (out : Output)
    → old.received ≤ old.most → lookups.faults_old ≤ lookups.faults_new → PutQuiet out []
    → BreaksOff told old (keeping old kept) [] lookups out faults.OutOfMemory
none_broken told old kept lookups out within le d =
    in_one told old kept old.kept [] 0 lookups (PutQuiet out) (no_more old.kept) (omega arith) within le d

-- in the reply to a head
pub reply_broken : (told : Option Store) (old : SessionState) (kept : List ℕ) (head : RequestHead) (lookups : Lookups)
    (out : Output) (fault : ReplyFault)
    → BeginsRequest old.kept head kept → old.received ≤ old.most → lookups.faults_old ≤ lookups.faults_new
    → ReplyEnds (SentOver told) head lookups out (Err fault)
    → BreaksOff told old (keeping old kept) [] lookups out (fault_of_reply fault)
reply_broken told old kept head lookups out replies.SinkFault begins within le ends =
    let one = one_sent told ends.sent.reply.closes old.kept kept head ends.sent begins ends.is_sent refl in
    in_one told old kept one.0 (ends.sent ∷ []) ends.is_done.count lookups (λ written. Put written out × OutputRose out)
    one.1 (omega arith) within le
    (one_done (λ bytes. Put (take ends.is_done.count bytes) out × OutputRose out) ends.sent
    (ends.is_done.put, ends.is_done.rose))
reply_broken told old kept head lookups out replies.OutOfMemory begins within le ends =
    let one = one_sent told ends.sent.reply.closes old.kept kept head ends.sent begins ends.is_sent refl in
    in_one told old kept one.0 (ends.sent ∷ []) ends.is_done.0 lookups (PutQuiet out) one.1 (omega arith) within le
    (one_done (λ bytes. PutQuiet out (take ends.is_done.0 bytes)) ends.sent ends.is_done.1)

-- in a refusal
pub refusal_broken : (told : Option Store) (old new was : SessionState) (kept : List ℕ) (refusal : Refusal)
    (lookups : Lookups) (out : Output)
    (result : Result Bool GatewayFault) → was ≡ keeping old kept
    → SentBy (SentOver told) old.kept (quiet (refused_bytes refusal) lookups.faults_old ∷ []) [] → old.received ≤ old.most
    → LookupsQuiet lookups → RefuseEnds refusal was new out result → IfErr result (BreaksOff told old new [] lookups out)
refusal_broken told old new was kept refusal lookups out (Ok follows) same s within still ends = tt
refusal_broken told old new was kept refusal lookups out (Err (faults.Limit number)) same s within still ends =
    absurd ends
refusal_broken told old new was kept refusal lookups out (Err faults.LinkFault) same s within still ends =
    let sent = quiet (refused_bytes refusal) lookups.faults_old in
    subst (λ (w : SessionState). BreaksOff told old w [] lookups out faults.LinkFault) (sym (ends.0 ∙ same))
    (in_one told old kept [] (sent ∷ []) ends.1.count lookups (λ written. Put written out × OutputRose out) s
    (omega arith) within (omega (arith, still))
    (one_done (λ bytes. Put (take ends.1.count bytes) out × OutputRose out) sent (ends.1.put, ends.1.rose)))
refusal_broken told old new was kept refusal lookups out (Err faults.OutOfMemory) same s within still ends =
    let sent = quiet (refused_bytes refusal) lookups.faults_old in
    subst (λ (w : SessionState). BreaksOff told old w [] lookups out faults.OutOfMemory) (sym (ends.0 ∙ same))
    (in_one told old kept [] (sent ∷ []) ends.1.0 lookups (PutQuiet out) s (omega arith) within (omega (arith, still))
    (one_done (λ bytes. PutQuiet out (take ends.1.0 bytes)) sent ends.1.1))
