-- What is said through a door to a request, and what a client makes of it over a dial.
use Rattle.std.proofs.Common.{Bool, Err, List, MatchResult, None, Ok, Option, Some, [], ap, append-nil, append_assoc, arith, false, inl, inr, length, length-append, lit<, refl, subst, suc, sym, true, zero, ℕ, ◌++◌, ◌<◌, ◌∙◌, ◌∷◌, ◌≡◌, ◌≤◌, ◌⊎◌}
use Rattle.std.specs.List.{list_any}
use Rattle.std.specs.Option.{option_map}
use Rattle.std.specs.Prelude.{Result, drop, ⊤, ◌≢◌, ◌||◌}
use Rattle.tg_audit.specs.Asking.{IsHeardAnswer, IsHeardRefusal, IsReplied, IsUnheard, IsUnreplied, audit_addr}
use Rattle.tg_audit.specs.Faults.{fault_of_fetch}
use Rattle.tg_audit.specs.declared.fault.AuditFault.{AuditFault}
use Rattle.tg_audit.specs.declared.fault.AuditFault.TheVariants as audits
use Rattle.tg_audit_texts.specs.Hashing.{IsHashOf, IsHashing, hashing_sink}
use Rattle.tg_audit_texts.specs.declared.hashing.Hashed.{Hashed}
use Rattle.tg_audit_texts.specs.declared.hashing.Hashing.{Hashing}
use Rattle.tg_dials.specs.Dials.{Dialling}
use Rattle.tg_doors.specs.Doors.{DoorRose, Doorway}
use Rattle.tg_faults.specs.Faults.{Rose}
use Rattle.tg_fetch.specs.Calls.{FetchEnds, HeardAnswer, HeardBy, HeardRefused, LinkCalled}
use Rattle.tg_fetch.specs.Faults.{QuietUnlessSink}
use Rattle.tg_fetch.specs.Laws.{IsOwnFault}
use Rattle.tg_fetch.specs.declared.fault.FetchFault.{FetchFault}
use Rattle.tg_fetch.specs.declared.fault.FetchFault.TheVariants as fetches
use Rattle.tg_links.specs.Joining.{heard_of}
use Rattle.tg_links.specs.Steps.{IsHeardOf, Spoke}
use Rattle.tg_links.specs.Views.{IsFirst, LinkView, between}
use Rattle.tg_links.specs.declared.call.Call.{Call}
use Rattle.tg_model.specs.LimitNumbers.{standard}
use Rattle.tg_model.specs.Queries.{QueryParts}
use Rattle.tg_model.specs.Stores.{Store}
use Rattle.tg_query.specs.Requests.{request_text}
use Rattle.tg_reply.specs.SentLaws.{SentStays}
use Rattle.tg_reply.specs.Sent.{Sent, SentBy, SentInFull, closed_by, failed_in}
use Rattle.tg_reply.specs.Shapes.{SentOver}
use Rattle.tg_serve.specs.Saying.{all_said, more_came}
use Rattle.tg_serve.specs.Serving.{AreHeardOf, AreServed, HasHappened, LinkRun, SaidAll, ServesDoor, and_calls, call_of, is_limit, is_memory, is_positive}
use Rattle.tg_serve.specs.declared.Happened.{Happened}
use Rattle.tg_streams.specs.Streams.{into}
use Rattle.tg_verify.specs.declared.fault.Refusal.TheVariants as refusals

-- ---- the reply

-- the one call is the last
last_is : (calls : List Call) (last one : Call) → one ∷ [] ≡ calls ++ last ∷ [] → last ≡ one
last_is [] last one e = cc
last_is (c ∷ []) last one e = absurd (cc e)
last_is (c ∷ (d ∷ calls)) last one e = absurd (cc e)

-- what holds of one alone
either_not : (x y : Bool) → false ≡ (x || y) → (x ≡ false) × (y ≡ false)
either_not false false e = (refl, refl)
either_not false true e = absurd (cc e)
either_not true y e = absurd (cc e)

none_positive : (n : ℕ) → is_positive n ≡ false → n ≡ 0
none_positive zero e = refl
none_positive (suc n) e = absurd (cc e)

or_none : (x : Bool) → (x || false) ≡ x
or_none true = refl
or_none false = refl

-- what is sent for a front, to its end, is sent for all: the peer said no more, or the last reply closes
full_of : SentStays → (told : Option Store) (request heard : List ℕ) (over : Bool) (sent : List Sent) (rest : List ℕ) → IsHeardOf request heard over
    → SentInFull (SentOver told) heard sent rest → (over ≡ true) ⊎ (closed_by sent ≡ true) → SentInFull (SentOver told) request sent rest
full_of stays told request heard over sent rest h full (inl is) =
    let same : request ≡ heard = h.all_is ∙ ap (λ (l : List ℕ). heard ++ l) (h.ended is) ∙ append-nil heard in
    subst (λ (l : List ℕ). SentInFull (SentOver told) l sent rest) (sym same) full
full_of stays told request heard over sent rest h full (inr closes) = record {
  sent_is = subst (λ (l : List ℕ). SentBy (SentOver told) l sent rest) (sym h.all_is) (stays told heard h.left rest sent full.sent_is closes);
  settled = inr closes;
}

module _ (stays : SentStays) (told : Option Store) (q : QueryParts) (tell : Type 0) (before now : ℕ) (door : Doorway) (happened : Happened)
    (coming : door.coming_old ≡ Some (request_text q audit_addr ∷ [])) where
  heard_by : (run : LinkRun) (runs : List LinkRun) → AreHeardOf door.coming_old (run ∷ runs) → IsHeardOf (request_text q audit_addr) run.heard run.over
  heard_by run runs h = (subst (λ (o : Option (List (List ℕ))). AreHeardOf o (run ∷ runs)) coming h).0

  -- more came than may be received
  past_by : (runs : List LinkRun) → AreServed told standard.received before runs now → AreHeardOf door.coming_old runs → length runs ≤ 1
      → happened.limit ≡ list_any (λ run. is_limit run.end) runs → happened.limit ≡ true → standard.received < length (request_text q audit_addr)
  past_by [] served heard few is limit = absurd (let no : true ≡ false = sym limit ∙ is in cc)
  past_by (run ∷ []) served heard few is limit =
      let more = more_came told standard.received run run.end served.0 (sym (or_none (is_limit run.end)) ∙ (sym is ∙ limit)) in
      let h = heard_by run [] heard in
      omega (arith, more, ap length h.all_is, length-append run.heard h.left)
  past_by (run ∷ (other ∷ runs)) served heard few is limit = absurd (omega (arith, few))

  few_of : (n : ℕ) (other : Type 0) → (n ≡ 1) ⊎ ((n < 1) × other) → n ≤ 1
  few_of n other (inl is) = omega (arith, is)
  few_of n other (inr (less, so)) = omega (arith, less)

  pub past : ServesDoor told standard.received 1 tell before now door happened → happened.limit ≡ true → standard.received < length (request_text q audit_addr)
  past so limit = past_by so.runs so.served so.heard (few_of (length so.runs) (door.shut_new ≡ true) so.ended) so.has_happened.limit limit

  module _ (memory : happened.memory ≡ false) (store : happened.store ≡ false) (fault : happened.fault ≡ false) (limit : happened.limit ≡ false) (tells : tell)
      (none : door.served_old ≡ Some []) where
    module _ (said : List ℕ) (calls : List Call) (call : Call) (told_is : door.served_new ≡ Some (calls ++ call ∷ [])) (said_is : call.said ≡ said) where
      call_by : (run : LinkRun) → (door.served_new ≡ and_calls door.served_old (run ∷ [])) ⊎ ((door.served_new ≡ None) × DoorRose door) → call ≡ call_of run
      call_by run (inl is) =
          let all : Some (call_of run ∷ []) ≡ Some (calls ++ call ∷ []) =
          sym (ap (λ (o : Option (List Call)). and_calls o (run ∷ [])) none) ∙ sym is ∙ told_is in
          last_is calls call (call_of run) (cc all)
      call_by run (inr lost) = absurd (let no : None ≡ Some (calls ++ call ∷ []) = sym lost.0 ∙ told_is in cc)

      replied_by : (run : LinkRun) → IsHeardOf (request_text q audit_addr) run.heard run.over → SaidAll told run → is_positive run.served.store ≡ false → call ≡ call_of run
          → IsReplied told q said
      replied_by run h s quiet same = record {
        sent = s.sent;
        rest = s.rest;
        sent_is = full_of stays told (request_text q audit_addr) run.heard run.over s.sent s.rest h s.sent_is s.ended;
        unbroken = none_positive (failed_in s.sent) (sym (ap is_positive s.numbers.store_are) ∙ quiet);
        reply_is = sym said_is ∙ ap (λ (c : Call). c.said) same ∙ s.said_is;
      }

      by_runs : (runs : List LinkRun) (unadmitted : Bool) → AreServed told standard.received before runs now → AreHeardOf door.coming_old runs → length runs ≤ 1
          → HasHappened runs unadmitted happened → (tell → (door.served_new ≡ and_calls door.served_old runs) ⊎ ((door.served_new ≡ None) × DoorRose door))
          → door.coming_new ≡ option_map (drop (length runs)) door.coming_old → (length runs < 1 → unadmitted ≡ false → door.coming_new ≡ Some [])
          → IsReplied told q said
      by_runs [] unadmitted served heard few has told_are left ends =
          let admitted = (either_not unadmitted false (sym fault ∙ has.fault)).0 in
          let gone = ends (omega arith) admitted in
          let stays_so : door.coming_new ≡ Some (request_text q audit_addr ∷ []) = left ∙ ap (option_map (drop 0)) coming in
          absurd (let no : Some [] ≡ Some (request_text q audit_addr ∷ []) = sym gone ∙ stays_so in cc)
      by_runs (run ∷ []) unadmitted served heard few has told_are left ends =
          let unfailed = (either_not unadmitted (run.failed || false) (sym fault ∙ has.fault)).1 in
          let whole = all_said told standard.received run run.end served.0 (sym (or_none (is_memory run.end)) ∙ (sym has.memory ∙ memory))
          (sym (or_none run.failed) ∙ unfailed) (sym (or_none (is_limit run.end)) ∙ (sym has.limit ∙ limit)) in
          replied_by run (heard_by run [] heard) whole (sym (or_none (is_positive run.served.store)) ∙ (sym has.store ∙ store)) (call_by run (told_are tells))
      by_runs (run ∷ (other ∷ runs)) unadmitted served heard few has told_are left ends = absurd (omega (arith, few))

      replied : ServesDoor told standard.received 1 tell before now door happened → IsReplied told q said
      replied so =
          by_runs so.runs so.unadmitted so.served so.heard (few_of (length so.runs) (door.shut_new ≡ true) so.ended) so.has_happened so.told_are so.coming
          so.none_left

    pub told_reply : ServesDoor told standard.received 1 tell before now door happened → (said : Result (List ℕ) AuditFault)
        → MatchResult said (λ bytes. (calls : List Call) × (call : Call) × (door.served_new ≡ Some (calls ++ call ∷ [])) × (call.said ≡ bytes))
        (λ fault. fault ≡ audits.OutOfMemory)
        → MatchResult said (IsReplied told q) (IsUnreplied q)
    told_reply so (Ok bytes) (calls, call, is, same) = replied bytes calls call is same so
    told_reply so (Err fault) wanted = subst (IsUnreplied q) (sym wanted) tt

-- ---- what a client makes of it

-- a sink that counts no fault has none
none_rose : Rose 0 0 → ⊥
none_rose rose = let below = rose (lit< tt) in omega (arith, below)

-- out never fails, and no fault of the link or of memory is left
not_own : (before now : Hashing) (fault : FetchFault) → QuietUnlessSink {A = ⊤} (into hashing_sink before now) (Err fault) → fault ≢ fetches.PeerFault
    → fault ≢ fetches.OutOfMemory → IsOwnFault fault → ⊥
not_own before now (fetches.Refused refusals.SinkFault) cause peer memory own = none_rose cause
not_own before now (fetches.Refused refusal) cause peer memory own = own
not_own before now fetches.PeerFault cause peer memory own = peer refl
not_own before now fetches.KeepFault cause peer memory own = cause
not_own before now fetches.OutOfMemory cause peer memory own = memory refl
not_own before now fault cause peer memory own = own

module _ (q : QueryParts) (reply : List ℕ) (dial : Dialling) (before now : Hashing) (coming : dial.coming_old ≡ Some (reply ∷ [])) where
  -- of the one peer's reply this was heard
  heard_in : (made link : LinkView) (heard said : List ℕ) → IsFirst dial.coming_old dial.coming_new made.left → made.over ≡ false
      → Spoke (between made link) heard said → IsHeardOf reply heard link.over
  heard_in made link heard said comes going spoke =
      let first = subst (λ (o : Option (List (List ℕ))). IsFirst o dial.coming_new made.left) coming comes in
      heard_of reply heard made.left link.left link.over first.1 spoke.left_is (spoke.ended going)

  -- a front of what was heard is one of the reply
  whole_in : (heard front more left : List ℕ) → reply ≡ heard ++ left → heard ≡ front ++ more → reply ≡ front ++ (more ++ left)
  whole_in heard front more left all whole = all ∙ (ap (λ (l : List ℕ). l ++ left) whole ∙ append_assoc front more left)

  -- behind what was heard whole nothing is left
  none_left : (more left : List ℕ) → more ≡ [] → left ≡ [] → more ++ left ≡ []
  none_left more left none_more none = ap (λ (l : List ℕ). l ++ left) none_more ∙ none

  answer_in : (heard : List ℕ) (over : Bool) → IsHeardOf reply heard over → HeardAnswer q standard heard over (into hashing_sink before now)
      → IsHashing before [] → (hashed : Hashed) → ((text : List ℕ) → IsHashing now text → IsHashOf text hashed) → IsHeardAnswer q standard reply hashed
  answer_in heard over h a new hashed of = record {
    front = a.front;
    more = a.more ++ h.left;
    whole = whole_in heard a.front a.more h.left h.all_is a.whole;
    ended = a.ended;
    over = λ e. none_left a.more h.left (a.is_over e).1 (h.ended (a.is_over e).0);
    sections = a.sections;
    text = a.text;
    answered = a.answered;
    hash = of a.text (a.put.moved [] new);
  }

  refused_in : (heard : List ℕ) (over : Bool) (fault : FetchFault) → IsHeardOf reply heard over
      → HeardRefused q standard heard over (into hashing_sink before now) fault → (IsOwnFault fault → ⊥) → IsHeardRefusal q standard reply fault
  refused_in heard over fault h r not = record {
    front = r.front;
    next = r.more;
    more = h.left;
    whole = whole_in heard r.front r.more h.left h.all_is r.whole;
    ended = r.ended;
    over = λ e. none_left r.more h.left (r.is_over e).1 (h.ended (r.is_over e).0);
    sections = r.sections;
    text = r.text;
    within = r.within;
    refused = r.refused;
    of_reply = not;
  }

  -- ---- an answer

  answered_by : (made link : LinkView) → IsFirst dial.coming_old dial.coming_new made.left → made.over ≡ false
      → LinkCalled q standard audit_addr (between made link) (into hashing_sink before now) (Ok tt) → IsHashing before [] → (hashed : Hashed)
      → ((text : List ℕ) → IsHashing now text → IsHashOf text hashed) → IsHeardAnswer q standard reply hashed
  answered_by made link comes going (inl w) = answer_in w.heard link.over (heard_in made link w.heard (request_text q audit_addr) comes going w.spoke) w.ends
  answered_by made link comes going (inr w) = absurd w.why

  pub answered : FetchEnds q standard audit_addr dial (into hashing_sink before now) (Ok tt) → IsHashing before [] → (hashed : Hashed)
      → ((text : List ℕ) → IsHashing now text → IsHashOf text hashed) → IsHeardAnswer q standard reply hashed
  answered (inl called) = answered_by called.made called.link called.comes called.is_new.over called.called
  answered (inr missed) = absurd (cc missed.result_is)

  -- ---- a refusal

  heard_refused : (heard : List ℕ) (over : Bool) (fault : FetchFault) → fault ≢ fetches.PeerFault
      → HeardBy q standard heard over (into hashing_sink before now) (Err fault) → HeardRefused q standard heard over (into hashing_sink before now) fault
  heard_refused heard over fetches.PeerFault peer h = absurd (peer refl)
  heard_refused heard over fault peer h = h

  refused_by : (made link : LinkView) (fault : FetchFault) → fault ≢ fetches.PeerFault → fault ≢ fetches.OutOfMemory → (IsOwnFault fault → ⊥)
      → IsFirst dial.coming_old dial.coming_new made.left → made.over ≡ false
      → LinkCalled q standard audit_addr (between made link) (into hashing_sink before now) (Err fault) → IsHeardRefusal q standard reply fault
  refused_by made link fault peer memory not comes going (inl w) =
      refused_in w.heard link.over fault (heard_in made link w.heard (request_text q audit_addr) comes going w.spoke) (heard_refused w.heard link.over fault peer w.ends) not
  refused_by made link fetches.PeerFault peer memory not comes going (inr w) = absurd (peer refl)
  refused_by made link fetches.OutOfMemory peer memory not comes going (inr w) = absurd (memory refl)
  refused_by made link fault peer memory not comes going (inr w) = absurd w.why

  refusal : (fault : FetchFault) → fault ≢ fetches.PeerFault → fault ≢ fetches.OutOfMemory
      → QuietUnlessSink {A = ⊤} (into hashing_sink before now) (Err fault)
      → FetchEnds q standard audit_addr dial (into hashing_sink before now) (Err fault) → IsHeardRefusal q standard reply fault
  refusal fault peer memory cause (inl called) =
      refused_by called.made called.link fault peer memory (not_own before now fault cause peer memory) called.comes called.is_new.over called.called
  refusal fault peer memory cause (inr missed) =
      absurd (peer (let same : Err fault ≡ Err fetches.PeerFault = missed.result_is in cc))

  pub unheard : (fault : FetchFault) → QuietUnlessSink {A = ⊤} (into hashing_sink before now) (Err fault)
      → FetchEnds q standard audit_addr dial (into hashing_sink before now) (Err fault) → IsUnheard q reply (fault_of_fetch fault)
  unheard (fetches.Refused inner) cause ends = refusal (fetches.Refused inner) (λ e. cc e) (λ e. cc e) cause ends
  unheard (fetches.Status status) cause ends = refusal (fetches.Status status) (λ e. cc e) (λ e. cc e) cause ends
  unheard fetches.BadType cause ends = refusal fetches.BadType (λ e. cc e) (λ e. cc e) cause ends
  unheard fetches.BadReplyHead cause ends = refusal fetches.BadReplyHead (λ e. cc e) (λ e. cc e) cause ends
  unheard fetches.BadFraming cause ends = refusal fetches.BadFraming (λ e. cc e) (λ e. cc e) cause ends
  unheard (fetches.BadCar car) cause ends = refusal (fetches.BadCar car) (λ e. cc e) (λ e. cc e) cause ends
  unheard fetches.PeerFault cause ends = tt
  unheard fetches.KeepFault cause ends = absurd cause
  unheard fetches.OutOfMemory cause ends = tt
