-- How a session over a link ends, by what was heard and said so far.
use Rattle.std.proofs.Common.{◌≡◌, ℕ, ◌≤◌, Option, true, List, [], ◌++◌, inl, inr, sym, subst, ◌∙◌, append-nil, arith}
use Rattle.tg_faults.specs.Faults.{Rose}
use Rattle.tg_gateway.proofs.Standing.{broken_next, limit_all, sent_both, stands_open}
use Rattle.tg_gateway.specs.Links.{IsServed, ServedAll, ServedFront, ServedUpTo, served_of}
use Rattle.tg_links.specs.Steps.{LinkQuiet, LinkStep, Spoke, LinkRose, link_step}
use Rattle.tg_links.specs.Joining.{spoke_hears, spoke_says}
use Rattle.tg_links.specs.Links.{CountsAreOne, LinkMeaning, PutsAreSaid, TakesAreHeard}
use Rattle.tg_model.specs.Stores.{Lookups, Store}
use Rattle.tg_reply.specs.SentLaws.{BrokenIsFront, SentJoins, SentStays, SessionsGoOn, StandsForSent}
use Rattle.tg_reply.specs.Sent.{Sent, SentBy, closed_by, sent_bytes}
use Rattle.tg_reply.specs.Sessions.{BrokeOff, HasNumbers, IsOpen, PassedLimit, SessionState, StandsFor}
use Rattle.tg_reply.specs.Shapes.{SentOver}
use Rattle.tg_streams.specs.Streams.{InputRose, OutputQuiet, OutputRose, Put, SinkMeaning, SourceMeaning, into, through}
use Rattle.tg_walk.specs.Walks.{HaveLookedUp}

-- ---- links

-- what was said, written otherwise
pub spoke_same : (link : LinkStep) (heard said other : List ℕ) → said ≡ other → Spoke link heard said → Spoke link heard other
spoke_same link heard said other e spoke = subst (λ (bytes : List ℕ). Spoke link heard bytes) e spoke

-- bytes are taken
pub spoke_took : {L : Type 0} (m : LinkMeaning L) (source : SourceMeaning L) (a b c : L) (heard said piece : List ℕ) → TakesAreHeard L m source
    → Spoke (link_step m source a b) heard said → source.took b c piece → Spoke (link_step m source a c) (heard ++ piece) said
spoke_took m source a b c heard said piece hears spoke took = spoke_hears m source a b c heard said spoke piece (hears b c piece took)

-- nothing is taken
pub spoke_untaken : {L : Type 0} (m : LinkMeaning L) (source : SourceMeaning L) (a b c : L) (heard said : List ℕ) → TakesAreHeard L m source
    → Spoke (link_step m source a b) heard said → source.took b c [] → Spoke (link_step m source a c) heard said
spoke_untaken m source a b c heard said hears spoke took =
    subst (λ (bytes : List ℕ). Spoke (link_step m source a c) bytes said) (append-nil heard)
    (spoke_took m source a b c heard said [] hears spoke took)

-- bytes are put
pub spoke_put : {L : Type 0} (m : LinkMeaning L) (source : SourceMeaning L) (sink : SinkMeaning L) (a b c : L) (heard said bytes : List ℕ)
    → PutsAreSaid L m sink → Spoke (link_step m source a b) heard said → Put bytes (into sink b c)
    → Spoke (link_step m source a c) heard (said ++ bytes)
spoke_put m source sink a b c heard said bytes says spoke put = spoke_says m source a b c heard said spoke bytes (says b c bytes put.moved)

-- no fault is counted where bytes are put
pub quiet_put : {L : Type 0} (m : LinkMeaning L) (source : SourceMeaning L) (sink : SinkMeaning L) (a b c : L) → CountsAreOne L source sink
    → LinkQuiet (link_step m source a b) → OutputQuiet (into sink b c) → LinkQuiet (link_step m source a c)
quiet_put m source sink a b c one before quiet = one c ∙ quiet ∙ sym (one b) ∙ before

-- one is
pub rose_put : {L : Type 0} (m : LinkMeaning L) (source : SourceMeaning L) (sink : SinkMeaning L) (a b c : L) → CountsAreOne L source sink
    → LinkQuiet (link_step m source a b) → OutputRose (into sink b c) → LinkRose (link_step m source a c)
rose_put m source sink a b c one before rose =
    subst (λ (n : ℕ). Rose n (source.faults c)) (sym (one b) ∙ before)
    (subst (λ (n : ℕ). Rose (sink.faults b) n) (sym (one c)) rose)

-- one is where bytes are taken
pub rose_take : {L : Type 0} (m : LinkMeaning L) (source : SourceMeaning L) (a b c : L)
    → LinkQuiet (link_step m source a b) → InputRose (through source b c) → LinkRose (link_step m source a c)
rose_take m source a b c before rose = subst (λ (n : ℕ). Rose n (source.faults c)) before rose

-- ---- sessions

-- what was heard and said so far over a link, for which an open session stands
pub record HasHeard (told : Option Store) (most : ℕ) (session : SessionState) (link : LinkStep) (lookups : Lookups) : Type 0 where
  pub heard : List ℕ
  pub sent : List Sent
  pub stands : StandsFor session (SentOver told) heard sent lookups.faults_old lookups.faults_new
  pub open_is : IsOpen session
  pub most_is : session.most ≡ most
  pub spoke : Spoke link heard (sent_bytes sent)
  pub quiet : LinkQuiet link
  pub looked : HaveLookedUp lookups
  pub counted : lookups.faults_old ≤ lookups.faults_new

-- the numbers that are told of a session
pub served_numbers : (session : SessionState) (sent : List Sent) → HasNumbers session sent → IsServed (served_of session) sent
served_numbers session sent numbers = record {
  requests_are = numbers.requests_are;
  broken_are = numbers.broken_are;
  store_are = numbers.failed_are;
}

-- ---- ends

-- the peer says no more
pub served_ended : (told : Option Store) (session : SessionState) (link : LinkStep) (lookups : Lookups) (heard : List ℕ) (sent : List Sent)
    → StandsFor session (SentOver told) heard sent lookups.faults_old lookups.faults_new → IsOpen session
    → Spoke link heard (sent_bytes sent) → LinkQuiet link → link.over_new ≡ true → ServedAll told (served_of session) link lookups
served_ended told session link lookups heard sent stands open_is spoke quiet over =
    let all = stands_open session (SentOver told) heard sent lookups.faults_old lookups.faults_new stands open_is.unclosed in
    record {
      heard = heard;
      sent = sent;
      rest = session.kept;
      sent_is = record { sent_is = all.sent_is; settled = inl all.waiting };
      spoke = spoke;
      ended = inl over;
      numbers = served_numbers session sent stands.numbers;
      counts = stands.counts;
      quiet = quiet;
    }

-- the last reply closes
pub served_closed : StandsForSent → (told : Option Store) (session : SessionState) (link : LinkStep) (lookups : Lookups) (heard : List ℕ) (sent : List Sent)
    → StandsFor session (SentOver told) heard sent lookups.faults_old lookups.faults_new → session.closed ≡ true
    → Spoke link heard (sent_bytes sent) → LinkQuiet link → ServedAll told (served_of session) link lookups
served_closed all told session link lookups heard sent stands closed spoke quiet =
    let by = all session told heard sent lookups.faults_old lookups.faults_new stands in
    let closes : closed_by sent ≡ true = sym stands.closed_is ∙ closed in
    record {
      heard = heard;
      sent = sent;
      rest = by.0;
      sent_is = record { sent_is = by.1; settled = inr closes };
      spoke = spoke;
      ended = inr closes;
      numbers = served_numbers session sent stands.numbers;
      counts = stands.counts;
      quiet = quiet;
    }

-- more bytes came than may be received
pub served_up_to : SessionsGoOn → (told : Option Store) (old new : SessionState) (link : LinkStep) (lookups : Lookups) (heard piece : List ℕ)
    (sent more : List Sent) (after : ℕ) → StandsFor old (SentOver told) heard sent lookups.faults_old after
    → PassedLimit old new (SentOver told) piece more after lookups.faults_new
    → Spoke link (heard ++ piece) (sent_bytes sent ++ sent_bytes more) → LinkQuiet link
    → ServedUpTo told (served_of new) link lookups old.most
served_up_to go_on told old new link lookups heard piece sent more after stands passed spoke quiet =
    let all = limit_all go_on old new told heard piece sent more lookups.faults_old after after lookups.faults_new stands passed (omega arith) in
    record {
      heard = heard ++ piece;
      past = all.past;
      sent = sent ++ more;
      rest = all.rest;
      sent_is = all.sent_is;
      left_open = all.left_open;
      spoke = spoke_same link (heard ++ piece) _ _ (sym (sent_both sent more)) spoke;
      numbers = served_numbers new (sent ++ more) all.numbers;
      counts = all.counts;
      quiet = quiet;
    }

-- out failed, or memory was wanted, while the session was fed
pub served_front : SentJoins → SentStays → BrokenIsFront → (told : Option Store) (old new : SessionState) (link : LinkStep) (lookups : Lookups)
    (heard piece written : List ℕ) (sent more next : List Sent) (after : ℕ) → StandsFor old (SentOver told) heard sent lookups.faults_old after
    → BrokeOff old new (SentOver told) piece more next written after lookups.faults_new
    → Spoke link (heard ++ piece) (sent_bytes sent ++ written) → ServedFront told (served_of new) link lookups
served_front joins stays is_front told old new link lookups heard piece written sent more next after stands broke spoke =
    let first = lookups.faults_old in
    let now = lookups.faults_new in
    let front = broken_next joins stays is_front old new told heard piece written sent more next first after after now stands broke (omega arith) in
    record {
      heard = heard ++ piece;
      sent = sent ++ more;
      next = next;
      rest = front.is_front.rest;
      sent_is = front.is_front.sent_is;
      at_most_one = front.is_front.at_most_one;
      left_open = front.is_front.left_open;
      count = front.count;
      spoke = spoke_same link (heard ++ piece) _ _ front.written_is spoke;
      numbers = served_numbers new (sent ++ more) front.is_front.numbers;
      counts = front.is_front.counts;
    }

-- the link failed where a piece was to be taken
pub served_untaken : (told : Option Store) (session : SessionState) (link : LinkStep) (lookups : Lookups) (heard : List ℕ) (sent : List Sent)
    → StandsFor session (SentOver told) heard sent lookups.faults_old lookups.faults_new → IsOpen session
    → Spoke link heard (sent_bytes sent) → ServedFront told (served_of session) link lookups
served_untaken told session link lookups heard sent stands open_is spoke =
    let all = stands_open session (SentOver told) heard sent lookups.faults_old lookups.faults_new stands open_is.unclosed in
    record {
      heard = heard;
      sent = sent;
      next = [];
      rest = session.kept;
      sent_is = subst (λ (l : List Sent). SentBy (SentOver told) heard l session.kept) (sym (append-nil sent)) all.sent_is;
      at_most_one = omega arith;
      left_open = all.left_open;
      count = 0;
      spoke = spoke_same link heard _ _ (sym (append-nil (sent_bytes sent))) spoke;
      numbers = served_numbers session sent stands.numbers;
      counts = stands.counts;
    }
