-- What sessions stand for, and what was sent where they refuse something.
use Rattle.std.proofs.Common.{◌≡◌, ℕ, ◌+◌, ◌-◌, ◌≤◌, Bool, Option, Some, true, false, List, [], ◌∷◌, ◌++◌, ◌⊎◌, length, take, inl, inr, refl, sym, ap, subst, ◌∙◌, append_assoc, append-nil, arith, length-append, take_at}
use Rattle.std.proofs.Math.Seq.{take-append-add}
use Rattle.std.proofs.lemmas.Grind.{flat_map-append}
use Rattle.std.proofs.lemmas.List.{take_all}
use Rattle.tg_faults.specs.Faults.{Rose}
use Rattle.tg_gateway.proofs.Looking.{closed_append, follow_between}
use Rattle.tg_gateway.specs.Laws.{BrokenIsNext, FailuresRise, LimitIsAll, SentLonger, SessionsBegin, SessionsStandInFull}
use Rattle.tg_gateway.specs.Sessions.{new_session}
use Rattle.tg_http.specs.Heads.{IsWaiting}
use Rattle.tg_model.specs.Stores.{Store}
use Rattle.tg_reply.specs.Replies.{reply_bytes}
use Rattle.tg_reply.specs.Sent.{Answering, CountsBetween, CountsFollow, IsSettled, Sent, SentBy, SentInFull, closed_by, failed_in, no_more, sent_bytes}
use Rattle.tg_reply.specs.SentLaws.{BrokenIsFront, FailedAreCounted, SentJoins, SentStays, SessionsGoOn}
use Rattle.tg_reply.specs.Sessions.{IsWaitingFor, SessionState, StandsFor, WentOn}
use Rattle.tg_reply.specs.Shapes.{SentOver}

-- ---- what was sent, in two parts

-- its bytes
pub sent_both : (sent more : List Sent) → sent_bytes (sent ++ more) ≡ sent_bytes sent ++ sent_bytes more
sent_both sent more = flat_map-append (λ s. reply_bytes s.reply) sent more

-- a count that is no larger goes before what follows
counts_from : (first before now : ℕ) (more : List Sent) → first ≤ before → CountsBetween before more now → CountsBetween first more now
counts_from first before now [] e counts = omega arith
counts_from first before now (s ∷ more) e counts = (omega arith, counts.1, counts.2)

-- the store's counts
pub counts_both : (first after before now : ℕ) (sent more : List Sent) → CountsBetween first sent after → after ≤ before
    → CountsBetween before more now → CountsBetween first (sent ++ more) now
counts_both first after before now [] more counts e later = counts_from first before now more (omega arith) later
counts_both first after before now (s ∷ sent) more counts e later =
    (counts.0, counts.1, counts_both s.faults_now after before now sent more counts.2 e later)

-- ---- open sessions

-- what an open session stands for
pub record StandsOpen (session : SessionState) (For : Answering) (heard : List ℕ) (sent : List Sent) : Type 0 where
  pub sent_is : SentBy For heard sent session.kept
  pub waiting : IsWaiting session.kept
  pub left_open : closed_by sent ≡ false
  pub received_is : session.received ≡ length heard

-- and that it does
pub stands_open : (session : SessionState) (For : Answering) (heard : List ℕ) (sent : List Sent) (first now : ℕ)
    → StandsFor session For heard sent first now → session.closed ≡ false → StandsOpen session For heard sent
stands_open session For heard sent first now stands unclosed =
    let whole : stands.looked ≡ heard =
    sym (append-nil stands.looked) ∙ ap (λ (l : List ℕ). stands.looked ++ l) (sym (stands.all_looked unclosed)) ∙ sym stands.fed_is in
    let waits = subst (λ (c : Bool). IsWaitingFor c session.kept stands.rest) unclosed stands.waiting in
    record {
      sent_is = subst (λ (l : List ℕ). SentBy For l sent session.kept) whole
          (subst (λ (l : List ℕ). SentBy For stands.looked sent l) (sym waits.0) stands.sent_is);
      waiting = subst IsWaiting (sym waits.0) waits.1;
      left_open = sym stands.closed_is ∙ unclosed;
      received_is = stands.received_is ∙ ap length whole;
    }

-- a front of what is sent is sent whatever bytes follow
pub sent_longer : SentJoins → SentStays → (told : Option Store) (fed piece rest : List ℕ) (sent : List Sent) → SentBy (SentOver told) fed sent rest
    → (c : Bool) → closed_by sent ≡ c → (behind : List ℕ) × SentBy (SentOver told) (fed ++ piece) sent behind
sent_longer joins stays told fed piece rest sent by true closed = (rest, stays told fed piece rest sent by closed)
sent_longer joins stays told fed piece rest sent by false closed = (
  rest ++ piece,
  subst (λ (l : List Sent). SentBy (SentOver told) (fed ++ piece) l (rest ++ piece)) (append-nil sent)
      (joins told fed piece rest (rest ++ piece) sent [] by closed (no_more (rest ++ piece))),
)

-- what is settled, and leaves the connection open, waits
settled_open : (behind : List ℕ) (sent : List Sent) → closed_by sent ≡ false → IsSettled behind sent → IsWaiting behind
settled_open behind sent e (inl waits) = waits
settled_open behind sent e (inr closed) = absurd (let no : ⊥ = cc in no)

-- ---- a session that is new

-- no bytes are no head
none_waiting : IsWaiting []
none_waiting = record {
  none = λ text count begins.
      let h = begins.text_is in
      let line = h.start_is.line_is in
      omega (
        arith,
        simp length-append at (ap length begins.whole),
        simp length-append at (ap length h.whole),
        simp length-append at (ap length line.whole),
      );
  short = omega arith;
}

-- a new session stands for no bytes
pub stands_new : (For : Answering) (session : SessionState) (most first : ℕ) → session ≡ (new_session most).state
    → StandsFor session For [] [] first first
stands_new For session most first e =
    subst (λ (s : SessionState). StandsFor s For [] [] first first) (sym e)
    (record {
      unrefused = refl;
      looked = [];
      dropped = [];
      fed_is = refl;
      all_looked = λ _. refl;
      rest = [];
      sent_is = no_more [];
      waiting = (refl, none_waiting);
      closed_is = refl;
      numbers = record { requests_are = refl; broken_are = refl; failed_are = refl };
      received_is = refl;
      within = omega arith;
      counts = omega arith;
    })

pub sessions_begin : SessionsBegin
sessions_begin told most now = stands_new (SentOver told) (new_session most).state most now refl

-- ---- all bytes that may be received

pub stands_in_full : SentStays → SessionsStandInFull
stands_in_full stays session told fed sent first now h = by session.closed refl
  where
    by : (c : Bool) → session.closed ≡ c → (rest : List ℕ) × SentInFull (SentOver told) (take session.most fed) sent rest
    by false unclosed =
        let all = stands_open session (SentOver told) fed sent first now h unclosed in
        let front : take session.most fed ≡ fed = take_all session.most fed (omega (arith, all.received_is, h.within)) in (
          session.kept,
          subst (λ (l : List ℕ). SentInFull (SentOver told) l sent session.kept) (sym front)
              (record { sent_is = all.sent_is; settled = inl all.waiting }),
        )
    by true closed =
        let left = session.most - length h.looked in
        let most : session.most ≡ length h.looked + left = omega (arith, h.received_is, h.within) in
        let front : take session.most fed ≡ h.looked ++ take left h.dropped =
        ap (take session.most) h.fed_is ∙ ap (λ (n : ℕ). take n (h.looked ++ h.dropped)) most ∙ take-append-add h.looked h.dropped left in
        let closes = sym h.closed_is ∙ closed in (
          h.rest,
          subst (λ (l : List ℕ). SentInFull (SentOver told) l sent h.rest) (sym front)
              (record { sent_is = stays told h.looked (take left h.dropped) h.rest sent h.sent_is closes; settled = inr closes }),
        )

-- ---- more bytes than may be received

pub limit_all : SessionsGoOn → LimitIsAll
limit_all go_on old new told fed piece sent more first after before now stands passed le =
    let all = stands_open old (SentOver told) fed sent first after stands passed.open_is.unclosed in
    let state : SessionState = record {
      kept = passed.behind;
      closed = false;
      refused = false;
      requests = new.requests;
      broken = new.broken;
      failed = new.failed;
      received = old.received + length passed.looked;
      most = new.most;
    } in
    let went : WentOn old state (SentOver told) passed.looked more before now = record {
      open_is = passed.open_is;
      unrefused = refl;
      looked = passed.looked;
      dropped = [];
      piece_is = sym (append-nil passed.looked);
      all_looked = λ _. refl;
      behind = passed.behind;
      sent_is = passed.sent_is.sent_is;
      waiting = (refl, settled_open passed.behind more passed.left_open passed.sent_is.settled);
      closed_is = sym passed.left_open;
      numbers = record {
        requests_are = passed.numbers.requests_are;
        broken_are = passed.numbers.broken_are;
        failed_are = passed.numbers.failed_are;
        most_is = passed.numbers.most_is;
      };
      received_is = refl;
      within = omega (arith, passed.all_that_may, passed.numbers.most_is);
      counts = passed.counts;
    } in
    let both = go_on old state told fed passed.looked sent more first after before now stands went le in
    let whole = stands_open state (SentOver told) (fed ++ passed.looked) (sent ++ more) first now both refl in
    let size : length (fed ++ passed.looked) ≡ old.most =
    length-append fed passed.looked ∙ ap (λ (n : ℕ). n + length passed.looked) (sym all.received_is) ∙ passed.all_that_may in
    let parts : fed ++ piece ≡ (fed ++ passed.looked) ++ passed.dropped =
    ap (λ (l : List ℕ). fed ++ l) passed.piece_is ∙ sym (append_assoc fed passed.looked passed.dropped) in
    let front : take old.most (fed ++ piece) ≡ fed ++ passed.looked =
    ap (take old.most) parts ∙ take_at (fed ++ passed.looked) passed.dropped old.most size in
    record {
      number_is = sym passed.numbers.most_is;
      past = omega (arith, ap length parts, length-append (fed ++ passed.looked) passed.dropped, size, passed.past);
      rest = passed.behind;
      sent_is = subst (λ (l : List ℕ). SentInFull (SentOver told) l (sent ++ more) passed.behind) (sym front)
          (record { sent_is = whole.sent_is; settled = inl whole.waiting });
      left_open = whole.left_open;
      numbers = record {
        requests_are = both.numbers.requests_are;
        broken_are = both.numbers.broken_are;
        failed_are = both.numbers.failed_are;
      };
      counts = both.counts;
    }

-- ---- what was broken off

pub longer : SentJoins → SentStays → SentLonger
longer joins stays told fed piece rest sent by = sent_longer joins stays told fed piece rest sent by (closed_by sent) refl

pub broken_next : SentJoins → SentStays → BrokenIsFront → BrokenIsNext
broken_next joins stays is_front old new told fed piece written sent more next first after before now stands broke le =
    let all = stands_open old (SentOver told) fed sent first after stands broke.open_is.unclosed in
    let joined = joins told fed broke.looked old.kept broke.behind sent (more ++ next) all.sent_is all.left_open broke.sent_is in
    let behind = longer joins stays told (fed ++ broke.looked) broke.dropped broke.behind (sent ++ (more ++ next)) joined in
    let parts : (fed ++ broke.looked) ++ broke.dropped ≡ fed ++ piece =
    append_assoc fed broke.looked broke.dropped ∙ ap (λ (l : List ℕ). fed ++ l) (sym broke.piece_is) in
    let front = take broke.count (sent_bytes next) in
    let bytes : sent_bytes sent ++ written ≡ sent_bytes (sent ++ more) ++ front =
    ap (λ (l : List ℕ). sent_bytes sent ++ l) broke.written_is ∙ sym (append_assoc (sent_bytes sent) (sent_bytes more) front)
    ∙ ap (λ (l : List ℕ). l ++ front) (sym (sent_both sent more)) in
    record {
      count = broke.count;
      written_is = bytes;
      is_front = record {
        rest = behind.0;
        sent_is = subst (λ (l : List Sent). SentBy (SentOver told) (fed ++ piece) l behind.0) (sym (append_assoc sent more next))
            (subst (λ (l : List ℕ). SentBy (SentOver told) l (sent ++ (more ++ next)) behind.0) parts behind.1);
        at_most_one = broke.at_most_one;
        left_open = closed_append sent more all.left_open ∙ broke.left_open;
        numbers = (is_front old new told fed piece written sent more next first after before now stands broke).1;
        counts = counts_both first after before now sent more stands.counts le broke.counts;
      };
    }

-- ---- failures of the store

pub failures_rise : FailedAreCounted → FailuresRise
failures_rise counted store old new piece more before now = λ step. elim step [
  | inl went ↦ by (old.kept ++ went.looked) went.behind went.sent_is went.numbers.failed_are went.counts
  | inr passed ↦ by (old.kept ++ passed.looked) passed.behind passed.sent_is.sent_is passed.numbers.failed_are passed.counts
]
  where
    by : (bytes behind : List ℕ) → SentBy (SentOver (Some store)) bytes more behind → new.failed ≡ old.failed + failed_in more
        → CountsFollow before more now → (new.failed ≡ old.failed) ⊎ Rose before now
    by bytes behind sent failed counts =
        let between : CountsBetween before more now =
        subst (λ (l : List Sent). CountsBetween before l now) (append-nil more) (follow_between before now now more [] counts (omega arith)) in
        elim (counted store bytes behind more before now sent between) [
          | inl none ↦ inl (omega (arith, failed, none))
          | inr rose ↦ inr rose
        ]
