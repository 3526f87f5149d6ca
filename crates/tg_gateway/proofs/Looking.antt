-- Steps of a session one after another, over bytes that go on.
use Rattle.std.proofs.Common.{◌≡◌, ℕ, ◌+◌, Bool, true, false, List, [], ◌∷◌, ◌++◌, Option, length, refl, sym, ap, subst, ◌∙◌, append_assoc, arith}
use Rattle.std.specs.Prelude.{if◌then◌else◌, take}
use Rattle.std.proofs.lemmas.Grind.{flat_map-append}
use Rattle.std.proofs.lemmas.List.{append-nil, length-append}
use Rattle.std.proofs.lemmas.List.Elements.{All-append, All-nil}
use Rattle.tg_cid.specs.Cid.{CidParts}
use Rattle.tg_cid.specs.declared.cid.HashKind.TheVariants.{Sha256}
use Rattle.tg_faults.specs.Faults.{Rose}
use Rattle.tg_gateway.proofs.Answering.{none_put, same_kept}
use Rattle.tg_gateway.specs.Sessions.{SessionView}
use Rattle.tg_gateway.specs.Steps.{Answered, BreaksOff, HasAnswered, IfOpenKeeps, WasBroken}
use Rattle.tg_gateway.specs.declared.fault.GatewayFault.{GatewayFault}
use Rattle.tg_gateway.specs.declared.fault.GatewayFault.TheVariants as faults
use Rattle.tg_model.specs.Stores.{BlocksMeaning, Lookups, Store, looked_in}
use Rattle.tg_reply.specs.Replies.{reply_bytes}
use Rattle.tg_replying.specs.Replying.{PutQuiet}
use Rattle.tg_reply.specs.SentLaws.{SentJoins}
use Rattle.tg_reply.specs.Sent.{CountsBetween, CountsFollow, Sent, SentBy, broken_in, closed_by, count_if, failed_in, is_broken, is_server_error, no_more, sent_bytes}
use Rattle.tg_reply.specs.Sessions.{IsOpen, NumbersGoOn, SessionState}
use Rattle.tg_reply.specs.Shapes.{SentOver}
use Rattle.tg_streams.specs.Joining.{SinkJoins, put_put}
use Rattle.tg_streams.specs.Streams.{Output, OutputRose, Put, SinkMeaning, into}
use Rattle.tg_walk.specs.Walks.{HaveLookedUp}

-- ---- closing and numbers of two parts

-- true isn't false
pub true_false : true ≡ false → ⊥
true_false e = cc

-- a reply in front that leaves the connection open
closed_step : (c : Bool) (below more : List Sent) → (if c then true else closed_by below) ≡ false
    → (closed_by below ≡ false → closed_by (below ++ more) ≡ closed_by more)
    → (if c then true else closed_by (below ++ more)) ≡ closed_by more
closed_step true below more e same = absurd (true_false e)
closed_step false below more e same = same e

-- behind replies that leave it open the later ones say whether it closes
pub closed_append : (sent more : List Sent) → closed_by sent ≡ false → closed_by (sent ++ more) ≡ closed_by more
closed_append [] more e = refl
closed_append (s ∷ below) more e = closed_step s.reply.closes below more e (closed_append below more)

count_more : (b : Bool) (n m : ℕ) → count_if b (n + m) ≡ count_if b n + m
count_more true n m = omega arith
count_more false n m = refl

broken_append : (sent more : List Sent) → broken_in (sent ++ more) ≡ broken_in sent + broken_in more
broken_append [] more = omega arith
broken_append (s ∷ below) more =
    let b = if is_server_error s.reply.status then true else s.reply.cut in
    ap (count_if b) (broken_append below more) ∙ count_more b (broken_in below) (broken_in more)

failed_append : (sent more : List Sent) → failed_in (sent ++ more) ≡ failed_in sent + failed_in more
failed_append [] more = omega arith
failed_append (s ∷ below) more =
    ap (count_if (is_broken s.course)) (failed_append below more) ∙ count_more (is_broken s.course) (failed_in below)
    (failed_in more)

-- the numbers go on by those of both
pub numbers_on : (old mid new : SessionState) (more next : List Sent) → NumbersGoOn old mid more
    → NumbersGoOn mid new next
    → NumbersGoOn old new (more ++ next)
numbers_on old mid new more next first second = record {
  requests_are = omega (arith, first.requests_are, second.requests_are, length-append more next);
  broken_are = omega (arith, first.broken_are, second.broken_are, broken_append more next);
  failed_are = omega (arith, first.failed_are, second.failed_are, failed_append more next);
  most_is = second.most_is ∙ first.most_is;
}

-- counts that follow one another
follow_append : (before at now : ℕ) (more next : List Sent) → CountsFollow before more at → CountsFollow at next now
    → CountsFollow before (more ++ next) now
follow_append before at now [] next first second = subst (λ (n : ℕ). CountsFollow n next now) first second
follow_append before at now (s ∷ below) next first second =
    (first.0, first.1, follow_append s.faults_now at now below next first.2 second)

-- and counts behind these between which something else may use the store
pub follow_between : (before at now : ℕ) (more next : List Sent) → CountsFollow before more at → CountsBetween at next now
    → CountsBetween before (more ++ next) now
follow_between before at now [] next first second = subst (λ (n : ℕ). CountsBetween n next now) first second
follow_between before at now (s ∷ below) next first second = (
  omega (arith, first.0),
  omega (arith, first.0, first.1),
  follow_between s.faults_now at now below next first.2 second,
)

-- the bytes of two parts, and a front of those of the next
bytes_on : (more later next : List Sent) (count : ℕ)
    → sent_bytes more ++ (sent_bytes later ++ take count (sent_bytes next))
    ≡ sent_bytes (more ++ later) ++ take count (sent_bytes next)
bytes_on more later next count =
    sym (append_assoc (sent_bytes more) (sent_bytes later) (take count (sent_bytes next)))
    ∙ ap (λ (l : List ℕ). l ++ take count (sent_bytes next))
    (sym (flat_map-append (λ (s : Sent). reply_bytes s.reply) more later))

-- ---- out and lookups of two parts

-- bytes put, and then others
pub quiet_on : (S : Type 0) (m : SinkMeaning S) (a b c : S) (u v : List ℕ) → SinkJoins S m → PutQuiet (into m a b) u
    → PutQuiet (into m b c) v → PutQuiet (into m a c) (u ++ v)
quiet_on S m a b c u v joins first second = record {
  put = put_put S m a b c u v joins first.put second.put;
  quiet = second.quiet ∙ first.quiet;
}

-- and then others with a fault
rose_on : (S : Type 0) (m : SinkMeaning S) (a b c : S) (u v : List ℕ) → SinkJoins S m → PutQuiet (into m a b) u
    → Put v (into m b c) × OutputRose (into m b c) → Put (u ++ v) (into m a c) × OutputRose (into m a c)
rose_on S m a b c u v joins first second = (
  put_put S m a b c u v joins first.put second.0,
  subst (λ (before : ℕ). Rose before (m.faults c)) first.quiet second.1,
)

-- one move of a store after another is a move
abbrev pub LooksJoin : (S : Type 0) → BlocksMeaning S → Type 0
LooksJoin S m = (a b c : S) (u v : List CidParts) → m.looked a b u → m.looked b c v → m.looked a c (u ++ v)

-- nothing was looked up
pub looks_nothing : (S : Type 0) (m : BlocksMeaning S) (a : S) → m.looked a a [] → HaveLookedUp (looked_in m a a)
looks_nothing S m a rests = record {
  cids = [];
  looked = record { moved = rests; stored = refl };
  hashed = All-nil (λ (cid : CidParts). cid.hash ≡ Sha256);
}

-- CIDs were looked up, and then others
pub looks_both : (S : Type 0) (m : BlocksMeaning S) (a b c : S) → LooksJoin S m → HaveLookedUp (looked_in m a b)
    → HaveLookedUp (looked_in m b c) → HaveLookedUp (looked_in m a c)
looks_both S m a b c joins first second = record {
  cids = first.cids ++ second.cids;
  looked = record {
    moved = joins a b c first.cids second.cids first.looked.moved second.looked.moved;
    stored = second.looked.stored ∙ first.looked.stored;
  };
  hashed = All-append (λ (cid : CidParts). cid.hash ≡ Sha256) first.cids second.cids first.hashed second.hashed;
}

-- ---- an open session goes on

-- an open session keeps what is behind the heads that it answered
open_keeps : (closed : Bool) (kept rest : List ℕ) → closed ≡ false → IfOpenKeeps closed kept rest → kept ≡ rest
open_keeps true kept rest e k = absurd (true_false e)
open_keeps false kept rest e k = k

-- a session to whose bytes some were added, of which none was looked at
abbrev pub adding : SessionState → List ℕ → SessionState
adding session bytes = record session { kept = session.kept ++ bytes; received = session.received + length bytes }

-- it has answered none of them
pub none_of_added : (told : Option Store) (session : SessionState) (bytes : List ℕ) (before : ℕ) → IsOpen session
    → Answered told session (adding session bytes) bytes [] before before
none_of_added told session bytes before open_is = record {
  unrefused = open_is.unrefused;
  behind = session.kept ++ bytes;
  sent_is = no_more (session.kept ++ bytes);
  kept_is = same_kept session.closed (session.kept ++ bytes) (session.kept ++ bytes) refl;
  closed_is = open_is.unclosed;
  numbers = record {
    requests_are = omega arith;
    broken_are = omega arith;
    failed_are = omega arith;
    most_is = refl;
  };
  received_is = refl;
  counts = refl;
}

module _ (joins : SentJoins) where
  -- what was sent for what it kept and a piece, and then for later bytes, is sent for all of these
  sent_on : (told : Option Store) (kept at rest piece later behind : List ℕ) (more next : List Sent)
      → SentBy (SentOver told) (kept ++ piece) more rest
      → closed_by more ≡ false → at ≡ rest → SentBy (SentOver told) (at ++ later) next behind
      → SentBy (SentOver told) (kept ++ (piece ++ later)) (more ++ next) behind
  sent_on told kept at rest piece later behind more next first left_open same second =
      subst (λ (l : List ℕ). SentBy (SentOver told) l (more ++ next) behind) (append_assoc kept piece later)
      (joins told (kept ++ piece) later rest behind more next first left_open
      (subst (λ (l : List ℕ). SentBy (SentOver told) (l ++ later) next behind) same second))

  pub answered_on : (told : Option Store) (old mid new : SessionState) (piece later : List ℕ) (more next : List Sent)
      (before at now : ℕ)
      → Answered told old mid piece more before at → mid.closed ≡ false → Answered told mid new later next at now
      → Answered told old new (piece ++ later) (more ++ next) before now
  answered_on told old mid new piece later more next before at now first open_is second =
      let left_open = sym first.closed_is ∙ open_is in
      let same = open_keeps mid.closed mid.kept first.behind open_is first.kept_is in
      record {
        unrefused = second.unrefused;
        behind = second.behind;
        sent_is = sent_on told old.kept mid.kept first.behind piece later second.behind more next first.sent_is
            left_open same second.sent_is;
        kept_is = second.kept_is;
        closed_is = second.closed_is ∙ sym (closed_append more next left_open);
        numbers = numbers_on old mid new more next first.numbers second.numbers;
        received_is = omega (arith, first.received_is, second.received_is, length-append piece later);
        counts = follow_append before at now more next first.counts second.counts;
      }

  -- it is broken off behind what it answered
  broken_on : (told : Option Store) (old mid new : SessionState) (piece later : List ℕ) (more : List Sent)
      (lookups whole : Lookups) (done all : List ℕ → Type 0)
      → Answered told old mid piece more whole.faults_old lookups.faults_old → mid.closed ≡ false
      → whole.faults_new ≡ lookups.faults_new
      → ((written : List ℕ) → done written → all (sent_bytes more ++ written)) → WasBroken told mid new later lookups done
      → WasBroken told old new (piece ++ later) whole all
  broken_on told old mid new piece later more lookups whole done all first open_is same_now does w =
      let left_open = sym first.closed_is ∙ open_is in
      let same = open_keeps mid.closed mid.kept first.behind open_is first.kept_is in
      let both = sent_on told old.kept mid.kept first.behind piece w.looked w.behind more (w.more ++ w.next)
      first.sent_is left_open same w.sent_is in
      record {
        looked = piece ++ w.looked;
        dropped = w.dropped;
        piece_is = ap (λ (l : List ℕ). piece ++ l) w.piece_is ∙ sym (append_assoc piece w.looked w.dropped);
        more = more ++ w.more;
        next = w.next;
        behind = w.behind;
        sent_is = subst (λ (l : List Sent). SentBy (SentOver told) (old.kept ++ (piece ++ w.looked)) l w.behind)
            (sym (append_assoc more w.more w.next)) both;
        within = omega (arith, first.received_is, first.numbers.most_is, w.within, length-append piece w.looked);
        at_most_one = w.at_most_one;
        left_open = closed_append more w.more left_open ∙ w.left_open;
        count = w.count;
        is_done = subst all (bytes_on more w.more w.next w.count) (does _ w.is_done);
        numbers = numbers_on old mid new more w.more first.numbers w.numbers;
        counts = subst (λ (n : ℕ). CountsBetween whole.faults_old (more ++ w.more) n) (sym same_now)
            (follow_between whole.faults_old lookups.faults_old lookups.faults_new more w.more first.counts w.counts);
      }

-- ---- over a store and out

module _ (joins : SentJoins) (B : Type 0) (stored : BlocksMeaning B) (S : Type 0) (sink : SinkMeaning S)
    (puts : SinkJoins S sink) where
  -- it answered, and then more
  has_on : (told : Option Store) (old mid new : SessionState) (piece later : List ℕ) (x y z : B) (a b c : S)
      → HasAnswered told old mid piece (looked_in stored x y) (into sink a b) → mid.closed ≡ false
      → HasAnswered told mid new later (looked_in stored y z) (into sink b c)
      → HasAnswered told old new (piece ++ later) (looked_in stored x z) (into sink a c)
  has_on told old mid new piece later x y z a b c first open_is second = record {
    more = first.more ++ second.more;
    answered = answered_on joins told old mid new piece later first.more second.more (stored.faults x) (stored.faults y)
        (stored.faults z) first.answered open_is second.answered;
    put = subst (PutQuiet (into sink a c))
        (sym (flat_map-append (λ (s : Sent). reply_bytes s.reply) first.more second.more))
        (quiet_on S sink a b c (sent_bytes first.more) (sent_bytes second.more) puts first.put second.put);
  }

  -- it answered, and then more of what it keeps, over a store that tells what it told
  pub answers_more : (old mid new : SessionState) (piece : List ℕ) (x y z : B) (a b c : S)
      → stored.stored y ≡ stored.stored x
      → HasAnswered (stored.stored x) old mid piece (looked_in stored x y) (into sink a b) → mid.closed ≡ false
      → HasAnswered (stored.stored y) mid new [] (looked_in stored y z) (into sink b c)
      → HasAnswered (stored.stored x) old new piece (looked_in stored x z) (into sink a c)
  answers_more old mid new piece x y z a b c same first open_is second =
      subst (λ (l : List ℕ). HasAnswered (stored.stored x) old new l (looked_in stored x z) (into sink a c))
      (append-nil piece)
      (has_on (stored.stored x) old mid new piece [] x y z a b c first open_is
      (subst (λ (told : Option Store). HasAnswered told mid new [] (looked_in stored y z) (into sink b c)) same second))

  -- it answered, and then was broken off
  breaks_on : (told : Option Store) (old mid new : SessionState) (piece : List ℕ) (x y z : B) (a b c : S)
      (fault : GatewayFault) → HasAnswered told old mid piece (looked_in stored x y) (into sink a b) → mid.closed ≡ false
      → BreaksOff told mid new [] (looked_in stored y z) (into sink b c) fault
      → BreaksOff told old new (piece ++ []) (looked_in stored x z) (into sink a c) fault
  breaks_on told old mid new piece x y z a b c (faults.Limit number) first open_is second = second
  breaks_on told old mid new piece x y z a b c faults.LinkFault first open_is second =
      broken_on joins told old mid new piece [] first.more (looked_in stored y z) (looked_in stored x z)
      (λ written. Put written (into sink b c) × OutputRose (into sink b c))
      (λ written. Put written (into sink a c) × OutputRose (into sink a c)) first.answered open_is refl
      (λ written d. rose_on S sink a b c (sent_bytes first.more) written puts first.put d) second
  breaks_on told old mid new piece x y z a b c faults.OutOfMemory first open_is second =
      broken_on joins told old mid new piece [] first.more (looked_in stored y z) (looked_in stored x z)
      (PutQuiet (into sink b c)) (PutQuiet (into sink a c)) first.answered open_is refl
      (λ written d. quiet_on S sink a b c (sent_bytes first.more) written puts first.put d) second

  -- in more of what it keeps, over a store that tells what it told
  pub breaks_more : (old mid new : SessionState) (piece : List ℕ) (x y z : B) (a b c : S) (fault : GatewayFault)
      → stored.stored y ≡ stored.stored x
      → HasAnswered (stored.stored x) old mid piece (looked_in stored x y) (into sink a b) → mid.closed ≡ false
      → BreaksOff (stored.stored y) mid new [] (looked_in stored y z) (into sink b c) fault
      → BreaksOff (stored.stored x) old new piece (looked_in stored x z) (into sink a c) fault
  breaks_more old mid new piece x y z a b c fault same first open_is second =
      subst (λ (l : List ℕ). BreaksOff (stored.stored x) old new l (looked_in stored x z) (into sink a c) fault)
      (append-nil piece)
      (breaks_on (stored.stored x) old mid new piece x y z a b c fault first open_is
      (subst (λ (told : Option Store). BreaksOff told mid new [] (looked_in stored y z) (into sink b c) fault) same
      second))

  -- it answered, and then bytes were added
  pub added_on : (old mid : SessionState) (piece bytes : List ℕ) (x y : B) (a b : S)
      → HasAnswered (stored.stored x) old mid piece (looked_in stored x y) (into sink a b) → mid.closed ≡ false
      → sink.wrote b b []
      → HasAnswered (stored.stored x) old (adding mid bytes) (piece ++ bytes) (looked_in stored x y) (into sink a b)
  added_on old mid piece bytes x y a b first open_is rests =
      has_on (stored.stored x) old mid (adding mid bytes) piece bytes x y y a b b first open_is (record {
        more = [];
        answered = none_of_added (stored.stored x) mid bytes (stored.faults y)
            (record { unclosed = open_is; unrefused = first.answered.unrefused });
        put = none_put S sink b rests;
      })

-- what a session is that bytes were added to
pub added_is : (mid new : SessionView) (bytes : List ℕ) → new ≡ record mid { state = adding mid.state bytes }
    → new.state ≡ adding mid.state bytes
added_is mid new bytes e = ap (λ (v : SessionView). v.state) e

-- bytes that were added with a part of the rest
pub parts_are : (bytes added front back rest : List ℕ) → bytes ≡ added ++ rest → rest ≡ front ++ back
    → bytes ≡ (added ++ front) ++ back
parts_are bytes added front back rest e split =
    e ∙ ap (λ (l : List ℕ). added ++ l) split ∙ sym (append_assoc added front back)

-- ---- behind a close nothing is looked at

-- what comes behind bytes in which it was broken off wasn't looked at
broken_before : (told : Option Store) (old new : SessionState) (piece rest : List ℕ) (lookups : Lookups)
    (done : List ℕ → Type 0)
    → WasBroken told old new piece lookups done → WasBroken told old new (piece ++ rest) lookups done
broken_before told old new piece rest lookups done w = record {
  looked = w.looked;
  dropped = w.dropped ++ rest;
  piece_is = ap (λ (l : List ℕ). l ++ rest) w.piece_is ∙ append_assoc w.looked w.dropped rest;
  more = w.more;
  next = w.next;
  behind = w.behind;
  sent_is = w.sent_is;
  within = w.within;
  at_most_one = w.at_most_one;
  left_open = w.left_open;
  count = w.count;
  is_done = w.is_done;
  numbers = w.numbers;
  counts = w.counts;
}

pub breaks_before : (told : Option Store) (old new : SessionState) (piece rest : List ℕ) (lookups : Lookups)
    (out : Output) (fault : GatewayFault) → BreaksOff told old new piece lookups out fault
    → BreaksOff told old new (piece ++ rest) lookups out fault
breaks_before told old new piece rest lookups out (faults.Limit number) h = h
breaks_before told old new piece rest lookups out faults.LinkFault h =
    broken_before told old new piece rest lookups (λ written. Put written out × OutputRose out) h
breaks_before told old new piece rest lookups out faults.OutOfMemory h =
    broken_before told old new piece rest lookups (PutQuiet out) h
