-- What was sent is gone on with, by sessions too.
use Rattle.std.proofs.Common.{◌≡◌, ℕ, ◌+◌, ◌≤◌, Bool, true, false, List, [], ◌∷◌, ◌++◌, inl, inr, length, refl, sym, ap, subst, ◌∙◌, append_assoc, arith}
use Rattle.std.specs.Prelude.{if◌then◌else◌, take}
use Rattle.std.proofs.Math.Seq.{take-append-add}
use Rattle.std.proofs.lemmas.Grind.{flat_map-append}
use Rattle.std.proofs.lemmas.List.{append-nil, length-append, take_all}
use Rattle.tg_http.specs.Heads.{RequestStays}
use Rattle.tg_model.specs.Stores.{Store}
use Rattle.tg_reply.specs.FirstHead.{FirstHeads}
use Rattle.tg_reply.specs.Replies.{reply_bytes}
use Rattle.tg_reply.specs.SentLaws.{BrokenIsFront, LimitIsFront, SentExtends, SessionsGoOn, SessionsStayClosed, StandsForSent}
use Rattle.tg_reply.specs.Sent.{Answering, CountsBetween, CountsFollow, IsSettled, Sent, SentAll, SentBy, SentFor, SentInFull, broken_in, closed_by, count_if, failed_in, is_broken, is_server_error, no_more, sent_bytes}
use Rattle.tg_reply.specs.Shapes.{SentOver}
use Rattle.tg_reply.specs.Sessions.{HasNumbers, IsWaitingFor, NumbersGoOn, SessionState, StandsFor}
use Rattle.tg_reply.proofs.AsReplies.{some_sent}
use Rattle.tg_reply.proofs.Joins.{closed_below, closed_here, closed_stays, joins, true_false}

-- ---- closing and numbers of two parts

-- the same with one reply more in front
closed_step : (s : Sent) (below more : List Sent) (c : Bool) → s.reply.closes ≡ c → closed_by (s ∷ below) ≡ false
    → (closed_by below ≡ false → closed_by (below ++ more) ≡ closed_by more) → closed_by (s ∷ (below ++ more)) ≡ closed_by more
closed_step s below more true h e same = absurd (true_false (sym (closed_here s below h) ∙ e))
closed_step s below more false h e same = rw h (same (closed_below s below false h e))

-- behind replies that leave the connection open the later ones say whether it closes
closed_append : (sent more : List Sent) → closed_by sent ≡ false → closed_by (sent ++ more) ≡ closed_by more
closed_append [] more e = refl
closed_append (s ∷ below) more e = closed_step s below more s.reply.closes refl e (λ f. closed_append below more f)

-- a count that goes on from a sum
count_more : (b : Bool) (n m : ℕ) → count_if b (n + m) ≡ count_if b n + m
count_more true n m = omega arith
count_more false n m = refl

-- of two parts the numbers of broken replies are added
broken_append : (sent more : List Sent) → broken_in (sent ++ more) ≡ broken_in sent + broken_in more
broken_append [] more = omega arith
broken_append (s ∷ below) more =
    let b = if is_server_error s.reply.status then true else s.reply.cut in
    ap (count_if b) (broken_append below more) ∙ count_more b (broken_in below) (broken_in more)

-- and those of replies at which the store broke off
failed_append : (sent more : List Sent) → failed_in (sent ++ more) ≡ failed_in sent + failed_in more
failed_append [] more = omega arith
failed_append (s ∷ below) more =
    ap (count_if (is_broken s.course)) (failed_append below more) ∙ count_more (is_broken s.course) (failed_in below) (failed_in more)

-- what is settled is settled behind replies that leave the connection open
settled_append : (behind : List ℕ) (sent more : List Sent) → closed_by sent ≡ false → IsSettled behind more → IsSettled behind (sent ++ more)
settled_append behind sent more e (inl w) = inl w
settled_append behind sent more e (inr c) = inr (closed_append sent more e ∙ c)

-- a session that has the numbers of what was sent, and goes on by those of more, has the numbers of both
numbers_append : (old new : SessionState) (sent more : List Sent) → HasNumbers old sent → NumbersGoOn old new more → HasNumbers new (sent ++ more)
numbers_append old new sent more h g = record {
  requests_are = g.requests_are ∙ ap (λ (n : ℕ). n + length more) h.requests_are ∙ sym (length-append sent more);
  broken_are = g.broken_are ∙ ap (λ (n : ℕ). n + broken_in more) h.broken_are ∙ sym (broken_append sent more);
  failed_are = g.failed_are ∙ ap (λ (n : ℕ). n + failed_in more) h.failed_are ∙ sym (failed_append sent more);
}

-- ---- the store's counts of two parts

-- counts that follow each other from a number go on from any that isn't greater
follow_between : (first before now : ℕ) (more : List Sent) → first ≤ before → CountsFollow before more now → CountsBetween first more now
follow_between first before now [] le f = omega (arith, le, f)
follow_between first before now (s ∷ more) le f =
    (omega (arith, le, f.0), omega (arith, f.0, f.1), follow_between s.faults_now s.faults_now now more (omega arith) f.2)

-- so they go on behind those of what was sent before
between_append : (first after before now : ℕ) (sent more : List Sent) → CountsBetween first sent after → after ≤ before
    → CountsFollow before more now → CountsBetween first (sent ++ more) now
between_append first after before now [] more h le f = follow_between first before now more (omega (arith, h, le)) f
between_append first after before now (s ∷ below) more h le f =
    (h.0, h.1, between_append s.faults_now after before now below more h.2 le f)

-- ---- what was sent can be gone on with

-- by what the store's blocks say, or by nothing behind a close
pub sent_extends : RequestStays → FirstHeads → SentExtends
sent_extends stays heads store fed piece rest sent s = by_close (closed_by sent) refl
  where
    by_close : (c : Bool) → closed_by sent ≡ c → (more : List Sent) × (behind : List ℕ) × SentInFull (SentFor store) (fed ++ piece) (sent ++ more) behind
    by_close true e = (
      [],
      rest,
      subst (λ (l : List Sent). SentInFull (SentFor store) (fed ++ piece) l rest) (sym (append-nil sent))
          (record { sent_is = closed_stays stays (SentFor store) fed piece rest sent s e; settled = inr e }),
    )
    by_close false e =
        let found = some_sent heads store (rest ++ piece) 0 in (
          found.0,
          found.1,
          record {
            sent_is = joins stays (SentFor store) fed piece rest found.1 sent found.0 s e found.2.sent_is;
            settled = settled_append found.1 sent found.0 e found.2.settled;
          },
        )

-- ---- sessions

-- the bytes of which all were looked at, with a piece, are those that were looked at, and some behind them
looked_with : (fed piece at none looked dropped : List ℕ) → fed ≡ at ++ none → none ≡ [] → piece ≡ looked ++ dropped
    → fed ++ piece ≡ (at ++ looked) ++ dropped
looked_with fed piece at none looked dropped e f g =
    ap (λ (l : List ℕ). l ++ piece) (e ∙ ap (λ (l : List ℕ). at ++ l) f ∙ append-nil at)
    ∙ ap (λ (l : List ℕ). at ++ l) g ∙ sym (append_assoc at looked dropped)

-- the number of bytes received is that of those that were looked at, with those of a piece
received_on : (was now at size more : ℕ) → was ≡ size → now ≡ was + more → at ≡ size + more → now ≡ at
received_on was now at size more e f g = omega (arith, e, f, g)

-- what follows what was sent first has these bytes: all of the two first parts, and a front of the third
front_bytes : (sent more next : List Sent) (count : ℕ)
    → sent_bytes sent ++ (sent_bytes more ++ take count (sent_bytes next))
    ≡ take (length (sent_bytes (sent ++ more)) + count) (sent_bytes (sent ++ (more ++ next)))
front_bytes sent more next count =
    let both = sent ++ more in
    let told = λ (x : Sent). reply_bytes x.reply in
    sym (append_assoc (sent_bytes sent) (sent_bytes more) (take count (sent_bytes next)))
    ∙ ap (λ (l : List ℕ). l ++ take count (sent_bytes next)) (sym (flat_map-append told sent more))
    ∙ sym (take-append-add (sent_bytes both) (sent_bytes next) count)
    ∙ ap (take (length (sent_bytes both) + count)) (sym (flat_map-append told both next))
    ∙ ap (λ (l : List Sent). take (length (sent_bytes both) + count) (sent_bytes l)) (append_assoc sent more next)

module _ (stays : RequestStays) where
  -- what was sent for bytes is sent for these and any behind them
  sent_with : (For : Answering) (bytes dropped rest : List ℕ) (sent : List Sent) → SentBy For bytes sent rest
      → (behind : List ℕ) × SentBy For (bytes ++ dropped) sent behind
  sent_with For bytes dropped rest sent s = by_close (closed_by sent) refl
    where
      by_close : (c : Bool) → closed_by sent ≡ c → (behind : List ℕ) × SentBy For (bytes ++ dropped) sent behind
      by_close true e = (rest, closed_stays stays For bytes dropped rest sent s e)
      by_close false e = (
        rest ++ dropped,
        subst (λ (l : List Sent). SentBy For (bytes ++ dropped) l (rest ++ dropped)) (append-nil sent)
            (joins stays For bytes dropped rest (rest ++ dropped) sent [] s e (no_more (rest ++ dropped))),
      )

  -- what a session stands for is sent for all the bytes that it was fed
  pub stands_sent : StandsForSent
  stands_sent session told fed sent first now s =
      let all = sent_with (SentOver told) s.looked s.dropped s.rest sent s.sent_is in
      (all.0, subst (λ (l : List ℕ). SentBy (SentOver told) l sent all.0) (sym s.fed_is) all.1)

  -- an open session kept what is behind the heads, so that what is sent for it and a piece joins what was sent
  kept_joins : (old : SessionState) (For : Answering) (fed looked behind : List ℕ) (sent more : List Sent) (first after : ℕ)
      (s : StandsFor old For fed sent first after) → old.closed ≡ false → SentBy For (old.kept ++ looked) more behind
      → SentBy For (s.looked ++ looked) (sent ++ more) behind
  kept_joins old For fed looked behind sent more first after s open_is all =
      let waits : IsWaitingFor false old.kept s.rest = subst (λ (c : Bool). IsWaitingFor c old.kept s.rest) open_is s.waiting in
      joins stays For s.looked looked s.rest behind sent more s.sent_is (sym s.closed_is ∙ open_is)
      (subst (λ (l : List ℕ). SentBy For (l ++ looked) more behind) waits.0 all)

  -- and both are sent for all bytes, with those of the piece that weren't looked at
  piece_joins : (old : SessionState) (For : Answering) (fed piece looked dropped behind : List ℕ) (sent more : List Sent) (first after : ℕ)
      → StandsFor old For fed sent first after → old.closed ≡ false → piece ≡ looked ++ dropped
      → SentBy For (old.kept ++ looked) more behind → (rest : List ℕ) × SentBy For (fed ++ piece) (sent ++ more) rest
  piece_joins old For fed piece looked dropped behind sent more first after s open_is piece_is all =
      let joined = kept_joins old For fed looked behind sent more first after s open_is all in
      let found = sent_with For (s.looked ++ looked) dropped behind (sent ++ more) joined in (
        found.0,
        subst (λ (l : List ℕ). SentBy For l (sent ++ more) found.0)
            (sym (looked_with fed piece s.looked s.dropped looked dropped s.fed_is (s.all_looked open_is) piece_is)) found.1,
      )

  -- a session that is fed a piece and refuses nothing stands for what it sent besides, too
  pub sessions_go_on : SessionsGoOn
  sessions_go_on old new told fed piece sent more first after before now s w le =
      let open_is : closed_by sent ≡ false = sym s.closed_is ∙ w.open_is.unclosed in
      record {
        unrefused = w.unrefused;
        looked = s.looked ++ w.looked;
        dropped = w.dropped;
        fed_is = looked_with fed piece s.looked s.dropped w.looked w.dropped s.fed_is (s.all_looked w.open_is.unclosed) w.piece_is;
        all_looked = w.all_looked;
        rest = w.behind;
        sent_is = kept_joins old (SentOver told) fed w.looked w.behind sent more first after s w.open_is.unclosed w.sent_is;
        waiting = w.waiting;
        closed_is = w.closed_is ∙ sym (closed_append sent more open_is);
        numbers = numbers_append old new sent more s.numbers w.numbers;
        received_is =
            received_on old.received new.received (length (s.looked ++ w.looked)) (length s.looked) (length w.looked) s.received_is w.received_is
            (length-append s.looked w.looked);
        within = w.within;
        counts = between_append first after before now sent more s.counts le w.counts;
      }

  -- where more bytes came than may be received, all that is sent for those that may be is a front of what is sent
  pub limit_is_front : LimitIsFront
  limit_is_front old new told fed piece sent more first after before now s p =
      let all = piece_joins old (SentOver told) fed piece p.looked p.dropped p.behind sent more first after s p.open_is.unclosed p.piece_is p.sent_is.sent_is in
      let bytes = sent_bytes (sent ++ more) in (
        record {
          sent = sent ++ more;
          rest = all.0;
          sent_is = all.1;
          count = length bytes;
          written_is =
              sym (flat_map-append (λ (x : Sent). reply_bytes x.reply) sent more) ∙ sym (take_all (length bytes) bytes (omega arith));
        },
        numbers_append old new sent more s.numbers p.numbers,
      )

  -- where an open session was broken off, the replies that were written whole, with a front of the next one, are one
  pub broken_is_front : BrokenIsFront
  broken_is_front old new told fed piece written sent more next first after before now s b =
      let all = piece_joins old (SentOver told) fed piece b.looked b.dropped b.behind sent (more ++ next) first after s b.open_is.unclosed b.piece_is b.sent_is in (
        record {
          sent = sent ++ (more ++ next);
          rest = all.0;
          sent_is = all.1;
          count = length (sent_bytes (sent ++ more)) + b.count;
          written_is = ap (λ (l : List ℕ). sent_bytes sent ++ l) b.written_is ∙ front_bytes sent more next b.count;
        },
        numbers_append old new sent more s.numbers b.numbers,
      )

-- a closed session stands for the same
pub sessions_stay_closed : SessionsStayClosed
sessions_stay_closed session told fed piece sent first now s closed = record {
  unrefused = s.unrefused;
  looked = s.looked;
  dropped = s.dropped ++ piece;
  fed_is = ap (λ (l : List ℕ). l ++ piece) s.fed_is ∙ append_assoc s.looked s.dropped piece;
  all_looked = λ going. absurd (true_false (sym closed ∙ going));
  rest = s.rest;
  sent_is = s.sent_is;
  waiting = s.waiting;
  closed_is = s.closed_is;
  numbers = s.numbers;
  received_is = s.received_is;
  within = s.within;
  counts = s.counts;
}
