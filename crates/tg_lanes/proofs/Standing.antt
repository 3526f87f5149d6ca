-- What a lane's session stands for, by what it was fed, and that it goes on.
use Rattle.std.proofs.Common.{◌≡◌, ℕ, ◌≤◌, Bool, Err, Ok, Option, Some, None, Result, true, false, List, [], ◌∷◌, ◌++◌, length, take, inl, inr, refl, sym, ap, subst, ◌∙◌, append_assoc, append-nil, arith, length-append}
use Rattle.std.specs.Prelude.{MatchResult, is_some}
use Rattle.std.proofs.lemmas.Grind.{flat_map-append}
use Rattle.std.proofs.lemmas.List.{take-append-le}
use Rattle.tg_faults.specs.Faults.{Rose}
use Rattle.tg_gateway.specs.Laws.{BrokenIsNext, IsSentFront, IsSentUpTo, LimitIsAll, SentLonger}
use Rattle.tg_gateway.specs.Sessions.{FedOn, FeedEnds, SessionView, next_of}
use Rattle.tg_gateway.specs.declared.fault.GatewayFault.{GatewayFault}
use Rattle.tg_gateway.specs.declared.fault.GatewayFault.TheVariants as faults
use Rattle.tg_gateway.specs.declared.session.Next.{Next}
use Rattle.tg_gateway.specs.declared.session.Next.TheVariants as nexts
use Rattle.tg_lanes.proofs.Later.{later_by}
use Rattle.tg_lanes.specs.History.{AreInTurn, AreSentIn, EndsAs, Fed, HasOutRisen, HasWritten, HasWrittenFront, HasWrittenUpTo, LaneStands, WritesBy, fed_by, fed_in, written_in}
use Rattle.tg_lanes.specs.Lanes.{Feeds, IsAgreed}
use Rattle.tg_lanes.specs.OwnLaws.{fed_push, written_push}
use Rattle.tg_model.specs.Stores.{Lookups, Store}
use Rattle.tg_reply.specs.Replies.{reply_bytes}
use Rattle.tg_reply.specs.SentLaws.{SessionsGoOn, SessionsStayClosed}
use Rattle.tg_reply.specs.Sent.{CountsBetween, CountsFollow, Sent, SentBy, SentInFull, sent_bytes}
use Rattle.tg_reply.specs.Sessions.{BrokeOff, IsOpen, PassedLimit, SessionState, StandsFor, WentOn}
use Rattle.tg_reply.specs.Shapes.{SentOver}
use Rattle.tg_streams.specs.Streams.{Output, Put}

-- the laws of sessions that are cited
pub record SessionLaws : Type 0 where
  pub go_on : SessionsGoOn
  pub stay_closed : SessionsStayClosed
  pub limit_all : LimitIsAll
  pub broken_next : BrokenIsNext
  pub longer : SentLonger

-- ---- one more thing that a lane was fed

out_push : (own : List Fed) (f : Fed) → HasOutRisen own → HasOutRisen (own ++ f ∷ [])
out_push [] f h = absurd h
out_push (g ∷ own) f (inl h) = inl h
out_push (g ∷ own) f (inr h) = inr (out_push own f h)

out_last : (own : List Fed) (f : Fed) → Rose f.out_before f.out_now → HasOutRisen (own ++ f ∷ [])
out_last [] f h = inl h
out_last (g ∷ own) f h = inr (out_last own f h)

turn_push : (since : ℕ) (own : List Fed) (f : Fed) → AreInTurn since own f.store_before → f.store_before ≤ f.store_now
    → AreInTurn since (own ++ f ∷ []) f.store_now
turn_push since [] f h le = (h, le, omega arith)
turn_push since (g ∷ own) f h le = (h.0, h.1, turn_push g.store_now own f h.2 le)

-- what was sent in it is sent behind the others
sent_push : (own : List Fed) (f : Fed) (sent more : List Sent) → AreSentIn own sent → CountsBetween f.store_before more f.store_now
    → AreSentIn (own ++ f ∷ []) (sent ++ more)
sent_push [] f sent more none counts = record {
  more = more;
  later = [];
  sent_is = ap (λ (l : List Sent). l ++ more) none ∙ sym (append-nil more);
  counts = counts;
  behind = refl;
}
sent_push (g ∷ own) f sent more h counts = record {
  more = h.more;
  later = h.later ++ more;
  sent_is = ap (λ (l : List Sent). l ++ more) h.sent_is ∙ append_assoc h.more h.later more;
  counts = h.counts;
  behind = sent_push own f h.later more h.behind counts;
}

-- counts that follow one another lie between the first and the last
follow_counts : (before now : ℕ) (more : List Sent) → CountsFollow before more now → CountsBetween before more now
follow_counts before now [] h = omega (arith, h)
follow_counts before now (s ∷ more) h = (omega (arith, h.0), omega (arith, h.0, h.1), follow_counts s.faults_now now more h.2)

-- ---- how a session ends that was fed

module _ (told : Option Store) (before behind : SessionView) (piece : List ℕ) (lookups : Lookups) (out : Output) where
  -- it says so
  ends_open : (result : Result Next GatewayFault) → FeedEnds told before behind piece lookups out result
      → MatchResult result (λ _. behind.refused ≡ None) (λ fault. behind.refused ≡ Some fault) → EndsAs behind result
  ends_open (Ok next) p refused = (refused, p.next_is)
  ends_open (Err fault) p refused = refused

  ends_closed : (result : Result Next GatewayFault) → result ≡ Ok nexts.Close → behind ≡ before → before.refused ≡ None → before.state.closed ≡ true
      → EndsAs behind result
  ends_closed result is same none closed =
      subst (EndsAs behind) (sym is)
      (ap (λ (s : SessionView). s.refused) same ∙ none, sym (ap next_of (ap (λ (s : SessionView). s.state.closed) same ∙ closed)))

  pub lane_ends : (same : Type 0) (result : Result Next GatewayFault) → Feeds told before behind piece lookups out same result → EndsAs behind result
  lane_ends same result feeds = by before.refused refl
    where
      by_close : (c : Bool) → before.state.closed ≡ c → before.refused ≡ None → EndsAs behind result
      by_close false open_is none =
          ends_open result (feeds.ends (record { unclosed = open_is; unrefused = feeds.agreed ∙ ap is_some none })) feeds.refused
      by_close true closed none = let f = feeds.closed none closed in ends_closed result f.0 f.1 none closed

      by : (r : Option GatewayFault) → before.refused ≡ r → EndsAs behind result
      by None none = by_close before.state.closed refl none
      by (Some fault) some =
          let f = feeds.again fault some in
          subst (EndsAs behind) (sym f.0) (ap (λ (s : SessionView). s.refused) f.1 ∙ some)

  -- and its state agrees
  agrees_open : (result : Result Next GatewayFault) → FeedEnds told before behind piece lookups out result
      → MatchResult result (λ _. behind.refused ≡ None) (λ fault. behind.refused ≡ Some fault) → IsAgreed behind
  agrees_open (Ok next) p none = p.went.unrefused ∙ sym (ap is_some none)
  agrees_open (Err (faults.Limit number)) p some = p.passed.refused ∙ sym (ap is_some some)
  agrees_open (Err faults.LinkFault) p some = p.broke.refused ∙ sym (ap is_some some)
  agrees_open (Err faults.OutOfMemory) p some = p.broke.refused ∙ sym (ap is_some some)

  pub lane_agrees : (result : Result Next GatewayFault) → IsAgreed before → (IsOpen before.state → FeedEnds told before behind piece lookups out result)
      → (before.refused ≡ None → before.state.closed ≡ true → behind ≡ before)
      → ((fault : GatewayFault) → before.refused ≡ Some fault → behind ≡ before)
      → MatchResult result (λ _. behind.refused ≡ None) (λ fault. behind.refused ≡ Some fault) → IsAgreed behind
  lane_agrees result agreed ends closed again refused = by before.refused refl
    where
      by_close : (c : Bool) → before.state.closed ≡ c → before.refused ≡ None → IsAgreed behind
      by_close false open_is none =
          agrees_open result (ends (record { unclosed = open_is; unrefused = agreed ∙ ap is_some none })) refused
      by_close true shut none = subst IsAgreed (sym (closed none shut)) agreed

      by : (r : Option GatewayFault) → before.refused ≡ r → IsAgreed behind
      by None none = by_close before.state.closed refl none
      by (Some fault) some = subst IsAgreed (sym (again fault some)) agreed

-- ---- a piece is fed

-- a session was fed a piece, and this was put for it, with which it stands for what it stood for before, and the piece
pub record GoesOn (told : Option Store) (before behind : SessionView) (piece : List ℕ) (lookups : Lookups) (out : Output) : Type 0 where
  pub written : List ℕ
  pub put : Put written out
  pub stands : (since : ℕ) (own : List Fed) → LaneStands before told since lookups.faults_old own
      → LaneStands behind told since lookups.faults_new (own ++ fed_by piece written lookups out ∷ [])

module _ (laws : SessionLaws) (told : Option Store) (piece : List ℕ) (lookups : Lookups) (out : Output)
    (le : lookups.faults_old ≤ lookups.faults_new) where
  -- with this written
  abbrev fed : List ℕ → Fed
  fed written = fed_by piece written lookups out

  module _ (since : ℕ) (own : List Fed) (sent : List Sent) where
    abbrev all : List ℕ → List Fed
    all written = own ++ fed written ∷ []

    -- what was written, with what is written for the piece
    written_on : (more : List Sent) → written_in own ≡ sent_bytes sent → written_in (all (sent_bytes more)) ≡ sent_bytes (sent ++ more)
    written_on more is =
        written_push own (fed (sent_bytes more)) ∙ ap (λ (l : List ℕ). l ++ sent_bytes more) is
        ∙ sym (flat_map-append (λ s. reply_bytes s.reply) sent more)

    -- it goes on
    writes_on : (old new : SessionState) (more : List Sent) → HasWritten old told since lookups.faults_old own sent
        → WentOn old new (SentOver told) piece more lookups.faults_old lookups.faults_new
        → HasWritten new told since lookups.faults_new (all (sent_bytes more)) (sent ++ more)
    writes_on old new more h went = record {
      stands = subst (λ (l : List ℕ). StandsFor new (SentOver told) l (sent ++ more) since lookups.faults_new)
          (sym (fed_push own (fed (sent_bytes more))))
          (laws.go_on old new told (fed_in own) piece sent more since lookups.faults_old lookups.faults_old lookups.faults_new h.stands went (omega arith));
      written_is = written_on more h.written_is;
    }

    -- more came than may be received
    writes_past : (old new : SessionState) (more : List Sent) → HasWritten old told since lookups.faults_old own sent
        → PassedLimit old new (SentOver told) piece more lookups.faults_old lookups.faults_new
        → HasWrittenUpTo new told since lookups.faults_new (all (sent_bytes more)) (sent ++ more) old.most
    writes_past old new more h passed = record {
      up_to = subst (λ (l : List ℕ). IsSentUpTo new told l (sent ++ more) old.most since lookups.faults_new)
          (sym (fed_push own (fed (sent_bytes more))))
          (laws.limit_all old new told (fed_in own) piece sent more since lookups.faults_old lookups.faults_old lookups.faults_new h.stands passed (omega arith));
      written_is = written_on more h.written_is;
    }

    -- it was broken off
    writes_front : (old new : SessionState) (more next : List Sent) (written : List ℕ) → HasWritten old told since lookups.faults_old own sent
        → BrokeOff old new (SentOver told) piece more next written lookups.faults_old lookups.faults_new
        → HasWrittenFront new told since lookups.faults_new (all written) (sent ++ more)
    writes_front old new more next written h broke =
        let on = laws.broken_next old new told (fed_in own) piece written sent more next since lookups.faults_old lookups.faults_old lookups.faults_new h.stands broke
        (omega arith) in
        record {
          next = next;
          front = subst (λ (l : List ℕ). IsSentFront new told l (sent ++ more) next since lookups.faults_new) (sym (fed_push own (fed written)))
              on.is_front;
          count = on.count;
          written_is = written_push own (fed written) ∙ ap (λ (l : List ℕ). l ++ written) h.written_is ∙ on.written_is;
        }

    -- nothing is done for a piece: what was written stays
    written_same : written_in (all []) ≡ written_in own
    written_same = written_push own (fed []) ∙ append-nil (written_in own)

    -- and nothing more was sent
    sent_same : AreSentIn own sent → AreSentIn (all []) sent
    sent_same h = subst (AreSentIn (all [])) (append-nil sent) (sent_push own (fed []) sent [] h le)

    -- a closed session
    closed_on : (session : SessionState) → HasWritten session told since lookups.faults_old own sent → session.closed ≡ true
        → HasWritten session told since lookups.faults_old (all []) sent
    closed_on session h closed = record {
      stands = subst (λ (l : List ℕ). StandsFor session (SentOver told) l sent since lookups.faults_old) (sym (fed_push own (fed [])))
          (laws.stay_closed session told (fed_in own) piece sent since lookups.faults_old h.stands closed);
      written_is = written_same ∙ h.written_is;
    }

    -- one that refused bytes past those that may be received
    past_on : (session : SessionState) (number : ℕ) → HasWrittenUpTo session told since lookups.faults_old own sent number
        → HasWrittenUpTo session told since lookups.faults_old (all []) sent number
    past_on session number h =
        let longer = fed_push own (fed []) in
        let same : take number (fed_in (all [])) ≡ take number (fed_in own) =
        ap (take number) longer ∙ take-append-le number (fed_in own) piece (omega (arith, h.up_to.past)) in
        record {
          up_to = record {
            number_is = h.up_to.number_is;
            past = omega (arith, h.up_to.past, ap length longer, length-append (fed_in own) piece);
            rest = h.up_to.rest;
            sent_is = subst (λ (l : List ℕ). SentInFull (SentOver told) l sent h.up_to.rest) (sym same) h.up_to.sent_is;
            left_open = h.up_to.left_open;
            numbers = h.up_to.numbers;
            counts = h.up_to.counts;
          };
          written_is = written_same ∙ h.written_is;
        }

    -- one that was broken off
    front_on : (session : SessionState) → HasWrittenFront session told since lookups.faults_old own sent
        → HasWrittenFront session told since lookups.faults_old (all []) sent
    front_on session h =
        let longer = laws.longer told (fed_in own) piece h.front.rest (sent ++ h.next) h.front.sent_is in
        record {
          next = h.next;
          front = record {
            rest = longer.0;
            sent_is = subst (λ (l : List ℕ). SentBy (SentOver told) l (sent ++ h.next) longer.0) (sym (fed_push own (fed []))) longer.1;
            at_most_one = h.front.at_most_one;
            left_open = h.front.left_open;
            numbers = h.front.numbers;
            counts = h.front.counts;
          };
          count = h.count;
          written_is = written_same ∙ h.written_is;
        }

    -- one that refused something stays as it was
    writes_stay : (fault : GatewayFault) (session : SessionState) → WritesBy (Some fault) session told since lookups.faults_old own sent
        → WritesBy (Some fault) session told since lookups.faults_old (all []) sent
    writes_stay (faults.Limit number) session h = past_on session number h
    writes_stay faults.LinkFault session h = (front_on session h.0, out_push own (fed []) h.1)
    writes_stay faults.OutOfMemory session h = front_on session h

  -- ---- by how it was fed

  module _ (before behind : SessionView) where
    -- these were sent for the piece
    sent_more : (since : ℕ) (own : List Fed) (more : List Sent) (written : List ℕ) → CountsBetween lookups.faults_old more lookups.faults_new
        → (h : LaneStands before told since lookups.faults_old own)
        → WritesBy behind.refused behind.state told since lookups.faults_new (all since own h.sent written) (h.sent ++ more)
        → LaneStands behind told since lookups.faults_new (own ++ fed written ∷ [])
    sent_more since own more written counts h writes = record {
      in_turn = turn_push since own (fed written) h.in_turn le;
      sent = h.sent ++ more;
      sent_in = sent_push own (fed written) h.sent more h.sent_in counts;
      writes = writes;
    }

    -- what one that had refused nothing has written
    wrote : (since : ℕ) (own : List Fed) → before.refused ≡ None → (h : LaneStands before told since lookups.faults_old own)
        → HasWritten before.state told since lookups.faults_old own h.sent
    wrote since own was h = subst (λ (r : Option GatewayFault). WritesBy r before.state told since lookups.faults_old own h.sent) was h.writes

    fed_ok : (next : Next) → FedOn told before behind piece lookups out next → behind.refused ≡ None → before.refused ≡ None
        → GoesOn told before behind piece lookups out
    fed_ok next p none was = record {
      written = sent_bytes p.more;
      put = p.put.put;
      stands = λ since own h. sent_more since own p.more (sent_bytes p.more) (follow_counts lookups.faults_old lookups.faults_new p.more p.went.counts) h
          (subst
          (λ (r : Option GatewayFault). WritesBy r behind.state told since lookups.faults_new (all since own h.sent (sent_bytes p.more)) (h.sent ++ p.more))
          (sym none) (writes_on since own h.sent before.state behind.state p.more (wrote since own was h) p.went));
    }

    fed_err : (fault : GatewayFault) → FeedEnds told before behind piece lookups out (Err fault) → behind.refused ≡ Some fault → before.refused ≡ None
        → GoesOn told before behind piece lookups out
    fed_err (faults.Limit number) p some was = record {
      written = sent_bytes p.more;
      put = p.put.put;
      stands = λ since own h. sent_more since own p.more (sent_bytes p.more) (follow_counts lookups.faults_old lookups.faults_new p.more p.passed.counts) h
          (subst
          (λ (r : Option GatewayFault). WritesBy r behind.state told since lookups.faults_new (all since own h.sent (sent_bytes p.more)) (h.sent ++ p.more))
          (sym some)
          (subst (λ (n : ℕ). HasWrittenUpTo behind.state told since lookups.faults_new (all since own h.sent (sent_bytes p.more)) (h.sent ++ p.more) n)
          (sym p.number_is) (writes_past since own h.sent before.state behind.state p.more (wrote since own was h) p.passed)));
    }
    fed_err faults.LinkFault p some was = record {
      written = p.written;
      put = p.is_done.0;
      stands = λ since own h. sent_more since own p.more p.written p.broke.counts h
          (subst (λ (r : Option GatewayFault). WritesBy r behind.state told since lookups.faults_new (all since own h.sent p.written) (h.sent ++ p.more))
          (sym some) (
            writes_front since own h.sent before.state behind.state p.more p.next p.written (wrote since own was h) p.broke,
            out_last own (fed p.written) p.is_done.1,
          ));
    }
    fed_err faults.OutOfMemory p some was = record {
      written = p.written;
      put = p.is_done.put;
      stands = λ since own h. sent_more since own p.more p.written p.broke.counts h
          (subst (λ (r : Option GatewayFault). WritesBy r behind.state told since lookups.faults_new (all since own h.sent p.written) (h.sent ++ p.more))
          (sym some) (writes_front since own h.sent before.state behind.state p.more p.next p.written (wrote since own was h) p.broke));
    }

    -- a session that is open
    fed_open : (result : Result Next GatewayFault) → FeedEnds told before behind piece lookups out result
        → MatchResult result (λ _. behind.refused ≡ None) (λ fault. behind.refused ≡ Some fault) → before.refused ≡ None
        → GoesOn told before behind piece lookups out
    fed_open (Ok next) p refused was = fed_ok next p refused was
    fed_open (Err fault) p refused was = fed_err fault p refused was

    -- one for which nothing is done
    unfed : behind ≡ before → Put [] out
        → ((since : ℕ) (own : List Fed) (sent : List Sent) → WritesBy before.refused before.state told since lookups.faults_old own sent
        → WritesBy before.refused before.state told since lookups.faults_old (all since own sent []) sent)
        → GoesOn told before behind piece lookups out
    unfed same put writes = record {
      written = [];
      put = put;
      stands = λ since own h. subst (λ (s : SessionView). LaneStands s told since lookups.faults_new (own ++ fed [] ∷ [])) (sym same) (record {
        in_turn = turn_push since own (fed []) h.in_turn le;
        sent = h.sent;
        sent_in = sent_same since own h.sent h.sent_in;
        writes = later_by before.state told since lookups.faults_old lookups.faults_new (own ++ fed [] ∷ []) h.sent le before.refused
            (writes since own h.sent h.writes);
      });
    }

    pub lane_on : (same : Type 0) (result : Result Next GatewayFault) → (same → Put [] out)
        → Feeds told before behind piece lookups out same result → GoesOn told before behind piece lookups out
    lane_on same result idle feeds = by before.refused refl
      where
        by_close : (c : Bool) → before.state.closed ≡ c → before.refused ≡ None → GoesOn told before behind piece lookups out
        by_close false open_is none =
            fed_open result (feeds.ends (record { unclosed = open_is; unrefused = feeds.agreed ∙ ap is_some none })) feeds.refused none
        by_close true closed none =
            let f = feeds.closed none closed in
            unfed f.1 (idle f.2)
            (λ since own sent.
            subst
            (λ (r : Option GatewayFault). WritesBy r before.state told since lookups.faults_old own sent
            → WritesBy r before.state told since lookups.faults_old (own ++ fed [] ∷ []) sent)
            (sym none) (λ h. closed_on since own sent before.state h closed))

        by : (r : Option GatewayFault) → before.refused ≡ r → GoesOn told before behind piece lookups out
        by None none = by_close before.state.closed refl none
        by (Some fault) some =
            let f = feeds.again fault some in
            unfed f.1 (idle f.2)
            (λ since own sent.
            subst
            (λ (r : Option GatewayFault). WritesBy r before.state told since lookups.faults_old own sent
            → WritesBy r before.state told since lookups.faults_old (own ++ fed [] ∷ []) sent)
            (sym some) (writes_stay since own sent fault before.state))
