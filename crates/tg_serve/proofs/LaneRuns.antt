-- How a link was served whose lane's session ended, by what the session stands for.
use Rattle.std.proofs.Common.{Bool, Err, List, None, Ok, Option, Some, [], ap, append-nil, arith, false, inl, inr, length, refl, subst, sym, true, ℕ, ◌++◌, ◌∙◌, ◌≡◌, ◌≤◌}
use Rattle.std.specs.Prelude.{Result, ⊤}
use Rattle.tg_gateway.specs.Links.{IsServed, served_of}
use Rattle.tg_gateway.specs.Sessions.{SessionView}
use Rattle.tg_gateway.specs.declared.fault.GatewayFault.{GatewayFault}
use Rattle.tg_gateway.specs.declared.fault.GatewayFault.TheVariants as faults
use Rattle.tg_gateway.specs.declared.session.Next.{Next}
use Rattle.tg_lanes.specs.History.{Fed, HasWritten, HasWrittenFront, HasWrittenUpTo, LaneStands, WritesBy, fed_in, written_in}
use Rattle.tg_model.specs.Stores.{Store}
use Rattle.tg_reply.specs.Sent.{Sent, SentBy, closed_by, sent_bytes}
use Rattle.tg_reply.specs.SentLaws.{StandsForSent}
use Rattle.tg_reply.specs.Sessions.{HasNumbers, IsWaitingFor, SessionState}
use Rattle.tg_reply.specs.Shapes.{SentOver}
use Rattle.tg_serve.specs.Serving.{LinkRun, SaidAll, SaidBy, SaidFront}

-- how a session ended that was heard
abbrev pub end_of : Result Next GatewayFault → Result ⊤ GatewayFault
end_of (Ok next) = Ok tt
end_of (Err fault) = Err fault

abbrev pub run_of : SessionView → List Fed → Bool → Bool → Result ⊤ GatewayFault → ℕ → ℕ → LinkRun
run_of session own over failed end since now = record {
  heard = fed_in own;
  said = written_in own;
  over = over;
  failed = failed;
  served = served_of session.state;
  end = end;
  faults_before = since;
  faults_now = now;
}

are_numbers : (session : SessionState) (sent : List Sent) → HasNumbers session sent → IsServed (served_of session) sent
are_numbers session sent numbers = record {
  requests_are = numbers.requests_are;
  broken_are = numbers.broken_are;
  store_are = numbers.failed_are;
}

module _ (told : Option Store) (most : ℕ) (session : SessionView) (since now : ℕ) (own : List Fed) (stands : LaneStands session told since now own) (over failed : Bool) where
  writes : (refused : Option GatewayFault) → session.refused ≡ refused → WritesBy refused session.state told since now own stands.sent
  writes refused is = subst (λ (r : Option GatewayFault). WritesBy r session.state told since now own stands.sent) is stands.writes

  -- the last reply closes
  pub run_closes : StandsForSent → session.refused ≡ None → session.state.closed ≡ true → failed ≡ false
      → SaidBy told most (run_of session own over failed (Ok tt) since now) (Ok tt)
  run_closes all none closed fine =
      let w : HasWritten session.state told since now own stands.sent = writes None none in
      let by = all session.state told (fed_in own) stands.sent since now w.stands in
      let closes : closed_by stands.sent ≡ true = sym w.stands.closed_is ∙ closed in
      record {
        sent = stands.sent;
        rest = by.0;
        sent_is = record { sent_is = by.1; settled = inr closes };
        said_is = w.written_is;
        ended = inr closes;
        numbers = are_numbers session.state stands.sent w.stands.numbers;
        counts = w.stands.counts;
        unfailed = fine;
      }

  -- the peer says no more
  pub run_ends : session.refused ≡ None → session.state.closed ≡ false → over ≡ true → failed ≡ false
      → SaidBy told most (run_of session own over failed (Ok tt) since now) (Ok tt)
  run_ends none open_is ended fine =
      let w : HasWritten session.state told since now own stands.sent = writes None none in
      let fed : fed_in own ≡ w.stands.looked =
      w.stands.fed_is ∙ ap (λ (l : List ℕ). w.stands.looked ++ l) (w.stands.all_looked open_is) ∙ append-nil w.stands.looked in
      let waiting = subst (λ (b : Bool). IsWaitingFor b session.state.kept w.stands.rest) open_is w.stands.waiting in
      record {
        sent = stands.sent;
        rest = w.stands.rest;
        sent_is = record {
          sent_is = subst (λ (l : List ℕ). SentBy (SentOver told) l stands.sent w.stands.rest) (sym fed) w.stands.sent_is;
          settled = inl waiting.1;
        };
        said_is = w.written_is;
        ended = inl ended;
        numbers = are_numbers session.state stands.sent w.stands.numbers;
        counts = w.stands.counts;
        unfailed = fine;
      }

  -- more came than may be received
  pub run_limited : (number : ℕ) → session.refused ≡ Some (faults.Limit number) → session.state.most ≡ most → failed ≡ false
      → SaidBy told most (run_of session own over failed (Err (faults.Limit number)) since now) (Err (faults.Limit number))
  run_limited number some most_is fine =
      let w : HasWrittenUpTo session.state told since now own stands.sent number = writes (Some (faults.Limit number)) some in (
        w.up_to.number_is ∙ most_is,
        record {
          past = w.up_to.past;
          sent = stands.sent;
          rest = w.up_to.rest;
          sent_is = w.up_to.sent_is;
          left_open = w.up_to.left_open;
          said_is = w.written_is;
          numbers = are_numbers session.state stands.sent w.up_to.numbers;
          counts = w.up_to.counts;
          unfailed = fine;
        },
      )

  front_said : (end : Result ⊤ GatewayFault) → HasWrittenFront session.state told since now own stands.sent
      → SaidFront told (run_of session own over failed end since now)
  front_said end w = record {
    sent = stands.sent;
    next = w.next;
    rest = w.front.rest;
    sent_is = w.front.sent_is;
    at_most_one = w.front.at_most_one;
    left_open = w.front.left_open;
    count = w.count;
    said_is = w.written_is;
    numbers = are_numbers session.state stands.sent w.front.numbers;
    counts = w.front.counts;
  }

  -- the link failed to which was written
  pub run_fails : session.refused ≡ Some faults.LinkFault → failed ≡ true
      → SaidBy told most (run_of session own over failed (Err faults.LinkFault) since now) (Err faults.LinkFault)
  run_fails some did =
      let w : HasWrittenFront session.state told since now own stands.sent × _ = writes (Some faults.LinkFault) some in
      (front_said (Err faults.LinkFault) w.0, did)

  -- memory was wanted
  pub run_wants : session.refused ≡ Some faults.OutOfMemory → failed ≡ false
      → SaidBy told most (run_of session own over failed (Err faults.OutOfMemory) since now) (Err faults.OutOfMemory)
  run_wants some fine = (front_said (Err faults.OutOfMemory) (writes (Some faults.OutOfMemory) some), fine)

  -- the link failed of which was taken
  pub run_untaken : session.refused ≡ None → session.state.closed ≡ false → failed ≡ true
      → SaidBy told most (run_of session own over failed (Err faults.LinkFault) since now) (Err faults.LinkFault)
  run_untaken none open_is did =
      let w : HasWritten session.state told since now own stands.sent = writes None none in
      let fed : fed_in own ≡ w.stands.looked =
      w.stands.fed_is ∙ ap (λ (l : List ℕ). w.stands.looked ++ l) (w.stands.all_looked open_is) ∙ append-nil w.stands.looked in
      let sent_is : SentBy (SentOver told) (fed_in own) (stands.sent ++ []) w.stands.rest =
      subst (λ (l : List Sent). SentBy (SentOver told) (fed_in own) l w.stands.rest) (sym (append-nil stands.sent))
      (subst (λ (l : List ℕ). SentBy (SentOver told) l stands.sent w.stands.rest) (sym fed) w.stands.sent_is) in (
        record {
          sent = stands.sent;
          next = [];
          rest = w.stands.rest;
          sent_is = sent_is;
          at_most_one = omega arith;
          left_open = sym w.stands.closed_is ∙ open_is;
          count = 0;
          said_is = w.written_is ∙ sym (append-nil (sent_bytes stands.sent));
          numbers = are_numbers session.state stands.sent w.stands.numbers;
          counts = w.stands.counts;
        },
        did,
      )

-- ---- how many bytes were received

-- an open session received what it was fed
pub open_received : (told : Option Store) (session : SessionView) (since now : ℕ) (own : List Fed) → LaneStands session told since now own → session.refused ≡ None
    → session.state.closed ≡ false → (session.state.received ≡ length (fed_in own)) × (session.state.received ≤ session.state.most)
open_received told session since now own stands none open_is =
    let w : HasWritten session.state told since now own stands.sent =
    subst (λ (r : Option GatewayFault). WritesBy r session.state told since now own stands.sent) none stands.writes in
    let fed : fed_in own ≡ w.stands.looked =
    w.stands.fed_is ∙ ap (λ (l : List ℕ). w.stands.looked ++ l) (w.stands.all_looked open_is) ∙ append-nil w.stands.looked in
    (w.stands.received_is ∙ ap length (sym fed), w.stands.within)
