-- What may be sent for a head that asks for a CAR.
use Rattle.std.proofs.Common.{Bool, Err, List, None, Ok, Option, Some, [], ap, ap₂, false, le-add_right, length}
use Rattle.std.proofs.Common.{length-append, refl, subst, sym, take, true, ℕ, ◌++◌, ◌∙◌, ◌≡◌, ◌≤◌, ◌||◌, ◌&&◌}
use Rattle.std.specs.Prelude.{Result, if◌then◌else◌, not}
use Rattle.std.proofs.Math.Seq.{take-append_seam}
use Rattle.std.proofs.lemmas.List.Elements.{All-nil}
use Rattle.tg_answering.specs.WalksSend.{sections_sent}
use Rattle.tg_http.specs.declared.request.RequestHead.{RequestHead}
use Rattle.tg_model.specs.Dag.{Section}
use Rattle.tg_model.specs.PathWalk.{PathEnd, bad_block, gone, not_folder, not_reached, not_there, path_walk, terminal}
use Rattle.tg_model.specs.Queries.{QueryParts}
use Rattle.tg_model.specs.StoreView.{store_view}
use Rattle.tg_model.specs.Stores.{Lookups, LookupsQuiet, Store}
use Rattle.tg_model.specs.declared.queries.Form.TheVariants as forms
use Rattle.tg_reply.specs.Asked.{asked, is_head}
use Rattle.tg_reply.specs.CarBytes.{car_parts}
use Rattle.tg_reply.specs.Heads.{car_head, car_status}
use Rattle.tg_reply.specs.Replies.{Reply, asks_close, car_reply, found_reply, framed_body, reply, reply_at}
use Rattle.tg_reply.specs.Replies.{reply_bytes, reply_to}
use Rattle.tg_replying.proofs.Fronts.{Begins, begins_behind, fails_within, gives_within}
use Rattle.tg_replying.proofs.Giving.{gives_fails, gives_gives}
use Rattle.tg_replying.proofs.Sending.{MaySend, known_ends, made, may_send_quiet}
use Rattle.tg_replying.specs.Bodies.{AreAllSent, AreSent, BodyEnds, BrokeOver, FailsIn, Gives, Giving, HasCauseFor}
use Rattle.tg_replying.specs.Bodies.{IsBodyFor, IsFrontOfBody, IsFrontSent, body_of, giving_in, is_cut_sent}
use Rattle.tg_replying.specs.Replying.{GivesReply, IsLed, IsToldFailed, LedIn, WrittenEnds}
use Rattle.tg_replying.specs.declared.body.BodyEnd.{BodyEnd}
use Rattle.tg_replying.specs.declared.fault.ReplyFault.{ReplyFault}
use Rattle.tg_replying.specs.declared.fault.ReplyFault.TheVariants as faults
use Rattle.tg_replying.specs.declared.reply.Replied.{Replied}
use Rattle.tg_reply.specs.Sent.{BreaksBehind, SendsSections, SentFor, behind_sections, broken_behind, broken_reply, exact}
use Rattle.tg_reply.specs.Sent.{is_found, is_server_error, quiet}
use Rattle.tg_reply.specs.Shapes.{IsGood, SentOver, broken_car, car_of}
use Rattle.tg_streams.specs.Joining.{SinkJoins}
use Rattle.tg_streams.specs.Streams.{SinkMeaning}

-- the head asks for the CAR of the query
pub record AsksCar (head : RequestHead) (q : QueryParts) : Type 0 where
  pub asked_is : asked head ≡ Ok q
  pub car : q.form ≡ forms.Car

-- ---- a reply to GET

abbrev by_method : Bool → RequestHead → Bool → QueryParts → List Section → Bool → Reply
by_method of_head head found q sections cut = record {
  status = car_status found;
  head = car_head found q head.minor (asks_close head);
  body = if of_head then [] else framed_body head.minor cut (car_parts q.root sections);
  cut = not of_head && cut;
  closes = asks_close head || not of_head && cut;
}

-- its body is that of its sections
abbrev car_to_get : RequestHead → Bool → QueryParts → List Section → Bool → Reply
car_to_get head found q sections cut = by_method false head found q sections cut

to_get : (head : RequestHead) (found : Bool) (q : QueryParts) (sections : List Section) (cut : Bool)
    → is_head head.method ≡ false
    → car_reply head found q sections cut ≡ car_to_get head found q sections cut
to_get head found q sections cut by_get = ap (λ (of_head : Bool). by_method of_head head found q sections cut) by_get

-- no reply with a CAR has status 500
broken_by_cut : (found cut : Bool) → cut ≡ (if is_server_error (car_status found) then true else cut)
broken_by_cut true cut = refl
broken_by_cut false cut = refl

-- ---- the whole

-- the reply by where the path leads
reply_led : (store : Store) (head : RequestHead) (q : QueryParts) (end : PathEnd) → AsksCar head q
    → (path_walk q.path (store_view store q.root)).end ≡ end → SendsSections end
    → reply store head ≡ car_reply head (is_found end) q (sections_sent store q) (is_cut_sent (is_found end) q store)
reply_led store head q (terminal d) asks e sends =
    ap (reply_to store head) asks.asked_is ∙ ap (reply_at store head q) e ∙ ap (found_reply store head q d) asks.car
reply_led store head q (not_reached (not_there i)) asks e sends =
    ap (reply_to store head) asks.asked_is ∙ ap (reply_at store head q) e
reply_led store head q (not_reached (not_folder i)) asks e sends =
    ap (reply_to store head) asks.asked_is ∙ ap (reply_at store head q) e
reply_led store head q (not_reached (gone spot)) asks e sends = absurd sends
reply_led store head q (not_reached (bad_block spot fault)) asks e sends = absurd sends

whole_reply : (store : Store) (head : RequestHead) (q : QueryParts) (found cut : Bool) (sections : List Section)
    → AsksCar head q → LedIn store q found
    → AreAllSent found q cut store sections → reply store head ≡ car_reply head found q sections cut
whole_reply store head q found cut sections asks led are =
    reply_led store head q (path_walk q.path (store_view store q.root)).end asks refl led.sends
    ∙ ap (λ (b : Bool). car_reply head b q (sections_sent store q) (is_cut_sent b q store)) led.found_is
    ∙ ap₂ (λ (sections : List Section) (cut : Bool). car_reply head found q sections cut) are.all are.cut_is

whole_sent : (told : Option Store) (head : RequestHead) (q : QueryParts) (found cut : Bool) (sections : List Section)
    (before : ℕ) → AsksCar head q → IsLed q told found
    → AreSent told (AreAllSent found q cut) q sections
    → SentOver told head (quiet (car_reply head found q sections cut) before)
whole_sent (Some store) head q found cut sections before asks led are =
    subst (λ (r : Reply). SentFor store head (quiet r before))
    (whole_reply store head q found cut sections asks led are) (exact before)
whole_sent None head q found cut sections before asks led are =
    car_of q found cut sections before asks.asked_is asks.car led are

-- all sections of a told store, or none
pub record HasAll (told : Option Store) (found : Bool) (q : QueryParts) : Type 0 where
  pub cut : Bool
  pub sections : List Section
  pub are : AreSent told (AreAllSent found q cut) q sections

has_all : (told : Option Store) (found : Bool) (q : QueryParts) → HasAll told found q
has_all (Some store) found q =
    let are : AreAllSent found q (is_cut_sent found q store) store (sections_sent store q) =
    record { all = refl; cut_is = refl } in
    record { cut = is_cut_sent found q store; sections = sections_sent store q; are = are }
has_all None found q = record { cut = false; sections = []; are = All-nil (IsGood q) }

-- ---- broken off

broken_is : (store : Store) (head : RequestHead) (q : QueryParts) (found : Bool) (sections : List Section)
    → LedIn store q found → IsFrontSent q store sections
    → broken_reply store head q (length sections) ≡ car_reply head found q sections true
broken_is store head q found sections led front =
    ap₂ (λ (b : Bool) (sections : List Section). car_reply head b q sections true) led.found_is
    (ap (λ (all : List Section). take (length sections) all) front.1 ∙ take-append_seam sections front.0)

few_sent : (store : Store) (q : QueryParts) (sections : List Section) → IsFrontSent q store sections
    → length sections ≤ length (sections_sent store q)
few_sent store q sections front =
    subst (λ (n : ℕ). length sections ≤ n) (sym (ap length front.1 ∙ length-append sections front.0))
    (le-add_right (length sections) (length front.0))

breaks_behind : (store : Store) (head : RequestHead) (q : QueryParts) (found : Bool) (sections : List Section)
    → AsksCar head q → is_head head.method ≡ false → LedIn store q found → IsFrontSent q store sections
    → BreaksBehind store head q (length sections)
breaks_behind store head q found sections asks by_get led front = record {
  asked_is = asks.asked_is;
  car = asks.car;
  by_get = by_get;
  sends = led.sends;
  within = few_sent store q sections front;
}

broken_sent : (told : Option Store) (head : RequestHead) (lookups : Lookups) (q : QueryParts) (found : Bool)
    (sections : List Section) → AsksCar head q
    → is_head head.method ≡ false → IsLed q told found → AreSent told (IsFrontSent q) q sections
    → BrokeOver told lookups
    → MaySend (SentOver told) head lookups (car_reply head found q sections true) true
broken_sent (Some store) head lookups q found sections asks by_get led front broke = record {
  course = broken_behind (length sections);
  is_sent = subst (λ (r : Reply). SentFor store head
      (made r (broken_behind (length sections)) lookups.faults_old lookups.faults_new))
      (broken_is store head q found sections led front)
      (behind_sections q (length sections) lookups.faults_old lookups.faults_new
      (breaks_behind store head q found sections asks by_get led front) broke);
  fails = refl;
}
broken_sent None head lookups q found sections asks by_get led good broke = record {
  course = broken_behind (length sections);
  is_sent = broken_car q found sections lookups.faults_old lookups.faults_new asks.asked_is asks.car by_get led
      good broke;
  fails = refl;
}

-- ---- with a body

body_sent : (told : Option Store) (head : RequestHead) (lookups : Lookups) (q : QueryParts) (found cut failed : Bool)
    (sections : List Section) → AsksCar head q
    → is_head head.method ≡ false → IsLed q told found → AreSent told (IsBodyFor failed found q cut) q sections
    → HasCauseFor failed told lookups cut
    → MaySend (SentOver told) head lookups (car_reply head found q sections cut) failed
body_sent told head lookups q found cut true sections asks by_get led are cause =
    subst (λ (b : Bool). MaySend (SentOver told) head lookups (car_reply head found q sections b) true) (sym cause.0)
    (broken_sent told head lookups q found sections asks by_get led are cause.1)
body_sent told head lookups q found cut false sections asks by_get led are cause =
    may_send_quiet (SentOver told) head lookups (car_reply head found q sections cut) cause
    (whole_sent told head q found cut sections lookups.faults_old asks led are)

module _ {S : Type 0} (m : SinkMeaning S) (joins : SinkJoins S m) (told : Option Store) (head : RequestHead)
    (q : QueryParts) (found : Bool)
    (asks : AsksCar head q) (led : IsLed q told found) where
  abbrev line : List ℕ
  line = car_head found q head.minor (asks_close head)

  -- the head is a front of a reply
  pub head_fails : (a b : S) (g0 g1 : List ℕ) (lookups : Lookups) → FailsIn (giving_in m g0 g1 a b) line
      → WrittenEnds (SentOver told) head lookups (giving_in m g0 g1 a b) (Err faults.SinkFault)
  head_fails a b g0 g1 lookups fails =
      let all = has_all told found q in
      let sent : Reply = car_reply head found q all.sections all.cut in
      record {
        sent = quiet sent 0;
        is_sent = whole_sent told head q found all.cut all.sections 0 asks led all.are;
        is_done = fails_within m a b g0 g1 line (reply_bytes sent) (record { rest = sent.body; whole_is = refl }) fails;
      }

  -- the head alone is the reply to HEAD
  pub head_ends : (lookups : Lookups) (giving : Giving) (result : Result Replied ReplyFault) → LookupsQuiet lookups
      → ((sections : List Section) (cut : Bool) → GivesReply (car_reply head found q sections cut) giving result)
      → IsToldFailed false result
      → WrittenEnds (SentOver told) head lookups giving result
  head_ends lookups giving result still gives whole =
      let all = has_all told found q in
      let sent : Reply = car_reply head found q all.sections all.cut in
      known_ends (SentOver told) head lookups giving sent false result
      (may_send_quiet (SentOver told) head lookups sent still
      (whole_sent told head q found all.cut all.sections lookups.faults_old asks led all.are))
      (gives all.sections all.cut) whole

  -- behind the head the front of a body is a front of a reply to GET
  begins_reply : (bytes : List ℕ) (front : IsFrontOfBody head.minor found q told bytes) → is_head head.method ≡ false
      → Begins (reply_bytes (car_reply head found q front.sections front.cut)) (line ++ bytes)
  begins_reply bytes front by_get =
      subst (λ (r : Reply). Begins (reply_bytes r) (line ++ bytes))
      (sym (to_get head found q front.sections front.cut by_get))
      (begins_behind line (body_of head.minor q front.cut front.sections) bytes
      (record { rest = front.rest; whole_is = front.whole }))

  -- so where the body isn't given to its end
  pub part_ends : (a b c : S) (g0 g1 g2 : List ℕ) (lookups : Lookups) (fault : ReplyFault)
      → is_head head.method ≡ false → Gives (giving_in m g0 g1 a b) line
      → BodyEnds head.minor found q told lookups (giving_in m g1 g2 b c) (Err fault)
      → WrittenEnds (SentOver told) head lookups (giving_in m g0 g2 a c) (Err fault)
  part_ends a b c g0 g1 g2 lookups faults.SinkFault by_get gives h =
      let sent : Reply = car_reply head found q h.is_front.sections h.is_front.cut in
      record {
        sent = quiet sent 0;
        is_sent = whole_sent told head q found h.is_front.cut h.is_front.sections 0 asks led h.is_front.are;
        is_done = fails_within m a c g0 g2 (line ++ h.bytes) (reply_bytes sent) (begins_reply h.bytes h.is_front by_get)
            (gives_fails m a b c g0 g1 g2 line h.bytes joins gives h.is_done);
      }
  part_ends a b c g0 g1 g2 lookups faults.OutOfMemory by_get gives (h, still) =
      let sent : Reply = car_reply head found q h.is_front.sections h.is_front.cut in
      record {
        sent = quiet sent 0;
        is_sent = whole_sent told head q found h.is_front.cut h.is_front.sections 0 asks led h.is_front.are;
        is_done = gives_within (giving_in m g0 g2 a c) (line ++ h.bytes) (reply_bytes sent)
            (begins_reply h.bytes h.is_front by_get)
            (gives_gives m a b c g0 g1 g2 line h.bytes joins gives h.is_done);
      }

  -- and where it is
  pub whole_ends : (a b c : S) (g0 g1 g2 : List ℕ) (lookups : Lookups) (end : BodyEnd) (replied : Replied)
      → is_head head.method ≡ false
      → Gives (giving_in m g0 g1 a b) line → BodyEnds head.minor found q told lookups (giving_in m g1 g2 b c) (Ok end)
      → replied.closes ≡ (asks_close head || end.cut) → replied.broken ≡ end.cut → replied.failed ≡ end.failed
      → WrittenEnds (SentOver told) head lookups (giving_in m g0 g2 a c) (Ok replied)
  whole_ends a b c g0 g1 g2 lookups end replied by_get gives h closes broken failed =
      let given = h.0 in
      let body : List ℕ = body_of head.minor q end.cut given.sections in
      known_ends (SentOver told) head lookups (giving_in m g0 g2 a c)
      (car_to_get head found q given.sections end.cut) end.failed (Ok replied)
      (subst (λ (r : Reply). MaySend (SentOver told) head lookups r end.failed)
      (to_get head found q given.sections end.cut by_get)
      (body_sent told head lookups q found end.cut end.failed given.sections asks by_get led given.are h.1)) (
        gives_gives m a b c g0 g1 g2 line body joins gives given.is_done,
        closes,
        broken ∙ broken_by_cut found end.cut,
      ) failed
