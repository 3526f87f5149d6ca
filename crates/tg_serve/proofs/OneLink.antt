-- One link that a door gave, that was served, and that was given back.
use Rattle.std.proofs.Common.{Bool, Err, List, None, Ok, Option, Some, [], ap, arith, false, inl, inr, refl, suc, sym, true, zero, ℕ, ◌++◌, ◌∷◌, ◌∙◌, ◌≡◌, ◌≤◌, ◌⊎◌}
use Rattle.std.specs.Option.{option_map}
use Rattle.std.specs.Prelude.{IsSome, Result, drop, is_some, take, ⊤}
use Rattle.tg_bytes.specs.Told.{IsNothing, after_front, grown}
use Rattle.tg_doors.specs.Doors.{DoorMeaning, DoorRose, IsAdmitted, IsDone, KeepsComing, KeepsPort, KeepsServed, at_door}
use Rattle.tg_links.specs.Views.{IsFirst, and_call, call_with, is_failed, told_call, view_of}
use Rattle.tg_faults.specs.Faults.{Rose}
use Rattle.tg_gateway.specs.Links.{LinkEnds}
use Rattle.tg_links.specs.Steps.{LinkQuiet, LinkStep, Spoke, link_step}
use Rattle.tg_gateway.specs.declared.fault.GatewayFault.{GatewayFault}
use Rattle.tg_gateway.specs.declared.fault.GatewayFault.TheVariants as faults
use Rattle.tg_gateway.specs.declared.session.Served.{Served}
use Rattle.tg_links.specs.Joining.{heard_of}
use Rattle.tg_links.specs.Links.{LinkMeaning}
use Rattle.tg_links.specs.declared.call.Call.{Call}
use Rattle.tg_model.specs.Stores.{Lookups, Store}
use Rattle.tg_reply.specs.Sent.{sent_bytes}
use Rattle.tg_serve.specs.Serving.{AreHeardOf, IsServedRun, LinkRun, LinksTell, QuietWhileTold, ServesLink, call_of}
use Rattle.tg_streams.specs.Streams.{SourceMeaning}

-- ---- a session over a link that was new

-- the link by its bytes, and what it counted
record HasRun (told : Option Store) (most : ℕ) (link : LinkStep) (lookups : Lookups) (served : Served) (end : Result ⊤ GatewayFault) : Type 0 where
  run : LinkRun
  served_is : run.served ≡ served
  end_is : run.end ≡ end
  is_served : IsServedRun told most run
  before : run.faults_before ≡ lookups.faults_old
  now : run.faults_now ≡ lookups.faults_new
  over_is : run.over ≡ link.over_new
  failed_is : run.failed ≡ is_failed link.faults_new
  spoke : Spoke link run.heard run.said

-- from none on, a count that rose is of faults
pub rose_failed : (before now : ℕ) → before ≡ 0 → Rose before now → is_failed now ≡ true
rose_failed before zero none rose = absurd (let up = rose (omega arith) in omega (arith, up))
rose_failed before (suc n) none rose = refl

unfailed : (link : LinkStep) → link.faults_old ≡ 0 → LinkQuiet link → is_failed link.faults_new ≡ false
unfailed link none quiet = ap is_failed (quiet ∙ none)

abbrev run_with : List ℕ → List ℕ → LinkStep → Lookups → Served → Result ⊤ GatewayFault → LinkRun
run_with heard said link lookups served end = record {
  heard = heard;
  said = said;
  over = link.over_new;
  failed = is_failed link.faults_new;
  served = served;
  end = end;
  faults_before = lookups.faults_old;
  faults_now = lookups.faults_new;
}

has_run : (told : Option Store) (most : ℕ) (link : LinkStep) (lookups : Lookups) (served : Served) (end : Result ⊤ GatewayFault)
    (heard said : List ℕ) → IsServedRun told most (run_with heard said link lookups served end) → Spoke link heard said
    → HasRun told most link lookups served end
has_run told most link lookups served end heard said is_served spoke = record {
  run = run_with heard said link lookups served end;
  served_is = refl;
  end_is = refl;
  is_served = is_served;
  before = refl;
  now = refl;
  over_is = refl;
  failed_is = refl;
  spoke = spoke;
}

one_run : (told : Option Store) (most : ℕ) (link : LinkStep) (lookups : Lookups) (served : Served) (end : Result ⊤ GatewayFault)
    → link.faults_old ≡ 0 → LinkEnds told most link lookups served end → HasRun told most link lookups served end
one_run told most link lookups served (Ok done) none h =
    has_run told most link lookups served (Ok done) h.heard (sent_bytes h.sent)
    (record {
      sent = h.sent;
      rest = h.rest;
      sent_is = h.sent_is;
      said_is = refl;
      ended = h.ended;
      numbers = h.numbers;
      counts = h.counts;
      unfailed = unfailed link none h.quiet;
    })
    h.spoke
one_run told most link lookups served (Err (faults.Limit number)) none (is_most, h) =
    has_run told most link lookups served (Err (faults.Limit number)) h.heard (sent_bytes h.sent) (
      is_most,
      record {
        past = h.past;
        sent = h.sent;
        rest = h.rest;
        sent_is = h.sent_is;
        left_open = h.left_open;
        said_is = refl;
        numbers = h.numbers;
        counts = h.counts;
        unfailed = unfailed link none h.quiet;
      },
    )
    h.spoke
one_run told most link lookups served (Err faults.LinkFault) none (h, rose) =
    has_run told most link lookups served (Err faults.LinkFault) h.heard (sent_bytes h.sent ++ take h.count (sent_bytes h.next)) (
      record {
        sent = h.sent;
        next = h.next;
        rest = h.rest;
        sent_is = h.sent_is;
        at_most_one = h.at_most_one;
        left_open = h.left_open;
        count = h.count;
        said_is = refl;
        numbers = h.numbers;
        counts = h.counts;
      },
      rose_failed link.faults_old link.faults_new none rose,
    )
    h.spoke
one_run told most link lookups served (Err faults.OutOfMemory) none (h, quiet) =
    has_run told most link lookups served (Err faults.OutOfMemory) h.heard (sent_bytes h.sent ++ take h.count (sent_bytes h.next)) (
      record {
        sent = h.sent;
        next = h.next;
        rest = h.rest;
        sent_is = h.sent_is;
        at_most_one = h.at_most_one;
        left_open = h.left_open;
        count = h.count;
        said_is = refl;
        numbers = h.numbers;
        counts = h.counts;
      },
      unfailed link none quiet,
    )
    h.spoke

-- ---- what its door tells of it

-- what went through a link that was new, where it tells it
pub told_of : (old new : Option (List ℕ)) (bytes : List ℕ) → IsNothing old → new ≡ grown old bytes → IsSome new → new ≡ Some bytes
told_of None new bytes nothing is tells = absurd (let f = sym (ap is_some is) ∙ tells in cc)
told_of (Some rest) new bytes nothing is tells = is ∙ ap (λ (front : List ℕ). Some (front ++ bytes)) nothing

-- the first of the links to come is gone
first_gone : (old new : Option (List (List ℕ))) (left : Option (List ℕ)) → IsFirst old new left → new ≡ option_map (drop 1) old
first_gone None new left is = is
first_gone (Some []) new left is = absurd is
first_gone (Some (first ∷ more)) new left is = is.0

-- what was heard is a front of what its peer says
first_heard : (coming now : Option (List (List ℕ))) (old new : Option (List ℕ)) (run : LinkRun) (over : Bool) → IsFirst coming now old
    → old ≡ after_front run.heard new → run.over ≡ over → (over ≡ true → IsNothing new) → AreHeardOf coming (run ∷ [])
first_heard None now old new run over is took same ended = tt
first_heard (Some []) now old new run over is took same ended = absurd is
first_heard (Some (first ∷ more)) now old new run over is took same ended =
    (heard_of first run.heard old new run.over is.1 took (λ e. ended (sym same ∙ e)), tt)

module _ {D L : Type 0} (m : DoorMeaning D) (links : LinkMeaning L) (source : SourceMeaning L) (a b c : D) (x y : L)
    (told : Option Store) (most : ℕ) (lookups : Lookups) (served : Served) (end : Result ⊤ GatewayFault)
    (admitted : IsAdmitted (at_door m a b) (Ok (Some (view_of links source x)))) (served_before : KeepsServed (at_door m a b)) (port_before : KeepsPort (at_door m a b))
    (ends : LinkEnds told most (link_step links source x y) lookups served end) (rises : lookups.faults_old ≤ lookups.faults_new)
    (done : IsDone (view_of links source y) (at_door m b c)) (coming_behind : KeepsComing (at_door m b c)) (port_behind : KeepsPort (at_door m b c)) where
  ran : HasRun told most (link_step links source x y) lookups served end
  ran = one_run told most (link_step links source x y) lookups served end admitted.0.faults ends

  -- the call is the link's, by its parts
  call_is : links.heard y ≡ Some ran.run.heard → links.said y ≡ Some ran.run.said → told_call (view_of links source y) ≡ Some (call_of ran.run)
  call_is heard_is said_is =
      ap (λ (o : Option (List ℕ)). call_with o (links.said y) (links.over y) (is_failed (source.faults y))) heard_is
      ∙ ap (λ (o : Option (List ℕ)). call_with (Some ran.run.heard) o (links.over y) (is_failed (source.faults y))) said_is
      ∙ ap (λ (over : Bool). call_with (Some ran.run.heard) (Some ran.run.said) over (is_failed (source.faults y))) (sym ran.over_is)
      ∙ ap (λ (failed : Bool). call_with (Some ran.run.heard) (Some ran.run.said) ran.run.over failed) (sym ran.failed_is)

  call_told : LinksTell links → told_call (view_of links source y) ≡ Some (call_of ran.run)
  call_told tell =
      call_is (told_of (links.heard x) (links.heard y) ran.run.heard admitted.0.heard ran.spoke.heard_is (tell y).0)
      (told_of (links.said x) (links.said y) ran.run.said admitted.0.said ran.spoke.said_is (tell y).1)

  -- what isn't told stays so, whatever is told of this link
  untold_by : (m.served c ≡ and_call (m.served b) (told_call (view_of links source y))) ⊎ ((m.served c ≡ None) × DoorRose (at_door m b c))
      → m.served b ≡ None → m.served c ≡ None
  untold_by (inl is) none = is ∙ ap (λ (o : Option (List Call)). and_call o (told_call (view_of links source y))) none
  untold_by (inr (is, up)) none = is

  untold_is : m.served a ≡ None → m.served c ≡ None
  untold_is none = untold_by done.served (served_before ∙ none)

  -- what rose behind the `admit` rose
  rose : DoorRose (at_door m b c) → DoorRose (at_door m a c)
  rose up room = let quiet = admitted.3 in let more = up room in omega (arith, quiet, more)

  told_is : LinksTell links
      → (m.served c ≡ and_call (m.served a) (Some (call_of ran.run))) ⊎ ((m.served c ≡ None) × DoorRose (at_door m a c))
  told_is tell = by done.served
    where
      by : (m.served c ≡ and_call (m.served b) (told_call (view_of links source y))) ⊎ ((m.served c ≡ None) × DoorRose (at_door m b c))
          → (m.served c ≡ and_call (m.served a) (Some (call_of ran.run))) ⊎ ((m.served c ≡ None) × DoorRose (at_door m a c))
      by (inl is) =
          inl (is ∙ ap (and_call (m.served b)) (call_told tell) ∙ ap (λ (o : Option (List Call)). and_call o (Some (call_of ran.run))) served_before)
      by (inr (none, up)) = inr (none, rose up)

  -- a link without a fault raises nothing, but where its door told of links
  quiet_is : ran.run.failed ≡ false → QuietWhileTold (at_door m a c)
  quiet_is unfailed = by (m.served a) refl done.served
    where
      fine : is_failed (source.faults y) ≡ false
      fine = sym ran.failed_is ∙ unfailed

      by : (was : Option (List Call)) → m.served a ≡ was
          → (m.served c ≡ and_call (m.served b) (told_call (view_of links source y))) ⊎ ((m.served c ≡ None) × DoorRose (at_door m b c))
          → QuietWhileTold (at_door m a c)
      by was is (inl told) = inl (done.quiet fine told ∙ admitted.3)
      by (Some calls) is (inr (none, up)) = inr (ap is_some is, none, rose up)
      by None is (inr (none, up)) =
          inl (done.quiet fine
          (none ∙ sym (ap (λ (o : Option (List Call)). and_call o (told_call (view_of links source y))) (served_before ∙ is))) ∙ admitted.3)

  pub link_served : ServesLink told most (LinksTell links) lookups (at_door m a c) served end
  link_served = record {
    run = ran.run;
    served_is = ran.served_is;
    end_is = ran.end_is;
    is_served = ran.is_served;
    before = ran.before;
    now = ran.now;
    rises = rises;
    told_is = told_is;
    coming = coming_behind ∙ first_gone (m.coming a) (m.coming b) (links.left x) admitted.1;
    heard = first_heard (m.coming a) (m.coming b) (links.left x) (links.left y) ran.run (links.over y) admitted.1 ran.spoke.left_is ran.over_is
        (ran.spoke.ended admitted.0.over);
    untold = untold_is;
    failed = λ did. rose (done.failed (sym ran.failed_is ∙ did));
    quiet = quiet_is;
    port = port_behind ∙ port_before;
    counted = let quiet = admitted.3 in let more = done.counted in omega (arith, quiet, more);
  }
