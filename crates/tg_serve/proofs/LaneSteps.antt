-- One step of lanes over links: a piece was heard at a lane, whose session goes on or ended.
use Rattle.std.proofs.Common.{All, Bool, Err, List, None, Ok, Option, Some, [], ap, append_assoc, arith, eq-eqb, eqb-true, false, inl, inr, length, length-append, length-set, refl, subst, suc, sym, true, zero, ℕ, ◌+◌, ◌++◌, ◌<◌, ◌==◌, ◌∙◌, ◌∷◌, ◌≡◌, ◌≤◌, ◌⊎◌}
use Rattle.std.proofs.lemmas.List.Elements.{All-push, All-weaker}
use Rattle.std.specs.Option.{option_map}
use Rattle.std.specs.Prelude.{IsSome, Result, drop, is_some, map, slice_get, slice_set, ⊤, ◌||◌}
use Rattle.tg_bytes.specs.Told.{IsNothing, grown}
use Rattle.tg_doors.specs.Doors.{DoorMeaning, DoorRose, IsDone, KeepsComing, KeepsPort, KeepsShut, at_door}
use Rattle.tg_gateway.specs.Links.{served_of}
use Rattle.tg_gateway.specs.Sessions.{SessionView, next_of}
use Rattle.tg_gateway.specs.declared.fault.GatewayFault.{GatewayFault}
use Rattle.tg_gateway.specs.declared.fault.GatewayFault.TheVariants as faults
use Rattle.tg_gateway.specs.declared.session.Next.{Next}
use Rattle.tg_gateway.specs.declared.session.Next.TheVariants as nexts
use Rattle.tg_lanes.specs.Hearing.{HasEndedAs, HasFailedAs, HeardOn, IsFedAs, IsHeardAs, LinkFails}
use Rattle.tg_lanes.specs.History.{EndsAs, Fed, LaneStands, LanesStandFor, Move, fed_in, own_of, since_of, written_in}
use Rattle.tg_lanes.specs.Lanes.{LanesView}
use Rattle.tg_lanes.specs.OwnLaws.{get_elsewhere, get_here, got_set, some_is}
use Rattle.tg_links.specs.Joining.{heard_of}
use Rattle.tg_links.specs.Links.{LinkMeaning}
use Rattle.tg_links.specs.Steps.{IsHeardOf, LinkQuiet, LinkRose, LinkStep, Spoke, link_step}
use Rattle.tg_links.specs.Views.{and_call, call_with, is_failed, told_call, view_of}
use Rattle.tg_links.specs.declared.call.Call.{Call}
use Rattle.tg_model.specs.Stores.{Store}
use Rattle.tg_reply.specs.SentLaws.{StandsForSent}
use Rattle.tg_serve.proofs.Admissions.{last_number, number_here, order_more, replaced, replaced_elsewhere, replaced_first, replaced_here, replaced_last, replaced_length, replaced_of}
use Rattle.tg_serve.proofs.DoorSteps.{done_quiet, done_untold, quiet_both, rose_before, rose_behind}
use Rattle.tg_serve.proofs.Growing.{HasGrown, goes_fed, has_grown, is_open, others_same, spoke_joins}
use Rattle.tg_serve.proofs.LaneRuns.{end_of, open_received, run_closes, run_ends, run_fails, run_limited, run_of, run_untaken, run_wants}
use Rattle.tg_serve.proofs.OneLink.{rose_failed, told_of}
use Rattle.tg_serve.proofs.Runs.{are_more, calls_more, either, failed_by, happened_more, neither}
use Rattle.tg_serve.proofs.Weights.{set_same, weight_at, weights_set}
use Rattle.tg_serve.specs.Serving.{AreServed, HasHappened, LinkRun, LinksTell, QuietWhileTold, SaidBy, and_calls, call_of, happened_with, is_link_fault}
use Rattle.tg_serve.specs.SideBySide.{IsServedWithin}
use Rattle.tg_serve.specs.Turns.{Admission, AreFirst, InOrder, IsBehind, IsInLane, LanesGo, MayCome, given_back, last_in, number_at, number_in, weight, weights}
use Rattle.tg_serve.specs.declared.Happened.{Happened}
use Rattle.tg_streams.specs.Streams.{SourceMeaning}

-- ---- what holds for longer

pub served_until : (told : Option Store) (most before : ℕ) (runs : List LinkRun) (now later : ℕ) → AreServed told most before runs now → now ≤ later
    → AreServed told most before runs later
served_until told most before [] now later h le = omega (arith, h, le)
served_until told most before (run ∷ runs) now later h le = (h.0, h.1, h.2, served_until told most run.faults_now runs now later h.3 le)

pub within_until : (told : Option Store) (most before now later : ℕ) (runs : List LinkRun) → now ≤ later → All (IsServedWithin told most before now) runs
    → All (IsServedWithin told most before later) runs
within_until told most before now later runs le all =
    All-weaker (IsServedWithin told most before now) (IsServedWithin told most before later)
    (λ run h. record { served = h.served; behind = h.behind; rises = h.rises; until = let u = h.until in omega (arith, u, le) }) runs all

pub behind_least : (last : Option (Option (List ℕ))) (number since other : ℕ) → since ≡ other → IsBehind last number since → IsBehind last number other
behind_least None number since other e h = tt
behind_least (Some left) number since other e h = omega (arith, e, h)

-- a lane's own part is another's where these are the same
pub in_lane_still : {K : Type 0} (m : LinkMeaning K) (source : SourceMeaning K) (most : ℕ) (moves others : List Move) (admissions : List Admission) (lane : ℕ)
    (session : SessionView) (link : K) → own_of lane others ≡ own_of lane moves → IsInLane m source most moves admissions lane session link
    → IsInLane m source most others admissions lane session link
in_lane_still m source most moves others admissions lane session link same h = record {
  begun = h.begun;
  new = h.new;
  spoke = subst (λ (own : List Fed). Spoke (link_step m source h.begun link) (fed_in own) (written_in own)) (sym same) h.spoke;
  unfailed = h.unfailed;
  left_is = h.left_is;
  open_is = h.open_is;
  unrefused = h.unrefused;
  most_is = h.most_is;
}

pub link_is : {K : Type 0} (links : List (Option K)) (lane : ℕ) (had : Option K) (x y : K) → slice_get links lane ≡ Some had
    → slice_get (slice_set links lane (Some x)) lane ≡ Some (Some y) → x ≡ y
link_is links lane had x y was at =
    let e : Some x ≡ Some y = got_set links lane (Some x) (Some y) at in cc

pub no_link : {K : Type 0} (links : List (Option K)) (lane : ℕ) (y : K) → slice_get (slice_set links lane None) lane ≡ Some (Some y) → ⊥
no_link links lane y at = let e : None ≡ Some y = got_set links lane None (Some y) at in cc

-- ---- a piece was heard

module _ {B K : Type 0} (m : LinkMeaning K) (source : SourceMeaning K) (told : Option Store) (most before : ℕ) (old new : LanesView B) (lane first now : ℕ)
    (links : List (Option K)) (moves : List Move) (admissions : List Admission) (was : SessionView) (y z : K) (result : Result Next GatewayFault)
    (stand : LanesStandFor old.sessions told before first moves)
    (there : slice_get old.sessions lane ≡ Some was) (here : slice_get links lane ≡ Some (Some y))
    (busy : IsInLane m source most moves admissions lane was y) (heard : HeardOn told old new lane first now (link_step m source y z) result) where
  pub growth : HasGrown lane before moves heard.more heard.piece heard.written
  growth = has_grown old new lane first now (link_step m source y z) result heard.piece heard.written heard.more before moves heard.heard_as

  -- the sessions of the other lanes are as they were
  pub others_kept : (other : ℕ) → (lane == other) ≡ false → slice_get new.sessions other ≡ slice_get old.sessions other
  others_kept other apart = others_same old new lane first now (link_step m source y z) result heard.piece heard.written heard.more heard.heard_as other apart

  stood : LaneStands was told (since_of lane before moves) first (own_of lane moves)
  stood = stand lane was there

  stands : LanesStandFor new.sessions told before now (moves ++ heard.more)
  stands = heard.stand before moves stand

  pub all_spoke : Spoke (link_step m source busy.begun z) (fed_in (own_of lane (moves ++ heard.more))) (written_in (own_of lane (moves ++ heard.more)))
  all_spoke =
      subst (λ (l : List ℕ). Spoke (link_step m source busy.begun z) l (written_in (own_of lane (moves ++ heard.more)))) (sym growth.fed_is)
      (subst (λ (l : List ℕ). Spoke (link_step m source busy.begun z) (fed_in (own_of lane moves) ++ heard.piece) l) (sym growth.written_is)
      (spoke_joins m source busy.begun y z (fed_in (own_of lane moves)) (written_in (own_of lane moves)) heard.piece heard.written busy.spoke heard.spoke))

  fine : LinkQuiet (link_step m source y z) → source.faults z ≡ 0
  fine quiet = quiet ∙ busy.unfailed

  -- ---- its session goes on

  module _ (goes : result ≡ Ok nexts.More) where
    fed : IsFedAs old new lane first now (link_step m source y z) result heard.piece heard.written heard.more
    fed = goes_fed old new lane first now (link_step m source y z) result heard.piece heard.written heard.more goes heard.heard_as

    same_was : fed.was ≡ was
    same_was = some_is fed.was was (sym fed.was_there ∙ there)

    ends_more : EndsAs fed.session (Ok nexts.More)
    ends_more = subst (EndsAs fed.session) goes fed.ends_as

    quiet_link : LinkQuiet (link_step m source y z)
    quiet_link =
        subst (λ (r : Result Next GatewayFault). LinkFails None r (link_step m source y z)) goes
        (subst (λ (r : Option GatewayFault). LinkFails r result (link_step m source y z)) (ap (λ (s : SessionView). s.refused) same_was ∙ busy.unrefused) fed.link_fails)

    pub goes_in_lane : (session : SessionView) (link : K) → slice_get new.sessions lane ≡ Some session
        → slice_get (slice_set links lane (Some z)) lane ≡ Some (Some link) → IsInLane m source most (moves ++ heard.more) admissions lane session link
    goes_in_lane session link at found =
        subst (λ (s : SessionView). IsInLane m source most (moves ++ heard.more) admissions lane s link) (some_is fed.session session (sym fed.session_is ∙ at))
        (subst (λ (k : K). IsInLane m source most (moves ++ heard.more) admissions lane fed.session k) (link_is links lane (Some y) z link here found)
        (record {
          begun = busy.begun;
          new = busy.new;
          spoke = all_spoke;
          unfailed = fine quiet_link;
          left_is = busy.left_is;
          open_is = is_open fed.session.state.closed ends_more.1;
          unrefused = ends_more.0;
          most_is = fed.same_most ∙ ap (λ (s : SessionView). s.state.most) same_was ∙ busy.most_is;
        }))

    pub goes_less : weights new.sessions (slice_set links lane (Some z)) < weights old.sessions links
    goes_less =
        let set : new.sessions ≡ slice_set old.sessions lane fed.session = fed.sessions in
        let sum = weights_set old.sessions links lane was fed.session (Some y) (Some z) there here in
        let is = ap (λ (l : List SessionView). weights l (slice_set links lane (Some z))) set in
        let one = open_received told was (since_of lane before moves) first (own_of lane moves) stood busy.unrefused busy.open_is in
        let other = open_received told fed.session (since_of lane before (moves ++ heard.more)) now (own_of lane (moves ++ heard.more))
        (stands lane fed.session fed.session_is) ends_more.0 (is_open fed.session.state.closed ends_more.1) in
        let longer : length (fed_in (own_of lane (moves ++ heard.more))) ≡ length (fed_in (own_of lane moves)) + length heard.piece =
        ap length growth.fed_is ∙ length-append (fed_in (own_of lane moves)) heard.piece in
        let some = fed.some in
        let most_one = busy.most_is in
        let most_other : fed.session.state.most ≡ most = fed.same_most ∙ ap (λ (s : SessionView). s.state.most) same_was ∙ busy.most_is in
        omega (arith, sum, is, one.0, one.1, other.0, other.1, longer, some, most_one, most_other)

    pub goes_as_many : length new.sessions ≡ length old.sessions
    goes_as_many = ap length fed.sessions ∙ length-set old.sessions lane fed.session

  -- ---- its session ended

  -- how it was served
  pub record HasRun : Type 0 where
    pub session : SessionView
    pub session_is : slice_get new.sessions lane ≡ Some session
    pub set_is : new.sessions ≡ slice_set old.sessions lane session
    pub said : SaidBy told most
        (run_of session (own_of lane (moves ++ heard.more)) (m.over z) (is_failed (source.faults z)) (end_of result) (since_of lane before moves) now) (end_of result)

  module _ (all : StandsForSent) (ended : result ≡ Ok nexts.More → ⊥) where
    abbrev SaidOf : SessionView → Result Next GatewayFault → Type 0
    SaidOf session r =
        SaidBy told most
        (run_of session (own_of lane (moves ++ heard.more)) (m.over z) (is_failed (source.faults z)) (end_of r) (since_of lane before moves) now) (end_of r)

    stands_at : (session : SessionView) → slice_get new.sessions lane ≡ Some session
        → LaneStands session told (since_of lane before moves) now (own_of lane (moves ++ heard.more))
    stands_at session at =
        subst (λ (n : ℕ). LaneStands session told n now (own_of lane (moves ++ heard.more))) (growth.since lane) (stands lane session at)

    unfailed : LinkQuiet (link_step m source y z) → is_failed (source.faults z) ≡ false
    unfailed quiet = ap is_failed (fine quiet)

    did_fail : LinkRose (link_step m source y z) → is_failed (source.faults z) ≡ true
    did_fail rose = rose_failed (source.faults y) (source.faults z) busy.unfailed rose

    said_fed : (session : SessionView) → slice_get new.sessions lane ≡ Some session → session.state.most ≡ most → (r : Result Next GatewayFault) → (r ≡ Ok nexts.More → ⊥)
        → EndsAs session r → LinkFails None r (link_step m source y z) → SaidOf session r
    said_fed session at most_is (Ok next) not_more ends quiet =
        run_closes told most session (since_of lane before moves) now (own_of lane (moves ++ heard.more)) (stands_at session at) (m.over z)
        (is_failed (source.faults z)) all ends.0 (shut session.state.closed refl) (unfailed quiet)
      where
        shut : (closed : Bool) → session.state.closed ≡ closed → session.state.closed ≡ true
        shut true is = is
        shut false is = absurd (not_more (ap Ok (ends.1 ∙ ap next_of is)))
    said_fed session at most_is (Err (faults.Limit number)) not_more ends quiet =
        run_limited told most session (since_of lane before moves) now (own_of lane (moves ++ heard.more)) (stands_at session at) (m.over z)
        (is_failed (source.faults z)) number ends most_is (unfailed quiet)
    said_fed session at most_is (Err faults.LinkFault) not_more ends rose =
        run_fails told most session (since_of lane before moves) now (own_of lane (moves ++ heard.more)) (stands_at session at) (m.over z)
        (is_failed (source.faults z)) ends (did_fail rose)
    said_fed session at most_is (Err faults.OutOfMemory) not_more ends quiet =
        run_wants told most session (since_of lane before moves) now (own_of lane (moves ++ heard.more)) (stands_at session at) (m.over z)
        (is_failed (source.faults z)) ends (unfailed quiet)

    kept_there : new ≡ old → slice_get new.sessions lane ≡ Some was
    kept_there same = ap (λ (v : LanesView B). slice_get v.sessions lane) same ∙ there

    pub run_at : HasRun
    run_at = by heard.heard_as
      where
        by : IsHeardAs old new lane first now (link_step m source y z) result heard.piece heard.written heard.more → HasRun
        by (inl fed) =
            let same : fed.was ≡ was = some_is fed.was was (sym fed.was_there ∙ there) in
            record {
              session = fed.session;
              session_is = fed.session_is;
              set_is = fed.sessions;
              said = said_fed fed.session fed.session_is (fed.same_most ∙ ap (λ (s : SessionView). s.state.most) same ∙ busy.most_is) result ended fed.ends_as
                  (subst (λ (r : Option GatewayFault). LinkFails r result (link_step m source y z)) (ap (λ (s : SessionView). s.refused) same ∙ busy.unrefused) fed.link_fails);
            }
        by (inr (inl over)) = record {
          session = was;
          session_is = kept_there over.as_was.same;
          set_is = ap (λ (v : LanesView B). v.sessions) over.as_was.same ∙ sym (set_same old.sessions lane was there);
          said = subst (SaidOf was) (sym over.closes)
              (run_ends told most was (since_of lane before moves) now (own_of lane (moves ++ heard.more)) (stands_at was (kept_there over.as_was.same)) (m.over z)
              (is_failed (source.faults z)) busy.unrefused busy.open_is over.over (unfailed over.quiet));
        }
        by (inr (inr failed)) = record {
          session = was;
          session_is = kept_there failed.as_was.same;
          set_is = ap (λ (v : LanesView B). v.sessions) failed.as_was.same ∙ sym (set_same old.sessions lane was there);
          said = subst (SaidOf was) (sym failed.fails)
              (run_untaken told most was (since_of lane before moves) now (own_of lane (moves ++ heard.more)) (stands_at was (kept_there failed.as_was.same)) (m.over z)
              (is_failed (source.faults z)) busy.unrefused busy.open_is (did_fail failed.rose));
        }
