-- How lanes go on: a link came, or none; a piece was heard; a link was given back.
use Rattle.std.proofs.Common.{All, Bool, Err, List, None, Ok, Option, Some, [], ap, append-nil, arith, eq-eqb, eqb-true, false, inl, inr, length, length-append, length-set, refl, subst, suc, sym, true, zero, ℕ, ◌*◌, ◌+◌, ◌++◌, ◌<◌, ◌==◌, ◌∙◌, ◌∷◌, ◌≡◌, ◌≤◌, ◌⊎◌}
use Rattle.std.proofs.lemmas.List.{drop-drop, length-replicate}
use Rattle.std.proofs.lemmas.List.Elements.{All-nil, All-push}
use Rattle.std.proofs.Math.Nat.{mul-le-mul_left}
use Rattle.std.proofs.lemmas.List.Sorted.{IsPermutation-append_left, IsPermutation-refl}
use Rattle.std.proofs.lemmas.Option.{slice_get_within}
use Rattle.std.specs.Option.{option_map}
use Rattle.std.specs.Prelude.{IsPermutation, IsSome, Result, drop, is_some, map, replicate, slice_get, slice_set, ⊤, ◌||◌}
use Rattle.tg_bytes.specs.Told.{IsNothing, grown}
use Rattle.tg_doors.specs.Doors.{DoorMeaning, DoorQuiet, DoorRose, Doorway, IsAdmitted, IsDone, KeepsComing, KeepsPort, KeepsServed, KeepsShut, at_door}
use Rattle.tg_faults.specs.Faults.{Rose}
use Rattle.tg_gateway.specs.Links.{served_of}
use Rattle.tg_gateway.specs.Sessions.{SessionView, new_session}
use Rattle.tg_gateway.specs.declared.fault.GatewayFault.{GatewayFault}
use Rattle.tg_gateway.specs.declared.fault.GatewayFault.TheVariants as faults
use Rattle.tg_gateway.specs.declared.session.Next.{Next}
use Rattle.tg_gateway.specs.declared.session.Next.TheVariants as nexts
use Rattle.tg_gateway.specs.declared.session.Served.{Served}
use Rattle.tg_lanes.specs.Hearing.{HeardOn}
use Rattle.tg_lanes.specs.History.{AreInTurn, Fed, LanesStandFor, Move, fed_in, own_of, since_of, was_renewed, written_in}
use Rattle.tg_lanes.specs.Lanes.{LanesView}
use Rattle.tg_lanes.specs.OwnLaws.{get_elsewhere, get_here, got_set, own_anew, own_kept, since_anew, since_kept, some_is}
use Rattle.tg_links.specs.Joining.{heard_of, spoke_nothing}
use Rattle.tg_links.specs.Links.{LinkMeaning}
use Rattle.tg_links.specs.Steps.{IsHeardOf, Spoke, link_step}
use Rattle.tg_links.specs.Views.{IsFirst, IsNew, and_call, call_with, is_failed, told_call, view_of}
use Rattle.tg_links.specs.declared.call.Call.{Call}
use Rattle.tg_model.specs.Stores.{Store}
use Rattle.tg_reply.specs.Sent.{no_more}
use Rattle.tg_reply.specs.SentLaws.{StandsForSent}
use Rattle.tg_serve.proofs.Admissions.{all_back, back_first, back_length, first_more, last_back, last_comes, last_number, number_back, number_elsewhere, number_here, of_back, of_more, of_none, order_more, replaced, replaced_elsewhere, replaced_first, replaced_here, replaced_last, replaced_length, replaced_of, runs_back, runs_more, runs_of_back}
use Rattle.tg_serve.proofs.DoorSteps as doors
use Rattle.tg_serve.proofs.Growing.{HasGrown, turn_rises}
use Rattle.tg_serve.proofs.LaneRuns.{end_of, run_of}
use Rattle.tg_serve.proofs.LaneSteps as steps
use Rattle.tg_serve.proofs.LaneSteps.{HasRun, behind_least, in_lane_still, link_is, no_link, served_until, within_until}
use Rattle.tg_serve.proofs.OneLink.{told_of}
use Rattle.tg_serve.proofs.Runs.{are_more, calls_more, coming_more, either, failed_by, happened_more, neither}
use Rattle.tg_serve.proofs.Weights.{free_at, free_replicate, set_same, weight_at, weights_set}
use Rattle.tg_serve.specs.Serving.{AreServed, HasHappened, LinkRun, LinksTell, QuietWhileTold, SaidBy, and_calls, call_of, happened_with, is_link_fault}
use Rattle.tg_serve.specs.SideBySide.{IsServedWithin, ServesLanes}
use Rattle.tg_serve.specs.Turns.{Admission, AreFirst, AreOf, GoOn, HappensWith, InOrder, IsBehind, IsInLane, LanesGo, MayCome, MayGoOn, Moment, given_back, in_lane, last_in, some_more, none_came, none_comes, number_at, number_in, runs_in, weight, weights}
use Rattle.tg_serve.specs.declared.Happened.{Happened}
use Rattle.tg_streams.specs.Streams.{SourceMeaning}

-- ---- how many may come

may_more : (count left number : ℕ) (door : Doorway) (unadmitted : Bool) → MayCome count left number door unadmitted → 0 < left
    → (number + left ≡ count) × (unadmitted ≡ false)
may_more count left number door unadmitted (some_more is) some = (is, refl)
may_more count left number door unadmitted (none_comes is few shut none) some = absurd (let no : ⊥ = omega (arith, is, some) in no)
may_more count left number door unadmitted (none_came is few shut rose) some = absurd (let no : ⊥ = omega (arith, is, some) in no)

-- and as many may while the door stays as it is but for its count, which rises
may_still : (count left number other : ℕ) (old new : Doorway) (unadmitted : Bool) → number ≡ other → new.shut_new ≡ old.shut_new → new.coming_new ≡ old.coming_new
    → (DoorRose old → DoorRose new) → MayCome count left number old unadmitted → MayCome count left other new unadmitted
may_still count left number other old new unadmitted same shut coming rises (some_more is) = some_more (omega (arith, is, same))
may_still count left number other old new unadmitted same shut coming rises (none_comes is few closed none) =
    none_comes is (omega (arith, few, same)) (shut ∙ closed) (coming ∙ none)
may_still count left number other old new unadmitted same shut coming rises (none_came is few closed rose) =
    none_came is (omega (arith, few, same)) (shut ∙ closed) (rises rose)

-- ---- a link that is given back

-- what is told of it
call_told : {K : Type 0} (m : LinkMeaning K) (source : SourceMeaning K) (link : K) (run : LinkRun) → m.heard link ≡ Some run.heard → m.said link ≡ Some run.said
    → m.over link ≡ run.over → is_failed (source.faults link) ≡ run.failed → told_call (view_of m source link) ≡ Some (call_of run)
call_told m source link run heard_is said_is over_is failed_is =
    ap (λ (o : Option (List ℕ)). call_with o (m.said link) (m.over link) (is_failed (source.faults link))) heard_is
    ∙ ap (λ (o : Option (List ℕ)). call_with (Some run.heard) o (m.over link) (is_failed (source.faults link))) said_is
    ∙ ap (λ (over : Bool). call_with (Some run.heard) (Some run.said) over (is_failed (source.faults link))) over_is
    ∙ ap (λ (failed : Bool). call_with (Some run.heard) (Some run.said) run.over failed) failed_is

module _ {D K : Type 0} (d : DoorMeaning D) (m : LinkMeaning K) (source : SourceMeaning K) (a b c : D) (link : K) (run : LinkRun) (runs : List LinkRun)
    (before : d.faults a ≤ d.faults b) (done : IsDone (view_of m source link) (at_door d b c)) where
  -- it is told behind the others
  pub back_told : (LinksTell m → told_call (view_of m source link) ≡ Some (call_of run))
      → (LinksTell m → (d.served b ≡ and_calls (d.served a) runs) ⊎ ((d.served b ≡ None) × DoorRose (at_door d a b)))
      → LinksTell m → (d.served c ≡ and_calls (d.served a) (runs ++ run ∷ [])) ⊎ ((d.served c ≡ None) × DoorRose (at_door d a c))
  back_told call told tell = by (told tell) done.served
    where
      by : (d.served b ≡ and_calls (d.served a) runs) ⊎ ((d.served b ≡ None) × DoorRose (at_door d a b))
          → (d.served c ≡ and_call (d.served b) (told_call (view_of m source link))) ⊎ ((d.served c ≡ None) × DoorRose (at_door d b c))
          → (d.served c ≡ and_calls (d.served a) (runs ++ run ∷ [])) ⊎ ((d.served c ≡ None) × DoorRose (at_door d a c))
      by was (inr (none, up)) = inr (none, doors.rose_behind d a b c before done.counted up)
      by (inl was) (inl now) =
          inl (now ∙ ap (and_call (d.served b)) (call tell) ∙ ap (λ (calls : Option (List Call)). and_call calls (Some (call_of run))) was
          ∙ calls_more (d.served a) runs run)
      by (inr (none, up)) (inl now) =
          inr (
            now ∙ ap (λ (calls : Option (List Call)). and_call calls (told_call (view_of m source link))) none,
            doors.rose_before d a b c before done.counted up,
          )

  -- a fault of it, or one before, is counted
  pub back_failed : (fault : Bool) (end : Result ⊤ GatewayFault) → is_failed (source.faults link) ≡ is_link_fault end → (fault ≡ true → DoorRose (at_door d a b))
      → (fault || is_link_fault end) ≡ true → DoorRose (at_door d a c)
  back_failed fault end same rose did = by (either fault (is_link_fault end) did)
    where
      by : (fault ≡ true) ⊎ (is_link_fault end ≡ true) → DoorRose (at_door d a c)
      by (inl was) = doors.rose_before d a b c before done.counted (rose was)
      by (inr now) = doors.rose_behind d a b c before done.counted (done.failed (same ∙ now))

  -- and where there is none, none is
  pub back_quiet : (fault : Bool) (end : Result ⊤ GatewayFault) → is_failed (source.faults link) ≡ is_link_fault end → (d.served a ≡ None → d.served b ≡ None)
      → (fault ≡ false → QuietWhileTold (at_door d a b)) → (fault || is_link_fault end) ≡ false → QuietWhileTold (at_door d a c)
  back_quiet fault end same untold quiet none =
      let no = neither fault (is_link_fault end) none in
      doors.quiet_both d a b c before done.counted untold (doors.done_untold d b c (view_of m source link) done) (quiet no.0)
      (doors.done_quiet d b c (view_of m source link) done (same ∙ no.1))

-- ---- a piece was heard, and its session goes on

module _ {B D K : Type 0} (d : DoorMeaning D) (m : LinkMeaning K) (source : SourceMeaning K) (told : Option Store) (most count before : ℕ) (a b : D)
    (old new : LanesView B) (lane first now left : ℕ) (links : List (Option K)) (happened : Happened) (was : SessionView) (y z : K) (le : first ≤ now)
    (go : LanesGo m source told most count before first old.sessions links left (at_door d a b) happened)
    (there : slice_get old.sessions lane ≡ Some was) (here : slice_get links lane ≡ Some (Some y)) where
  module _ (result : Result Next GatewayFault) (heard : HeardOn told old new lane first now (link_step m source y z) result) where
    busy : IsInLane m source most go.moves go.admissions lane was y
    busy = go.busy lane was y there here

    others_lane : (moves : List Move) (admissions : List Admission) (link : Option K)
        → ((other : ℕ) → (lane == other) ≡ false → own_of other moves ≡ own_of other go.moves)
        → ((other : ℕ) (said : Option (List ℕ)) → (lane == other) ≡ false → AreOf other said go.admissions → AreOf other said admissions)
        → (other : ℕ) (session : SessionView) (k : K) → (lane == other) ≡ false → slice_get new.sessions other ≡ Some session
        → slice_get (slice_set links lane link) other ≡ Some (Some k) → IsInLane m source most moves admissions other session k
    others_lane moves admissions link own of other session k apart at found =
        let was_at = sym (steps.others_kept m source told most before old new lane first now links go.moves go.admissions was y z result go.stand there here busy heard other apart) ∙ at in
        let in_it = go.busy other session k was_at (sym (get_elsewhere links lane other link apart) ∙ found) in
        let still = in_lane_still m source most go.moves moves go.admissions other session k (own other apart) in_it in
        record {
          begun = still.begun;
          new = still.new;
          spoke = still.spoke;
          unfailed = still.unfailed;
          left_is = of other (m.left still.begun) apart still.left_is;
          open_is = still.open_is;
          unrefused = still.unrefused;
          most_is = still.most_is;
        }

    one_lane_is : (link : Option K) → length (slice_set links lane link) ≡ 1 → length links ≡ 1
    one_lane_is link one = sym (length-set links lane link) ∙ one

  pub goes_on : (result : Result Next GatewayFault) → result ≡ Ok nexts.More → (heard : HeardOn told old new lane first now (link_step m source y z) result)
      → LanesGo m source told most count before now new.sessions (slice_set links lane (Some z)) left (at_door d a b) happened
      × (weight most left new.sessions (slice_set links lane (Some z)) < weight most left old.sessions links)
  goes_on result goes heard =
      let moves = go.moves ++ heard.more in
      let grown = steps.growth m source told most before old new lane first now links go.moves go.admissions was y z result go.stand there here
      (busy result heard) heard in (
        record {
          moves = moves;
          stand = heard.stand before go.moves go.stand;
          rises = let r = go.rises in omega (arith, r, le);
          begun = λ other. let e = grown.since other in let was_begun = go.begun other in omega (arith, e, was_begun);
          as_many = steps.goes_as_many m source told most before old new lane first now links go.moves go.admissions was y z result go.stand there here
              (busy result heard) heard goes ∙ go.as_many ∙ sym (length-set links lane (Some z));
          admissions = go.admissions;
          numbers = λ other. numbers other (lane == other) refl;
          busy = λ other session k at found. busy_by other session k at found (lane == other) refl;
          runs = go.runs;
          served = within_until told most before first now go.runs le go.served;
          order = go.order;
          one_lane = λ one.
              let order = go.one_lane (one_lane_is result heard (Some z) one) in
              record {
                last = order.last;
                admissions_are = order.admissions_are;
                number = order.number;
                in_turn = order.in_turn;
                until = let u = order.until in omega (arith, u, le);
                behind = behind_least order.last order.number _ _ (sym (grown.since 0)) order.behind;
              };
          told_are = go.told_are;
          coming = go.coming;
          heard = go.heard;
          unadmitted = go.unadmitted;
          may_come = go.may_come;
          has_happened = go.has_happened;
          untold = go.untold;
          failed = go.failed;
          quiet = go.quiet;
          port = go.port;
          counted = go.counted;
        },
        let less = steps.goes_less m source told most before old new lane first now links go.moves go.admissions was y z result go.stand there here
            (busy result heard) heard goes in omega (arith, less),
      )
    where
      numbers : (other : ℕ) (same : Bool) → (lane == other) ≡ same → number_in other go.admissions ≡ number_at (slice_get (slice_set links lane (Some z)) other)
      numbers other true is =
          let one : lane ≡ other = eqb-true lane other is in
          subst (λ (n : ℕ). number_in n go.admissions ≡ number_at (slice_get (slice_set links lane (Some z)) n)) one
          (go.numbers lane ∙ ap number_at here ∙ sym (ap number_at (get_here links lane (Some y) (Some z) here)))
      numbers other false apart = go.numbers other ∙ ap number_at (sym (get_elsewhere links lane other (Some z) apart))

      busy_by : (other : ℕ) (session : SessionView) (k : K) → slice_get new.sessions other ≡ Some session
          → slice_get (slice_set links lane (Some z)) other ≡ Some (Some k) → (same : Bool) → (lane == other) ≡ same
          → IsInLane m source most (go.moves ++ heard.more) go.admissions other session k
      busy_by other session k at found true is =
          let one : lane ≡ other = eqb-true lane other is in
          subst (λ (n : ℕ). IsInLane m source most (go.moves ++ heard.more) go.admissions n session k) one
          (steps.goes_in_lane m source told most before old new lane first now links go.moves go.admissions was y z result go.stand there here
          (busy result heard) heard goes session k (ap (slice_get new.sessions) one ∙ at) (ap (slice_get (slice_set links lane (Some z))) one ∙ found))
      busy_by other session k at found false apart =
          others_lane result heard (go.moves ++ heard.more) go.admissions (Some z)
          (steps.growth m source told most before old new lane first now links go.moves go.admissions was y z result go.stand there here
          (busy result heard) heard).others (λ other said apart of. of) other session k apart at found

  -- ---- a piece was heard, its session ended, and the link was given back

  module _ (all : StandsForSent) (c : D) (result : Result Next GatewayFault) (ended : result ≡ Ok nexts.More → ⊥)
      (heard : HeardOn told old new lane first now (link_step m source y z) result)
      (done : IsDone (view_of m source z) (at_door d b c)) (coming : KeepsComing (at_door d b c)) (port : KeepsPort (at_door d b c)) (shut : KeepsShut (at_door d b c)) where
    has_run : HasRun m source told most before old new lane first now links go.moves go.admissions was y z result go.stand there here (busy result heard) heard
    has_run = steps.run_at m source told most before old new lane first now links go.moves go.admissions was y z result go.stand there here (busy result heard) heard all ended

    grown_back : HasGrown lane before go.moves heard.more heard.piece heard.written
    grown_back = steps.growth m source told most before old new lane first now links go.moves go.admissions was y z result go.stand there here (busy result heard) heard

    abbrev run : LinkRun
    run = run_of has_run.session (own_of lane (go.moves ++ heard.more)) (m.over z) (is_failed (source.faults z)) (end_of result) (since_of lane before go.moves) now

    link : IsInLane m source most go.moves go.admissions lane was y
    link = busy result heard

    spoke : Spoke (link_step m source link.begun z) run.heard run.said
    spoke = steps.all_spoke m source told most before old new lane first now links go.moves go.admissions was y z result go.stand there here link heard

    failed_is : is_failed (source.faults z) ≡ is_link_fault (end_of result)
    failed_is = failed_by told most run (end_of result) has_run.said

    number_is : number_in lane go.admissions ≡ 1
    number_is = go.numbers lane ∙ ap number_at here

    within : IsServedWithin told most before now run
    within =
        let since = in_turn_since (own_of lane go.moves) (go.stand lane was there).in_turn in
        let back = since_back in
        record {
          served = has_run.said;
          behind = back;
          rises = omega (arith, since, le);
          until = omega arith;
        }
      where
        in_turn_since : (own : List Fed) → AreInTurn (since_of lane before go.moves) own first → since_of lane before go.moves ≤ first
        in_turn_since own h = turn_rises (since_of lane before go.moves) own first h

        since_back : before ≤ since_of lane before go.moves
        since_back = go.begun lane

    one_lane_back : length (slice_set links lane None) ≡ 1
        → InOrder told most before now (since_of 0 before (go.moves ++ heard.more)) (replaced lane run go.admissions) (go.runs ++ run ∷ [])
    one_lane_back one =
        let first_lane : lane ≡ 0 = let lt = slice_get_within links lane (Some y) here in let long = one_lane_is result heard None one in omega (arith, lt, long) in
        let order = go.one_lane (one_lane_is result heard None one) in
        by first_lane order order.last refl
      where
        by : lane ≡ 0 → (order : InOrder told most before first (since_of 0 before go.moves) go.admissions go.runs) (last : Option (Option (List ℕ))) → order.last ≡ last
            → InOrder told most before now (since_of 0 before (go.moves ++ heard.more)) (replaced lane run go.admissions) (go.runs ++ run ∷ [])
        by zero_is order None none =
            absurd (let number = sym number_is ∙ ap (λ (n : ℕ). number_in n go.admissions) zero_is ∙ ap (number_in 0) order.admissions_are
            ∙ last_number go.runs order.last ∙ ap (λ (l : Option (Option (List ℕ))). number_in 0 (last_in l)) none in let no : ⊥ = omega (arith, number) in no)
        by zero_is order (Some left) some = record {
          last = None;
          admissions_are =
              ap (λ (n : ℕ). replaced n run go.admissions) zero_is ∙ ap (replaced 0 run) (order.admissions_are ∙ ap (λ (l : Option (Option (List ℕ))). map given_back go.runs ++ last_in l) some)
              ∙ replaced_last run go.runs left;
          number = now;
          in_turn =
              let behind = subst (λ (l : Option (Option (List ℕ))). IsBehind l order.number (since_of 0 before go.moves)) some order.behind in
              let since = ap (λ (n : ℕ). since_of n before go.moves) zero_is in
              let rises = within.rises in
              are_more told most before run.faults_before now go.runs run
              (served_until told most before go.runs order.number run.faults_before order.in_turn (omega (arith, behind, since))) has_run.said refl refl rises;
          until = omega arith;
          behind = tt;
        }

    pub goes_back : (happened_new : Happened) → HappensWith new.sessions lane happened happened_new (end_of result)
        → LanesGo m source told most count before now new.sessions (slice_set links lane None) left (at_door d a c) happened_new
        × (weight most left new.sessions (slice_set links lane None) < weight most left old.sessions links)
    goes_back happened_new happens =
        let counted = go.counted in let more = done.counted in
        let with_run : happened_new ≡ happened_with happened run.served run.end =
        happens.with_is ∙ ap (λ (s : SessionView). happened_with happened (served_of s.state) (end_of result))
        (some_is happens.session has_run.session (sym happens.session_is ∙ has_run.session_is)) in (
          record {
            moves = go.moves ++ heard.more;
            stand = heard.stand before go.moves go.stand;
            rises = let r = go.rises in omega (arith, r, le);
            begun = λ other. let e = grown_back.since other in let was_begun = go.begun other in omega (arith, e, was_begun);
            as_many = ap length has_run.set_is ∙ length-set old.sessions lane has_run.session ∙ go.as_many ∙ sym (length-set links lane None);
            admissions = replaced lane run go.admissions;
            numbers = λ other. numbers other (lane == other) refl;
            busy = λ other session k at found. busy_by other session k at found (lane == other) refl;
            runs = go.runs ++ run ∷ [];
            served = All-push (IsServedWithin told most before now) go.runs run (within_until told most before first now go.runs le go.served) within;
            order = order_more lane run go.admissions go.runs number_is go.order;
            one_lane = one_lane_back;
            told_are = back_told d m source a b c z run go.runs counted done
                (λ tell. call_told m source z run (told_of (m.heard link.begun) (m.heard z) run.heard link.new.heard spoke.heard_is (tell z).0)
                (told_of (m.said link.begun) (m.said z) run.said link.new.said spoke.said_is (tell z).1) refl refl) go.told_are;
            coming = coming ∙ go.coming ∙ ap (λ (n : ℕ). option_map (drop n) (d.coming a)) (sym (replaced_length lane run go.admissions));
            heard = replaced_first (d.coming a) lane (m.left link.begun) run go.admissions go.heard link.left_is
                (λ said is. heard_of said run.heard (m.left link.begun) (m.left z) (m.over z) is spoke.left_is (spoke.ended link.new.over));
            unadmitted = go.unadmitted;
            may_come = may_still count left (length go.admissions) (length (replaced lane run go.admissions)) (at_door d a b) (at_door d a c) go.unadmitted
                (sym (replaced_length lane run go.admissions)) shut coming (doors.rose_before d a b c counted more) go.may_come;
            has_happened = subst (HasHappened (go.runs ++ run ∷ []) go.unadmitted) (sym with_run)
                (happened_more go.runs run go.unadmitted happened failed_is go.has_happened);
            untold = λ none. doors.done_untold d b c (view_of m source z) done (go.untold none);
            failed = subst (λ (h : Happened). h.fault ≡ true → DoorRose (at_door d a c)) (sym with_run)
                (back_failed d m source a b c z run go.runs counted done happened.fault (end_of result) failed_is go.failed);
            quiet = subst (λ (h : Happened). h.fault ≡ false → QuietWhileTold (at_door d a c)) (sym with_run)
                (back_quiet d m source a b c z run go.runs counted done happened.fault (end_of result) failed_is go.untold go.quiet);
            port = port ∙ go.port;
            counted = omega (arith, counted, more);
          },
          let sum = weights_set old.sessions links lane was has_run.session (Some y) None there here in
              let is = ap (λ (l : List SessionView). weights l (slice_set links lane None)) has_run.set_is in
              omega (arith, sum, is),
        )
      where
        numbers : (other : ℕ) (same : Bool) → (lane == other) ≡ same
            → number_in other (replaced lane run go.admissions) ≡ number_at (slice_get (slice_set links lane None) other)
        numbers other true is =
            let one : lane ≡ other = eqb-true lane other is in
            subst (λ (n : ℕ). number_in n (replaced lane run go.admissions) ≡ number_at (slice_get (slice_set links lane None) n)) one
            (replaced_here lane run go.admissions ∙ sym (ap number_at (get_here links lane (Some y) None here)))
        numbers other false apart =
            replaced_elsewhere lane other run go.admissions apart ∙ go.numbers other ∙ ap number_at (sym (get_elsewhere links lane other None apart))

        busy_by : (other : ℕ) (session : SessionView) (k : K) → slice_get new.sessions other ≡ Some session
            → slice_get (slice_set links lane None) other ≡ Some (Some k) → (same : Bool) → (lane == other) ≡ same
            → IsInLane m source most (go.moves ++ heard.more) (replaced lane run go.admissions) other session k
        busy_by other session k at found true is =
            let one : lane ≡ other = eqb-true lane other is in
            absurd (no_link links lane k (ap (slice_get (slice_set links lane None)) one ∙ found))
        busy_by other session k at found false apart =
            others_lane result heard (go.moves ++ heard.more) (replaced lane run go.admissions) None grown_back.others
            (λ other said apart of. replaced_of lane other said run go.admissions of) other session k apart at found

-- ---- the door gave a link, or none

-- the first of the links to come is gone
first_gone : (old new : Option (List (List ℕ))) (left : Option (List ℕ)) → IsFirst old new left → new ≡ option_map (drop 1) old
first_gone None new left is = is
first_gone (Some []) new left is = absurd is
first_gone (Some (first ∷ more)) new left is = is.0

-- and its peer says what was told of it
first_in : (old new : Option (List (List ℕ))) (left : Option (List ℕ)) (lane : ℕ) → IsFirst old new left → AreFirst old (in_lane lane left ∷ [])
first_in None new left lane is = tt
first_in (Some []) new left lane is = absurd is
first_in (Some (first ∷ more)) new left lane is = (is.1, tt)

first_unheard : (old new : Option (List (List ℕ))) (left : Option (List ℕ)) (run : LinkRun) → run.heard ≡ [] → run.over ≡ false → IsFirst old new left
    → AreFirst old (given_back run ∷ [])
first_unheard None new left run none open_is is = tt
first_unheard (Some []) new left run none open_is is = absurd is
first_unheard (Some (first ∷ more)) new left run none open_is is = (
  record {
    left = first;
    all_is = ap (λ (l : List ℕ). l ++ first) (sym none);
    ended = λ over. absurd (let f : false ≡ true = sym open_is ∙ over in cc);
  },
  tt,
)

more_length : (all : List Admission) (one : Admission) → length (all ++ one ∷ []) ≡ length all + 1
more_length all one = length-append all (one ∷ [])

coming_one : (old mid new : Option (List (List ℕ))) (all : List Admission) (one : Admission) → mid ≡ option_map (drop (length all)) old
    → new ≡ option_map (drop 1) mid → new ≡ option_map (drop (length (all ++ one ∷ []))) old
coming_one None mid new all one is gone = gone ∙ ap (option_map (drop 1)) is
coming_one (Some coming) mid new all one is gone =
    gone ∙ ap (option_map (drop 1)) is
    ∙ ap (λ (rest : List (List ℕ)). Some rest)
    (drop-drop 1 (length all) coming ∙ ap (λ (n : ℕ). drop n coming) (sym (more_length all one)))

module _ {D K : Type 0} (d : DoorMeaning D) (m : LinkMeaning K) (source : SourceMeaning K) (told : Option Store) (most count before : ℕ) (a b c : D)
    (sessions : List SessionView) (lane now left : ℕ) (links : List (Option K)) (happened : Happened)
    (go : LanesGo m source told most count before now sessions links left (at_door d a b) happened) (some : 0 < left)
    (free : slice_get links lane ≡ Some None) where
  can_come : (length go.admissions + left ≡ count) × (go.unadmitted ≡ false)
  can_come = may_more count left (length go.admissions) (at_door d a b) go.unadmitted go.may_come some

  none_in : number_in lane go.admissions ≡ 0
  none_in = go.numbers lane ∙ ap number_at free

  counted_by : DoorQuiet (at_door d b c) → d.faults b ≤ d.faults c
  counted_by quiet = omega (arith, quiet)

  quiet_by : DoorQuiet (at_door d b c) → KeepsServed (at_door d b c) → (happened.fault ≡ false → QuietWhileTold (at_door d a b)) → happened.fault ≡ false
      → QuietWhileTold (at_door d a c)
  quiet_by quiet same was none =
      doors.quiet_both d a b c go.counted (counted_by quiet) go.untold (λ untold. same ∙ untold) (was none) (inl quiet)

  told_by : d.faults b ≤ d.faults c → KeepsServed (at_door d b c)
      → LinksTell m → (d.served c ≡ and_calls (d.served a) go.runs) ⊎ ((d.served c ≡ None) × DoorRose (at_door d a c))
  told_by le same tell = by (go.told_are tell)
    where
      by : (d.served b ≡ and_calls (d.served a) go.runs) ⊎ ((d.served b ≡ None) × DoorRose (at_door d a b))
          → (d.served c ≡ and_calls (d.served a) go.runs) ⊎ ((d.served c ≡ None) × DoorRose (at_door d a c))
      by (inl is) = inl (same ∙ is)
      by (inr (none, up)) = inr (same ∙ none, doors.rose_before d a b c go.counted le up)

  -- where nothing stands in the one lane nothing is last
  last_none : lane ≡ 0 → (order : InOrder told most before now (since_of 0 before go.moves) go.admissions go.runs) → order.last ≡ None
  last_none is order = by order.last refl
    where
      by : (last : Option (Option (List ℕ))) → order.last ≡ last → order.last ≡ None
      by None e = e
      by (Some said) e =
          absurd (let number = sym none_in ∙ ap (λ (n : ℕ). number_in n go.admissions) is ∙ ap (number_in 0) order.admissions_are
          ∙ last_number go.runs order.last ∙ ap (λ (l : Option (Option (List ℕ))). number_in 0 (last_in l)) e in let no : ⊥ = omega (arith, number) in no)

  first_lane : length links ≡ 1 → lane ≡ 0
  first_lane one = let lt = slice_get_within links lane None free in omega (arith, lt, one)

  -- ---- a link came, and its lane was renewed

  module _ (x : K) (admitted : IsAdmitted (at_door d b c) (Ok (Some (view_of m source x)))) (served : KeepsServed (at_door d b c)) (port : KeepsPort (at_door d b c))
      (renewed : List SessionView) (renewed_is : renewed ≡ slice_set sessions lane (new_session most)) (session : SessionView) (there : slice_get sessions lane ≡ Some session)
      (stands : LanesStandFor renewed told before now (go.moves ++ was_renewed lane now ∷ [])) where
    abbrev begins : List Move
    begins = go.moves ++ was_renewed lane now ∷ []

    pub comes : (fewer : ℕ) → left ≡ fewer + 1
        → LanesGo m source told most count before now renewed (slice_set links lane (Some x)) fewer (at_door d a c) happened
        × (weight most fewer renewed (slice_set links lane (Some x)) < weight most left sessions links)
    comes fewer fewer_is = (
      record {
        moves = begins;
        stand = stands;
        rises = go.rises;
        begun = λ other. begun other (lane == other) refl;
        as_many = ap length renewed_is ∙ length-set sessions lane (new_session most) ∙ go.as_many ∙ sym (length-set links lane (Some x));
        admissions = go.admissions ++ in_lane lane (m.left x) ∷ [];
        numbers = λ other. numbers other (lane == other) refl;
        busy = λ other s k at found. busy_by other s k at found (lane == other) refl;
        runs = go.runs;
        served = go.served;
        order = subst (λ (l : List LinkRun). IsPermutation l go.runs) (sym (runs_more lane (m.left x) go.admissions)) go.order;
        one_lane = one_lane_is;
        told_are = told_by (counted_by admitted.3) served;
        coming = coming_one (d.coming a) (d.coming b) (d.coming c) go.admissions (in_lane lane (m.left x)) go.coming
            (first_gone (d.coming b) (d.coming c) (m.left x) admitted.1);
        heard = first_more (d.coming a) go.admissions (in_lane lane (m.left x)) go.heard
            (subst (λ (o : Option (List (List ℕ))). AreFirst o (in_lane lane (m.left x) ∷ [])) go.coming (first_in (d.coming b) (d.coming c) (m.left x) lane admitted.1));
        unadmitted = false;
        may_come = some_more (let long = more_length go.admissions (in_lane lane (m.left x)) in let sum = can_come.0 in omega (arith, long, sum, fewer_is));
        has_happened = subst (λ (u : Bool). HasHappened go.runs u happened) can_come.1 go.has_happened;
        untold = λ none. served ∙ go.untold none;
        failed = λ did. doors.rose_before d a b c go.counted (counted_by admitted.3) (go.failed did);
        quiet = quiet_by admitted.3 served go.quiet;
        port = port ∙ go.port;
        counted = let was = go.counted in let quiet = admitted.3 in omega (arith, was, quiet);
      },
      let sum = weights_set sessions links lane session (new_session most) None (Some x) there free in
          let is = ap (λ (l : List SessionView). weights l (slice_set links lane (Some x))) renewed_is in
          let product : left * (most + 2) ≡ fewer * (most + 2) + (most + 2) = ap (λ (n : ℕ). n * (most + 2)) fewer_is ∙ one_more_times fewer (most + 2) in
          omega (arith, sum, is, product),
    )
      where
        one_more_times : (n k : ℕ) → (n + 1) * k ≡ n * k + k
        one_more_times n k = grind arith

        begun : (other : ℕ) (same : Bool) → (lane == other) ≡ same → before ≤ since_of other before begins
        begun other true is =
            let one : lane ≡ other = eqb-true lane other is in
            subst (λ (n : ℕ). before ≤ since_of n before begins) one
            (let e = since_anew lane before now go.moves in let le = go.rises in omega (arith, e, le))
        begun other false apart =
            let e = since_kept other lane before now go.moves apart in let was = go.begun other in omega (arith, e, was)

        numbers : (other : ℕ) (same : Bool) → (lane == other) ≡ same
            → number_in other (go.admissions ++ in_lane lane (m.left x) ∷ []) ≡ number_at (slice_get (slice_set links lane (Some x)) other)
        numbers other true is =
            let one : lane ≡ other = eqb-true lane other is in
            subst (λ (n : ℕ). number_in n (go.admissions ++ in_lane lane (m.left x) ∷ []) ≡ number_at (slice_get (slice_set links lane (Some x)) n)) one
            (number_here lane (m.left x) go.admissions ∙ ap (λ (n : ℕ). n + 1) none_in ∙ sym (ap number_at (get_here links lane None (Some x) free)))
        numbers other false apart =
            number_elsewhere other lane (m.left x) go.admissions apart ∙ go.numbers other ∙ ap number_at (sym (get_elsewhere links lane other (Some x) apart))

        new_in_lane : IsInLane m source most begins (go.admissions ++ in_lane lane (m.left x) ∷ []) lane (new_session most) x
        new_in_lane = record {
          begun = x;
          new = admitted.0;
          spoke = subst (λ (own : List Fed). Spoke (link_step m source x x) (fed_in own) (written_in own)) (sym (own_anew lane now go.moves)) (spoke_nothing m source x);
          unfailed = admitted.0.faults;
          left_is = of_more lane lane (m.left x) (m.left x) go.admissions (of_none lane (m.left x) go.admissions none_in) (λ e. refl);
          open_is = refl;
          unrefused = refl;
          most_is = refl;
        }

        apart_of : (i j : ℕ) → (i == j) ≡ false → i ≡ j → ⊥
        apart_of i j apart e = let f : true ≡ false = sym (eq-eqb i j e) ∙ apart in let no : ⊥ = cc in no

        busy_by : (other : ℕ) (s : SessionView) (k : K) → slice_get renewed other ≡ Some s → slice_get (slice_set links lane (Some x)) other ≡ Some (Some k)
            → (same : Bool) → (lane == other) ≡ same → IsInLane m source most begins (go.admissions ++ in_lane lane (m.left x) ∷ []) other s k
        busy_by other s k at found true is =
            let one : lane ≡ other = eqb-true lane other is in
            let new_is : new_session most ≡ s = got_set sessions lane (new_session most) s
            (ap (slice_get (slice_set sessions lane (new_session most))) one ∙ ap (λ (l : List SessionView). slice_get l other) (sym renewed_is) ∙ at) in
            let k_is : x ≡ k = link_is links lane None x k free (ap (slice_get (slice_set links lane (Some x))) one ∙ found) in
            subst (λ (n : ℕ). IsInLane m source most begins (go.admissions ++ in_lane lane (m.left x) ∷ []) n s k) one
            (subst (λ (v : SessionView). IsInLane m source most begins (go.admissions ++ in_lane lane (m.left x) ∷ []) lane v k) new_is
            (subst (λ (l : K). IsInLane m source most begins (go.admissions ++ in_lane lane (m.left x) ∷ []) lane (new_session most) l) k_is new_in_lane))
        busy_by other s k at found false apart =
            let was_at : slice_get sessions other ≡ Some s =
            sym (get_elsewhere sessions lane other (new_session most) apart) ∙ ap (λ (l : List SessionView). slice_get l other) (sym renewed_is) ∙ at in
            let still = in_lane_still m source most go.moves begins go.admissions other s k (own_kept other lane now go.moves apart)
            (go.busy other s k was_at (sym (get_elsewhere links lane other (Some x) apart) ∙ found)) in
            record {
              begun = still.begun;
              new = still.new;
              spoke = still.spoke;
              unfailed = still.unfailed;
              left_is = of_more other lane (m.left still.begun) (m.left x) go.admissions still.left_is (λ e. absurd (apart_of lane other apart e));
              open_is = still.open_is;
              unrefused = still.unrefused;
              most_is = still.most_is;
            }

        one_lane_is : length (slice_set links lane (Some x)) ≡ 1
            → InOrder told most before now (since_of 0 before begins) (go.admissions ++ in_lane lane (m.left x) ∷ []) go.runs
        one_lane_is one =
            let long = sym (length-set links lane (Some x)) ∙ one in
            let zero_is = first_lane long in
            let order = go.one_lane long in
            let none = last_none zero_is order in
            record {
              last = Some (m.left x);
              admissions_are =
                  ap (λ (l : List Admission). l ++ in_lane lane (m.left x) ∷ []) (order.admissions_are ∙ ap (λ (l : Option (Option (List ℕ))). map given_back go.runs ++ last_in l) none)
                  ∙ ap (λ (n : ℕ). (map given_back go.runs ++ last_in None) ++ in_lane n (m.left x) ∷ []) zero_is
                  ∙ last_comes (m.left x) go.runs;
              number = order.number;
              in_turn = order.in_turn;
              until = order.until;
              behind =
                  let e = ap (λ (n : ℕ). since_of n before begins) (sym zero_is) ∙ since_anew lane before now go.moves in
                  let u = order.until in omega (arith, e, u);
            }

  -- ---- a link came, no memory was found for its session, and it was given back

  module _ (e : D) (x : K) (admitted : IsAdmitted (at_door d b c) (Ok (Some (view_of m source x)))) (served : KeepsServed (at_door d b c)) (port : KeepsPort (at_door d b c))
      (done : IsDone (view_of m source x) (at_door d c e)) (coming : KeepsComing (at_door d c e)) (port_behind : KeepsPort (at_door d c e)) (shut : KeepsShut (at_door d c e)) where
    abbrev none_served : Served
    none_served = record { requests = 0; broken = 0; store = 0 }

    abbrev unheard : LinkRun
    unheard = record {
      heard = [];
      said = [];
      over = m.over x;
      failed = is_failed (source.faults x);
      served = none_served;
      end = Err faults.OutOfMemory;
      faults_before = now;
      faults_now = now;
    }

    unfailed : is_failed (source.faults x) ≡ false
    unfailed = ap is_failed admitted.0.faults

    said : SaidBy told most unheard (Err faults.OutOfMemory)
    said = (
      record {
        sent = [];
        next = [];
        rest = [];
        sent_is = no_more [];
        at_most_one = omega arith;
        left_open = refl;
        count = 0;
        said_is = refl;
        numbers = record { requests_are = refl; broken_are = refl; store_are = refl };
        counts = omega arith;
      },
      unfailed,
    )

    told_nothing : (o : Option (List ℕ)) → IsNothing o → IsSome o → o ≡ Some []
    told_nothing None nothing tells = absurd (cc tells)
    told_nothing (Some l) nothing tells = ap Some nothing

    le_bc : d.faults b ≤ d.faults c
    le_bc = counted_by admitted.3

    counted_ac : d.faults a ≤ d.faults c
    counted_ac = let was = go.counted in omega (arith, was, le_bc)

    pub comes_back : (fewer : ℕ) → left ≡ fewer + 1
        → LanesGo m source told most count before now sessions links fewer (at_door d a e) (happened_with happened (record { requests = 0; broken = 0; store = 0 }) (Err faults.OutOfMemory))
        × (weight most fewer sessions links < weight most left sessions links)
    comes_back fewer fewer_is = (
      record {
        moves = go.moves;
        stand = go.stand;
        rises = go.rises;
        begun = go.begun;
        as_many = go.as_many;
        admissions = go.admissions ++ given_back unheard ∷ [];
        numbers = λ other. number_back other unheard go.admissions ∙ go.numbers other;
        busy = λ other s k at found.
            let in_it = go.busy other s k at found in
            record {
              begun = in_it.begun;
              new = in_it.new;
              spoke = in_it.spoke;
              unfailed = in_it.unfailed;
              left_is = of_back other (m.left in_it.begun) unheard go.admissions in_it.left_is;
              open_is = in_it.open_is;
              unrefused = in_it.unrefused;
              most_is = in_it.most_is;
            };
        runs = go.runs ++ unheard ∷ [];
        served = All-push (IsServedWithin told most before now) go.runs unheard go.served
            (record { served = said; behind = go.rises; rises = omega arith; until = omega arith });
        order = subst (λ (l : List LinkRun). IsPermutation l (go.runs ++ unheard ∷ [])) (sym (runs_back unheard go.admissions))
            (permuted (runs_in go.admissions) go.runs go.order);
        one_lane = λ one.
            let order = go.one_lane one in
            let none = last_none (first_lane one) order in
            record {
              last = None;
              admissions_are =
                  ap (λ (l : List Admission). l ++ given_back unheard ∷ []) (order.admissions_are ∙ ap (λ (l : Option (Option (List ℕ))). map given_back go.runs ++ last_in l) none)
                  ∙ last_back unheard go.runs;
              number = now;
              in_turn = are_more told most before now now go.runs unheard (served_until told most before go.runs order.number now order.in_turn order.until) said refl refl (omega arith);
              until = omega arith;
              behind = tt;
            };
        told_are = back_told d m source a c e x unheard go.runs counted_ac done
            (λ tell. call_told m source x unheard (told_nothing (m.heard x) admitted.0.heard (tell x).0) (told_nothing (m.said x) admitted.0.said (tell x).1) refl refl)
            (told_by le_bc served);
        coming = coming_one (d.coming a) (d.coming b) (d.coming e) go.admissions (given_back unheard) go.coming
            (coming ∙ first_gone (d.coming b) (d.coming c) (m.left x) admitted.1);
        heard = first_more (d.coming a) go.admissions (given_back unheard) go.heard
            (subst (λ (o : Option (List (List ℕ))). AreFirst o (given_back unheard ∷ [])) go.coming
            (first_unheard (d.coming b) (d.coming c) (m.left x) unheard refl admitted.0.over admitted.1));
        unadmitted = false;
        may_come = some_more (let long = more_length go.admissions (given_back unheard) in let sum = can_come.0 in omega (arith, long, sum, fewer_is));
        has_happened = happened_more go.runs unheard false happened unfailed (subst (λ (u : Bool). HasHappened go.runs u happened) can_come.1 go.has_happened);
        untold = λ none. doors.done_untold d c e (view_of m source x) done (served ∙ go.untold none);
        failed = back_failed d m source a c e x unheard go.runs counted_ac done happened.fault (Err faults.OutOfMemory) unfailed
            (λ did. doors.rose_before d a b c go.counted le_bc (go.failed did));
        quiet = back_quiet d m source a c e x unheard go.runs counted_ac done happened.fault (Err faults.OutOfMemory) unfailed
            (λ none. served ∙ go.untold none) (quiet_by admitted.3 served go.quiet);
        port = port_behind ∙ port ∙ go.port;
        counted = let more = done.counted in let ac = counted_ac in omega (arith, ac, more);
      },
      let product : left * (most + 2) ≡ fewer * (most + 2) + (most + 2) = ap (λ (n : ℕ). n * (most + 2)) fewer_is ∙ one_more_times fewer (most + 2) in
          omega (arith, product),
    )
      where
        one_more_times : (n k : ℕ) → (n + 1) * k ≡ n * k + k
        one_more_times n k = grind arith

        permuted : (xs ys : List LinkRun) → IsPermutation xs ys → IsPermutation (xs ++ unheard ∷ []) (ys ++ unheard ∷ [])
        permuted xs ys h = IsPermutation-append_left (unheard ∷ []) xs ys h

  -- ---- the door gave no more

  less_by_all : (sessions_now : List SessionView) (links_now : List (Option K)) → weights sessions_now links_now ≡ weights sessions links
      → weight most 0 sessions_now links_now < weight most left sessions links
  less_by_all sessions_now links_now is =
      let product : (most + 2) * 1 ≤ (most + 2) * left = mul-le-mul_left (most + 2) some in omega (arith, is, product)

  pub none_is : IsAdmitted (at_door d b c) (Ok None) → KeepsServed (at_door d b c) → KeepsPort (at_door d b c)
      → LanesGo m source told most count before now sessions links 0 (at_door d a c) happened
      × (weight most 0 sessions links < weight most left sessions links)
  none_is admitted served port = (
    record {
      moves = go.moves;
      stand = go.stand;
      rises = go.rises;
      begun = go.begun;
      as_many = go.as_many;
      admissions = go.admissions;
      numbers = go.numbers;
      busy = go.busy;
      runs = go.runs;
      served = go.served;
      order = go.order;
      one_lane = go.one_lane;
      told_are = told_by (counted_by admitted.3) served;
      coming = admitted.1 ∙ sym admitted.0 ∙ go.coming;
      heard = go.heard;
      unadmitted = false;
      may_come = none_comes refl (let sum = can_come.0 in omega (arith, sum, some)) admitted.2 admitted.1;
      has_happened = subst (λ (u : Bool). HasHappened go.runs u happened) can_come.1 go.has_happened;
      untold = λ none. served ∙ go.untold none;
      failed = λ did. doors.rose_before d a b c go.counted (counted_by admitted.3) (go.failed did);
      quiet = quiet_by admitted.3 served go.quiet;
      port = port ∙ go.port;
      counted = let was = go.counted in let quiet = admitted.3 in omega (arith, was, quiet);
    },
    less_by_all sessions links refl,
  )

  pub none_was : (fault : _) → IsAdmitted (at_door d b c) (Err fault) → KeepsServed (at_door d b c) → KeepsPort (at_door d b c) → d.faults b ≤ d.faults c
      → LanesGo m source told most count before now sessions links 0 (at_door d a c) (record happened { fault = true })
      × (weight most 0 sessions links < weight most left sessions links)
  none_was fault admitted served port le = (
    record {
      moves = go.moves;
      stand = go.stand;
      rises = go.rises;
      begun = go.begun;
      as_many = go.as_many;
      admissions = go.admissions;
      numbers = go.numbers;
      busy = go.busy;
      runs = go.runs;
      served = go.served;
      order = go.order;
      one_lane = go.one_lane;
      told_are = told_by le served;
      coming = admitted.0 ∙ go.coming;
      heard = go.heard;
      unadmitted = true;
      may_come = none_came refl (let sum = can_come.0 in omega (arith, sum, some)) admitted.1 (doors.rose_behind d a b c go.counted le admitted.2);
      has_happened = record { memory = go.has_happened.memory; store = go.has_happened.store; fault = refl; limit = go.has_happened.limit };
      untold = λ none. served ∙ go.untold none;
      failed = λ did. doors.rose_behind d a b c go.counted le admitted.2;
      quiet = λ none. absurd (let f : true ≡ false = none in cc);
      port = port ∙ go.port;
      counted = let was = go.counted in omega (arith, was, le);
    },
    less_by_all sessions links refl,
  )

-- ---- the first moment, and the last

module _ {D K : Type 0} (d : DoorMeaning D) (m : LinkMeaning K) (source : SourceMeaning K) (told : Option Store) (most count before : ℕ) (a : D) where
  pub go_begins : (sessions : List SessionView) (links : List (Option K)) (number : ℕ) (happened : Happened) → ((since now : ℕ) → since ≤ now → LanesStandFor sessions told since now [])
      → length sessions ≡ number → links ≡ replicate number None → HasHappened [] false happened
      → LanesGo m source told most count before before sessions links count (at_door d a a) happened
  go_begins sessions links number happened stand as_many free has = record {
    moves = [];
    stand = stand before before (omega arith);
    rises = omega arith;
    begun = λ lane. omega arith;
    as_many = as_many ∙ sym (length-replicate number None) ∙ ap length (sym free);
    admissions = [];
    numbers = λ lane. sym (ap (λ (l : List (Option K)). number_at (slice_get l lane)) free ∙ free_replicate K number lane);
    busy = λ lane session link at found.
        absurd (let n = sym (ap number_at found) ∙ ap (λ (l : List (Option K)). number_at (slice_get l lane)) free ∙ free_replicate K number lane in let no : ⊥ = omega (arith, n) in no);
    runs = [];
    served = All-nil (IsServedWithin told most before before);
    order = IsPermutation-refl [];
    one_lane = λ one. record { last = None; admissions_are = refl; number = before; in_turn = omega arith; until = omega arith; behind = tt };
    told_are = λ tell. inl (no_calls (d.served a));
    coming = none_gone (d.coming a);
    heard = none_heard (d.coming a);
    unadmitted = false;
    may_come = some_more (omega arith);
    has_happened = has;
    untold = λ none. none;
    failed = λ did. absurd (let f : false ≡ true = sym has.fault ∙ did in cc);
    quiet = λ none. inl refl;
    port = refl;
    counted = omega arith;
  }
    where
      no_calls : (o : Option (List Call)) → o ≡ and_calls o []
      no_calls None = refl
      no_calls (Some calls) = ap Some (sym (append-nil calls))

      none_gone : (o : Option (List (List ℕ))) → o ≡ option_map (drop 0) o
      none_gone None = refl
      none_gone (Some coming) = refl

      none_heard : (o : Option (List (List ℕ))) → AreFirst o []
      none_heard None = tt
      none_heard (Some coming) = tt

  pub go_ends : (b : D) (sessions : List SessionView) (links : List (Option K)) (now number : ℕ) (happened : Happened) → length links ≡ number
      → ((lane : ℕ) → number_at (slice_get links lane) ≡ 0)
      → LanesGo m source told most count before now sessions links 0 (at_door d a b) happened
      → ServesLanes told most count number (LinksTell m) before now (at_door d a b) happened
  go_ends b sessions links now number happened long free go = record {
    runs = go.runs;
    served = go.served;
    told_are = go.told_are;
    admitted = runs_in go.admissions;
    order = go.order;
    one_lane = λ one.
        let order = go.one_lane (long ∙ one) in
        let none = last_none order order.last refl in
        record {
          same_order = ap runs_in (order.admissions_are ∙ ap (λ (l : Option (Option (List ℕ))). map given_back go.runs ++ last_in l) none ∙ append-nil (map given_back go.runs))
              ∙ runs_of_back go.runs;
          in_turn = served_until told most before go.runs order.number now order.in_turn order.until;
        };
    coming = go.coming ∙ ap (λ (n : ℕ). option_map (drop n) (d.coming a)) as_long;
    heard = back_first (d.coming a) (runs_in go.admissions) (subst (AreFirst (d.coming a)) all_are go.heard);
    unadmitted = go.unadmitted;
    shut = shut go.unadmitted go.may_come;
    ended = ended go.unadmitted go.may_come;
    none_left = none_left go.unadmitted go.may_come;
    has_happened = go.has_happened;
    failed = go.failed;
    quiet = go.quiet;
    port = go.port;
    rises = go.rises;
    counted = go.counted;
  }
    where
      all_are : go.admissions ≡ map given_back (runs_in go.admissions)
      all_are = all_back go.admissions (λ lane. go.numbers lane ∙ free lane)

      as_long : length go.admissions ≡ length (runs_in go.admissions)
      as_long = ap length all_are ∙ back_length (runs_in go.admissions)

      last_none : (order : InOrder told most before now (since_of 0 before go.moves) go.admissions go.runs) (last : Option (Option (List ℕ))) → order.last ≡ last
          → order.last ≡ None
      last_none order None e = e
      last_none order (Some said) e =
          absurd (let number = sym (go.numbers 0 ∙ free 0) ∙ ap (number_in 0) order.admissions_are
          ∙ last_number go.runs order.last ∙ ap (λ (l : Option (Option (List ℕ))). number_in 0 (last_in l)) e in let no : ⊥ = omega (arith, number) in no)

      shut : (unadmitted : Bool) → MayCome count 0 (length go.admissions) (at_door d a b) unadmitted → unadmitted ≡ true
          → (d.shut b ≡ true) × DoorRose (at_door d a b)
      shut false may is = absurd (cc is)
      shut true (none_came is few closed rose) e = (closed, rose)

      ended : (unadmitted : Bool) → MayCome count 0 (length go.admissions) (at_door d a b) unadmitted
          → (length (runs_in go.admissions) ≡ count) ⊎ ((length (runs_in go.admissions) < count) × (d.shut b ≡ true))
      ended unadmitted (some_more is) = inl (omega (arith, is, as_long))
      ended unadmitted (none_comes is few closed none) = inr (omega (arith, few, as_long), closed)
      ended unadmitted (none_came is few closed rose) = inr (omega (arith, few, as_long), closed)

      none_left : (unadmitted : Bool) → MayCome count 0 (length go.admissions) (at_door d a b) unadmitted → length (runs_in go.admissions) < count → unadmitted ≡ false
          → d.coming b ≡ Some []
      none_left unadmitted (some_more is) few open_is = absurd (let no : ⊥ = omega (arith, is, few, as_long) in no)
      none_left unadmitted (none_comes is number closed none) few open_is = none
      none_left unadmitted (none_came is number closed rose) few open_is = absurd (cc open_is)

-- ---- the same, written otherwise

pub gone_to : {D K : Type 0} (d : DoorMeaning D) (m : LinkMeaning K) (source : SourceMeaning K) (told : Option Store) (most count before : ℕ) (a b : D) (now later bound : ℕ)
    (sessions : List SessionView) (links others : List (Option K)) (left fewer : ℕ) (happened other : Happened) → later ≡ now → others ≡ links → fewer ≡ left → other ≡ happened
    → LanesGo m source told most count before now sessions links left (at_door d a b) happened × (weight most left sessions links < bound)
    → LanesGo m source told most count before later sessions others fewer (at_door d a b) other × (weight most fewer sessions others < bound)
gone_to d m source told most count before a b now later bound sessions links others left fewer happened other k e f h go =
    subst (λ (t : ℕ). LanesGo m source told most count before t sessions others fewer (at_door d a b) other × (weight most fewer sessions others < bound)) (sym k)
    (subst (λ (l : List (Option _)). LanesGo m source told most count before now sessions l fewer (at_door d a b) other × (weight most fewer sessions l < bound)) (sym e)
    (subst (λ (n : ℕ). LanesGo m source told most count before now sessions links n (at_door d a b) other × (weight most n sessions links < bound)) (sym f)
    (subst (λ (x : Happened). LanesGo m source told most count before now sessions links left (at_door d a b) x × (weight most left sessions links < bound)) (sym h) go)))

pub happens_by : (sessions : List SessionView) (lane : ℕ) (old was new : Happened) (end is : Result ⊤ GatewayFault) → old ≡ was → end ≡ is
    → HappensWith sessions lane old new end → HappensWith sessions lane was new is
happens_by sessions lane old was new end is e f h =
    subst (λ (r : Result ⊤ GatewayFault). HappensWith sessions lane was new r) f (subst (λ (x : Happened). HappensWith sessions lane x new end) e h)

pub close_not_more : (result : Result Next GatewayFault) (next : Next) → result ≡ Ok next → next ≡ nexts.Close → result ≡ Ok nexts.More → ⊥
close_not_more result next is close goes =
    let e : Ok nexts.Close ≡ Ok nexts.More = ap Ok (sym close) ∙ sym is ∙ goes in let no : ⊥ = cc in no

pub fault_not_more : (result : Result Next GatewayFault) (fault : GatewayFault) → result ≡ Err fault → result ≡ Ok nexts.More → ⊥
fault_not_more result fault is goes = let e : Err fault ≡ Ok nexts.More = sym is ∙ goes in let no : ⊥ = cc in no

-- ---- one step after another

module _ {D K : Type 0} (d : DoorMeaning D) (m : LinkMeaning K) (source : SourceMeaning K) (told : Option Store) (most : ℕ) (x y z : Moment D K) where
  pub go_both : GoOn d m source told most x y → GoOn d m source told most y z → GoOn d m source told most x z
  go_both one other first count before go =
      let p = one first count before go in
      let q = other first count before p.0 in
      (q.0, let less = p.1 in let more = q.1 in omega (arith, less, more))

  pub may_then : (b : Bool) → MayGoOn d m source told most b x y → GoOn d m source told most y z → GoOn d m source told most x z
  may_then true one other = go_both one other
  may_then false same other = subst (λ (v : Moment D K). GoOn d m source told most v z) same other

  pub may_both : (b c : Bool) → MayGoOn d m source told most b x y → MayGoOn d m source told most c y z → MayGoOn d m source told most (b || c) x z
  may_both true true one other = go_both one other
  may_both true false one same = subst (λ (v : Moment D K). GoOn d m source told most x v) (sym same) one
  may_both false c same other = subst (λ (v : Moment D K). MayGoOn d m source told most c v z) same other

-- over a store that tells the same, and for as many bytes
pub may_as : {D K : Type 0} (d : DoorMeaning D) (m : LinkMeaning K) (source : SourceMeaning K) (told other : Option Store) (most many : ℕ) (b : Bool) (x y : Moment D K)
    → told ≡ other → most ≡ many → MayGoOn d m source told most b x y → MayGoOn d m source other many b x y
may_as d m source told other most many b x y e f h =
    subst (λ (t : Option Store). MayGoOn d m source t many b x y) e (subst (λ (n : ℕ). MayGoOn d m source told n b x y) f h)

-- where it is said that nothing changed, nothing did
pub unchanged : {D K : Type 0} (d : DoorMeaning D) (m : LinkMeaning K) (source : SourceMeaning K) (told : Option Store) (most : ℕ) (b : Bool) (x y : Moment D K)
    → MayGoOn d m source told most b x y → b ≡ false → y ≡ x
unchanged d m source told most true x y h e = absurd (cc e)
unchanged d m source told most false x y h e = h

pub is_true : (b : Bool) → (b ≡ false → ⊥) → b ≡ true
is_true true never = refl
is_true false never = absurd (never refl)

-- where it is said that something was done, lanes went on
pub went_on : {D K : Type 0} (d : DoorMeaning D) (m : LinkMeaning K) (source : SourceMeaning K) (told : Option Store) (most : ℕ) (b : Bool) (x y : Moment D K)
    → MayGoOn d m source told most b x y → b ≡ true → GoOn d m source told most x y
went_on d m source told most true x y h e = h
went_on d m source told most false x y h e = absurd (cc e)

-- where no link was admitted there was one
pub some_busy : (busy left most lanes : ℕ) → (0 < left) ⊎ (0 < busy) → (0 < most → 0 < left → busy < lanes → ⊥) → (busy ≡ 0 → 0 < most) → 1 ≤ lanes → 0 < busy
some_busy zero left most lanes going none may some = absurd (by going)
  where
    by : (0 < left) ⊎ (0 < 0) → ⊥
    by (inl more) = none (may refl) more (omega (arith, some))
    by (inr never) = omega (arith, never)
some_busy (suc n) left most lanes going none may some = omega arith

pub go_on_as : {D K : Type 0} (d : DoorMeaning D) (m : LinkMeaning K) (source : SourceMeaning K) (told other : Option Store) (most many : ℕ) (x y : Moment D K)
    → told ≡ other → most ≡ many → GoOn d m source told most x y → GoOn d m source other many x y
go_on_as d m source told other most many x y e f h = may_as d m source told other most many true x y e f h
