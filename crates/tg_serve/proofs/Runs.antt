-- Links that were served one after another through a door.
use Rattle.std.proofs.Common.{Bool, Err, List, None, Ok, Option, Some, [], ap, append_assoc, arith, false, inl, inr, length, length-append, refl, subst, sym, true, ℕ, ◌+◌, ◌++◌, ◌∷◌, ◌∙◌, ◌≡◌, ◌≤◌, ◌⊎◌}
use Rattle.std.proofs.Math.Bool.{false-or, or-false}
use Rattle.std.proofs.lemmas.List.{drop-drop, map-append}
use Rattle.std.proofs.lemmas.List.Elements.{All-append}
use Rattle.std.proofs.lemmas.List.Folds.{list_any-append}
use Rattle.std.specs.List.{list_any}
use Rattle.std.specs.Option.{option_map}
use Rattle.std.specs.Prelude.{IsSome, Result, drop, is_some, map, ⊤, ◌||◌}
use Rattle.tg_cid.specs.Cid.{CidParts}
use Rattle.tg_cid.specs.declared.cid.HashKind.TheVariants.{Sha256}
use Rattle.tg_doors.specs.Doors.{DoorMeaning, DoorRose, Doorway, at_door}
use Rattle.tg_links.specs.Views.{and_call}
use Rattle.tg_gateway.specs.declared.fault.GatewayFault.{GatewayFault}
use Rattle.tg_gateway.specs.declared.fault.GatewayFault.TheVariants as faults
use Rattle.tg_gateway.specs.declared.session.Served.{Served}
use Rattle.tg_links.specs.declared.call.Call.{Call}
use Rattle.tg_model.specs.Stores.{BlocksMeaning, Store, looked_in}
use Rattle.tg_serve.specs.Serving.{AreHeardOf, AreServed, HasHappened, IsServedRun, LinkRun, QuietWhileTold, SaidBy, ServesLink, and_calls, call_of, happened_with, is_limit, is_link_fault, is_memory, is_positive}
use Rattle.tg_serve.specs.declared.Happened.{Happened}
use Rattle.tg_serve.proofs.DoorSteps as doors
use Rattle.tg_walk.specs.Walks.{HaveLookedUp}

-- ---- what was looked up

abbrev pub LooksJoin : (S : Type 0) → BlocksMeaning S → Type 0
LooksJoin S m = (a b c : S) (u v : List CidParts) → m.looked a b u → m.looked b c v → m.looked a c (u ++ v)

pub looks_both : {S : Type 0} (m : BlocksMeaning S) (a b c : S) → LooksJoin S m → HaveLookedUp (looked_in m a b) → HaveLookedUp (looked_in m b c) → HaveLookedUp (looked_in m a c)
looks_both m a b c joins p q = record {
  cids = p.cids ++ q.cids;
  looked = record { moved = joins a b c p.cids q.cids p.looked.moved q.looked.moved; stored = q.looked.stored ∙ p.looked.stored };
  hashed = All-append (λ (cid : CidParts). cid.hash ≡ Sha256) p.cids q.cids p.hashed q.hashed;
}

-- ---- one link more

pub are_more : (told : Option Store) (most before mid now : ℕ) (runs : List LinkRun) (run : LinkRun) → AreServed told most before runs mid → IsServedRun told most run
    → run.faults_before ≡ mid → run.faults_now ≡ now → mid ≤ now → AreServed told most before (runs ++ run ∷ []) now
are_more told most before mid now [] run few is_served from to rises =
    (is_served, omega (arith, few, from), omega (arith, from, to, rises), omega (arith, to))
are_more told most before mid now (first ∷ runs) run (is_first, few, up, more) is_served from to rises =
    (is_first, few, up, are_more told most first.faults_now mid now runs run more is_served from to rises)

pub calls_more : (calls : Option (List Call)) (runs : List LinkRun) (run : LinkRun)
    → and_call (and_calls calls runs) (Some (call_of run)) ≡ and_calls calls (runs ++ run ∷ [])
calls_more None runs run = refl
calls_more (Some calls) runs run =
    ap (λ (all : List Call). Some all)
    (append_assoc calls (map call_of runs) (call_of run ∷ []) ∙ ap (λ (more : List Call). calls ++ more) (sym (map-append call_of runs (run ∷ []))))

pub any_more : (test : LinkRun → Bool) (runs : List LinkRun) (run : LinkRun) (x y : Bool) → x ≡ list_any test runs → y ≡ test run
    → (x || y) ≡ list_any test (runs ++ run ∷ [])
any_more test runs run x y e f =
    ap (λ (b : Bool). b || y) e ∙ ap (λ (b : Bool). list_any test runs || b) (f ∙ sym (or-false (test run)))
    ∙ sym (list_any-append test runs (run ∷ []))

pub coming_more : (old : Option (List (List ℕ))) (runs : List LinkRun) (run : LinkRun)
    → option_map (drop 1) (option_map (drop (length runs)) old) ≡ option_map (drop (length (runs ++ run ∷ []))) old
coming_more None runs run = refl
coming_more (Some all) runs run =
    ap (λ (rest : List (List ℕ)). Some rest)
    (drop-drop 1 (length runs) all ∙ ap (λ (n : ℕ). drop n all) (sym (length-append runs (run ∷ []))))

heard_more : (old : Option (List (List ℕ))) (runs : List LinkRun) (run : LinkRun) → AreHeardOf old runs
    → AreHeardOf (option_map (drop (length runs)) old) (run ∷ []) → AreHeardOf old (runs ++ run ∷ [])
heard_more None runs run before last = tt
heard_more (Some coming) [] run before last = last
heard_more (Some []) (first ∷ runs) run before last = absurd before
heard_more (Some (said ∷ coming)) (first ∷ runs) run before last = (before.0, heard_more (Some coming) runs run before.1 last)

-- a call of a link failed exactly where its session ended so
pub failed_by : (told : Option Store) (most : ℕ) (run : LinkRun) (end : Result ⊤ GatewayFault) → SaidBy told most run end → run.failed ≡ is_link_fault end
failed_by told most run (Ok done) said = said.unfailed
failed_by told most run (Err (faults.Limit number)) said = said.1.unfailed
failed_by told most run (Err faults.LinkFault) said = said.1
failed_by told most run (Err faults.OutOfMemory) said = said.1

or_more : (unadmitted a b x : Bool) → x ≡ (a || b) → (unadmitted || a || b) ≡ (unadmitted || x)
or_more true a b x e = refl
or_more false a b x e = sym e

pub happened_more : (runs : List LinkRun) (run : LinkRun) (unadmitted : Bool) (happened : Happened) → run.failed ≡ is_link_fault run.end
    → HasHappened runs unadmitted happened → HasHappened (runs ++ run ∷ []) unadmitted (happened_with happened run.served run.end)
happened_more runs run unadmitted happened failed has = record {
  memory = any_more (λ r. is_memory r.end) runs run happened.memory (is_memory run.end) has.memory refl;
  store = any_more (λ r. is_positive r.served.store) runs run happened.store (is_positive run.served.store) has.store refl;
  fault = ap (λ (b : Bool). b || is_link_fault run.end) has.fault
      ∙ or_more unadmitted (list_any (λ r. r.failed) runs) (is_link_fault run.end) (list_any (λ r. r.failed) (runs ++ run ∷ []))
      (sym (any_more (λ r. r.failed) runs run (list_any (λ r. r.failed) runs) (is_link_fault run.end) refl (sym failed)));
  limit = any_more (λ r. is_limit r.end) runs run happened.limit (is_limit run.end) has.limit refl;
}

pub either : (x y : Bool) → (x || y) ≡ true → (x ≡ true) ⊎ (y ≡ true)
either true y e = inl refl
either false y e = inr e

pub neither : (x y : Bool) → (x || y) ≡ false → (x ≡ false) × (y ≡ false)
neither true y e = absurd (let f = e in cc)
neither false y e = (refl, e)

-- ---- the links so far

pub record HasServed (told : Option Store) (most count left : ℕ) (tell : Type 0) (before now : ℕ) (door : Doorway) (happened : Happened) : Type 0 where
  pub runs : List LinkRun
  pub number : length runs + left ≡ count
  pub served : AreServed told most before runs now
  pub told_are : tell → (door.served_new ≡ and_calls door.served_old runs) ⊎ ((door.served_new ≡ None) × DoorRose door)
  pub coming : door.coming_new ≡ option_map (drop (length runs)) door.coming_old
  pub heard : AreHeardOf door.coming_old runs
  pub has_happened : HasHappened runs false happened
  pub untold : door.served_old ≡ None → door.served_new ≡ None
  pub failed : happened.fault ≡ true → DoorRose door
  pub quiet : happened.fault ≡ false → QuietWhileTold door
  pub port : door.port_new ≡ door.port_old
  pub counted : door.faults_old ≤ door.faults_new

module _ {S D : Type 0} (blocks : BlocksMeaning S) (m : DoorMeaning D) (p q r : S) (a b c : D) (most count left : ℕ) (tell : Type 0) (happened : Happened)
    (so : HasServed (blocks.stored p) most count left tell (blocks.faults p) (blocks.faults q) (at_door m a b) happened) where
  -- what is quiet before and behind is quiet
  pub quiet_both : QuietWhileTold (at_door m a b) → QuietWhileTold (at_door m b c) → (m.served b ≡ None → m.served c ≡ None) → m.faults b ≤ m.faults c
      → QuietWhileTold (at_door m a c)
  quiet_both before now untold more = doors.quiet_both m a b c so.counted more so.untold untold before now

  -- ---- one link more was served

  module _ (served : Served) (end : Result ⊤ GatewayFault) (same : blocks.stored q ≡ blocks.stored p)
      (link : ServesLink (blocks.stored q) most tell (looked_in blocks q r) (at_door m b c) served end) where
    is_served : IsServedRun (blocks.stored p) most link.run
    is_served = subst (λ (told : Option Store). IsServedRun told most link.run) same link.is_served

    fails : (happened.fault || is_link_fault end) ≡ true → DoorRose (at_door m a c)
    fails did = by (either happened.fault (is_link_fault end) did)
      where
        by : (happened.fault ≡ true) ⊎ (is_link_fault end ≡ true) → DoorRose (at_door m a c)
        by (inl before) = doors.rose_before m a b c so.counted link.counted (so.failed before)
        by (inr now) =
            doors.rose_behind m a b c so.counted link.counted (link.failed (failed_by (blocks.stored p) most link.run link.run.end is_served ∙ ap is_link_fault link.end_is ∙ now))

    quiet_more : (happened.fault || is_link_fault end) ≡ false → QuietWhileTold (at_door m a c)
    quiet_more none =
        quiet_both (so.quiet (neither happened.fault (is_link_fault end) none).0)
        (link.quiet (failed_by (blocks.stored p) most link.run link.run.end is_served ∙ ap is_link_fault link.end_is
        ∙ (neither happened.fault (is_link_fault end) none).1)) link.untold link.counted

    told_more : tell → (m.served c ≡ and_calls (m.served a) (so.runs ++ link.run ∷ [])) ⊎ ((m.served c ≡ None) × DoorRose (at_door m a c))
    told_more tells = by (so.told_are tells) (link.told_is tells)
      where
        by : (m.served b ≡ and_calls (m.served a) so.runs) ⊎ ((m.served b ≡ None) × DoorRose (at_door m a b))
            → (m.served c ≡ and_call (m.served b) (Some (call_of link.run))) ⊎ ((m.served c ≡ None) × DoorRose (at_door m b c))
            → (m.served c ≡ and_calls (m.served a) (so.runs ++ link.run ∷ [])) ⊎ ((m.served c ≡ None) × DoorRose (at_door m a c))
        by before (inr (none, up)) = inr (none, doors.rose_behind m a b c so.counted link.counted up)
        by (inl before) (inl now) =
            inl (now ∙ ap (λ (calls : Option (List Call)). and_call calls (Some (call_of link.run))) before ∙ calls_more (m.served a) so.runs link.run)
        by (inr (none, up)) (inl now) =
            inr (now ∙ ap (λ (calls : Option (List Call)). and_call calls (Some (call_of link.run))) none, doors.rose_before m a b c so.counted link.counted up)

    has_more : HasHappened (so.runs ++ link.run ∷ []) false (happened_with happened served end)
    has_more =
        subst (λ (s : Served). HasHappened (so.runs ++ link.run ∷ []) false (happened_with happened s end)) link.served_is
        (subst (λ (e : Result ⊤ GatewayFault). HasHappened (so.runs ++ link.run ∷ []) false (happened_with happened link.run.served e)) link.end_is
        (happened_more so.runs link.run false happened (failed_by (blocks.stored p) most link.run link.run.end is_served) so.has_happened))

    pub one_more : (fewer : ℕ) → left ≡ fewer + 1
        → HasServed (blocks.stored p) most count fewer tell (blocks.faults p) (blocks.faults r) (at_door m a c) (happened_with happened served end)
    one_more fewer is = record {
      runs = so.runs ++ link.run ∷ [];
      number = let size = length-append so.runs (link.run ∷ []) in let number = so.number in omega (arith, size, number, is);
      served = are_more (blocks.stored p) most (blocks.faults p) (blocks.faults q) (blocks.faults r) so.runs link.run so.served is_served link.before link.now link.rises;
      told_are = told_more;
      coming = link.coming ∙ ap (option_map (drop 1)) so.coming ∙ coming_more (m.coming a) so.runs link.run;
      heard = heard_more (m.coming a) so.runs link.run so.heard
          (subst (λ (coming : Option (List (List ℕ))). AreHeardOf coming (link.run ∷ [])) so.coming link.heard);
      has_happened = has_more;
      untold = λ none. link.untold (so.untold none);
      failed = fails;
      quiet = quiet_more;
      port = link.port ∙ so.port;
      counted = let before = so.counted in let now = link.counted in omega (arith, before, now);
    }
