-- Sections that are kept one after another, and the causes of faults.
use Rattle.std.proofs.Common.{◌≡◌, ℕ, List, [], ◌∷◌, ◌++◌, ◌∙◌, Err, None, Ok, Option, Result, Some, ap, append-nil, append_assoc, arith, refl, subst, sym}
use Rattle.std.proofs.lemmas.List.Elements.{All-append, All-nil}
use Rattle.tg_client.specs.Body.{HasOutCause}
use Rattle.tg_client.specs.Keeping.{AreKept, AreKeptAt, HasKeepCause}
use Rattle.tg_client.specs.declared.fault.ClientFault.{ClientFault}
use Rattle.tg_client.specs.declared.fault.ClientFault.TheVariants as clients
use Rattle.tg_faults.specs.Faults.{Rose}
use Rattle.tg_fetch.specs.Faults.{QuietUnlessSink, fault_of_client}
use Rattle.tg_fetch.specs.Keeping.{AreKeptBy, HasFaultCause, IsAnswerCar, KeepsBehind, StandIn, unkept}
use Rattle.tg_fetch.specs.Keeping as keeps
use Rattle.tg_fetch.specs.KeepingSteps.{StandsKeeping}
use Rattle.tg_fetch.specs.declared.fault.FetchFault.{FetchFault}
use Rattle.tg_fetch.specs.declared.fault.FetchFault.TheVariants as faults
use Rattle.tg_heard.specs.FrontLaws.{HeadLaws}
use Rattle.tg_model.specs.Dag.{Section}
use Rattle.tg_model.specs.LimitNumbers.{LimitNumbers}
use Rattle.tg_model.specs.Queries.{QueryParts}
use Rattle.tg_model.specs.Stores.{AreKeptAs, KeepMeaning, Keeping, KeepingQuiet, Store, kept_in}
use Rattle.tg_model_laws.specs.Stores.{KeepingJoins, MayKeep}
use Rattle.tg_streams.specs.Streams.{Output, OutputQuiet, SinkMeaning, into}
use Rattle.tg_verify.specs.declared.fault.Refusal.TheVariants as refusals

-- ---- nothing

none_as : (store : Option Store) → AreKeptAs store store []
none_as None = refl
none_as (Some store) = refl

pub none_kept : {K : Type 0} (m : KeepMeaning K) (a : K) → m.kept a a [] → AreKept [] (kept_in m a a)
none_kept m a rests = record { may = All-nil MayKeep; kept = record { moved = rests; stored = none_as (m.stored a) }; quiet = refl }

-- two lists that are none together
pub none_first : (before came : List Section) → before ++ came ≡ [] → before ≡ []
none_first [] came e = refl
none_first (section ∷ before) came e = absurd (let no : ⊥ = cc in no)

pub none_second : (before came : List Section) → before ++ came ≡ [] → came ≡ []
none_second [] came e = e
none_second (section ∷ before) came e = absurd (let no : ⊥ = cc in no)

pub none_more : (before : List Section) → before ≡ [] → before ++ [] ≡ []
none_more before e = append-nil before ∙ e

pub kept_none : (came : List Section) (keeping : Keeping) → came ≡ [] → AreKept came keeping → AreKept [] keeping
kept_none came keeping e h = subst (λ (s : List Section). AreKept s keeping) e h

-- a count that stays zero
never_rose : (before now : ℕ) → before ≡ 0 → now ≡ 0 → Rose before now → ⊥
never_rose before now old new rose = let less = rose (omega (arith, old)) in omega (arith, less, old, new)

-- what is kept where no keeper has a part is kept by one that is handed nothing
pub nothing_kept : AreKept [] unkept
nothing_kept = record { may = All-nil MayKeep; kept = record { moved = refl; stored = refl }; quiet = refl }

module _ (keeping : Keeping) (kept : AreKept [] keeping) where
  none_by : (came : List Section) → AreKept came unkept → AreKept came keeping
  none_by came h = subst (λ (s : List Section). AreKept s keeping) (sym h.kept.moved) kept

  pub still_by : (fault : FetchFault) (came : List Section) → AreKeptBy fault came unkept → AreKeptBy fault came keeping
  still_by (faults.Refused (refusals.Extra number)) came h = none_by came h
  still_by (faults.Refused (refusals.Limit kind number)) came h = none_by came h
  still_by (faults.Refused (refusals.BadDigest cid)) came h = record {
    named = h.named;
    last = h.last;
    sections_are = h.sections_are;
    kept = none_by h.named h.kept;
    cid_is = h.cid_is;
    misnamed = h.misnamed;
  }
  still_by (faults.Refused (refusals.WrongBlock want got)) came h = none_by came h
  still_by (faults.Refused (refusals.BadBlock cid fault)) came h = none_by came h
  still_by (faults.Refused (refusals.BadSize declared actual)) came h = none_by came h
  still_by (faults.Refused (refusals.NotFolder segment)) came h = none_by came h
  still_by (faults.Refused (refusals.NotThere segment)) came h = none_by came h
  still_by (faults.Refused refusals.SinkFault) came h = none_by came h
  still_by (faults.Refused (refusals.Truncated want number)) came h = none_by came h
  still_by (faults.Refused refusals.OutOfMemory) came h = none_by came h
  still_by (faults.Status number) came h = none_by came h
  still_by faults.BadType came h = none_by came h
  still_by faults.BadReplyHead came h = none_by came h
  still_by faults.BadFraming came h = none_by came h
  still_by (faults.BadCar car) came h = none_by came h
  still_by faults.PeerFault came h = none_by came h
  still_by faults.KeepFault came h = absurd (never_rose 0 0 refl refl h.rose)
  still_by faults.OutOfMemory came h = none_by came h

  still : (q : QueryParts) (heard : List ℕ) (before all : List Section) (Now : List Section → Keeping → Type 0) → ((came : List Section) → Now came unkept → Now came keeping)
      → KeepsBehind q heard before all Now unkept → KeepsBehind q heard before all Now keeping
  still q heard before all Now on (keeps.none e none other) = keeps.none e none kept
  still q heard before all Now on (keeps.outside not other) = keeps.outside not kept
  still q heard before all Now on (keeps.inside car came all_is h) = keeps.inside car came all_is (on came h)

  pub behind_still : (q : QueryParts) (heard : List ℕ) (before all : List Section) (fault : FetchFault) → KeepsBehind q heard before all (AreKeptBy fault) unkept
      → KeepsBehind q heard before all (AreKeptBy fault) keeping
  behind_still q heard before all fault k = still q heard before all (AreKeptBy fault) (still_by fault) k

  pub all_still : (q : QueryParts) (heard : List ℕ) (before all : List Section) → KeepsBehind q heard before all AreKept unkept → KeepsBehind q heard before all AreKept keeping
  all_still q heard before all k = still q heard before all AreKept none_by k

-- ---- a fault of the answer's CAR

pub by_client : (cause : ClientFault) (came : List Section) (keeping : Keeping) → AreKeptAt cause came keeping → AreKeptBy (fault_of_client cause) came keeping
by_client (clients.Refused (refusals.Extra number)) came keeping h = h
by_client (clients.Refused (refusals.Limit kind number)) came keeping h = h
by_client (clients.Refused (refusals.BadDigest cid)) came keeping h = h
by_client (clients.Refused (refusals.WrongBlock want got)) came keeping h = h
by_client (clients.Refused (refusals.BadBlock cid fault)) came keeping h = h
by_client (clients.Refused (refusals.BadSize declared actual)) came keeping h = h
by_client (clients.Refused (refusals.NotFolder segment)) came keeping h = h
by_client (clients.Refused (refusals.NotThere segment)) came keeping h = h
by_client (clients.Refused refusals.SinkFault) came keeping h = h
by_client (clients.Refused (refusals.Truncated want number)) came keeping h = h
by_client (clients.Refused refusals.OutOfMemory) came keeping h = h
by_client (clients.BadCar car) came keeping h = h
by_client clients.InputFault came keeping h = h
by_client clients.KeepFault came keeping h = h
by_client clients.OutOfMemory came keeping h = h

pub client_cause : (A B : Type 0) (out : Output) (keeping : Keeping) (cause : ClientFault) → HasOutCause out cause → HasKeepCause {A = A} keeping (Err cause)
    → HasFaultCause {A = B} out keeping (Err (fault_of_client cause))
client_cause A B out keeping (clients.Refused (refusals.Extra number)) has kept = (has, kept)
client_cause A B out keeping (clients.Refused (refusals.Limit kind number)) has kept = (has, kept)
client_cause A B out keeping (clients.Refused (refusals.BadDigest cid)) has kept = (has, kept)
client_cause A B out keeping (clients.Refused (refusals.WrongBlock want got)) has kept = (has, kept)
client_cause A B out keeping (clients.Refused (refusals.BadBlock cid fault)) has kept = (has, kept)
client_cause A B out keeping (clients.Refused (refusals.BadSize declared actual)) has kept = (has, kept)
client_cause A B out keeping (clients.Refused (refusals.NotFolder segment)) has kept = (has, kept)
client_cause A B out keeping (clients.Refused (refusals.NotThere segment)) has kept = (has, kept)
client_cause A B out keeping (clients.Refused refusals.SinkFault) has kept = (has, kept)
client_cause A B out keeping (clients.Refused (refusals.Truncated want number)) has kept = (has, kept)
client_cause A B out keeping (clients.Refused refusals.OutOfMemory) has kept = (has, kept)
client_cause A B out keeping (clients.BadCar car) has kept = (has, kept)
client_cause A B out keeping clients.InputFault has kept = absurd has
client_cause A B out keeping clients.KeepFault has kept = (has, kept)
client_cause A B out keeping clients.OutOfMemory has kept = (has, kept)

-- ---- of a call that has no keeper

pub quiet_also : (A : Type 0) (out : Output) (keeping : Keeping) (result : Result A FetchFault) → KeepingQuiet keeping → QuietUnlessSink {A = A} out result → HasFaultCause {A = A} out keeping result
quiet_also A out keeping (Ok done) still h = (h, still)
quiet_also A out keeping (Err (faults.Refused (refusals.Extra number))) still h = (h, still)
quiet_also A out keeping (Err (faults.Refused (refusals.Limit kind number))) still h = (h, still)
quiet_also A out keeping (Err (faults.Refused (refusals.BadDigest cid))) still h = (h, still)
quiet_also A out keeping (Err (faults.Refused (refusals.WrongBlock want got))) still h = (h, still)
quiet_also A out keeping (Err (faults.Refused (refusals.BadBlock cid fault))) still h = (h, still)
quiet_also A out keeping (Err (faults.Refused (refusals.BadSize declared actual))) still h = (h, still)
quiet_also A out keeping (Err (faults.Refused (refusals.NotFolder segment))) still h = (h, still)
quiet_also A out keeping (Err (faults.Refused (refusals.NotThere segment))) still h = (h, still)
quiet_also A out keeping (Err (faults.Refused refusals.SinkFault)) still h = (h, still)
quiet_also A out keeping (Err (faults.Refused (refusals.Truncated want number))) still h = (h, still)
quiet_also A out keeping (Err (faults.Refused refusals.OutOfMemory)) still h = (h, still)
quiet_also A out keeping (Err (faults.Status number)) still h = (h, still)
quiet_also A out keeping (Err faults.BadType) still h = (h, still)
quiet_also A out keeping (Err faults.BadReplyHead) still h = (h, still)
quiet_also A out keeping (Err faults.BadFraming) still h = (h, still)
quiet_also A out keeping (Err (faults.BadCar car)) still h = (h, still)
quiet_also A out keeping (Err faults.PeerFault) still h = (h, still)
quiet_also A out keeping (Err faults.KeepFault) still h = absurd h
quiet_also A out keeping (Err faults.OutOfMemory) still h = (h, still)

-- ---- of a keeper that never fails

pub never_failed : (A : Type 0) (out : Output) (keeping : Keeping) (result : Result A FetchFault) → keeping.faults_old ≡ 0 → keeping.faults_new ≡ 0 → HasFaultCause {A = A} out keeping result
    → QuietUnlessSink {A = A} out result
never_failed A out keeping (Ok done) old new h = h.0
never_failed A out keeping (Err (faults.Refused (refusals.Extra number))) old new h = h.0
never_failed A out keeping (Err (faults.Refused (refusals.Limit kind number))) old new h = h.0
never_failed A out keeping (Err (faults.Refused (refusals.BadDigest cid))) old new h = h.0
never_failed A out keeping (Err (faults.Refused (refusals.WrongBlock want got))) old new h = h.0
never_failed A out keeping (Err (faults.Refused (refusals.BadBlock cid fault))) old new h = h.0
never_failed A out keeping (Err (faults.Refused (refusals.BadSize declared actual))) old new h = h.0
never_failed A out keeping (Err (faults.Refused (refusals.NotFolder segment))) old new h = h.0
never_failed A out keeping (Err (faults.Refused (refusals.NotThere segment))) old new h = h.0
never_failed A out keeping (Err (faults.Refused refusals.SinkFault)) old new h = h.0
never_failed A out keeping (Err (faults.Refused (refusals.Truncated want number))) old new h = h.0
never_failed A out keeping (Err (faults.Refused refusals.OutOfMemory)) old new h = h.0
never_failed A out keeping (Err (faults.Status number)) old new h = h.0
never_failed A out keeping (Err faults.BadType) old new h = h.0
never_failed A out keeping (Err faults.BadReplyHead) old new h = h.0
never_failed A out keeping (Err faults.BadFraming) old new h = h.0
never_failed A out keeping (Err (faults.BadCar car)) old new h = h.0
never_failed A out keeping (Err faults.PeerFault) old new h = h.0
never_failed A out keeping (Err faults.KeepFault) old new h = never_rose keeping.faults_old keeping.faults_new old new h.1
never_failed A out keeping (Err faults.OutOfMemory) old new h = h.0

-- ---- one step after another

module _ {S K : Type 0} (m : SinkMeaning S) (a b c : S) (quiet : OutputQuiet (into m a b)) (k : KeepMeaning K) (p q r : K) (still : KeepingQuiet (kept_in k p q)) where
  pub cause_on : (A B : Type 0) (fault : FetchFault) → HasFaultCause {A = A} (into m b c) (kept_in k q r) (Err fault) → HasFaultCause {A = B} (into m a c) (kept_in k p r) (Err fault)
  cause_on A B (faults.Refused (refusals.Extra number)) h = (h.0 ∙ quiet, h.1 ∙ still)
  cause_on A B (faults.Refused (refusals.Limit kind number)) h = (h.0 ∙ quiet, h.1 ∙ still)
  cause_on A B (faults.Refused (refusals.BadDigest cid)) h = (h.0 ∙ quiet, h.1 ∙ still)
  cause_on A B (faults.Refused (refusals.WrongBlock want got)) h = (h.0 ∙ quiet, h.1 ∙ still)
  cause_on A B (faults.Refused (refusals.BadBlock cid fault)) h = (h.0 ∙ quiet, h.1 ∙ still)
  cause_on A B (faults.Refused (refusals.BadSize declared actual)) h = (h.0 ∙ quiet, h.1 ∙ still)
  cause_on A B (faults.Refused (refusals.NotFolder segment)) h = (h.0 ∙ quiet, h.1 ∙ still)
  cause_on A B (faults.Refused (refusals.NotThere segment)) h = (h.0 ∙ quiet, h.1 ∙ still)
  cause_on A B (faults.Refused refusals.SinkFault) h = (subst (λ (n : ℕ). Rose n (m.faults c)) quiet h.0, h.1 ∙ still)
  cause_on A B (faults.Refused (refusals.Truncated want number)) h = (h.0 ∙ quiet, h.1 ∙ still)
  cause_on A B (faults.Refused refusals.OutOfMemory) h = (h.0 ∙ quiet, h.1 ∙ still)
  cause_on A B (faults.Status number) h = (h.0 ∙ quiet, h.1 ∙ still)
  cause_on A B faults.BadType h = (h.0 ∙ quiet, h.1 ∙ still)
  cause_on A B faults.BadReplyHead h = (h.0 ∙ quiet, h.1 ∙ still)
  cause_on A B faults.BadFraming h = (h.0 ∙ quiet, h.1 ∙ still)
  cause_on A B (faults.BadCar car) h = (h.0 ∙ quiet, h.1 ∙ still)
  cause_on A B faults.PeerFault h = (h.0 ∙ quiet, h.1 ∙ still)
  cause_on A B faults.KeepFault h = (h.0 ∙ quiet, subst (λ (n : ℕ). Rose n (k.faults r)) still h.1)
  cause_on A B faults.OutOfMemory h = (h.0 ∙ quiet, h.1 ∙ still)

  pub end_cause_on : (A : Type 0) (result : Result A FetchFault) → HasFaultCause {A = A} (into m b c) (kept_in k q r) result → HasFaultCause {A = A} (into m a c) (kept_in k p r) result
  end_cause_on A (Ok done) h = (h.0 ∙ quiet, h.1 ∙ still)
  end_cause_on A (Err fault) h = cause_on A A fault h

-- one step of a keeper after another
abbrev pub KeepJoins : (K : Type 0) → KeepMeaning K → Type 0
KeepJoins K m = (a b c : K) (u v : List Section) → m.kept a b u → m.kept b c v → m.kept a c (u ++ v)

module _ {K : Type 0} (k : KeepMeaning K) (steps : KeepJoins K k) (laws : KeepingJoins) (p q r : K) (came : List Section) (first : AreKept came (kept_in k p q)) where
  pub kept_on : (more : List Section) → AreKept more (kept_in k q r) → AreKept (came ++ more) (kept_in k p r)
  kept_on more next = record {
    may = All-append MayKeep came more first.may next.may;
    kept = record {
      moved = steps p q r came more first.kept.moved next.kept.moved;
      stored = laws (k.stored p) (k.stored q) (k.stored r) came more first.kept.stored next.kept.stored;
    };
    quiet = next.quiet ∙ first.quiet;
  }

  pub kept_by_on : (fault : FetchFault) (more : List Section) → AreKeptBy fault more (kept_in k q r) → AreKeptBy fault (came ++ more) (kept_in k p r)
  kept_by_on (faults.Refused (refusals.Extra number)) more next = kept_on more next
  kept_by_on (faults.Refused (refusals.Limit kind number)) more next = kept_on more next
  kept_by_on (faults.Refused (refusals.BadDigest cid)) more next = record {
    named = came ++ next.named;
    last = next.last;
    sections_are = ap (λ (s : List Section). came ++ s) next.sections_are ∙ sym (append_assoc came next.named (next.last ∷ []));
    kept = kept_on next.named next.kept;
    cid_is = next.cid_is;
    misnamed = next.misnamed;
  }
  kept_by_on (faults.Refused (refusals.WrongBlock want got)) more next = kept_on more next
  kept_by_on (faults.Refused (refusals.BadBlock cid fault)) more next = kept_on more next
  kept_by_on (faults.Refused (refusals.BadSize declared actual)) more next = kept_on more next
  kept_by_on (faults.Refused (refusals.NotFolder segment)) more next = kept_on more next
  kept_by_on (faults.Refused (refusals.NotThere segment)) more next = kept_on more next
  kept_by_on (faults.Refused refusals.SinkFault) more next = kept_on more next
  kept_by_on (faults.Refused (refusals.Truncated want number)) more next = kept_on more next
  kept_by_on (faults.Refused refusals.OutOfMemory) more next = kept_on more next
  kept_by_on (faults.Status number) more next = kept_on more next
  kept_by_on faults.BadType more next = kept_on more next
  kept_by_on faults.BadReplyHead more next = kept_on more next
  kept_by_on faults.BadFraming more next = kept_on more next
  kept_by_on (faults.BadCar car) more next = kept_on more next
  kept_by_on faults.PeerFault more next = kept_on more next
  kept_by_on faults.KeepFault more next = record {
    may = All-append MayKeep came more first.may next.may;
    moved = steps p q r came more first.kept.moved next.moved;
    told = next.told;
    stored = laws (k.stored p) (k.stored q) next.told came more first.kept.stored next.stored;
    left = next.left;
    rose = subst (λ (n : ℕ). Rose n (k.faults r)) first.quiet next.rose;
  }
  kept_by_on faults.OutOfMemory more next = kept_on more next

  -- of the sections of a reply in which those that came stand whole
  none_on : came ≡ [] → AreKept [] (kept_in k q r) → AreKept [] (kept_in k p r)
  none_on e next = subst (λ (s : List Section). AreKept s (kept_in k p r)) (append-nil came ∙ e) (kept_on [] next)

  module _ (heads : HeadLaws) (query : QueryParts) (limits : LimitNumbers) (heard : List ℕ) (before : List Section) (stand : StandIn query limits heard (before ++ came)) where
    none_outside : (more : List ℕ) → (IsAnswerCar query (heard ++ more) → ⊥) → StandIn query limits heard (before ++ came) → came ≡ []
    none_outside more not (keeps.outside other e) = none_second before came e
    none_outside more not (keeps.inside car given front received) =
        absurd (not (record { form = car.form; head = car.head; rest = car.rest ++ more; final = heads.final_stays heard more car.rest car.head car.final; is_head = car.is_head }))

    pub behind_on : (more : List ℕ) (all : List Section) (Now : List Section → Keeping → Type 0)
        → ((next : List Section) → Now next (kept_in k q r) → Now (came ++ next) (kept_in k p r))
        → KeepsBehind query (heard ++ more) (before ++ came) all Now (kept_in k q r) → KeepsBehind query (heard ++ more) before all Now (kept_in k p r)
    behind_on more all Now on (keeps.none e none kept) = keeps.none e (none_first before came none) (none_on (none_second before came none) kept)
    behind_on more all Now on (keeps.outside not kept) = keeps.outside not (none_on (none_outside more not stand) kept)
    behind_on more all Now on (keeps.inside car next all_is kept) = keeps.inside car (came ++ next) (all_is ∙ append_assoc before came next) (on next kept)

  pub stands_on : (query : QueryParts) (limits : LimitNumbers) (heard : List ℕ) (before : List Section) → StandsKeeping query limits heard (before ++ came) (kept_in k q r)
      → StandsKeeping query limits heard before (kept_in k p r)
  stands_on query limits heard before s = record {
    came = came ++ s.came;
    stand = subst (λ (l : List Section). StandIn query limits heard l) (append_assoc before came s.came) s.stand;
    kept = kept_on s.came s.kept;
  }
