-- What each exit status says of `serve`.
use Rattle.std.proofs.Common.{◌≡◌, ◌≢◌, ◌≤◌, ◌<◌, ◌+◌, ◌⊎◌, ◌∙◌, ◌++◌, ◌∷◌, All, Bool, Err, List, None, Ok, Option, Some, [], ap, arith, false, inl, inr, refl, subst, sym, true, ℕ}
use Rattle.std.proofs.lemmas.Bool.{or_parts}
use Rattle.std.proofs.lemmas.List.Elements.{All-cons, All-head, All-nil, All-tail}
use Rattle.std.specs.List.{list_any}
use Rattle.std.specs.Prelude.{Result, if◌then◌else◌, take, ⊤, ◌^◌, ◌||◌}
use Rattle.tg_app.proofs.Statuses.{differs}
use Rattle.tg_commands.specs.Exports.{IsAttachedPack, pack_refusal}
use Rattle.tg_commands.specs.Lines.{exit_status, status_of}
use Rattle.tg_app.specs.Objects.{Entrance}
use Rattle.tg_app.specs.Serves.{IsGoodPack, ServeAnswers, ServedWhole, serve_end}
use Rattle.tg_commands.specs.declared.fault.CommandFault.{CommandFault}
use Rattle.tg_commands.specs.declared.fault.CommandFault.TheVariants as refusals
use Rattle.tg_doors.specs.Doors.{DoorRose, Doorway}
use Rattle.tg_faults.specs.Faults.{Rose}
use Rattle.tg_files.specs.Packs.{PackRose, PackStep}
use Rattle.tg_http.specs.declared.request.RequestHead.{RequestHead}
use Rattle.tg_model.specs.LimitNumbers.{standard}
use Rattle.tg_model.specs.Stores.{Store}
use Rattle.tg_model.specs.declared.limits.LimitKind.TheVariants as kinds
use Rattle.tg_reply.specs.Sent.{CountsBetween, Sent, SentBy, SentFor, bad_head, before_head, behind_sections, count_if, exact, failed_in, is_broken, last, limit, next, no_more}
use Rattle.tg_serve.specs.Packed.{AskedBy, PackServed}
use Rattle.tg_serve.specs.Saying.{IsSaid, all_said, said_by}
use Rattle.tg_serve.specs.Serving.{LinkRun, SaidAll, SaidFront, is_limit, is_memory, is_positive}
use Rattle.tg_serve.specs.SideBySide.{IsServedWithin}
use Rattle.tg_serve.specs.declared.Happened.{Happened}
use Rattle.tg_serve.specs.declared.packed.ServeFault.{ServeFault}
use Rattle.tg_serve.specs.declared.packed.ServeFault.TheVariants as faults
use Rattle.tg_store.specs.AttachedPacks.{IsAttachedIn}
use Rattle.tg_store.specs.Attaching.{HasCauseIn, HasPackCause, IsAttached, IsRefusal}
use Rattle.tg_store.specs.declared.fault.PackFault.{PackFault}
use Rattle.tg_store.specs.declared.fault.PackFault.TheVariants as packs
use Rattle.tg_streams.specs.Streams.{Output, OutputQuiet, OutputRose}
use Rattle.tg_words.specs.ServeLines.{ServeParts}

-- ---- what happened

-- what a command says of what happened, by each of it
abbrev end_by : Bool → Bool → Bool → Bool → Option CommandFault
end_by memory store fault passed =
    if memory then Some refusals.OutOfMemory
    else (if store then Some refusals.StoreFault
    else (if fault then Some refusals.DoorFault
    else (if passed then Some (refusals.Limit kinds.Received standard.received) else None)))

-- nothing of it did
pub record NothingHappened (memory store fault passed : Bool) : Type 0 where
  pub no_memory : memory ≡ false
  pub no_store : store ≡ false
  pub no_fault : fault ≡ false
  pub no_limit : passed ≡ false

zero_by : (memory store fault passed : Bool) → exit_status (end_by memory store fault passed) ≡ 0 → NothingHappened memory store fault passed
zero_by false false false false e = record { no_memory = refl; no_store = refl; no_fault = refl; no_limit = refl }
zero_by true store fault passed e = cc
zero_by false true fault passed e = cc
zero_by false false true passed e = cc
zero_by false false false true e = cc

five_by : (memory store fault passed : Bool) → exit_status (end_by memory store fault passed) ≡ 5 → fault ≡ true
five_by memory store true passed e = refl
five_by true store false passed e = cc
five_by false true false passed e = cc
five_by false false false true e = cc
five_by false false false false e = cc

-- it isn't that of words that are no command, nor of a swarm
abbrev IsItsEnd : Option CommandFault → Type 0
IsItsEnd (Some refusals.Usage) = ⊥
IsItsEnd (Some (refusals.NoPeerLeft words status)) = ⊥
IsItsEnd other = ⊤

end_is_its : (memory store fault passed : Bool) → IsItsEnd (end_by memory store fault passed)
end_is_its true store fault passed = tt
end_is_its false true fault passed = tt
end_is_its false false true passed = tt
end_is_its false false false true = tt
end_is_its false false false false = tt

-- without a fault of the store and one of the door
left_by : (memory store fault passed : Bool) → (store ≡ true → ⊥) → (fault ≡ true → ⊥) → (exit_status (end_by memory store fault passed) ≡ 8)
    ⊎ ((exit_status (end_by memory store fault passed) ≡ 7) ⊎ (exit_status (end_by memory store fault passed) ≡ 0))
left_by true store fault passed no_store no_fault = inl refl
left_by false true fault passed no_store no_fault = absurd (no_store refl)
left_by false false true passed no_store no_fault = absurd (no_fault refl)
left_by false false false true no_store no_fault = inr (inl refl)
left_by false false false false no_store no_fault = inr (inr refl)

-- ---- no command ends as one that is none

pack_is_its : (fault : PackFault) → IsItsEnd (Some (pack_refusal fault))
pack_is_its (packs.NotCar at) = tt
pack_is_its fault = tt

serve_is_its : (result : Result Happened ServeFault) → IsItsEnd (serve_end result)
serve_is_its (Ok happened) = end_is_its happened.memory happened.store happened.fault happened.limit
serve_is_its (Err (faults.Pack fault)) = pack_is_its fault
serve_is_its (Err fault) = tt

is_its : (parts : ServeParts) (step : PackStep) (same_pack : Type 0) (out : Output) (door : Entrance) (end : Option CommandFault)
    → ServeAnswers parts step same_pack out door end → IsItsEnd end
is_its parts step same_pack out door end (inl ended) = subst IsItsEnd (sym ended.end_is) (serve_is_its ended.result)
is_its parts step same_pack out door end (inr (inl none)) = subst IsItsEnd (sym (none.end_is ∙ ap Some none.unattached.is)) tt
is_its parts step same_pack out door end (inr (inr unbegun)) = subst IsItsEnd (sym unbegun.end_is) tt

pub no_serve_usage : (parts : ServeParts) (step : PackStep) (same_pack : Type 0) (out : Output) (door : Entrance)
    → ServeAnswers parts step same_pack out door (Some refusals.Usage) → ⊥
no_serve_usage parts step same_pack out door answers = is_its parts step same_pack out door (Some refusals.Usage) answers

pub no_serve_peers : (parts : ServeParts) (step : PackStep) (same_pack : Type 0) (out : Output) (door : Entrance) (words : List ℕ) (status : ℕ)
    → ServeAnswers parts step same_pack out door (Some (refusals.NoPeerLeft words status)) → ⊥
no_serve_peers parts step same_pack out door words status answers = is_its parts step same_pack out door (Some (refusals.NoPeerLeft words status)) answers

-- ---- faults of out that weren't counted

quiet_by : (most asked count lanes : ℕ) (tell : Type 0) (step : PackStep) (out : Output) (door : Doorway) (same_door : Type 0) (result : Result Happened ServeFault)
    → (result ≡ Err faults.SinkFault → ⊥) → PackServed most asked count lanes tell step out door same_door result → OutputQuiet out
quiet_by most asked count lanes tell step out door same_door (Ok happened) never h = h.served.quiet
quiet_by most asked count lanes tell step out door same_door (Err (faults.Pack fault)) never h = h.1.quiet
quiet_by most asked count lanes tell step out door same_door (Err faults.DoorFault) never h = h.served.0.untouched.quiet
quiet_by most asked count lanes tell step out door same_door (Err faults.SinkFault) never h = absurd (never refl)
quiet_by most asked count lanes tell step out door same_door (Err faults.OutOfMemory) never h = h.0.quiet

pub serve_quiet : (parts : ServeParts) (step : PackStep) (same_pack : Type 0) (out : Output) (door : Entrance) (end : Option CommandFault) → exit_status end ≢ 6
    → ServeAnswers parts step same_pack out door end → OutputQuiet out
serve_quiet parts step same_pack out door end ne (inl ended) =
    quiet_by standard.received parts.port parts.count parts.lanes door.links_tell step out door.doorway door.same_door ended.result
    (λ sink. ne (ap exit_status (ended.end_is ∙ ap serve_end sink))) ended.served
serve_quiet parts step same_pack out door end ne (inr (inl none)) = none.unattached.unput.quiet
serve_quiet parts step same_pack out door end ne (inr (inr unbegun)) = unbegun.unput.quiet

-- ---- status 0

each_said : (told : Option Store) (most before now : ℕ) (runs : List LinkRun) → All (IsServedWithin told most before now) runs
    → list_any (λ run. is_memory run.end) runs ≡ false → list_any (λ run. run.failed) runs ≡ false → list_any (λ run. is_limit run.end) runs ≡ false
    → All (SaidAll told) runs
each_said told most before now [] served no_memory unfailed no_limit = All-nil (SaidAll told)
each_said told most before now (run ∷ runs) served no_memory unfailed no_limit =
    let memory = or_parts (is_memory run.end) (list_any (λ run. is_memory run.end) runs) no_memory in
    let failed = or_parts run.failed (list_any (λ run. run.failed) runs) unfailed in
    let passed = or_parts (is_limit run.end) (list_any (λ run. is_limit run.end) runs) no_limit in
    let first = all_said told most run run.end (All-head (IsServedWithin told most before now) run runs served).served memory.0 failed.0 passed.0 in
    All-cons (SaidAll told) run runs first (each_said told most before now runs (All-tail (IsServedWithin told most before now) run runs served) memory.1 failed.1 passed.1)

whole_by : (parts : ServeParts) (step : PackStep) (out : Output) (door : Entrance) (result : Result Happened ServeFault)
    → IsAttachedPack parts.pack step → exit_status (serve_end result) ≡ 0
    → PackServed standard.received parts.port parts.count parts.lanes door.links_tell step out door.doorway door.same_door result
    → AskedBy (door.asked parts.port) result → ServedWhole parts step out door
whole_by parts step out door (Ok happened) attached e h asked =
    let none = zero_by happened.memory happened.store happened.fault happened.limit e in
    let serves = h.served.serves in
    let has = serves.has_happened in
    let fault = or_parts serves.unadmitted (list_any (λ run. run.failed) serves.runs) (sym has.fault ∙ none.no_fault) in
    record {
      links = record { attached = attached; told = h.told; store = h.attached; happened = happened; asked = asked; served = h.served };
      each = each_said h.told standard.received step.faults_old step.faults_new serves.runs serves.served (sym has.memory ∙ none.no_memory) fault.1 (sym has.limit ∙ none.no_limit);
      quiet = serves.quiet none.no_fault;
    }
whole_by parts step out door (Err (faults.Pack (packs.NotCar at))) attached e h asked = cc
whole_by parts step out door (Err (faults.Pack fault)) attached e h asked = cc
whole_by parts step out door (Err faults.DoorFault) attached e h asked = cc
whole_by parts step out door (Err faults.SinkFault) attached e h asked = cc
whole_by parts step out door (Err faults.OutOfMemory) attached e h asked = cc

pub served_of : (parts : ServeParts) (step : PackStep) (same_pack : Type 0) (out : Output) (door : Entrance) (end : Option CommandFault) → exit_status end ≡ 0
    → ServeAnswers parts step same_pack out door end → ServedWhole parts step out door
served_of parts step same_pack out door end e (inl ended) = whole_by parts step out door ended.result ended.attached (sym (ap exit_status ended.end_is) ∙ e) ended.served ended.asked
served_of parts step same_pack out door end e (inr (inl none)) = absurd (differs 6 0 refl (sym (ap exit_status (none.end_is ∙ ap Some none.unattached.is)) ∙ e))
served_of parts step same_pack out door end e (inr (inr unbegun)) = absurd (differs 8 0 refl (sym (ap exit_status unbegun.end_is) ∙ e))

-- ---- status 5

five_refused : (fault : PackFault) → status_of (pack_refusal fault) ≡ 5 → ⊥
five_refused (packs.NotCar at) e = cc
five_refused (packs.BadDigest at) e = cc
five_refused packs.Unfinished e = cc
five_refused (packs.Truncated at) e = cc
five_refused packs.Failed e = cc
five_refused (packs.BlockLimit at) e = cc
five_refused packs.OutOfMemory e = cc

rose_by : (most asked count lanes : ℕ) (tell : Type 0) (step : PackStep) (out : Output) (door : Doorway) (same_door : Type 0) (result : Result Happened ServeFault)
    → exit_status (serve_end result) ≡ 5 → PackServed most asked count lanes tell step out door same_door result → DoorRose door
rose_by most asked count lanes tell step out door same_door (Ok happened) e h = h.served.serves.failed (five_by happened.memory happened.store happened.fault happened.limit e)
rose_by most asked count lanes tell step out door same_door (Err (faults.Pack fault)) e h = absurd (five_refused fault e)
rose_by most asked count lanes tell step out door same_door (Err faults.DoorFault) e h = h.served.0.rose
rose_by most asked count lanes tell step out door same_door (Err faults.SinkFault) e h = cc
rose_by most asked count lanes tell step out door same_door (Err faults.OutOfMemory) e h = cc

pub door_fault_of : (parts : ServeParts) (step : PackStep) (same_pack : Type 0) (out : Output) (door : Entrance) (end : Option CommandFault) → exit_status end ≡ 5
    → ServeAnswers parts step same_pack out door end → DoorRose door.doorway
door_fault_of parts step same_pack out door end e (inl ended) =
    rose_by standard.received parts.port parts.count parts.lanes door.links_tell step out door.doorway door.same_door ended.result (sym (ap exit_status ended.end_is) ∙ e) ended.served
door_fault_of parts step same_pack out door end e (inr (inl none)) = let k = sym (ap status_of none.unattached.is) ∙ (sym (ap exit_status none.end_is) ∙ e) in cc
door_fault_of parts step same_pack out door end e (inr (inr unbegun)) = let k = sym (ap exit_status unbegun.end_is) ∙ e in cc

-- ---- a store that broke off counted a fault

-- at each reply the store didn't break off, or its count rose
abbrev AreCounted : List Sent → Type 0
AreCounted [] = ⊤
AreCounted (s ∷ more) = ((is_broken s.course ≡ false) ⊎ Rose s.faults_before s.faults_now) × AreCounted more

counted_if : (store : Store) (head : RequestHead) (s : Sent) → SentFor store head s → (is_broken s.course ≡ false) ⊎ Rose s.faults_before s.faults_now
counted_if store head s (exact before) = inl refl
counted_if store head s (before_head q before now a r) = inr r
counted_if store head s (behind_sections q count before now b r) = inr r

are_counted : (store : Store) (bytes : List ℕ) (sent : List Sent) (rest : List ℕ) → SentBy (SentFor store) bytes sent rest → AreCounted sent
are_counted store bytes sent rest (no_more b) = tt
are_counted store bytes sent rest (limit b before h) = (inl refl, tt)
are_counted store bytes sent rest (bad_head b before h) = (inl refl, tt)
are_counted store bytes sent rest (last b r head s begins f e) = (counted_if store head s f, tt)
are_counted store bytes sent rest (next b r behind head s more begins f e all) = (counted_if store head s f, are_counted store r more behind all)

front_counted : (sent more : List Sent) → AreCounted (sent ++ more) → AreCounted sent
front_counted [] more h = tt
front_counted (s ∷ sent) more h = (h.0, front_counted sent more h.1)

counts_rise : (before : ℕ) (sent : List Sent) (now : ℕ) → CountsBetween before sent now → before ≤ now
counts_rise before [] now h = h
counts_rise before (s ∷ more) now h = omega (arith, h.0, h.1, counts_rise s.faults_now more now h.2)

-- a count that rose between two numbers rose between any around them
wider : (before first later now : ℕ) → before ≤ first → later ≤ now → Rose first later → Rose before now
wider before first later now low high rose few =
    let small : later + 1 < 2 ^ 64 = omega (arith, few, high) in
    omega (arith, low, high, rose small)

behind_first : (c : Bool) (n : ℕ) → c ≡ false → is_positive (count_if c n) ≡ true → is_positive n ≡ true
behind_first false n e h = h
behind_first true n e h = cc

rose_of : (before : ℕ) (sent : List Sent) (now : ℕ) → AreCounted sent → CountsBetween before sent now → is_positive (failed_in sent) ≡ true → Rose before now
rose_of before [] now counted h some = cc
rose_of before (s ∷ more) now (inl e, counted) h some =
    let up : before ≤ s.faults_now = omega (arith, h.0, h.1) in
    let same : now ≤ now = omega arith in
    wider before s.faults_now now now up same
    (rose_of s.faults_now more now counted h.2 (behind_first (is_broken s.course) (failed_in more) e some))
rose_of before (s ∷ more) now (inr rose, counted) h some =
    wider before s.faults_before s.faults_now now h.0 (counts_rise s.faults_now more now h.2) rose

rose_if : (served : ℕ) (before : ℕ) (sent : List Sent) (now : ℕ) → served ≡ failed_in sent → AreCounted sent → CountsBetween before sent now → is_positive served ≡ true → Rose before now
rose_if served before sent now is counted h some = rose_of before sent now counted h (subst (λ (n : ℕ). is_positive n ≡ true) is some)

front_rose : (store : Store) (run : LinkRun) → SaidFront (Some store) run → is_positive run.served.store ≡ true → Rose run.faults_before run.faults_now
front_rose store run h some =
    rose_if run.served.store run.faults_before h.sent run.faults_now h.numbers.store_are
    (front_counted h.sent h.next (are_counted store run.heard (h.sent ++ h.next) h.rest h.sent_is)) h.counts some

link_rose : (store : Store) (most : ℕ) (run : LinkRun) → IsSaid (Some store) most run → is_positive run.served.store ≡ true → Rose run.faults_before run.faults_now
link_rose store most run (IsSaid.all h) some =
    rose_if run.served.store run.faults_before h.sent run.faults_now h.numbers.store_are (are_counted store run.heard h.sent h.rest h.sent_is.sent_is) h.counts some
link_rose store most run (IsSaid.up_to h) some =
    rose_if run.served.store run.faults_before h.sent run.faults_now h.numbers.store_are (are_counted store (take most run.heard) h.sent h.rest h.sent_is.sent_is) h.counts some
link_rose store most run (IsSaid.front h) some = front_rose store run h some

one_true : (a b : Bool) → (a || b) ≡ true → (a ≡ true) ⊎ (b ≡ true)
one_true true b e = inl refl
one_true false b e = inr e

runs_rose : (store : Store) (most before now : ℕ) (runs : List LinkRun) → All (IsServedWithin (Some store) most before now) runs
    → list_any (λ run. is_positive run.served.store) runs ≡ true → Rose before now
runs_rose store most before now [] h some = cc
runs_rose store most before now (run ∷ runs) h some =
    by (one_true (is_positive run.served.store) (list_any (λ run. is_positive run.served.store) runs) some)
    (λ there. runs_rose store most before now runs (All-tail (IsServedWithin (Some store) most before now) run runs h) there)
  where
    by : (is_positive run.served.store ≡ true) ⊎ (list_any (λ run. is_positive run.served.store) runs ≡ true)
        → (list_any (λ run. is_positive run.served.store) runs ≡ true → Rose before now) → Rose before now
    by (inl here) rise =
        let first = All-head (IsServedWithin (Some store) most before now) run runs h in
        wider before run.faults_before run.faults_now now first.behind first.until
        (link_rose store most run (said_by (Some store) most run run.end first.served) here)
    by (inr there) rise = rise there

-- ---- a pack whose content can be attached

-- no cause of a refusal holds of a content that is attached
abbrev pub NoneCaused : Type 0
NoneCaused = (content : List ℕ) (store : Store) (fault : PackFault) → IsAttached content store → HasPackCause content fault → ⊥

-- it is told, and so is its store
store_told : (content : Option (List ℕ)) (told : Option Store) (bytes : List ℕ) → content ≡ Some bytes → IsAttachedIn content told → (store : Store) × (told ≡ Some store)
store_told None told bytes e attached = cc
store_told (Some content) None bytes e attached = absurd attached
store_told (Some content) (Some store) bytes e attached = (store, refl)

module _ (uncaused : NoneCaused) (step : PackStep) (good : IsGoodPack step.content_old) (no_pack : PackRose step → ⊥) where
  caused : (fault : PackFault) → HasCauseIn step.content_old fault → ⊥
  caused fault h = uncaused good.0 good.1 fault good.3 (subst (λ (content : Option (List ℕ)). HasCauseIn content fault) good.2 h)

  -- it is refused for want of memory alone
  refused_8 : (fault : PackFault) → IsRefusal step fault → status_of (pack_refusal fault) ≡ 8
  refused_8 packs.Failed h = absurd (no_pack h)
  refused_8 packs.OutOfMemory h = refl
  refused_8 (packs.NotCar at) h = absurd (caused (packs.NotCar at) h.1)
  refused_8 (packs.BadDigest at) h = absurd (caused (packs.BadDigest at) h.1)
  refused_8 packs.Unfinished h = absurd (caused packs.Unfinished h.1)
  refused_8 (packs.Truncated at) h = absurd (caused (packs.Truncated at) h.1)
  refused_8 (packs.BlockLimit at) h = absurd (caused (packs.BlockLimit at) h.1)

  unbroken : (told : Option Store) (most : ℕ) (runs : List LinkRun) → IsAttachedIn step.content_old told → step.faults_old ≤ step.faults_new
      → All (IsServedWithin told most step.faults_old step.faults_new) runs → list_any (λ run. is_positive run.served.store) runs ≡ true → ⊥
  unbroken told most runs attached rises served some =
      let (store, is) = store_told step.content_old told good.0 good.2 attached in
      no_pack (record {
        rose = runs_rose store most step.faults_old step.faults_new runs (subst (λ (t : Option Store). All (IsServedWithin t most step.faults_old step.faults_new) runs) is served) some;
        counted = rises;
      })

  module _ (out : Output) (door : Entrance) (no_door : DoorRose door.doorway → ⊥) (no_out : OutputRose out → ⊥) where
    answered_by : (most asked count lanes : ℕ) (result : Result Happened ServeFault) → PackServed most asked count lanes door.links_tell step out door.doorway door.same_door result
        → (exit_status (serve_end result) ≡ 8) ⊎ ((exit_status (serve_end result) ≡ 7) ⊎ (exit_status (serve_end result) ≡ 0))
    answered_by most asked count lanes (Ok happened) h =
        let serves = h.served.serves in
        left_by happened.memory happened.store happened.fault happened.limit
        (λ some. unbroken h.told most serves.runs h.attached serves.rises serves.served (sym serves.has_happened.store ∙ some)) (λ some. no_door (serves.failed some))
    answered_by most asked count lanes (Err (faults.Pack fault)) h = inl (refused_8 fault h.0)
    answered_by most asked count lanes (Err faults.DoorFault) h = absurd (no_door h.served.0.rose)
    answered_by most asked count lanes (Err faults.SinkFault) h = absurd (no_out h.served.0.line.rose)
    answered_by most asked count lanes (Err faults.OutOfMemory) h = inl refl

pub serve_answered_of : NoneCaused → (parts : ServeParts) (step : PackStep) (same_pack : Type 0) (out : Output) (door : Entrance) (end : Option CommandFault)
    → IsGoodPack step.content_old → (PackRose step → ⊥) → (DoorRose door.doorway → ⊥) → (OutputRose out → ⊥) → ServeAnswers parts step same_pack out door end
    → (exit_status end ≡ 8) ⊎ ((exit_status end ≡ 7) ⊎ (exit_status end ≡ 0))
serve_answered_of uncaused parts step same_pack out door end good no_pack no_door no_out (inl ended) =
    subst (λ (e : Option CommandFault). (exit_status e ≡ 8) ⊎ ((exit_status e ≡ 7) ⊎ (exit_status e ≡ 0))) (sym ended.end_is)
    (answered_by uncaused step good no_pack out door no_door no_out standard.received parts.port parts.count parts.lanes ended.result ended.served)
serve_answered_of uncaused parts step same_pack out door end good no_pack no_door no_out (inr (inl none)) = absurd (no_pack none.unattached.rose)
serve_answered_of uncaused parts step same_pack out door end good no_pack no_door no_out (inr (inr unbegun)) = inl (ap exit_status unbegun.end_is)
