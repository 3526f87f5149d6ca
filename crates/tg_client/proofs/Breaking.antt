-- How a body is refused: by the reader of the CAR, or by the verifier.
use Rattle.std.specs.Prelude.{⊤}
use Rattle.std.proofs.Common.{◌≡◌, ℕ, ◌⊎◌, ◌<◌, ◌≤◌, List, [], ◌∷◌, ◌++◌, length, All, Err, refl, ap, sym, subst, ◌∙◌, inl, inr, arith}
use Rattle.std.proofs.lemmas.List.{length-append}
use Rattle.tg_car.specs.Faults.{Brings, PassesLimit}
use Rattle.tg_car.specs.declared.fault.CarFault.{CarFault}
use Rattle.tg_car.specs.declared.fault.CarFault.TheVariants as cars
use Rattle.tg_traversal.specs.Left.{WantedAt}
use Rattle.tg_model_laws.specs.Stages.{Given}
use Rattle.tg_model_laws.specs.Tasks.{Task, spot_of}
use Rattle.tg_cid.specs.Cid.{CidParts}
use Rattle.tg_cid.specs.Names.{Names}
use Rattle.tg_model.specs.Dag.{Dag, Section}
use Rattle.tg_model.specs.Fits.{Fits, IsInProgress}
use Rattle.tg_model.specs.LimitNumbers.{LimitNumbers}
use Rattle.tg_model.specs.PathWalk.{Spot}
use Rattle.tg_model.specs.Queries.{QueryParts}
use Rattle.tg_model.specs.declared.limits.LimitKind.TheVariants as kinds
use Rattle.tg_streams.specs.Streams.{Output, Put}
use Rattle.tg_verify.specs.History.{HasPutCause, IsCounted, one_more}
use Rattle.tg_verify.specs.Laws.{AnswerLaws}
use Rattle.tg_verify.specs.Refusals.{HasRefused, HasSectionCause, IsRefusedAt, IsSurplus}
use Rattle.tg_verify.specs.Sound.{AnswersFor, ForEachSound}
use Rattle.tg_verify.specs.State.{count_of}
use Rattle.tg_verify.specs.Taken.{IsThrough, IsUpTo}
use Rattle.tg_verify.specs.declared.fault.Refusal.{Refusal}
use Rattle.tg_verify.specs.declared.fault.Refusal.TheVariants as refusals
use Rattle.tg_bytes.specs.Lists.{All-split_push}
use Rattle.tg_client.specs.Body.{IsAfterWanted, IsBehindHeader, IsLastWanted, IsOneLess, IsStoppedAt, IsTakenBy, unknown}
use Rattle.tg_client.specs.Ends.{EndsBy, IsBrokenBy, IsWaiting, IsWithinReceived, SaysFor, fault_of_car, fault_of_refusal}
use Rattle.tg_client.specs.Received.{HasHeader, HasReceived}
use Rattle.tg_client.specs.ReceivedLaws.{ReceivedLaws}
use Rattle.tg_client.specs.declared.fault.ClientFault.{ClientFault}
use Rattle.tg_client.specs.declared.fault.ClientFault.TheVariants as faults
use Rattle.tg_client.proofs.Going.{held_front}

-- ---- by the reader

module _ (q : QueryParts) (limits : LimitNumbers) (heard : List ℕ) (last : ℕ) (more : List ℕ) (sections : List Section) (text : List ℕ) (waits : IsWaiting q limits heard sections text) where
  broken : length heard < limits.received → (why : List ℕ → Type 0) → why (heard ++ last ∷ []) → IsBrokenBy q limits heard (last ∷ more) sections text why
  broken few why brings = record { waits = waits; last = last; more = more; unheard_is = refl; brings = brings; within = few }

  pub car_ends : length heard < limits.received → (fault : CarFault) → Brings limits.block (heard ++ last ∷ []) fault → EndsBy q limits unknown heard (last ∷ more) sections text (Err (fault_of_car fault))
  car_ends few (cars.BadHeader place) brings = (tt, broken few (λ bytes. Brings limits.block bytes (cars.BadHeader place)) brings)
  car_ends few (cars.BadSection place) brings = (tt, broken few (λ bytes. Brings limits.block bytes (cars.BadSection place)) brings)
  car_ends few (cars.BlockLimit place number) brings = (brings.0, broken few (λ bytes. (place : ℕ) × PassesLimit limits.block bytes place) (brings.1, brings.3))
  car_ends few (cars.Torn place) brings = absurd brings
  car_ends few cars.OutOfMemory brings = inr (inl waits)

  pub car_says : AnswerLaws → (fault : CarFault) → Brings limits.block (heard ++ last ∷ []) fault → ForEachSound q (λ d. SaysFor q d sections text (Err (fault_of_car fault)))
  car_says laws (cars.BadHeader place) brings d sound root = held_front laws q limits heard sections text (inl waits) d sound root
  car_says laws (cars.BadSection place) brings d sound root = held_front laws q limits heard sections text (inl waits) d sound root
  car_says laws (cars.BlockLimit place number) brings d sound root = (held_front laws q limits heard sections text (inl waits) d sound root, tt)
  car_says laws (cars.Torn place) brings d sound root = absurd brings
  car_says laws cars.OutOfMemory brings d sound root = held_front laws q limits heard sections text (inl waits) d sound root

pub car_wants : (q : QueryParts) (limits : LimitNumbers) (heard : List ℕ) (sections : List Section) (fault : CarFault) → IsAfterWanted q limits heard sections (fault_of_car fault)
car_wants q limits heard sections (cars.BadHeader place) = tt
car_wants q limits heard sections (cars.BadSection place) = tt
car_wants q limits heard sections (cars.BlockLimit place number) = tt
car_wants q limits heard sections (cars.Torn place) = tt
car_wants q limits heard sections cars.OutOfMemory = tt

pub car_taken : (sections : List Section) (taken : ℕ) → taken ≡ count_of sections → (fault : CarFault) → IsTakenBy (fault_of_car fault) sections taken
car_taken sections taken all (cars.BadHeader place) = all
car_taken sections taken all (cars.BadSection place) = all
car_taken sections taken all (cars.BlockLimit place number) = all
car_taken sections taken all (cars.Torn place) = all
car_taken sections taken all cars.OutOfMemory = inl all

-- ---- by the verifier

pub last_same : (a b : List Section) (s t : Section) → a ++ s ∷ [] ≡ b ++ t ∷ [] → (a ≡ b) × (s ≡ t)
last_same [] [] s t e = (refl, cc e)
last_same [] (y ∷ []) s t e = absurd (cc e)
last_same [] (y ∷ (z ∷ b)) s t e = absurd (cc e)
last_same (x ∷ []) [] s t e = absurd (cc e)
last_same (x ∷ (z ∷ a)) [] s t e = absurd (cc e)
last_same (x ∷ a) (y ∷ b) s t e =
    let heads : x ≡ y = cc e in
    let tails : a ++ s ∷ [] ≡ b ++ t ∷ [] = cc e in
    let (rest, last) = last_same a b s t tails in
    (cc (heads, rest), last)

-- what is said of a refusal
pub refusal_says : (q : QueryParts) (d : Dag) (sections : List Section) (text : List ℕ) (fault : Refusal) → AnswersFor q d sections text (Err fault)
    → SaysFor q d sections text (Err (fault_of_refusal fault))
refusal_says q d sections text (refusals.Extra number) h = h
refusal_says q d sections text (refusals.Limit kind number) h = h
refusal_says q d sections text (refusals.BadDigest cid) h = h
refusal_says q d sections text (refusals.WrongBlock want got) h = h
refusal_says q d sections text (refusals.BadBlock cid fault) h = h
refusal_says q d sections text (refusals.BadSize declared actual) h = h
refusal_says q d sections text (refusals.NotFolder segment) h = h
refusal_says q d sections text (refusals.NotThere segment) h = h
refusal_says q d sections text refusals.SinkFault h = h
refusal_says q d sections text (refusals.Truncated want number) h = h
refusal_says q d sections text refusals.OutOfMemory h = h.0

-- how many sections are told as taken then, of so many before; of the refusals that don't come so nothing is said
abbrev pub TakenAs : List Section → ℕ → ℕ → Refusal → Type 0
TakenAs sections before taken (refusals.Extra number) = taken ≡ before
TakenAs sections before taken (refusals.Limit kinds.Block number) = ⊤
TakenAs sections before taken (refusals.Limit kinds.Received number) = ⊤
TakenAs sections before taken (refusals.Truncated want number) = ⊤
TakenAs sections before taken fault = IsTakenBy (fault_of_refusal fault) sections taken

module _ (sections : List Section) (section : Section) (before now : ℕ) (all : before ≡ count_of sections) where
  one_less : now ≡ before → IsOneLess (sections ++ section ∷ []) now
  one_less same = record { before = sections; last = section; sections_are = refl; number_is = same ∙ all }

  either : (now ≡ before) ⊎ (now ≡ one_more before) → (now ≡ count_of (sections ++ section ∷ [])) ⊎ IsOneLess (sections ++ section ∷ []) now
  either (inl same) = inr (one_less same)
  either (inr more) = inl (omega (arith, all, more, length-append sections (section ∷ [])))

  -- as a section counts them
  pub taken_behind : (fault : Refusal) → IsCounted before now (Err fault) → TakenAs (sections ++ section ∷ []) before now fault
  taken_behind (refusals.Extra number) c = c
  taken_behind (refusals.Limit kinds.Block number) c = tt
  taken_behind (refusals.Limit kinds.Received number) c = tt
  taken_behind (refusals.Limit kinds.Depth number) c = either c
  taken_behind (refusals.Limit kinds.Entries number) c = either c
  taken_behind (refusals.Limit kinds.Names number) c = either c
  taken_behind (refusals.Limit kinds.Output number) c = either c
  taken_behind (refusals.Limit kinds.SeenBlocks number) c = either c
  taken_behind (refusals.Limit kinds.SeenBytes number) c = either c
  taken_behind (refusals.Limit kinds.Reused number) c = either c
  taken_behind (refusals.BadDigest cid) c = one_less c
  taken_behind (refusals.WrongBlock want got) c = one_less c
  taken_behind (refusals.BadBlock cid fault) c = either c
  taken_behind (refusals.BadSize declared actual) c = either c
  taken_behind (refusals.NotFolder segment) c = either c
  taken_behind (refusals.NotThere segment) c = either c
  taken_behind refusals.SinkFault c = either c
  taken_behind (refusals.Truncated want number) c = tt
  taken_behind refusals.OutOfMemory c = either c

-- before the first none is
module _ (q : QueryParts) (limits : LimitNumbers) (written : List ℕ) (now : ℕ) (none : now ≡ 0) where
  none_at : (why : Given → List (Task CidParts) → WantedAt → Section → Type 0) → IsRefusedAt q limits [] written why → ⊥
  none_at why h = let size : 0 ≡ length (h.taken ++ h.section ∷ []) = ap length h.received in omega (arith, size, length-append h.taken (h.section ∷ []))

  all_of_none : now ≡ count_of []
  all_of_none = omega (arith, none)

  pub taken_first : (fault : Refusal) → HasRefused q limits [] written fault → TakenAs [] 0 now fault
  taken_first (refusals.Extra number) h = none
  taken_first (refusals.Limit kinds.Block number) h = tt
  taken_first (refusals.Limit kinds.Received number) h = tt
  taken_first (refusals.Limit kinds.Depth number) h = inl all_of_none
  taken_first (refusals.Limit kinds.Entries number) h = inl all_of_none
  taken_first (refusals.Limit kinds.Names number) h = inl all_of_none
  taken_first (refusals.Limit kinds.Output number) h = inl all_of_none
  taken_first (refusals.Limit kinds.SeenBlocks number) h = inl all_of_none
  taken_first (refusals.Limit kinds.SeenBytes number) h = inl all_of_none
  taken_first (refusals.Limit kinds.Reused number) h = inl all_of_none
  taken_first (refusals.BadDigest cid) (inl h) = absurd (none_at _ h)
  taken_first (refusals.BadDigest cid) (inr h) = absurd h.cause
  taken_first (refusals.WrongBlock want got) (inl h) = absurd (none_at _ h)
  taken_first (refusals.WrongBlock want got) (inr h) = absurd h.cause
  taken_first (refusals.BadBlock cid fault) h = inl all_of_none
  taken_first (refusals.BadSize declared actual) h = inl all_of_none
  taken_first (refusals.NotFolder segment) h = inl all_of_none
  taken_first (refusals.NotThere segment) h = inl all_of_none
  taken_first refusals.SinkFault h = inl all_of_none
  taken_first (refusals.Truncated want number) h = tt
  taken_first refusals.OutOfMemory h = inl all_of_none

-- at a place behind the header, or a section
module _ (received : ReceivedLaws) (q : QueryParts) (limits : LimitNumbers) (heard rest : List ℕ) (within : IsWithinReceived limits heard) (sections : List Section)
    (after : HasReceived limits.block heard sections) (behind : IsBehindHeader q limits heard sections) (written text : List ℕ) (out : Output) (put : Put text out)
    (before taken : ℕ) (wanted_there : (number : ℕ) → IsSurplus q limits sections (written ++ text) number → ⊥) where
  there : (fault : ClientFault) → EndsBy q limits unknown heard rest sections (written ++ text) (Err fault)
      → ForEachSound q (λ d. SaysFor q d sections (written ++ text) (Err fault)) → IsAfterWanted q limits heard sections fault → IsTakenBy fault sections taken
      → IsStoppedAt q limits taken heard rest sections written out fault
  there fault ends sound wanted counted = record {
    within = within;
    received = after;
    text = text;
    put = put;
    ends = ends;
    sound = sound;
    wanted = wanted;
    counted = counted;
  }

  -- no block that was received is above the limit
  none_large : (number : ℕ) → HasRefused q limits sections (written ++ text) (refusals.Limit kinds.Block number) → ⊥
  none_large number (inr h) = h.cause
  none_large number (inl h) = by h.cause
    where
      by : HasSectionCause q limits h.up_to.given h.up_to.later h.at h.section (refusals.Limit kinds.Block number) → ⊥
      by (inr (wanted, none)) = none
      by (inl cause) =
          let all = received.within limits.block heard sections after in
          let small : length h.section.block ≤ limits.block =
          (All-split_push (λ (s : Section). length s.block ≤ limits.block) h.taken h.section (subst (λ (l : List Section). All (λ (s : Section). length s.block ≤ limits.block) l) h.received all)).1 in
          let is : number ≡ limits.block = cause.number_is in
          let large : number < length h.section.block = cause.large in
          absurd (omega (arith, small, is, large))

  none_received : (number : ℕ) → HasRefused q limits sections (written ++ text) (refusals.Limit kinds.Received number) → ⊥
  none_received number (inr h) = h.cause
  none_received number (inl h) = by h.cause
    where
      by : HasSectionCause q limits h.up_to.given h.up_to.later h.at h.section (refusals.Limit kinds.Received number) → ⊥
      by (inl none) = none
      by (inr (wanted, none)) = none

  pub refused_there : (fault : Refusal) → HasRefused q limits sections (written ++ text) fault → HasPutCause (Err fault) out
      → ForEachSound q (λ d. AnswersFor q d sections (written ++ text) (Err fault)) → TakenAs sections before taken fault
      → IsStoppedAt q limits taken heard rest sections written out (fault_of_refusal fault)
  refused_there (refusals.Extra number) h cause sound c = absurd (wanted_there number h)
  refused_there (refusals.Limit kinds.Block number) h cause sound c = absurd (none_large number h)
  refused_there (refusals.Limit kinds.Received number) h cause sound c = absurd (none_received number h)
  refused_there (refusals.Truncated want number) h cause sound c = absurd cause
  refused_there refusals.OutOfMemory h cause sound c = there faults.OutOfMemory (inl h) (λ d s root. (sound d s root).0) tt c
  refused_there refusals.SinkFault h cause sound c = there (faults.Refused refusals.SinkFault) h sound behind c
  refused_there (refusals.Limit kinds.Depth number) h cause sound c = there (faults.Refused (refusals.Limit kinds.Depth number)) h sound behind c
  refused_there (refusals.Limit kinds.Entries number) h cause sound c = there (faults.Refused (refusals.Limit kinds.Entries number)) h sound behind c
  refused_there (refusals.Limit kinds.Names number) h cause sound c = there (faults.Refused (refusals.Limit kinds.Names number)) h sound behind c
  refused_there (refusals.Limit kinds.Output number) h cause sound c = there (faults.Refused (refusals.Limit kinds.Output number)) h sound behind c
  refused_there (refusals.Limit kinds.SeenBlocks number) h cause sound c = there (faults.Refused (refusals.Limit kinds.SeenBlocks number)) h sound behind c
  refused_there (refusals.Limit kinds.SeenBytes number) h cause sound c = there (faults.Refused (refusals.Limit kinds.SeenBytes number)) h sound behind c
  refused_there (refusals.Limit kinds.Reused number) h cause sound c = there (faults.Refused (refusals.Limit kinds.Reused number)) h sound behind c
  refused_there (refusals.BadDigest cid) h cause sound c = there (faults.Refused (refusals.BadDigest cid)) h sound behind c
  refused_there (refusals.WrongBlock want got) h cause sound c = there (faults.Refused (refusals.WrongBlock want got)) h sound behind c
  refused_there (refusals.BadBlock cid fault) h cause sound c = there (faults.Refused (refusals.BadBlock cid fault)) h sound behind c
  refused_there (refusals.BadSize declared actual) h cause sound c = there (faults.Refused (refusals.BadSize declared actual)) h sound behind c
  refused_there (refusals.NotFolder segment) h cause sound c = there (faults.Refused (refusals.NotFolder segment)) h sound behind c
  refused_there (refusals.NotThere segment) h cause sound c = there (faults.Refused (refusals.NotThere segment)) h sound behind c

-- before the first section
no_surplus : (q : QueryParts) (limits : LimitNumbers) (written : List ℕ) (number : ℕ) → IsSurplus q limits [] written number → ⊥
no_surplus q limits written number h =
    let none : 0 ≡ length (h.taken ++ h.section ∷ []) = ap length h.received in omega (arith, none, length-append h.taken (h.section ∷ []))

-- nor a block that its CID doesn't name
pub none_refused : (q : QueryParts) (limits : LimitNumbers) (written : List ℕ) (cid : CidParts) → HasRefused q limits [] written (refusals.BadDigest cid) → ⊥
none_refused q limits written cid (inl h) = let none : 0 ≡ length (h.taken ++ h.section ∷ []) = ap length h.received in omega (arith, none, length-append h.taken (h.section ∷ []))
none_refused q limits written cid (inr h) = h.cause

-- and where its CID names the last block it isn't refused for that
pub named_not_refused : (q : QueryParts) (limits : LimitNumbers) (sections : List Section) (section : Section) (written : List ℕ) (cid : CidParts)
    → HasRefused q limits (sections ++ section ∷ []) written (refusals.BadDigest cid) → Names section.cid section.block → ⊥
named_not_refused q limits sections section written cid (inr h) named = h.cause
named_not_refused q limits sections section written cid (inl h) named = by h.cause
  where
    by : HasSectionCause q limits h.up_to.given h.up_to.later h.at h.section (refusals.BadDigest cid) → ⊥
    by (inr (wanted, none)) = none
    by (inl (is, misnamed)) =
        let (_, same) = last_same sections h.taken section h.section h.received in
        misnamed.misnamed (subst (λ (s : Section). Names s.cid s.block) same named)

-- what fits doesn't want a block
abbrev pub FitsOrWants : Type 0
FitsOrWants = (q : QueryParts) (sections : List Section) (a b : Dag) (x : List ℕ) (w : Spot) → Fits a q sections x → IsInProgress b q sections w → ⊥

-- at a section where a block was wanted
module _ (laws : AnswerLaws) (apart : FitsOrWants) (received : ReceivedLaws) (q : QueryParts) (limits : LimitNumbers) (heard rest : List ℕ) (sections : List Section) (section : Section)
    (after : HasReceived limits.block heard (sections ++ section ∷ [])) (written text : List ℕ) (out : Output) (put : Put text out) (at : WantedAt)
    (up_to : IsUpTo q limits sections written at) (within : IsWithinReceived limits heard) (header : HasHeader limits.block heard) (old now : ℕ) where
  last_wanted : IsLastWanted q limits (sections ++ section ∷ [])
  last_wanted = record { taken = sections; section = section; sections_are = refl; text = written; at = at; up_to = up_to }

  not_surplus : (number : ℕ) → IsSurplus q limits (sections ++ section ∷ []) (written ++ text) number → ⊥
  not_surplus number h =
      let (same, _) = last_same sections h.taken section h.section h.received in
      let fit = laws.through q limits sections (written ++ text) (subst (λ (l : List Section). IsThrough q limits l (written ++ text)) (sym same) h.through) in
      let going = laws.up_to q limits sections written at up_to in
      apart q sections fit.s going.s (written ++ text) (spot_of at.want at.cid) fit.fits going.progress

  pub refused_now : (fault : Refusal) → HasRefused q limits (sections ++ section ∷ []) (written ++ text) fault → HasPutCause (Err fault) out
      → ForEachSound q (λ d. AnswersFor q d (sections ++ section ∷ []) (written ++ text) (Err fault)) → TakenAs (sections ++ section ∷ []) old now fault
      → IsStoppedAt q limits now heard rest (sections ++ section ∷ []) written out (fault_of_refusal fault)
  refused_now = refused_there received q limits heard rest within (sections ++ section ∷ []) after (record { header = header; last = inr last_wanted }) written text out put old now not_surplus

-- where the header is whole
module _ (received : ReceivedLaws) (q : QueryParts) (limits : LimitNumbers) (heard rest : List ℕ) (within : IsWithinReceived limits heard)
    (after : HasReceived limits.block heard []) (header : HasHeader limits.block heard) (written text : List ℕ) (out : Output) (put : Put text out) (now : ℕ) where
  pub refused_first : (fault : Refusal) → HasRefused q limits [] (written ++ text) fault → HasPutCause (Err fault) out
      → ForEachSound q (λ d. AnswersFor q d [] (written ++ text) (Err fault)) → TakenAs [] 0 now fault → IsStoppedAt q limits now heard rest [] written out (fault_of_refusal fault)
  refused_first = refused_there received q limits heard rest within [] after (record { header = header; last = inl refl }) written text out put 0 now
      (λ number h. no_surplus q limits (written ++ text) number h)
