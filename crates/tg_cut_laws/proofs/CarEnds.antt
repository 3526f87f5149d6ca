-- The ways in which the bytes of a CAR are refused for what they are.
use Rattle.std.proofs.Common.{◌≡◌, ℕ, ◌<◌, List, [], ◌∷◌, ◌++◌, length, Err, refl}
use Rattle.tg_car.specs.Faults.{Brings, PassesLimit, shown}
use Rattle.tg_car.specs.declared.fault.CarFault.{CarFault}
use Rattle.tg_car.specs.declared.fault.CarFault.TheVariants as cars
use Rattle.tg_client.specs.Body.{IsAfterWanted, IsBehindHeader, unknown}
use Rattle.tg_client.specs.Ends.{EndsBy, HasSurplus, IsBrokenBy, IsPastReceived, IsWaiting, fault_of_car}
use Rattle.tg_client.specs.ReceivedLaws.{IsNoCar}
use Rattle.tg_client.specs.declared.fault.ClientFault.{ClientFault}
use Rattle.tg_client.specs.declared.fault.ClientFault.TheVariants as faults
use Rattle.tg_cut_laws.specs.Cars.{IsDueEnd, IsRefusedIn}
use Rattle.tg_cut_laws.specs.Sections.{IsDue}
use Rattle.tg_model.specs.Dag.{Section}
use Rattle.tg_model.specs.LimitNumbers.{LimitNumbers}
use Rattle.tg_model.specs.Queries.{QueryParts}
use Rattle.tg_model.specs.declared.limits.LimitKind.TheVariants as kinds
use Rattle.tg_verify.specs.Refusals.{HasRefused}
use Rattle.tg_verify.specs.declared.fault.Refusal.{Refusal}
use Rattle.tg_verify.specs.declared.fault.Refusal.TheVariants as refusals

-- a block is wanted, or the header isn't whole, and the next byte brings a fault of the CAR
pub record IsBroken (q : QueryParts) (limits : LimitNumbers) (heard unheard : List ℕ) (sections : List Section) (text : List ℕ) (fault : ClientFault) : Type 0 where
  pub waits : IsWaiting q limits heard sections text
  pub last : ℕ
  pub more : List ℕ
  pub unheard_is : unheard ≡ last ∷ more
  pub car : CarFault
  pub brings : Brings limits.block (heard ++ last ∷ []) car
  pub no_memory : car ≡ cars.OutOfMemory → ⊥
  pub fault_is : fault ≡ fault_of_car car
  pub within : length heard < limits.received

-- the verifier refused the sections, and not since there are too many
pub record IsOfSections (q : QueryParts) (limits : LimitNumbers) (heard : List ℕ) (sections : List Section) (text : List ℕ) (fault : ClientFault) : Type 0 where
  pub refusal : Refusal
  pub fault_is : fault ≡ faults.Refused refusal
  pub due : IsDue refusal
  pub other : (number : ℕ) → refusal ≡ refusals.Extra number → ⊥
  pub refused : HasRefused q limits sections text refusal
  pub behind : IsBehindHeader q limits heard sections

-- bytes came behind all sections; more bytes came than may be received; a byte breaks the CAR; or the sections are refused
pub data IsRefusedAs (q : QueryParts) (limits : LimitNumbers) (heard unheard : List ℕ) (sections : List Section) (text : List ℕ) (fault : ClientFault) : Type 0 where
  surplus : (number : ℕ) → HasSurplus q limits (heard ++ unheard) sections text number → fault ≡ faults.Refused (refusals.Extra number)
      → IsRefusedAs q limits heard unheard sections text fault
  past : (number : ℕ) → IsPastReceived q limits heard unheard sections text number → fault ≡ faults.Refused (refusals.Limit kinds.Received number)
      → IsRefusedAs q limits heard unheard sections text fault
  broken : IsBroken q limits heard unheard sections text fault → IsRefusedAs q limits heard unheard sections text fault
  refused : IsOfSections q limits heard sections text fault → IsRefusedAs q limits heard unheard sections text fault

-- ---- each refusal comes in one of these ways

module _ (q : QueryParts) (limits : LimitNumbers) (heard unheard : List ℕ) (sections : List Section) (text : List ℕ) where
  by_sections : (refusal : Refusal) → IsDue refusal → ((number : ℕ) → refusal ≡ refusals.Extra number → ⊥) → HasRefused q limits sections text refusal → IsBehindHeader q limits heard sections
      → IsRefusedAs q limits heard unheard sections text (faults.Refused refusal)
  by_sections refusal due other h behind = refused (record { refusal = refusal; fault_is = refl; due = due; other = other; refused = h; behind = behind })

  by_car : (car : CarFault) (why : List ℕ → Type 0) → ((bytes : List ℕ) → why bytes → Brings limits.block bytes car) → (car ≡ cars.OutOfMemory → ⊥) → (fault : ClientFault) → fault ≡ fault_of_car car
      → IsBrokenBy q limits heard unheard sections text why → IsRefusedAs q limits heard unheard sections text fault
  by_car car why brings no_memory fault e h = broken (record {
    waits = h.waits;
    last = h.last;
    more = h.more;
    unheard_is = h.unheard_is;
    car = car;
    brings = brings (heard ++ h.last ∷ []) h.brings;
    no_memory = no_memory;
    fault_is = e;
    within = h.within;
  })

  -- a block above the limit; where its section begins isn't told
  by_limit : (number : ℕ) → number ≡ limits.block → IsBrokenBy q limits heard unheard sections text (λ bytes. (place : ℕ) × PassesLimit limits.block bytes place)
      → IsRefusedAs q limits heard unheard sections text (faults.Refused (refusals.Limit kinds.Block number))
  by_limit number is h = broken (record {
    waits = h.waits;
    last = h.last;
    more = h.more;
    unheard_is = h.unheard_is;
    car = cars.BlockLimit (shown h.brings.0) number;
    brings = (is, h.brings.0, refl, h.brings.1);
    no_memory = λ e. cc e;
    fault_is = refl;
    within = h.within;
  })

  by_fault : (car : CarFault) → IsNoCar car → IsBrokenBy q limits heard unheard sections text (λ bytes. Brings limits.block bytes car)
      → IsRefusedAs q limits heard unheard sections text (faults.BadCar car)
  by_fault (cars.BadHeader at) is h = by_car (cars.BadHeader at) (λ bytes. Brings limits.block bytes (cars.BadHeader at)) (λ bytes brings. brings) (λ e. cc e) (faults.BadCar (cars.BadHeader at)) refl h
  by_fault (cars.BadSection at) is h = by_car (cars.BadSection at) (λ bytes. Brings limits.block bytes (cars.BadSection at)) (λ bytes brings. brings) (λ e. cc e) (faults.BadCar (cars.BadSection at)) refl h
  by_fault (cars.BlockLimit at number) is h = absurd is
  by_fault (cars.Torn at) is h = absurd is
  by_fault cars.OutOfMemory is h = absurd is

  by_end : (fault : ClientFault) → IsDueEnd fault → EndsBy q limits unknown heard unheard sections text (Err fault) → IsAfterWanted q limits heard sections fault
      → IsRefusedAs q limits heard unheard sections text fault
  by_end (faults.Refused (refusals.Extra number)) due h w = surplus number h refl
  by_end (faults.Refused (refusals.Truncated want number)) due h w = absurd due
  by_end (faults.Refused refusals.SinkFault) due h w = absurd due
  by_end (faults.Refused refusals.OutOfMemory) due h w = absurd due
  by_end (faults.Refused (refusals.Limit kinds.Received number)) due h w = past number h refl
  by_end (faults.Refused (refusals.Limit kinds.Block number)) due h w = by_limit number h.0 h.1
  by_end (faults.Refused (refusals.NotFolder segment)) due h w = by_sections (refusals.NotFolder segment) tt (λ number e. cc e) h w
  by_end (faults.Refused (refusals.NotThere segment)) due h w = by_sections (refusals.NotThere segment) tt (λ number e. cc e) h w
  by_end (faults.Refused (refusals.BadDigest cid)) due h w = by_sections (refusals.BadDigest cid) tt (λ number e. cc e) h w
  by_end (faults.Refused (refusals.WrongBlock want got)) due h w = by_sections (refusals.WrongBlock want got) tt (λ number e. cc e) h w
  by_end (faults.Refused (refusals.BadBlock cid fault)) due h w = by_sections (refusals.BadBlock cid fault) tt (λ number e. cc e) h w
  by_end (faults.Refused (refusals.BadSize declared actual)) due h w = by_sections (refusals.BadSize declared actual) tt (λ number e. cc e) h w
  by_end (faults.Refused (refusals.Limit kinds.Depth number)) due h w = by_sections (refusals.Limit kinds.Depth number) tt (λ n e. cc e) h w
  by_end (faults.Refused (refusals.Limit kinds.Entries number)) due h w = by_sections (refusals.Limit kinds.Entries number) tt (λ n e. cc e) h w
  by_end (faults.Refused (refusals.Limit kinds.Names number)) due h w = by_sections (refusals.Limit kinds.Names number) tt (λ n e. cc e) h w
  by_end (faults.Refused (refusals.Limit kinds.Output number)) due h w = by_sections (refusals.Limit kinds.Output number) tt (λ n e. cc e) h w
  by_end (faults.Refused (refusals.Limit kinds.SeenBlocks number)) due h w = by_sections (refusals.Limit kinds.SeenBlocks number) tt (λ n e. cc e) h w
  by_end (faults.Refused (refusals.Limit kinds.SeenBytes number)) due h w = by_sections (refusals.Limit kinds.SeenBytes number) tt (λ n e. cc e) h w
  by_end (faults.Refused (refusals.Limit kinds.Reused number)) due h w = by_sections (refusals.Limit kinds.Reused number) tt (λ n e. cc e) h w
  by_end (faults.BadCar fault) due h w = by_fault fault h.0 h.1
  by_end faults.InputFault due h w = absurd due
  by_end faults.KeepFault due h w = absurd due
  by_end faults.OutOfMemory due h w = absurd due

-- how these bytes are refused
pub refused_as : (q : QueryParts) (limits : LimitNumbers) (bytes : List ℕ) (sections : List Section) (text : List ℕ) (fault : ClientFault) → IsDueEnd fault
    → (r : IsRefusedIn q limits bytes sections text fault) → IsRefusedAs q limits r.heard r.unheard sections text fault
refused_as q limits bytes sections text fault due r = by_end q limits r.heard r.unheard sections text fault due r.ends r.wanted
