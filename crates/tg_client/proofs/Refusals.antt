-- What was received is determined, and none of its fronts is refused.
use Rattle.std.proofs.Common.{◌≡◌, ℕ, List, [], ◌∷◌, ◌++◌, None, refl, ap, sym, ◌∙◌}
use Rattle.std.proofs.lemmas.List.{append_assoc}
use Rattle.tg_car.specs.Faults.{Brings, PassesLimit, shown}
use Rattle.tg_car.specs.History.{IsExact}
use Rattle.tg_car.specs.Laws.{CarLaws}
use Rattle.tg_car.specs.declared.fault.CarFault.{CarFault}
use Rattle.tg_car.specs.declared.fault.CarFault.TheVariants as cars
use Rattle.tg_model.specs.Dag.{Section}
use Rattle.tg_client.specs.Received.{HasReceived, sections_given}
use Rattle.tg_client.specs.ReceivedLaws.{IsNoCar}

exact : (limit : ℕ) (bytes : List ℕ) (sections : List Section) (a : HasReceived limit bytes sections)
    → IsExact limit (record { fed = bytes; given = a.given; stop = None })
exact limit bytes sections a = record { goes_on = a.goes_on; stopped = tt }

pub one : CarLaws → (limit : ℕ) (bytes : List ℕ) (a b : List Section) → HasReceived limit bytes a → HasReceived limit bytes b → a ≡ b
one laws limit bytes a b h k =
    let given : h.given ≡ k.given =
    laws.one_division limit (record { fed = bytes; given = h.given; stop = None }) (record { fed = bytes; given = k.given; stop = None })
    (exact limit bytes a h) (exact limit bytes b k) refl in
    sym h.sections_are ∙ (ap sections_given given ∙ k.sections_are)

missed : CarLaws → (limit : ℕ) (heard more : List ℕ) (last : ℕ) (sections : List Section) (fault : CarFault)
    → HasReceived limit (heard ++ last ∷ more) sections → (fault ≡ cars.OutOfMemory → ⊥) → Brings limit (heard ++ last ∷ []) fault → ⊥
missed laws limit heard more last sections fault h other brings =
    laws.none_missed limit (record { fed = heard ++ last ∷ more; given = h.given; stop = None }) fault
    (exact limit (heard ++ last ∷ more) sections h)
    (other, heard ++ last ∷ [], more, sym (append_assoc heard (last ∷ []) more), brings)

no_memory : (fault : CarFault) → IsNoCar fault → fault ≡ cars.OutOfMemory → ⊥
no_memory (cars.BadHeader at) is e = cc e
no_memory (cars.BadSection at) is e = cc e
no_memory (cars.BlockLimit at number) is e = is
no_memory (cars.Torn at) is e = is
no_memory cars.OutOfMemory is e = is

pub unbroken : CarLaws → (limit : ℕ) (heard more : List ℕ) (last : ℕ) (sections : List Section) (fault : CarFault)
    → HasReceived limit (heard ++ last ∷ more) sections → IsNoCar fault → Brings limit (heard ++ last ∷ []) fault → ⊥
unbroken laws limit heard more last sections fault h is brings =
    missed laws limit heard more last sections fault h (no_memory fault is) brings

pub unpassed : CarLaws → (limit : ℕ) (heard more : List ℕ) (last place : ℕ) (sections : List Section) → HasReceived limit (heard ++ last ∷ more) sections
    → PassesLimit limit (heard ++ last ∷ []) place → ⊥
unpassed laws limit heard more last place sections h passes =
    missed laws limit heard more last sections (cars.BlockLimit (shown place) limit) h (λ e. cc e) (refl, place, refl, passes)
