-- Bytes with which CARs begin: of two fronts the one goes on behind the other, where a header is whole, and that no byte of
-- what was received is refused.
use Rattle.std.proofs.Common.{◌≡◌, ℕ, List, [], ◌∷◌, ◌++◌, None, refl, sym, inl, inr, append-nil, append_assoc}
use Rattle.std.specs.Prelude.{◌⊎◌}
use Rattle.tg_car.specs.Faults.{Brings}
use Rattle.tg_car.specs.History.{GoesOn}
use Rattle.tg_car.specs.Laws.{CarLaws}
use Rattle.tg_car.specs.declared.event.Event.{Event}
use Rattle.tg_car.specs.declared.fault.CarFault.{CarFault}
use Rattle.tg_car.specs.declared.fault.CarFault.TheVariants as cars
use Rattle.tg_client.specs.Received.{HasHeader, HasReceived, IsCarOf}
use Rattle.tg_client.specs.ReceivedLaws.{ReceivedLaws}
use Rattle.tg_model.specs.Dag.{Section}

-- ---- fronts of lists

-- of two fronts of a list the one goes on behind the other
pub compare : (a b c e : List ℕ) → a ++ b ≡ c ++ e → ((z : List ℕ) × (a ≡ c ++ z)) ⊎ ((y : ℕ) × (z : List ℕ) × (c ≡ a ++ y ∷ z))
compare a b [] e same = inl (a, refl)
compare [] b (y ∷ c) e same = inr (y, c, refl)
compare (x ∷ a) b (y ∷ c) e same = on (compare a b c e (cc same))
  where
    first : x ≡ y
    first = cc same

    on : ((z : List ℕ) × (a ≡ c ++ z)) ⊎ ((w : ℕ) × (z : List ℕ) × (c ≡ a ++ w ∷ z)) → ((z : List ℕ) × (x ∷ a ≡ y ∷ (c ++ z))) ⊎ ((w : ℕ) × (z : List ℕ) × (y ∷ c ≡ x ∷ (a ++ w ∷ z)))
    on (inl (z, e)) = inl (z, cc (first, e))
    on (inr (w, z, e)) = inr (w, z, cc (first, e))

-- ---- a CAR that was received

-- its header is whole
pub header_of_car : ReceivedLaws → (limit : ℕ) (bytes : List ℕ) (sections all : List Section) → HasReceived limit bytes all → IsCarOf bytes sections → HasHeader limit bytes
header_of_car received limit bytes sections all h is_car = by h.given h.goes_on
  where
    by : (given : List Event) → GoesOn limit bytes given → HasHeader limit bytes
    by [] on = absurd (received.headed limit sections bytes [] bytes is_car (sym (append-nil bytes)) on)
    by (event ∷ given) on = record { event = event; given = given; goes_on = on }

-- ---- what was received isn't refused

pub missed : CarLaws → (limit : ℕ) (heard more : List ℕ) (last : ℕ) (sections : List Section) (fault : CarFault)
    → HasReceived limit (heard ++ last ∷ more) sections → (fault ≡ cars.OutOfMemory → ⊥) → Brings limit (heard ++ last ∷ []) fault → ⊥
missed laws limit heard more last sections fault h other brings =
    laws.none_missed limit (record { fed = heard ++ last ∷ more; given = h.given; stop = None }) fault
    (record { goes_on = h.goes_on; stopped = tt })
    (other, heard ++ last ∷ [], more, sym (append_assoc heard (last ∷ []) more), brings)
