-- What holds of the sections that stand whole in bytes that were heard.
use Rattle.std.specs.Prelude.{All, List, [], length, ⊤, ℕ, ◌++◌, ◌<◌, ◌∷◌, ◌≡◌, ◌≤◌}
use Rattle.tg_car.specs.Faults.{Brings, PassesLimit}
use Rattle.tg_car.specs.History.{GoesOn}
use Rattle.tg_car.specs.declared.fault.CarFault.{CarFault}
use Rattle.tg_car.specs.declared.fault.CarFault.TheVariants as cars
use Rattle.tg_client.specs.Received.{HasHeader, HasReceived, IsCarOf}
use Rattle.tg_model.specs.Dag.{Section}

-- the bytes are no CAR: a fault of its header or of a section
abbrev pub IsNoCar : CarFault → Type 0
IsNoCar (cars.BadHeader at) = ⊤
IsNoCar (cars.BadSection at) = ⊤
IsNoCar other = ⊥

pub record ReceivedLaws : Type 0 where
  -- of a CAR whose blocks are within the limit all sections stand whole
  pub whole : (limit : ℕ) (bytes : List ℕ) (sections : List Section) → IsCarOf bytes sections
      → All (λ section. length section.block ≤ limit) sections
      → HasReceived limit bytes sections
  -- what was received is determined, and no block of it is above the limit
  pub one : (limit : ℕ) (bytes : List ℕ) (a b : List Section) → HasReceived limit bytes a → HasReceived limit bytes b
      → a ≡ b
  pub within : (limit : ℕ) (bytes : List ℕ) (sections : List Section) → HasReceived limit bytes sections
      → All (λ section. length section.block ≤ limit) sections
  -- of a front fewer sections stand whole, or the same
  pub front : (limit : ℕ) (heard more : List ℕ) (some sections : List Section) → HasReceived limit heard some
      → HasReceived limit (heard ++ more) sections
      → (rest : List Section) × (sections ≡ some ++ rest)
  -- behind a CAR come its sections, and then others
  pub behind : (limit : ℕ) (car more : List ℕ) (sections all : List Section) → IsCarOf car sections
      → HasReceived limit (car ++ more) all
      → (rest : List Section) × (all ≡ sections ++ rest)
  -- no CAR is broken, and none of its blocks above the limit, where one goes on
  pub unbroken : (limit : ℕ) (heard more : List ℕ) (last : ℕ) (sections : List Section) (fault : CarFault)
      → HasReceived limit (heard ++ last ∷ more) sections
      → IsNoCar fault → Brings limit (heard ++ last ∷ []) fault → ⊥
  pub unpassed : (limit : ℕ) (heard more : List ℕ) (last place : ℕ) (sections : List Section)
      → HasReceived limit (heard ++ last ∷ more) sections
      → PassesLimit limit (heard ++ last ∷ []) place → ⊥
  -- a CAR of the same sections doesn't go on
  pub once : (sections : List Section) (bytes car more : List ℕ) → IsCarOf bytes sections → IsCarOf car sections
      → bytes ≡ car ++ more → 0 < length more → ⊥
  -- the header is whole in bytes that begin with a CAR, or with bytes in which it is whole
  pub headed : (limit : ℕ) (sections : List Section) (car more bytes : List ℕ) → IsCarOf car sections → bytes ≡ car ++ more
      → GoesOn limit bytes [] → ⊥
  pub stays_headed : (limit : ℕ) (heard more bytes : List ℕ) → HasHeader limit heard → bytes ≡ heard ++ more
      → GoesOn limit bytes [] → ⊥
