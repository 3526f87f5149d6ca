-- Why bytes are no CAR within a limit on its blocks: each fault at the first byte that brings its cause.
use Rattle.std.specs.Prelude.{◌≡◌, ◌≢◌, ℕ, ◌+◌, ◌-◌, ◌^◌, ◌<◌, ◌≤◌, ◌⊎◌, List, [], ◌∷◌, ◌++◌, length, min}
use Rattle.tg_varint.specs.Varint.{VarintSpelling}
use Rattle.tg_cid.specs.Cid.{CidParts}
use Rattle.tg_cid.specs.Spelling.{CidBytes}
use Rattle.tg_car.specs.declared.section.Section.{Section}
use Rattle.tg_car.specs.declared.fault.CarFault.{CarFault}
use Rattle.tg_car.specs.declared.fault.CarFault.TheVariants as faults
use Rattle.tg_car.specs.CarText.{HeaderText}
use Rattle.tg_car.specs.Fronts.{IsCarFront, IsInHeader, IsInSection, IsWithin, Reaches}

-- an offset as it is shown: it stands still at the last value of its type
abbrev pub shown : ℕ → ℕ
shown place = min place (2 ^ 64 - 1)

-- the last of these bytes breaks the header: up to it a header went on, and with it no CAR does
pub record BreaksHeader (bytes : List ℕ) : Type 0 where
  pub before : List ℕ
  pub last : ℕ
  pub whole : bytes ≡ before ++ last ∷ []
  pub went_on : IsInHeader before
  pub hopeless : IsCarFront bytes → ⊥

-- the last of these bytes breaks the section that begins at `at`
pub record BreaksSection (limit : ℕ) (bytes : List ℕ) (at : ℕ) : Type 0 where
  pub before : List ℕ
  pub last : ℕ
  pub whole : bytes ≡ before ++ last ∷ []
  pub sections : List Section
  pub rest : List ℕ
  pub reaches : Reaches limit before sections rest
  pub went_on : IsInSection rest
  pub within : IsWithin limit rest
  pub at_is : at ≡ length before - length rest
  pub hopeless : IsCarFront bytes → ⊥

-- the last of these bytes is the last of a CID whose section, which begins at `at`, declares a block above the limit
pub record PassesLimit (limit : ℕ) (bytes : List ℕ) (at : ℕ) : Type 0 where
  pub sections : List Section
  pub cid : CidParts
  pub size : List ℕ
  pub name : List ℕ
  pub number : ℕ
  pub reaches : Reaches limit bytes sections (size ++ name)
  pub size_is : VarintSpelling (length name + number) size
  pub name_is : CidBytes cid name
  pub at_is : at ≡ length bytes - length (size ++ name)
  pub above : limit < number

-- the last of these bytes is the last of a CID whose section declares a block within the limit, for which room is taken
pub record WantsBlock (limit : ℕ) (bytes : List ℕ) : Type 0 where
  pub sections : List Section
  pub cid : CidParts
  pub size : List ℕ
  pub name : List ℕ
  pub number : ℕ
  pub reaches : Reaches limit bytes sections (size ++ name)
  pub size_is : VarintSpelling (length name + number) size
  pub name_is : CidBytes cid name
  pub some : 0 < number
  pub within : number ≤ limit

-- memory is taken for the bytes of a header that come with a piece, and for a block once its length and CID are whole
abbrev pub TakesMemory : ℕ → List ℕ → Type 0
TakesMemory limit bytes =
    IsInHeader bytes ⊎ (((roots : List (List ℕ)) × HeaderText roots bytes) ⊎ WantsBlock limit bytes)

-- the bytes end inside the header, or inside the section that begins at `at`
pub record EndsInSection (limit : ℕ) (bytes : List ℕ) (at : ℕ) : Type 0 where
  pub sections : List Section
  pub rest : List ℕ
  pub reaches : Reaches limit bytes sections rest
  pub inside : IsInSection rest
  pub begun : 0 < length rest
  pub at_is : at ≡ length bytes - length rest

-- the last of these bytes brings the fault; `Torn` is one of the end
abbrev pub Brings : ℕ → List ℕ → CarFault → Type 0
Brings limit bytes (faults.BadHeader at) = (at ≡ 0) × BreaksHeader bytes
Brings limit bytes (faults.BadSection at) = (place : ℕ) × (at ≡ shown place) × BreaksSection limit bytes place
Brings limit bytes (faults.BlockLimit at number) =
    (number ≡ limit) × (place : ℕ) × (at ≡ shown place) × PassesLimit limit bytes place
Brings limit bytes (faults.Torn at) = ⊥
Brings limit bytes faults.OutOfMemory = TakesMemory limit bytes

-- the cause of each refusal of bytes but want of memory: a front of them brings it
abbrev pub HasCarCause : ℕ → List ℕ → CarFault → Type 0
HasCarCause limit bytes fault = (fault ≢ faults.OutOfMemory) × (front : List ℕ) × (more : List ℕ) × (bytes ≡ front ++ more) × Brings limit front fault

-- the cause of each refusal of the end
abbrev pub HasEndCause : ℕ → List ℕ → CarFault → Type 0
HasEndCause limit bytes (faults.Torn at) =
    ((at ≡ 0) × IsInHeader bytes) ⊎ ((place : ℕ) × (at ≡ shown place) × EndsInSection limit bytes place)
HasEndCause limit bytes (faults.BadHeader at) = ⊥
HasEndCause limit bytes (faults.BadSection at) = ⊥
HasEndCause limit bytes (faults.BlockLimit at number) = ⊥
HasEndCause limit bytes faults.OutOfMemory = ⊥
