-- How the bytes of a section come: its length and CID, and then its block.
use Rattle.std.specs.Prelude.{◌≡◌, ℕ, ◌+◌, ◌<◌, ◌≤◌, Option, Some, None, List, [], ◌∷◌, ◌++◌, length, take}
use Rattle.std.specs.Prelude.{vec_capacity, All}
use Rattle.tg_car.specs.declared.section.Section.{Section}
use Rattle.tg_car.specs.declared.head.Declared.{Declared}
use Rattle.tg_car.specs.declared.head.Front.{Front}
use Rattle.tg_car.specs.declared.head.Front.TheVariants as fronts
use Rattle.tg_car.specs.declared.part.Part.{Part}
use Rattle.tg_car.specs.declared.part.PartFault.{PartFault}
use Rattle.tg_car.specs.declared.part.PartFault.TheVariants as faults
use Rattle.tg_car.specs.CarText.{SectionText}
use Rattle.tg_car.specs.Fronts.{IsInSection, IsWithin}
use Rattle.tg_car.specs.Heads.{HeadText, IsInHead, IsNoHead}

-- what bytes at the front of a section are
abbrev pub IsFront : List ℕ → Front → Type 0
IsFront bytes fronts.Open = IsInHead bytes
IsFront bytes (fronts.Whole declared) = HeadText declared.cid declared.number bytes
IsFront bytes fronts.Broken = IsNoHead bytes

-- a byte of the piece is one with which no length and CID go on
pub record BreaksHead (head piece : List ℕ) : Type 0 where
  pub front : List ℕ
  pub last : ℕ
  pub more : List ℕ
  pub whole : piece ≡ front ++ last ∷ more
  pub went_on : IsInHead (head ++ front)
  pub none : IsNoHead ((head ++ front) ++ last ∷ [])

-- so many bytes of the piece were taken into the head, and it is this then
abbrev pub Fills : List ℕ → List ℕ → List ℕ → ℕ → Front → Type 0
Fills old new piece taken fronts.Open = (taken ≡ length piece) × (new ≡ old ++ piece) × IsInHead new
Fills old new piece taken (fronts.Whole declared) =
    (taken ≤ length piece) × (0 < taken) × (new ≡ old ++ take taken piece) × HeadText declared.cid declared.number new
Fills old new piece taken fronts.Broken = BreaksHead old piece

-- bytes of a section's length and CID came, or these and fewer bytes than those of its block
abbrev pub IsPartOf : Option Declared → Part → Type 0
IsPartOf None part = IsInHead part.head × (part.block.items ≡ [])
IsPartOf (Some declared) part =
    HeadText declared.cid declared.number part.head × (length part.block.items < declared.number)
    × All (λ b. b < 256) part.block.items × (declared.number ≤ vec_capacity part.block)

abbrev pub IsPart : Part → Type 0
IsPart part = IsPartOf part.declared part

-- the bytes that came
abbrev pub came_of : Part → List ℕ
came_of part = part.head ++ part.block.items

-- the piece was taken into the length and the CID, or so many of its bytes, which made them whole
abbrev pub TakesHead : ℕ → Part → Part → List ℕ → ℕ → Option Declared → Type 0
TakesHead limit old new piece taken None =
    Fills old.head new.head piece taken fronts.Open × IsPart new × (new.block.items ≡ [])
TakesHead limit old new piece taken (Some declared) =
    Fills old.head new.head piece taken (fronts.Whole declared) × (declared.number ≤ limit) × (new.block.items ≡ [])
    × (declared.number ≤ vec_capacity new.block)

-- the piece was taken into the block, or so many of its bytes, which made it whole
abbrev pub TakesBlock : Declared → Part → Part → List ℕ → ℕ → Option Section → Type 0
TakesBlock declared old new piece taken None =
    (taken ≡ length piece) × (new.head ≡ old.head) × (new.block.items ≡ old.block.items ++ piece) × (length new.block.items < declared.number)
TakesBlock declared old new piece taken (Some section) =
    (taken ≤ length piece) × (length old.block.items + taken ≡ declared.number) × (came_of new ≡ [])
    × (section ≡ record { cid = declared.cid; block = old.block.items ++ take taken piece })

-- what came of the section and what was taken of the piece are this section, or go on as one
abbrev pub Takes : ℕ → List ℕ → List ℕ → List ℕ → ℕ → Option Section → Type 0
Takes limit old new piece taken None =
    (taken ≡ length piece) × (new ≡ old ++ piece) × IsInSection new × (IsWithin limit old → IsWithin limit new)
Takes limit old new piece taken (Some section) =
    (taken ≤ length piece) × (0 < length piece → 0 < taken) × (new ≡ [])
    × SectionText section (old ++ take taken piece) × (IsWithin limit old → length section.block ≤ limit)

-- the last byte of a length and CID is in the piece
pub record Completes (head piece : List ℕ) (declared : Declared) : Type 0 where
  pub front : List ℕ
  pub last : ℕ
  pub more : List ℕ
  pub whole : piece ≡ front ++ last ∷ more
  pub text : HeadText declared.cid declared.number ((head ++ front) ++ last ∷ [])

-- why a section doesn't go on
abbrev pub StopsPart : ℕ → List ℕ → List ℕ → PartFault → Type 0
StopsPart limit old piece faults.Bad = BreaksHead old piece
StopsPart limit old piece faults.AboveLimit =
    (declared : Declared) × Completes old piece declared × (limit < declared.number)
StopsPart limit old piece faults.OutOfMemory =
    (declared : Declared) × Completes old piece declared × (declared.number ≤ limit) × (0 < declared.number)
