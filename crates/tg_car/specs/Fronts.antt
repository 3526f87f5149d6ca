-- Bytes with which a CAR begins.
use Rattle.std.specs.Prelude.{◌≡◌, ℕ, ◌+◌, ◌<◌, ◌≤◌, List, ◌++◌, length, All}
use Rattle.tg_varint.specs.Varint.{VarintSpelling}
use Rattle.tg_cid.specs.Cid.{CidParts}
use Rattle.tg_cid.specs.Spelling.{CidBytes}
use Rattle.tg_car.specs.declared.section.Section.{Section}
use Rattle.tg_car.specs.CarText.{HeaderText, SectionText, SectionsText, CarText}

-- some CAR begins with these bytes
abbrev pub IsCarFront : List ℕ → Type 0
IsCarFront bytes =
    (roots : List (List ℕ)) × (sections : List Section) × (more : List ℕ) × CarText roots sections (bytes ++ more)

-- some header begins with these bytes, and more are to come
pub record IsInHeader (bytes : List ℕ) : Type 0 where
  pub roots : List (List ℕ)
  pub more : List ℕ
  pub not_whole : 0 < length more
  pub text : HeaderText roots (bytes ++ more)

-- some section begins with these bytes, and more are to come; none of them may have come
pub record IsInSection (bytes : List ℕ) : Type 0 where
  pub section : Section
  pub more : List ℕ
  pub not_whole : 0 < length more
  pub text : SectionText section (bytes ++ more)

-- the length and the CID of a section are whole, and the block that it declares has this many bytes, of which some have
-- come
pub record Declares (bytes : List ℕ) (number : ℕ) : Type 0 where
  pub cid : CidParts
  pub size : List ℕ
  pub name : List ℕ
  pub begun : List ℕ
  pub whole : bytes ≡ size ++ (name ++ begun)
  pub size_is : VarintSpelling (length name + number) size
  pub name_is : CidBytes cid name

-- the section at hand declares no block above the limit
abbrev pub IsWithin : ℕ → List ℕ → Type 0
IsWithin limit bytes = (number : ℕ) → Declares bytes number → number ≤ limit

-- the bytes are a header, these sections, none with a block above the limit, and bytes of the section at hand
pub record Reaches (limit : ℕ) (bytes : List ℕ) (sections : List Section) (rest : List ℕ) : Type 0 where
  pub roots : List (List ℕ)
  pub header : List ℕ
  pub done : List ℕ
  pub whole : bytes ≡ header ++ (done ++ rest)
  pub header_is : HeaderText roots header
  pub sections_are : SectionsText sections done
  pub within : All (λ section. length section.block ≤ limit) sections
