-- CARv1 texts: a header and then sections (CARv1 specification, Header and Data; the header is a DAG-CBOR map).
use Rattle.std.specs.Prelude.{◌≡◌, ℕ, ◌+◌, ◌<◌, ◌≤◌, List, [], ◌∷◌, ◌++◌, length, All, nat_lt, codes, if◌then◌else◌}
use Rattle.std.specs.List.{flat_map}
use Rattle.tg_varint.specs.Varint.{VarintSpelling}
use Rattle.tg_cid.specs.Spelling.{CidBytes}
use Rattle.tg_car.specs.declared.section.Section.{Section}

-- the byte string of a root: a zero byte and what isn't looked at, 2 to 200 bytes together
pub record IsRoot (root : List ℕ) : Type 0 where
  pub rest : List ℕ
  pub begins : root ≡ 0 ∷ rest
  pub low : 2 ≤ length root
  pub high : length root ≤ 200
  pub are_bytes : All (λ b. b < 256) root

-- the shortest heads of a CBOR byte string and of a CBOR array
abbrev pub string_head : ℕ → List ℕ
string_head n = if nat_lt n 24 then (0x40 + n) ∷ [] else 0x58 ∷ n ∷ []

abbrev pub array_head : ℕ → List ℕ
array_head n = if nat_lt n 24 then (0x80 + n) ∷ [] else 0x98 ∷ n ∷ []

-- a root is the CBOR tag 42 and its byte string
abbrev pub root_text : List ℕ → List ℕ
root_text root = 0xd8 ∷ 0x2a ∷ (string_head (length root) ++ root)

-- the map of `roots` and `version`, which is 1
abbrev pub header_map : List (List ℕ) → List ℕ
header_map roots = 0xa2 ∷ 0x65 ∷ (codes "roots" ++ (array_head (length roots) ++ (flat_map root_text roots ++ (0x67 ∷ (codes "version" ++ 1 ∷ [])))))

-- the length of the map and the map; there are at most 64 roots, and so the map has at most 13,074 bytes
pub record HeaderText (roots : List (List ℕ)) (bytes : List ℕ) : Type 0 where
  pub few : length roots ≤ 64
  pub each : All IsRoot roots
  pub size : List ℕ
  pub size_is : VarintSpelling (length (header_map roots)) size
  pub whole : bytes ≡ size ++ header_map roots

-- the length of the CID and the block together, the CID, the block
pub record SectionText (section : Section) (bytes : List ℕ) : Type 0 where
  pub size : List ℕ
  pub name : List ℕ
  pub size_is : VarintSpelling (length name + length section.block) size
  pub name_is : CidBytes section.cid name
  pub are_bytes : All (λ b. b < 256) section.block
  pub whole : bytes ≡ size ++ (name ++ section.block)

-- the texts of sections, one after another
abbrev pub SectionsText : List Section → List ℕ → Type 0
SectionsText [] bytes = bytes ≡ []
SectionsText (section ∷ sections) bytes =
    (front : List ℕ) × (rest : List ℕ) × (bytes ≡ front ++ rest) × SectionText section front × SectionsText sections rest

-- a CAR with these roots and sections
pub record CarText (roots : List (List ℕ)) (sections : List Section) (bytes : List ℕ) : Type 0 where
  pub header : List ℕ
  pub rest : List ℕ
  pub whole : bytes ≡ header ++ rest
  pub header_is : HeaderText roots header
  pub sections_are : SectionsText sections rest
