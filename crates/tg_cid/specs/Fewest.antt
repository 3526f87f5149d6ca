-- How many bytes the shortest CID has that begins with given bytes, and the heads by which it is told.
use Rattle.std.specs.Prelude.{◌≡◌, ℕ, ◌+◌, ◌≤◌, ◌⊎◌, List, [], ◌∷◌, ◌++◌, length}
use Rattle.tg_varint.specs.Computed.{varint}
use Rattle.tg_cid.specs.Cid.{CidParts}
use Rattle.tg_cid.specs.Limits.{max_digest_len}
use Rattle.tg_cid.specs.Spelling.{CidBytes, IsDigestSize, codec_code, hash_code}
use Rattle.tg_cid.specs.declared.cid.Codec.{Codec}
use Rattle.tg_cid.specs.declared.cid.HashKind.{HashKind}
use Rattle.tg_cid.specs.declared.cid.HashKind.TheVariants.{Identity}

-- the fewest bytes of a CID that begins so
pub record IsFewest (name : List ℕ) (count : ℕ) : Type 0 where
  pub cid : CidParts
  pub more : List ℕ
  pub begins : CidBytes cid (name ++ more)
  pub count_is : count ≡ length (name ++ more)
  pub fewest : (other : CidParts) (rest : List ℕ) → CidBytes other (name ++ rest) → count ≤ length (name ++ rest)

-- no CID begins so
pub record IsNoName (name : List ℕ) : Type 0 where
  pub none : (cid : CidParts) (more : List ℕ) → CidBytes cid (name ++ more) → ⊥

-- what stands before the digest of a CIDv0, which has 32 bytes, and of a CIDv1 with a digest of so many
abbrev pub zero_head : List ℕ
zero_head = 0x12 ∷ 0x20 ∷ []

abbrev pub one_head : Codec → HashKind → ℕ → List ℕ
one_head codec hash size = 1 ∷ codec_code codec ∷ hash_code hash ∷ varint size

-- what stands before the length of the digest of a CIDv1 with an identity hash
abbrev pub identity_front : Codec → List ℕ
identity_front codec = 1 ∷ codec_code codec ∷ hash_code Identity ∷ []

abbrev pub IsHead : List ℕ → ℕ → Type 0
IsHead head size = ((head ≡ zero_head) × (size ≡ 32))
    ⊎ ((codec : Codec) × (hash : HashKind) × IsDigestSize hash size × (head ≡ one_head codec hash size))

-- the one begins with the other, or the other way round
abbrev pub Agrees : List ℕ → List ℕ → Type 0
Agrees bytes head = ((more : List ℕ) × (bytes ++ more ≡ head)) ⊎ ((more : List ℕ) × (bytes ≡ head ++ more))

-- the fewest bytes of a CID whose head agrees with these
pub record IsFewestHead (name : List ℕ) (count : ℕ) : Type 0 where
  pub head : List ℕ
  pub size : ℕ
  pub kind : IsHead head size
  pub agrees : Agrees name head
  pub count_is : count ≡ length head + size
  pub fewest : (other : List ℕ) (number : ℕ) → IsHead other number → Agrees name other → count ≤ length other + number

-- no head agrees with these bytes
pub record IsNoHead (name : List ℕ) : Type 0 where
  pub none : (head : List ℕ) (size : ℕ) → IsHead head size → Agrees name head → ⊥

-- the fewest bytes of a CID with an identity hash whose number of digest bytes agrees with these; three codes of one
-- byte stand before that number
pub record IsFewestSize (bytes : List ℕ) (count : ℕ) : Type 0 where
  pub size : ℕ
  pub small : size ≤ max_digest_len
  pub agrees : Agrees bytes (varint size)
  pub count_is : count ≡ 3 + length (varint size) + size
  pub fewest : (other : ℕ) → other ≤ max_digest_len → Agrees bytes (varint other) → size ≤ other

-- no number of digest bytes of an identity hash agrees with these
pub record IsNoSize (bytes : List ℕ) : Type 0 where
  pub none : (size : ℕ) → size ≤ max_digest_len → Agrees bytes (varint size) → ⊥
