-- Why bytes or a text are no CID: the first place, from the left, at which the grammar is broken.
use Rattle.std.specs.Prelude.{◌≡◌, ◌≢◌, ℕ, ◌<◌, ◌⊎◌, List, [], ◌∷◌, ◌++◌, length, ⊤}
use Rattle.tg_base32.specs.declared.Base32Fault.{Base32Fault}
use Rattle.tg_base32.specs.declared.Base32Fault.TheVariants as base32
use Rattle.tg_varint.specs.Varint.{EndsInside, PassesNine, EndsInZero}
use Rattle.tg_cid.specs.Cid.{CidParts}
use Rattle.tg_cid.specs.Spelling.{CidBytes, IsDigestSize, MultibaseText, Varints, hash_code}
use Rattle.tg_cid.specs.declared.cid.HashKind.{HashKind}
use Rattle.tg_cid.specs.declared.fault.CidFault.{CidFault}
use Rattle.tg_cid.specs.declared.fault.CidFault.TheVariants as faults

-- a codec's number; a hash's number
abbrev pub IsCodec : ℕ → Type 0
IsCodec number = (number ≡ 0x55) ⊎ (number ≡ 0x70)

abbrev pub IsHash : ℕ → Type 0
IsHash number = (hash : HashKind) × (number ≡ hash_code hash)

-- numbers with which a CIDv1 may begin, so far as they go
abbrev pub MayBegin : List ℕ → Type 0
MayBegin [] = ⊤
MayBegin (version ∷ []) = version ≡ 1
MayBegin (version ∷ codec ∷ []) = (version ≡ 1) × IsCodec codec
MayBegin (version ∷ codec ∷ hash ∷ []) = (version ≡ 1) × IsCodec codec × IsHash hash
MayBegin (version ∷ codec ∷ hash ∷ size ∷ more) = ⊥

-- the bytes begin with the varints of the numbers, and the rest follows them at `at`
pub record Follows (numbers bytes : List ℕ) (at : ℕ) (rest : List ℕ) : Type 0 where
  pub front : List ℕ
  pub whole : bytes ≡ front ++ rest
  pub at_is : at ≡ length front
  pub spelled : Varints numbers front

-- bytes that are read as a CIDv0: a lone 0x12, behind which one may follow, or 0x12 and 0x20
pub record IsVersionZero (bytes : List ℕ) : Type 0 where
  pub rest : List ℕ
  pub begins : (bytes ≡ 0x12 ∷ []) ⊎ (bytes ≡ 0x12 ∷ 0x20 ∷ rest)

-- the next number of a CIDv1 that has begun with these numbers
pub record NextNumber (numbers bytes : List ℕ) (number : ℕ) : Type 0 where
  pub at : ℕ
  pub rest : List ℕ
  pub other : IsVersionZero bytes → ⊥
  pub follows : Follows (numbers ++ number ∷ []) bytes at rest

-- the bytes end inside a CIDv0, inside a varint of a CIDv1, or inside its digest
pub record EndsInV0 (bytes : List ℕ) : Type 0 where
  pub rest : List ℕ
  pub begins : (bytes ≡ 0x12 ∷ []) ⊎ ((bytes ≡ 0x12 ∷ 0x20 ∷ rest) × (length rest < 32))

pub record EndsInVarint (bytes : List ℕ) : Type 0 where
  pub numbers : List ℕ
  pub at : ℕ
  pub rest : List ℕ
  pub other : IsVersionZero bytes → ⊥
  pub begins : MayBegin numbers
  pub follows : Follows numbers bytes at rest
  pub ends : EndsInside rest

pub record EndsInDigest (bytes : List ℕ) : Type 0 where
  pub codec : ℕ
  pub hash : HashKind
  pub size : ℕ
  pub at : ℕ
  pub rest : List ℕ
  pub codec_is : IsCodec codec
  pub size_is : IsDigestSize hash size
  pub follows : Follows (1 ∷ codec ∷ hash_code hash ∷ size ∷ []) bytes at rest
  pub fewer : length rest < size

-- a number of a CIDv1 is spelled with more than nine bytes, or not in the shortest way
pub record HasBadVarint (bytes : List ℕ) (at : ℕ) : Type 0 where
  pub numbers : List ℕ
  pub rest : List ℕ
  pub begins : MayBegin numbers
  pub follows : Follows numbers bytes at rest
  pub bad : PassesNine rest ⊎ EndsInZero rest

-- the cause of each refusal of bytes, behind which more may follow
abbrev pub HasPrefixCause : List ℕ → CidFault → Type 0
HasPrefixCause bytes faults.BadText = ⊥
HasPrefixCause bytes (faults.BadVersion number) = NextNumber [] bytes number × (number ≢ 1)
HasPrefixCause bytes (faults.BadCodec number) = NextNumber (1 ∷ []) bytes number × (IsCodec number → ⊥)
HasPrefixCause bytes (faults.BadHash number) =
    (codec : ℕ) × IsCodec codec × NextNumber (1 ∷ codec ∷ []) bytes number × (IsHash number → ⊥)
HasPrefixCause bytes (faults.BadLength number) = (codec : ℕ) × (hash : HashKind) × IsCodec codec
    × NextNumber (1 ∷ codec ∷ hash_code hash ∷ []) bytes number × (IsDigestSize hash number → ⊥)
HasPrefixCause bytes (faults.Trailing at) = ⊥
HasPrefixCause bytes (faults.Short at) =
    (at ≡ length bytes) × (EndsInV0 bytes ⊎ (EndsInVarint bytes ⊎ EndsInDigest bytes))
HasPrefixCause bytes (faults.BadVarint at) = HasBadVarint bytes at
HasPrefixCause bytes faults.OutOfMemory = ⊥

-- a whole CID, and bytes behind it from `at` on
pub record IsTrailed (bytes : List ℕ) (at : ℕ) : Type 0 where
  pub cid : CidParts
  pub front : List ℕ
  pub rest : List ℕ
  pub spelled : CidBytes cid front
  pub whole : bytes ≡ front ++ rest
  pub at_is : at ≡ length front
  pub more : 0 < length rest

-- the cause of each refusal of bytes, behind which nothing may follow
abbrev pub HasBytesCause : List ℕ → CidFault → Type 0
HasBytesCause bytes (faults.Trailing at) = IsTrailed bytes at
HasBytesCause bytes faults.BadText = ⊥
HasBytesCause bytes (faults.BadVersion number) = HasPrefixCause bytes (faults.BadVersion number)
HasBytesCause bytes (faults.BadCodec number) = HasPrefixCause bytes (faults.BadCodec number)
HasBytesCause bytes (faults.BadHash number) = HasPrefixCause bytes (faults.BadHash number)
HasBytesCause bytes (faults.BadLength number) = HasPrefixCause bytes (faults.BadLength number)
HasBytesCause bytes (faults.Short at) = HasPrefixCause bytes (faults.Short at)
HasBytesCause bytes (faults.BadVarint at) = HasPrefixCause bytes (faults.BadVarint at)
HasBytesCause bytes faults.OutOfMemory = ⊥

-- the cause of each refusal of a text: it isn't multibase `b`; its bytes begin with 0x12, as those of no CIDv1; or its
-- bytes are refused
pub record IsNoMultibase (text : List ℕ) : Type 0 where
  pub none : (bytes : List ℕ) → MultibaseText text bytes → ⊥

pub record BeginsAsV0 (text : List ℕ) : Type 0 where
  pub rest : List ℕ
  pub in_base : MultibaseText text (0x12 ∷ rest)

pub record BytesRefused (text : List ℕ) (fault : CidFault) : Type 0 where
  pub bytes : List ℕ
  pub in_base : MultibaseText text bytes
  pub other : (rest : List ℕ) → bytes ≡ 0x12 ∷ rest → ⊥
  pub cause : HasBytesCause bytes fault

abbrev pub HasTextCause : List ℕ → CidFault → Type 0
HasTextCause text fault = ((fault ≡ faults.BadText) × IsNoMultibase text)
    ⊎ (((fault ≡ faults.BadVersion 18) × BeginsAsV0 text) ⊎ BytesRefused text fault)

-- a fault of the base 32 of a text, as a fault of the text
abbrev pub cid_fault_of : Base32Fault → CidFault
cid_fault_of (base32.BadChar at) = faults.BadText
cid_fault_of base32.BadLength = faults.BadText
cid_fault_of base32.BadTail = faults.BadText
cid_fault_of base32.OutOfMemory = faults.OutOfMemory
