-- How CIDs are spelled in bytes and in text (CID specification; multihash; multicodec; multibase; RFC 4648 section 6).
use Rattle.std.specs.Prelude.{◌≡◌, ℕ, ◌<◌, ◌≤◌, ◌⊎◌, List, [], ◌∷◌, ◌++◌, length, All}
use Rattle.tg_varint.specs.Varint.{VarintSpelling}
use Rattle.tg_base32.specs.Base32.{Base32Text}
use Rattle.tg_cid.specs.Cid.{CidParts}
use Rattle.tg_cid.specs.Limits.{max_digest_len}
use Rattle.tg_cid.specs.declared.cid.Codec.{Codec}
use Rattle.tg_cid.specs.declared.cid.Codec.TheVariants.{Raw, DagPb}
use Rattle.tg_cid.specs.declared.cid.HashKind.{HashKind}
use Rattle.tg_cid.specs.declared.cid.HashKind.TheVariants.{Sha256, Identity}

-- the numbers of the codecs and of the hashes
abbrev pub codec_code : Codec → ℕ
codec_code Raw = 0x55
codec_code DagPb = 0x70

abbrev pub hash_code : HashKind → ℕ
hash_code Sha256 = 0x12
hash_code Identity = 0x00

-- how many bytes a digest of such a hash has
abbrev pub IsDigestSize : HashKind → ℕ → Type 0
IsDigestSize Sha256 size = size ≡ 32
IsDigestSize Identity size = size ≤ max_digest_len

-- the bytes are the spellings of the numbers as varints, one after another
abbrev pub Varints : List ℕ → List ℕ → Type 0
Varints [] bytes = bytes ≡ []
Varints (number ∷ numbers) bytes =
    (front : List ℕ) × (rest : List ℕ) × (bytes ≡ front ++ rest) × VarintSpelling number front × Varints numbers rest

-- a CIDv0: the bare multihash of sha2-256, 0x12, 32 and the digest; it means dag-pb
pub record CidV0Bytes (cid : CidParts) (bytes : List ℕ) : Type 0 where
  pub version : cid.version ≡ 0
  pub codec : cid.codec ≡ DagPb
  pub hash : cid.hash ≡ Sha256
  pub size : length cid.digest ≡ 32
  pub are_bytes : All (λ b. b < 256) cid.digest
  pub whole : bytes ≡ 0x12 ∷ 0x20 ∷ cid.digest

-- a CIDv1: the varints of 1, the codec, the hash and the digest's length, and the digest
pub record CidV1Bytes (cid : CidParts) (bytes : List ℕ) : Type 0 where
  pub version : cid.version ≡ 1
  pub size : IsDigestSize cid.hash (length cid.digest)
  pub are_bytes : All (λ b. b < 256) cid.digest
  pub head : List ℕ
  pub numbers : Varints (1 ∷ codec_code cid.codec ∷ hash_code cid.hash ∷ length cid.digest ∷ []) head
  pub whole : bytes ≡ head ++ cid.digest

abbrev pub CidBytes : CidParts → List ℕ → Type 0
CidBytes cid bytes = CidV0Bytes cid bytes ⊎ CidV1Bytes cid bytes

-- multibase `b`: the letter, and the base 32 of the bytes
pub record MultibaseText (text bytes : List ℕ) : Type 0 where
  pub letters : List ℕ
  pub begins : text ≡ 98 ∷ letters
  pub rest : Base32Text letters bytes

-- the text of a CIDv1
pub record CidText (cid : CidParts) (text : List ℕ) : Type 0 where
  pub bytes : List ℕ
  pub in_base : MultibaseText text bytes
  pub in_bytes : CidV1Bytes cid bytes
