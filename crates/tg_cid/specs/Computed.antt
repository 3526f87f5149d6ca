-- The CID of bytes, and the bytes and the text of a CID, as functions (CID specification; multihash; multibase `b`).
use Rattle.std.specs.Prelude.{ℕ, List, [], ◌∷◌, ◌++◌, length, Option, Some, None, Bool, if◌then◌else◌, ◌==◌, ◌&&◌}
use Rattle.std.specs.Prelude.{nat_le}
use Rattle.tg_base32.specs.Computed.{base32}
use Rattle.tg_varint.specs.Computed.{varint, front_number}
use Rattle.tg_cid.specs.Cid.{CidParts}
use Rattle.tg_cid.specs.Limits.{max_digest_len}
use Rattle.tg_cid.specs.Spelling.{codec_code, hash_code}
use Rattle.tg_cid.specs.declared.cid.Codec.{Codec}
use Rattle.tg_cid.specs.declared.cid.Codec.TheVariants.{Raw, DagPb}
use Rattle.tg_cid.specs.declared.cid.HashKind.{HashKind}
use Rattle.tg_cid.specs.declared.cid.HashKind.TheVariants.{Sha256, Identity}

-- what is made of a number at the front of bytes and of the bytes behind it
abbrev pub with_number : Option (ℕ × List ℕ) → (ℕ → List ℕ → Option CidParts) → Option CidParts
with_number None make = None
with_number (Some found) make = make found.0 found.1

-- the codec and the hash of a number
abbrev pub with_codec : ℕ → (Codec → Option CidParts) → Option CidParts
with_codec code make = if code == 0x55 then make Raw else if code == 0x70 then make DagPb else None

abbrev pub with_hash : ℕ → (HashKind → Option CidParts) → Option CidParts
with_hash code make = if code == 0x12 then make Sha256 else if code == 0x00 then make Identity else None

-- a CID with a digest of the size that its hash gives
abbrev pub is_digest_size : HashKind → ℕ → Bool
is_digest_size Sha256 size = size == 32
is_digest_size Identity size = nat_le size max_digest_len

abbrev pub with_digest : ℕ → Codec → HashKind → ℕ → List ℕ → Option CidParts
with_digest version codec hash size digest =
    if is_digest_size hash size && length digest == size
    then Some (record { version = version; codec = codec; hash = hash; digest = digest })
    else None

-- a CIDv1: the numbers 1, the codec's, the hash's and the digest's length, and the digest
abbrev pub size_then : Codec → HashKind → List ℕ → Option CidParts
size_then codec hash bytes = with_number (front_number bytes) (λ size digest. with_digest 1 codec hash size digest)

abbrev pub hash_then : Codec → List ℕ → Option CidParts
hash_then codec bytes =
    with_number (front_number bytes) (λ code rest. with_hash code (λ hash. size_then codec hash rest))

abbrev pub codec_then : List ℕ → Option CidParts
codec_then bytes = with_number (front_number bytes) (λ code rest. with_codec code (λ codec. hash_then codec rest))

abbrev pub version_one : List ℕ → Option CidParts
version_one bytes = with_number (front_number bytes) (λ version rest. if version == 1 then codec_then rest else None)

-- the CID of the bytes: 0x12, 0x20 and the digest of a CIDv0, or those of a CIDv1
unfoldable pub cid_of : List ℕ → Option CidParts
cid_of [] = None
cid_of (first ∷ []) = None
cid_of (first ∷ second ∷ rest) =
    if first == 0x12 && second == 0x20 then with_digest 0 DagPb Sha256 32 rest else version_one (first ∷ second ∷ rest)

-- the bytes of a CID as a CIDv1: its version, codec and hash are one byte each, and the digest's length is a varint
abbrev pub v1_bytes : CidParts → List ℕ
v1_bytes cid = 1 ∷ codec_code cid.codec ∷ hash_code cid.hash ∷ (varint (length cid.digest) ++ cid.digest)

-- the text of a CID as a CIDv1: the letter of multibase base 32, and those bytes in base 32
unfoldable pub cid_text : CidParts → List ℕ
cid_text cid = 98 ∷ base32 (v1_bytes cid)
