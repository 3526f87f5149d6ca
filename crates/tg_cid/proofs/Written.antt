-- The bytes that are written spell the CID.
use Rattle.std.proofs.Common.{◌≡◌, ℕ, ◌<◌, ◌≤◌, List, [], ◌∷◌, ◌++◌, length, All, refl, sym, subst, arith}
use Rattle.std.proofs.lemmas.List.{append-nil}
use Rattle.tg_varint.specs.Laws.{SpellingLaws}
use Rattle.tg_varint.specs.Varint.{VarintSpelling}
use Rattle.tg_cid.specs.Cid.{CidParts}
use Rattle.tg_cid.specs.Spelling.{CidV1Bytes, IsDigestSize, Varints, codec_code, hash_code}
use Rattle.tg_cid.specs.declared.cid.HashKind.{HashKind}
use Rattle.tg_cid.specs.declared.cid.HashKind.TheVariants.{Sha256, Identity}
use Rattle.tg_cid.specs.CodeLaws.{codec_below, hash_below}

pub size_most : (hash : HashKind) (size : ℕ) → IsDigestSize hash size → size ≤ 128
size_most Sha256 size h = omega arith
size_most Identity size h = h

four_numbers : SpellingLaws → (cid : CidParts) (spelling : List ℕ) → VarintSpelling (length cid.digest) spelling
    → Varints (1 ∷ codec_code cid.codec ∷ hash_code cid.hash ∷ length cid.digest ∷ [])
    (1 ∷ codec_code cid.codec ∷ hash_code cid.hash ∷ spelling)
four_numbers laws cid spelling v =
    let code = codec_code cid.codec in
    let hash = hash_code cid.hash in (
      1 ∷ [],
      code ∷ hash ∷ spelling,
      refl,
      laws.one_byte 1 (omega arith),
      (
        code ∷ [],
        hash ∷ spelling,
        refl,
        laws.one_byte code (codec_below cid.codec),
        (hash ∷ [], spelling, refl, laws.one_byte hash (hash_below cid.hash), (spelling, [], sym (append-nil spelling), v, refl)),
      ),
    )

pub one_written : SpellingLaws → (cid : CidParts) (spelling bytes : List ℕ) → IsDigestSize cid.hash (length cid.digest)
    → All (λ b. b < 256) cid.digest → VarintSpelling (length cid.digest) spelling
    → bytes ≡ 1 ∷ codec_code cid.codec ∷ hash_code cid.hash ∷ (spelling ++ cid.digest) → CidV1Bytes (record cid { version = 1 }) bytes
one_written laws cid spelling bytes size are_bytes v e = record {
  version = refl;
  size = size;
  are_bytes = are_bytes;
  head = 1 ∷ codec_code cid.codec ∷ hash_code cid.hash ∷ spelling;
  numbers = four_numbers laws cid spelling v;
  whole = e;
}

pub same_version : (cid : CidParts) (bytes : List ℕ) → cid.version ≡ 1 → CidV1Bytes (record cid { version = 1 }) bytes → CidV1Bytes cid bytes
same_version cid bytes e h =
    subst (λ (n : ℕ). CidV1Bytes (record { version = n; codec = cid.codec; hash = cid.hash; digest = cid.digest }) bytes) (sym e) h
