-- What holds of the numbers of codecs and hashes, of the tests whether two are equal, and of digests.
use Rattle.std.proofs.Common.{◌≡◌, ℕ, ◌<◌, Bool, true, false, List, length, refl, ap, inl, inr, length-append}
use Rattle.std.proofs.Common.{append_assoc, append-nil, bytes_eq, Decides, eq-eqb, eqb-true, le-leb, leb-true, subst, sym, ◌==◌, ◌&&◌, ◌∙◌, [], ◌∷◌, ◌++◌, arith}
use Rattle.std.proofs.lemmas.Bool.{and_from, and_parts}
use Rattle.std.proofs.lemmas.Slice.Eq.{bytes_eq-Decides}
use Rattle.std.specs.Coded.{Coded-set, coded_list, coded_ℕ}
use Rattle.tg_cid.specs.Cid.{CidParts}
use Rattle.tg_cid.specs.Computed.{is_digest_size, v1_bytes}
use Rattle.tg_cid.specs.Names.{IsDigestOf, Names}
use Rattle.tg_cid.specs.Faults.{IsCodec}
use Rattle.tg_cid.specs.Limits.{max_digest_len}
use Rattle.tg_cid.specs.Spelling.{IsDigestSize, Varints, codec_code, hash_code}
use Rattle.tg_cid.specs.declared.cid.Codec.{Codec}
use Rattle.tg_cid.specs.declared.cid.Codec.TheVariants.{Raw, DagPb}
use Rattle.tg_cid.specs.declared.cid.HashKind.{HashKind}
use Rattle.tg_cid.specs.declared.cid.HashKind.TheVariants.{Sha256, Identity}
use Rattle.tg_varint.specs.Computed.{varint}
use Rattle.tg_varint.specs.Varint.{VarintSpelling}

-- ---- numbers

-- the numbers of codecs and of hashes are varints of one byte
pub codec_below : (codec : Codec) → codec_code codec < 128
codec_below Raw = omega arith
codec_below DagPb = omega arith

pub hash_below : (hash : HashKind) → hash_code hash < 128
hash_below Sha256 = omega arith
hash_below Identity = omega arith

-- a codec's number is one of a codec
pub code_is : (codec : Codec) → IsCodec (codec_code codec)
code_is Raw = inl refl
code_is DagPb = inr refl

-- the test decides whether a digest has the size
pub size_decides : (hash : HashKind) (size : ℕ) → Decides (is_digest_size hash size) (IsDigestSize hash size)
size_decides Sha256 size = (eqb-true size 32, eq-eqb size 32)
size_decides Identity size = (leb-true size max_digest_len, le-leb size max_digest_len)

-- one number more behind others
pub varints_push : (numbers front : List ℕ) (number : ℕ) (spelling : List ℕ) → Varints numbers front
    → VarintSpelling number spelling
    → Varints (numbers ++ number ∷ []) (front ++ spelling)
varints_push [] front number spelling e v =
    (spelling, [], ap (λ (l : List ℕ). l ++ spelling) e ∙ sym (append-nil spelling), v, refl)
varints_push (n ∷ numbers) front number spelling h v = (
  h.0,
  h.1 ++ spelling,
  ap (λ (l : List ℕ). l ++ spelling) h.2 ∙ append_assoc h.0 h.1 spelling,
  h.3,
  varints_push numbers h.1 number spelling h.4 v,
)

-- a digest of 32 bytes makes 36 bytes of a CIDv1
pub v1_length : (cid : CidParts) → length cid.digest ≡ 32 → length (v1_bytes cid) ≡ 36
v1_length cid size =
    let joined = length-append (varint (length cid.digest)) cid.digest in
    let number : length (varint (length cid.digest)) ≡ 1 = ap (λ (n : ℕ). length (varint n)) size in
    omega (arith, joined, number, size)

-- ---- tests

-- whether two codecs are equal
abbrev pub same_codec : Codec → Codec → Bool
same_codec Raw Raw = true
same_codec Raw DagPb = false
same_codec DagPb Raw = false
same_codec DagPb DagPb = true

-- whether two hashes are equal
abbrev pub same_hash : HashKind → HashKind → Bool
same_hash Sha256 Sha256 = true
same_hash Sha256 Identity = false
same_hash Identity Sha256 = false
same_hash Identity Identity = true

pub same_codec_is : (a b : Codec) → same_codec a b ≡ true → a ≡ b
same_codec_is Raw Raw h = refl
same_codec_is Raw DagPb h = cc
same_codec_is DagPb Raw h = cc
same_codec_is DagPb DagPb h = refl

pub same_codec_self : (a : Codec) → same_codec a a ≡ true
same_codec_self Raw = refl
same_codec_self DagPb = refl

pub same_hash_is : (a b : HashKind) → same_hash a b ≡ true → a ≡ b
same_hash_is Sha256 Sha256 h = refl
same_hash_is Sha256 Identity h = cc
same_hash_is Identity Sha256 h = cc
same_hash_is Identity Identity h = refl

pub same_hash_self : (a : HashKind) → same_hash a a ≡ true
same_hash_self Sha256 = refl
same_hash_self Identity = refl

-- whether two CIDs are equal: their versions, codecs, hashes and digests are
abbrev pub same_cid : CidParts → CidParts → Bool
same_cid a b = (a.version == b.version)
    && (same_codec a.codec b.codec && (same_hash a.hash b.hash && bytes_eq a.digest b.digest))

pub same_cid_decides : (a b : CidParts) → Decides (same_cid a b) (a ≡ b)
same_cid_decides a b = (to, from)
  where
    to : same_cid a b ≡ true → a ≡ b
    to h =
        let versions = and_parts _ _ h in
        let codecs = and_parts _ _ versions.1 in
        let hashes = and_parts _ _ codecs.1 in
        let version : a.version ≡ b.version = eqb-true a.version b.version versions.0 in
        let codec : a.codec ≡ b.codec = same_codec_is a.codec b.codec codecs.0 in
        let hash : a.hash ≡ b.hash = same_hash_is a.hash b.hash hashes.0 in
        let digest : a.digest ≡ b.digest = (bytes_eq-Decides a.digest b.digest).0 hashes.1 in
        λ i. record { version = version i; codec = codec i; hash = hash i; digest = digest i }

    from : a ≡ b → same_cid a b ≡ true
    from e = subst (λ (c : CidParts). same_cid a c ≡ true) e
        (and_from _ _ (eq-eqb a.version a.version refl)
        (and_from _ _ (same_codec_self a.codec) (and_from _ _ (same_hash_self a.hash) ((bytes_eq-Decides a.digest a.digest).1 refl))))

-- ---- digests

digest-prop : (hash : HashKind) (digest block : List ℕ) → IsProp (IsDigestOf hash digest block)
digest-prop Sha256 digest block = Coded-set (coded_list coded_ℕ) _ _
digest-prop Identity digest block = Coded-set (coded_list coded_ℕ) _ _

-- that a CID names a block has one proof
pub Names-prop : (cid : CidParts) (block : List ℕ) → IsProp (Names cid block)
Names-prop cid block = digest-prop cid.hash cid.digest block
