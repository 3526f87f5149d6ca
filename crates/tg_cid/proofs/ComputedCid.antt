-- The CID that is computed of bytes is theirs, and the bytes and the text that are computed of a CID are its own.
use Rattle.std.proofs.Common.{◌≡◌, ℕ, ◌<◌, ◌≤◌, Option, Some, None, List, [], ◌∷◌, ◌++◌, length, All, refl, sym, ap, ◌∙◌, append_assoc, subst, inl, inr, arith}
use Rattle.std.specs.Prelude.{◌↔◌, ◌==◌, ◌&&◌, if◌then◌else◌}
use Rattle.std.proofs.lemmas.Bool.{cond_both, cond-true, eqb-true, eq-eqb, and_parts, and_from}
use Rattle.std.proofs.lemmas.List.{append-nil, length-append}
use Rattle.tg_base32.specs.Laws.{TextLaws}
use Rattle.tg_varint.specs.Computed.{varint, front_number}
use Rattle.tg_varint.specs.Laws.{SpellingLaws}
use Rattle.tg_varint.specs.Varint.{VarintSpelling}
use Rattle.tg_bytes.specs.Lists.{AreBytes, behind_parts, rest_bytes}
use Rattle.tg_cid.specs.Cid.{CidParts}
use Rattle.tg_cid.specs.Spelling.{CidBytes, CidV1Bytes, CidText, IsDigestSize, Varints, codec_code, hash_code}
use Rattle.tg_cid.specs.Computed.{with_number, with_codec, with_hash, is_digest_size, with_digest, size_then, hash_then, codec_then, version_one, cid_of, v1_bytes, cid_text}
use Rattle.tg_cid.specs.declared.cid.Codec.{Codec}
use Rattle.tg_cid.specs.declared.cid.Codec.TheVariants.{Raw, DagPb}
use Rattle.tg_cid.specs.declared.cid.HashKind.{HashKind}
use Rattle.tg_cid.specs.declared.cid.HashKind.TheVariants.{Sha256, Identity}
use Rattle.tg_cid.proofs.Causes.{equal_parts}
use Rattle.tg_cid.proofs.Lengths.{name_bytes}
use Rattle.tg_cid.proofs.Prefix.{one_is}
use Rattle.tg_cid.proofs.Written.{size_most, one_written}
use Rattle.tg_cid.specs.CodeLaws.{size_decides}

-- ---- the CID of bytes is theirs

-- the digest of a CID behind the numbers that are still to come, which are its own
record ToldRest (numbers : CidParts → List ℕ) (bytes : List ℕ) (cid : CidParts) : Type 0 where
  version : cid.version ≡ 1
  size : IsDigestSize cid.hash (length cid.digest)
  are_bytes : AreBytes cid.digest
  head : List ℕ
  spelled : Varints (numbers cid) head
  whole : bytes ≡ head ++ cid.digest

-- one number more in front
in_front : (number : CidParts → ℕ) (numbers : CidParts → List ℕ) (bytes a rest : List ℕ) (n : ℕ) (cid : CidParts) → bytes ≡ a ++ rest
    → VarintSpelling n a → n ≡ number cid → ToldRest numbers rest cid → ToldRest (λ c. number c ∷ numbers c) bytes cid
in_front number numbers bytes a rest n cid e v same t = record {
  version = t.version;
  size = t.size;
  are_bytes = t.are_bytes;
  head = a ++ t.head;
  spelled = (a, t.head, refl, subst (λ (k : ℕ). VarintSpelling k a) same v, t.spelled);
  whole = e ∙ (ap (λ (l : List ℕ). a ++ l) t.whole ∙ sym (append_assoc a t.head cid.digest));
}

-- what a number at the front of bytes tells
number_told : SpellingLaws → (bytes : List ℕ) → AreBytes bytes → (make : ℕ → List ℕ → Option CidParts) (P : CidParts → Type 0)
    → ((n : ℕ) (a rest : List ℕ) → bytes ≡ a ++ rest → VarintSpelling n a → AreBytes rest → (cid : CidParts) → make n rest ≡ Some cid → P cid)
    → (o : Option (ℕ × List ℕ)) → front_number bytes ≡ o → (cid : CidParts) → with_number o make ≡ Some cid → P cid
number_told laws bytes are make P tell None e cid h = absurd cc
number_told laws bytes are make P tell (Some p) e cid h =
    let found = (laws.read bytes are p.0 p.1).0 e in
    tell p.0 found.0 p.1 found.1 found.2 (rest_bytes found.0 p.1 (subst AreBytes found.1 are)) cid h

some_is : (a b : CidParts) → ◌≡◌ {A = Option CidParts} (Some a) (Some b) → a ≡ b
some_is a b e = cc

digest_told : (version : ℕ) (codec : Codec) (hash : HashKind) (size : ℕ) (digest : List ℕ) (cid : CidParts)
    → with_digest version codec hash size digest ≡ Some cid
    → IsDigestSize hash size × (length digest ≡ size) × (record { version = version; codec = codec; hash = hash; digest = digest } ≡ cid)
digest_told version codec hash size digest cid =
    let known : CidParts = record { version = version; codec = codec; hash = hash; digest = digest } in
    cond_both (is_digest_size hash size && length digest == size) (Some known) None
    (λ (o : Option CidParts). o ≡ Some cid → IsDigestSize hash size × (length digest ≡ size) × (known ≡ cid))
    (λ t e.
    let both = and_parts (is_digest_size hash size) (length digest == size) t in
    ((size_decides hash size).0 both.0, eqb-true (length digest) size both.1, some_is known cid e))
    (λ f e. absurd cc)

abbrev sizes : CidParts → List ℕ
sizes cid = length cid.digest ∷ []

size_told : SpellingLaws → (codec : Codec) (hash : HashKind) (bytes : List ℕ) → AreBytes bytes → (cid : CidParts)
    → size_then codec hash bytes ≡ Some cid → (cid.codec ≡ codec) × (cid.hash ≡ hash) × ToldRest sizes bytes cid
size_told laws codec hash bytes are = number_told laws bytes are (λ size digest. with_digest 1 codec hash size digest)
    (λ cid. (cid.codec ≡ codec) × (cid.hash ≡ hash) × ToldRest sizes bytes cid)
    (λ size a digest e v digest_are cid h.
    let known = digest_told 1 codec hash size digest cid h in
    let one : CidParts = record { version = 1; codec = codec; hash = hash; digest = digest } in
    let is : one ≡ cid = known.2 in
    let told : ToldRest sizes bytes one = record {
      version = refl;
      size = subst (λ (n : ℕ). IsDigestSize hash n) (sym known.1) known.0;
      are_bytes = digest_are;
      head = a;
      spelled = (a, [], sym (append-nil a), subst (λ (n : ℕ). VarintSpelling n a) (sym known.1) v, refl);
      whole = e;
    } in
    (ap (λ (c : CidParts). c.codec) (sym is), ap (λ (c : CidParts). c.hash) (sym is), subst (λ (c : CidParts). ToldRest sizes bytes c) is told))
    (front_number bytes) refl

abbrev hashes : CidParts → List ℕ
hashes cid = hash_code cid.hash ∷ sizes cid

with_hash_told : (code : ℕ) (make : HashKind → Option CidParts) (cid : CidParts) → with_hash code make ≡ Some cid
    → (hash : HashKind) × (code ≡ hash_code hash) × (make hash ≡ Some cid)
with_hash_told code make cid = cond_both (code == 0x12) (make Sha256) (if code == 0x00 then make Identity else None)
    (λ (o : Option CidParts). o ≡ Some cid → (hash : HashKind) × (code ≡ hash_code hash) × (make hash ≡ Some cid))
    (λ t e. (Sha256, eqb-true code 0x12 t, e))
    (λ f. cond_both (code == 0x00) (make Identity) None
    (λ (o : Option CidParts). o ≡ Some cid → (hash : HashKind) × (code ≡ hash_code hash) × (make hash ≡ Some cid))
    (λ t e. (Identity, eqb-true code 0x00 t, e))
    (λ g e. absurd cc))

hash_told : SpellingLaws → (codec : Codec) (bytes : List ℕ) → AreBytes bytes → (cid : CidParts)
    → hash_then codec bytes ≡ Some cid → (cid.codec ≡ codec) × ToldRest hashes bytes cid
hash_told laws codec bytes are = number_told laws bytes are (λ code rest. with_hash code (λ hash. size_then codec hash rest))
    (λ cid. (cid.codec ≡ codec) × ToldRest hashes bytes cid)
    (λ code a rest e v rest_are cid h.
    let kind = with_hash_told code (λ hash. size_then codec hash rest) cid h in
    let told = size_told laws codec kind.0 rest rest_are cid kind.2 in
    (told.0, in_front (λ c. hash_code c.hash) sizes bytes a rest code cid e v (kind.1 ∙ ap hash_code (sym told.1)) told.2))
    (front_number bytes) refl

abbrev codes_of : CidParts → List ℕ
codes_of cid = codec_code cid.codec ∷ hashes cid

with_codec_told : (code : ℕ) (make : Codec → Option CidParts) (cid : CidParts) → with_codec code make ≡ Some cid
    → (codec : Codec) × (code ≡ codec_code codec) × (make codec ≡ Some cid)
with_codec_told code make cid = cond_both (code == 0x55) (make Raw) (if code == 0x70 then make DagPb else None)
    (λ (o : Option CidParts). o ≡ Some cid → (codec : Codec) × (code ≡ codec_code codec) × (make codec ≡ Some cid))
    (λ t e. (Raw, eqb-true code 0x55 t, e))
    (λ f. cond_both (code == 0x70) (make DagPb) None
    (λ (o : Option CidParts). o ≡ Some cid → (codec : Codec) × (code ≡ codec_code codec) × (make codec ≡ Some cid))
    (λ t e. (DagPb, eqb-true code 0x70 t, e))
    (λ g e. absurd cc))

codec_told : SpellingLaws → (bytes : List ℕ) → AreBytes bytes → (cid : CidParts) → codec_then bytes ≡ Some cid → ToldRest codes_of bytes cid
codec_told laws bytes are = number_told laws bytes are (λ code rest. with_codec code (λ codec. hash_then codec rest))
    (λ cid. ToldRest codes_of bytes cid)
    (λ code a rest e v rest_are cid h.
    let kind = with_codec_told code (λ codec. hash_then codec rest) cid h in
    let told = hash_told laws kind.0 rest rest_are cid kind.2 in
    in_front (λ c. codec_code c.codec) hashes bytes a rest code cid e v (kind.1 ∙ ap codec_code (sym told.0)) told.1)
    (front_number bytes) refl

one_told : SpellingLaws → (bytes : List ℕ) → AreBytes bytes → (cid : CidParts) → version_one bytes ≡ Some cid
    → ToldRest (λ c. 1 ∷ codes_of c) bytes cid
one_told laws bytes are = number_told laws bytes are (λ version rest. if version == 1 then codec_then rest else None)
    (λ cid. ToldRest (λ c. 1 ∷ codes_of c) bytes cid)
    (λ version a rest e v rest_are cid. cond_both (version == 1) (codec_then rest) None
    (λ (o : Option CidParts). o ≡ Some cid → ToldRest (λ c. 1 ∷ codes_of c) bytes cid)
    (λ t h. in_front (λ c. 1) codes_of bytes a rest version cid e v (eqb-true version 1 t) (codec_told laws rest rest_are cid h))
    (λ f h. absurd cc))
    (front_number bytes) refl

version_told : SpellingLaws → (bytes : List ℕ) → AreBytes bytes → (cid : CidParts) → version_one bytes ≡ Some cid → CidBytes cid bytes
version_told laws bytes are cid e =
    let t = one_told laws bytes are cid e in
    inr (record { version = t.version; size = t.size; are_bytes = t.are_bytes; head = t.head; numbers = t.spelled; whole = t.whole })

two : (a b x y : ℕ) (rest : List ℕ) → a ≡ x → b ≡ y → a ∷ b ∷ rest ≡ x ∷ y ∷ rest
two a b x y rest p q = cc

zero_told : (first second : ℕ) (digest : List ℕ) → AreBytes digest → first ≡ 0x12 → second ≡ 0x20 → (cid : CidParts)
    → with_digest 0 DagPb Sha256 32 digest ≡ Some cid → CidBytes cid (first ∷ second ∷ digest)
zero_told first second digest are p q cid e =
    let known = digest_told 0 DagPb Sha256 32 digest cid e in
    let zero : CidParts = record { version = 0; codec = DagPb; hash = Sha256; digest = digest } in
    subst (λ (c : CidParts). CidBytes c (first ∷ second ∷ digest)) known.2
    (inl (record { version = refl; codec = refl; hash = refl; size = known.1; are_bytes = are; whole = two first second 0x12 0x20 digest p q }))

cid_told : SpellingLaws → (bytes : List ℕ) → AreBytes bytes → (cid : CidParts) → cid_of bytes ≡ Some cid → CidBytes cid bytes
unfolding cid_of
cid_told laws [] are cid = λ e. absurd cc
cid_told laws (first ∷ []) are cid = λ e. absurd cc
cid_told laws (first ∷ second ∷ rest) are cid =
    cond_both (first == 0x12 && second == 0x20) (with_digest 0 DagPb Sha256 32 rest) (version_one (first ∷ second ∷ rest))
    (λ (o : Option CidParts). o ≡ Some cid → CidBytes cid (first ∷ second ∷ rest))
    (λ t e.
    let both = and_parts (first == 0x12) (second == 0x20) t in
    zero_told first second rest (rest_bytes (first ∷ second ∷ []) rest are) (eqb-true first 0x12 both.0) (eqb-true second 0x20 both.1) cid e)
    (λ f e. version_told laws (first ∷ second ∷ rest) are cid e)

-- ---- a CID that is spelled is computed

digest_computes : (cid : CidParts) (size : ℕ) → IsDigestSize cid.hash size → length cid.digest ≡ size
    → with_digest cid.version cid.codec cid.hash size cid.digest ≡ Some cid
digest_computes cid size is long =
    cond-true (is_digest_size cid.hash size && length cid.digest == size) (Some cid) None
    (and_from (is_digest_size cid.hash size) (length cid.digest == size) ((size_decides cid.hash size).1 is) (eq-eqb (length cid.digest) size long))

number_computes : SpellingLaws → (make : ℕ → List ℕ → Option CidParts) (n : ℕ) (a rest bytes : List ℕ) → AreBytes bytes → bytes ≡ a ++ rest → VarintSpelling n a
    → with_number (front_number bytes) make ≡ make n rest
number_computes laws make n a rest bytes are e v =
    ap (λ (o : Option (ℕ × List ℕ)). with_number o make) ((laws.read bytes are n rest).1 (a, e, v))

codec_computes : (codec : Codec) (make : Codec → Option CidParts) → with_codec (codec_code codec) make ≡ make codec
codec_computes Raw make = refl
codec_computes DagPb make = refl

hash_computes : (hash : HashKind) (make : HashKind → Option CidParts) → with_hash (hash_code hash) make ≡ make hash
hash_computes Sha256 make = refl
hash_computes Identity make = refl

version_computes : SpellingLaws → (cid : CidParts) (bytes : List ℕ) → AreBytes bytes → CidV1Bytes cid bytes → version_one bytes ≡ Some cid
version_computes laws cid bytes are h =
    let v = h.numbers in
    let w = v.4 in
    let x = w.4 in
    let y = x.4 in
    let first : bytes ≡ v.0 ++ (v.1 ++ cid.digest) = h.whole ∙ behind_parts v.0 v.1 cid.digest h.head v.2 in
    let second = behind_parts w.0 w.1 cid.digest v.1 w.2 in
    let third = behind_parts x.0 x.1 cid.digest w.1 x.2 in
    let fourth : x.1 ++ cid.digest ≡ y.0 ++ cid.digest =
    behind_parts y.0 y.1 cid.digest x.1 y.2 ∙ ap (λ (l : List ℕ). y.0 ++ (l ++ cid.digest)) y.4 in
    let first_are = rest_bytes v.0 (v.1 ++ cid.digest) (subst AreBytes first are) in
    let second_are = rest_bytes w.0 (w.1 ++ cid.digest) (subst AreBytes second first_are) in
    let third_are = rest_bytes x.0 (x.1 ++ cid.digest) (subst AreBytes third second_are) in
    let one : CidParts = record { version = 1; codec = cid.codec; hash = cid.hash; digest = cid.digest } in
    number_computes laws (λ version rest. if version == 1 then codec_then rest else None) 1 v.0 (v.1 ++ cid.digest) bytes are first v.3
    ∙ number_computes laws (λ code rest. with_codec code (λ codec. hash_then codec rest)) (codec_code cid.codec) w.0 (w.1 ++ cid.digest) (v.1 ++ cid.digest) first_are second w.3
    ∙ codec_computes cid.codec (λ codec. hash_then codec (w.1 ++ cid.digest))
    ∙ number_computes laws (λ code rest. with_hash code (λ hash. size_then cid.codec hash rest)) (hash_code cid.hash) x.0 (x.1 ++ cid.digest) (w.1 ++ cid.digest) second_are third x.3
    ∙ hash_computes cid.hash (λ hash. size_then cid.codec hash (x.1 ++ cid.digest))
    ∙ number_computes laws (λ size digest. with_digest 1 cid.codec cid.hash size digest) (length cid.digest) y.0 cid.digest (x.1 ++ cid.digest) third_are fourth y.3
    ∙ digest_computes one (length cid.digest) h.size refl
    ∙ ap (λ (c : CidParts). Some c) (sym (equal_parts cid one h.version refl refl refl))

zero_computes : (digest : List ℕ) → cid_of (0x12 ∷ 0x20 ∷ digest) ≡ with_digest 0 DagPb Sha256 32 digest
unfolding cid_of
zero_computes digest = refl

starts_computes : (bytes rest : List ℕ) → bytes ≡ 1 ∷ rest → (second : ℕ) (more : List ℕ) → rest ≡ second ∷ more → cid_of bytes ≡ version_one bytes
unfolding cid_of
starts_computes bytes rest e second more f =
    let whole : bytes ≡ 1 ∷ second ∷ more = e ∙ ap (λ (l : List ℕ). 1 ∷ l) f in
    subst (λ (l : List ℕ). cid_of l ≡ version_one l) (sym whole) refl

-- a spelling has a first byte
begins : (n : ℕ) (a rest : List ℕ) → VarintSpelling n a → (first : ℕ) × (more : List ℕ) × (a ++ rest ≡ first ∷ more)
begins n [] rest v = absurd (omega (arith, ap length v.whole, length-append v.front (v.last ∷ [])))
begins n (x ∷ a) rest v = (x, a ++ rest, refl)

cid_computes : SpellingLaws → (cid : CidParts) (bytes : List ℕ) → AreBytes bytes → CidBytes cid bytes → cid_of bytes ≡ Some cid
cid_computes laws cid bytes are (inl h) =
    let zero : CidParts = record { version = 0; codec = DagPb; hash = Sha256; digest = cid.digest } in
    ap cid_of h.whole ∙ zero_computes cid.digest ∙ digest_computes zero 32 refl h.size
    ∙ ap (λ (c : CidParts). Some c) (sym (equal_parts cid zero h.version h.codec h.hash refl))
cid_computes laws cid bytes are (inr h) =
    let v = h.numbers in
    let w = v.4 in
    let first : bytes ≡ 1 ∷ (v.1 ++ cid.digest) =
    h.whole ∙ behind_parts v.0 v.1 cid.digest h.head v.2 ∙ ap (λ (l : List ℕ). l ++ (v.1 ++ cid.digest)) (one_is laws v.0 v.3) in
    let second = begins (codec_code cid.codec) w.0 (w.1 ++ cid.digest) w.3 in
    starts_computes bytes (v.1 ++ cid.digest) first second.0 second.1 (behind_parts w.0 w.1 cid.digest v.1 w.2 ∙ second.2)
    ∙ version_computes laws cid bytes are h

pub cid_law : SpellingLaws → (cid : CidParts) (bytes : List ℕ) → All (λ (b : ℕ). b < 256) bytes → CidBytes cid bytes ↔ (cid_of bytes ≡ Some cid)
cid_law laws cid bytes are = (cid_computes laws cid bytes are, cid_told laws bytes are cid)

-- ---- the bytes and the text of a CIDv1

-- what the bytes of a CID say of its digest
digest_is : (cid : CidParts) (bytes : List ℕ) → CidBytes cid bytes → IsDigestSize cid.hash (length cid.digest) × AreBytes cid.digest
digest_is cid bytes (inl h) = (subst (λ (k : HashKind). IsDigestSize k (length cid.digest)) (sym h.hash) h.size, h.are_bytes)
digest_is cid bytes (inr h) = (h.size, h.are_bytes)

pub digest_size : (cid : CidParts) (bytes : List ℕ) → CidBytes cid bytes → IsDigestSize cid.hash (length cid.digest) × (length cid.digest ≤ 128)
digest_size cid bytes h = let d = digest_is cid bytes h in (d.0, size_most cid.hash (length cid.digest) d.0)

size_spelled : SpellingLaws → (hash : HashKind) (size : ℕ) → IsDigestSize hash size → VarintSpelling size (varint size)
size_spelled laws hash size is = laws.computed size (omega (arith, size_most hash size is))

pub bytes_law : SpellingLaws → (cid : CidParts) (bytes : List ℕ) → CidBytes cid bytes → CidV1Bytes (record cid { version = 1 }) (v1_bytes cid)
bytes_law laws cid bytes h =
    let d = digest_is cid bytes h in
    one_written laws cid (varint (length cid.digest)) (v1_bytes cid) d.0 d.1 (size_spelled laws cid.hash (length cid.digest) d.0) refl

pub text_law_of : SpellingLaws → TextLaws → (cid : CidParts) (bytes : List ℕ) → CidBytes cid bytes → CidText (record cid { version = 1 }) (cid_text cid)
unfolding cid_text
text_law_of laws texts cid bytes h =
    let one : CidParts = record { version = 1; codec = cid.codec; hash = cid.hash; digest = cid.digest } in
    let spelled = bytes_law laws cid bytes h in
    let base = texts.computed (v1_bytes cid) (name_bytes one (v1_bytes cid) (inr spelled)) in
    record { bytes = v1_bytes cid; in_base = record { letters = _; begins = refl; rest = base }; in_bytes = spelled }
