-- From a CID at the front of bytes, or a cause of a refusal, to the answer of a CIDv1's reading.
use Rattle.std.proofs.Common.{◌≡◌, ◌≢◌, ℕ, ◌+◌, ◌<◌, List, [], ◌∷◌, ◌++◌, length, take, drop, Ok, Err, refl, ap, ap₂, sym, ◌∙◌, subst, inl, inr, arith}
use Rattle.std.proofs.lemmas.List.{append_assoc, length-append, take_at}
use Rattle.tg_cid.specs.Cid.{CidParts}
use Rattle.tg_cid.specs.Faults.{IsCodec, IsHash, MayBegin, Follows, EndsInDigest}
use Rattle.tg_cid.specs.Reading.{Answer, NoNumberAt, DigestThen, ReadsAsOne}
use Rattle.tg_cid.specs.Spelling.{CidV1Bytes, IsDigestSize, codec_code, hash_code}
use Rattle.tg_cid.specs.declared.cid.Codec.{Codec}
use Rattle.tg_cid.specs.declared.cid.Codec.TheVariants.{Raw, DagPb}
use Rattle.tg_cid.specs.declared.cid.HashKind.{HashKind}
use Rattle.tg_cid.specs.declared.fault.CidFault.{CidFault}
use Rattle.tg_cid.specs.declared.fault.CidFault.TheVariants as faults
use Rattle.tg_cid.proofs.Places.{Stand, stand, first, none_stand, rest_is}

pub codec_with : (number : ℕ) → IsCodec number → (codec : Codec) × (number ≡ codec_code codec)
codec_with number (inl e) = (Raw, e)
codec_with number (inr e) = (DagPb, e)

pub bad_version : (bytes : List ℕ) (number at : ℕ) (rest : List ℕ) → Follows (number ∷ []) bytes at rest → (number ≢ 1)
    → ReadsAsOne bytes (Err (faults.BadVersion number))
bad_version bytes number at rest f wrong =
    let a = first (stand f) in
    inr (number, a.next, a.here, inl (wrong, refl))

pub bad_codec : (bytes : List ℕ) (number at : ℕ) (rest : List ℕ) → Follows (1 ∷ number ∷ []) bytes at rest → (IsCodec number → ⊥)
    → ReadsAsOne bytes (Err (faults.BadCodec number))
bad_codec bytes number at rest f wrong =
    let a = first (stand f) in
    let b = first a.others in
    inr (1, a.next, a.here, inr (refl, inr (number, b.next, b.here, inl (wrong, refl))))

pub bad_hash : (bytes : List ℕ) (codec number at : ℕ) (rest : List ℕ) → IsCodec codec → Follows (1 ∷ codec ∷ number ∷ []) bytes at rest
    → (IsHash number → ⊥) → ReadsAsOne bytes (Err (faults.BadHash number))
bad_hash bytes codec number at rest is f wrong =
    let a = first (stand f) in
    let b = first a.others in
    let d = first b.others in
    let k = codec_with codec is in
    inr (1, a.next, a.here, inr (refl, inr (codec, b.next, b.here, inr (k.0, k.1, inr (number, d.next, d.here, inl (wrong, refl))))))

pub bad_size : (bytes : List ℕ) (codec : ℕ) (hash : HashKind) (number at : ℕ) (rest : List ℕ) → IsCodec codec
    → Follows (1 ∷ codec ∷ hash_code hash ∷ number ∷ []) bytes at rest → (IsDigestSize hash number → ⊥)
    → ReadsAsOne bytes (Err (faults.BadLength number))
bad_size bytes codec hash number at rest is f wrong =
    let a = first (stand f) in
    let b = first a.others in
    let d = first b.others in
    let e = first d.others in
    let k = codec_with codec is in
    let sized = inr (number, e.next, e.here, inl (wrong, refl)) in
    let hashed = inr (hash_code hash, d.next, d.here, inr (hash, refl, sized)) in
    inr (1, a.next, a.here, inr (refl, inr (codec, b.next, b.here, inr (k.0, k.1, hashed))))

-- all four numbers are good, so the digest tells
at_digest : (bytes : List ℕ) (codec : Codec) (hash : HashKind) (size at : ℕ) (rest : List ℕ) (r : Answer) → IsDigestSize hash size
    → Stand (1 ∷ codec_code codec ∷ hash_code hash ∷ size ∷ []) bytes 0 at rest → DigestThen 1 codec hash size bytes at r
    → ReadsAsOne bytes r
at_digest bytes codec hash size at rest r is s h =
    let a = first s in
    let b = first a.others in
    let d = first b.others in
    let e = first d.others in
    let here : DigestThen 1 codec hash size bytes e.next r =
    subst (λ (n : ℕ). DigestThen 1 codec hash size bytes n r) (none_stand e.others) h in
    let sized = inr (size, e.next, e.here, inr (is, here)) in
    let hashed = inr (hash_code hash, d.next, d.here, inr (hash, refl, sized)) in
    inr (1, a.next, a.here, inr (refl, inr (codec_code codec, b.next, b.here, inr (codec, refl, hashed))))

pub short_digest : (bytes : List ℕ) → EndsInDigest bytes → ReadsAsOne bytes (Err (faults.Short (length bytes)))
short_digest bytes h =
    let k = codec_with h.codec h.codec_is in
    let f : Follows (1 ∷ codec_code k.0 ∷ hash_code h.hash ∷ h.size ∷ []) bytes h.at h.rest =
    subst (λ (n : ℕ). Follows (1 ∷ n ∷ hash_code h.hash ∷ h.size ∷ []) bytes h.at h.rest) k.1 h.follows in
    let few : length h.rest < h.size = h.fewer in
    let place : h.at ≡ length f.front = f.at_is in
    let long : length bytes ≡ length f.front + length h.rest = ap length f.whole ∙ length-append f.front h.rest in
    at_digest bytes k.0 h.hash h.size h.at h.rest _ h.size_is (stand f) (inl (omega arith, refl))

-- no number is spelled behind good ones
pub no_number : (bytes numbers : List ℕ) (at : ℕ) (rest : List ℕ) (fault : CidFault) → MayBegin numbers → Stand numbers bytes 0 at rest
    → NoNumberAt bytes at fault → ReadsAsOne bytes (Err fault)
no_number bytes [] at rest fault begins s wrong =
    inl (fault, refl, subst (λ (n : ℕ). NoNumberAt bytes n fault) (none_stand s) wrong)
no_number bytes (v ∷ []) at rest fault begins s wrong =
    let a = first s in
    inr (v, a.next, a.here, inr (begins, inl (fault, refl, subst (λ (n : ℕ). NoNumberAt bytes n fault) (none_stand a.others) wrong)))
no_number bytes (v ∷ c ∷ []) at rest fault begins s wrong =
    let a = first s in
    let b = first a.others in
    let k = codec_with c begins.1 in
    inr (
      v,
      a.next,
      a.here,
      inr (
        begins.0,
        inr (
          c,
          b.next,
          b.here,
          inr (
            k.0,
            k.1,
            inl (fault, refl, subst (λ (n : ℕ). NoNumberAt bytes n fault) (none_stand b.others) wrong),
          ),
        ),
      ),
    )
no_number bytes (v ∷ c ∷ h ∷ []) at rest fault begins s wrong =
    let a = first s in
    let b = first a.others in
    let d = first b.others in
    let k = codec_with c begins.1 in
    inr (
      v,
      a.next,
      a.here,
      inr (
        begins.0,
        inr (
          c,
          b.next,
          b.here,
          inr (
            k.0,
            k.1,
            inr (
              h,
              d.next,
              d.here,
              inr (
                begins.2.0,
                begins.2.1,
                inl (fault, refl, subst (λ (n : ℕ). NoNumberAt bytes n fault) (none_stand d.others) wrong),
              ),
            ),
          ),
        ),
      ),
    )
no_number bytes (v ∷ c ∷ h ∷ n ∷ more) at rest fault begins s wrong = absurd begins

-- two CIDs with the same parts
pub equal_parts : (a b : CidParts) → a.version ≡ b.version → a.codec ≡ b.codec → a.hash ≡ b.hash → a.digest ≡ b.digest → a ≡ b
equal_parts a b v c h d =
    ap (λ (x : ℕ). record { version = x; codec = a.codec; hash = a.hash; digest = a.digest }) v
    ∙ (ap (λ (x : Codec). record { version = b.version; codec = x; hash = a.hash; digest = a.digest }) c
    ∙ (ap (λ (x : HashKind). record { version = b.version; codec = b.codec; hash = x; digest = a.digest }) h
    ∙ ap (λ (x : List ℕ). record { version = b.version; codec = b.codec; hash = b.hash; digest = x }) d))

pub found_one : (cid : CidParts) (bytes front rest : List ℕ) → CidV1Bytes cid front → bytes ≡ front ++ rest
    → ReadsAsOne bytes (Ok (cid, length front))
found_one cid bytes front rest h e =
    let size = length cid.digest in
    let whole : bytes ≡ h.head ++ (cid.digest ++ rest) = e ∙ (ap (λ l. l ++ rest) h.whole ∙ append_assoc h.head cid.digest rest) in
    let f : Follows (1 ∷ codec_code cid.codec ∷ hash_code cid.hash ∷ size ∷ []) bytes (length h.head) (cid.digest ++ rest) =
    record { front = h.head; whole = whole; at_is = refl; spelled = h.numbers } in
    let here : drop (length h.head) bytes ≡ cid.digest ++ rest = sym (rest_is f) in
    let digest : cid.digest ≡ take size (drop (length h.head) bytes) = sym (ap (λ l. take size l) here ∙ take_at cid.digest rest size refl) in
    let cids : cid ≡ record { version = 1; codec = cid.codec; hash = cid.hash; digest = take size (drop (length h.head) bytes) } =
    equal_parts cid _ h.version refl refl digest in
    let end : length front ≡ length h.head + size = ap length h.whole ∙ length-append h.head cid.digest in
    let long : length bytes ≡ length front + length rest = ap length e ∙ length-append front rest in
    at_digest bytes cid.codec cid.hash size (length h.head) (cid.digest ++ rest) _ h.size (stand f)
    (inr (omega arith, ap₂ (λ (x : CidParts) (n : ℕ). Ok (x, n)) cids end))
