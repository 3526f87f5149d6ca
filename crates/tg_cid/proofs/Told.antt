-- What an answer that the bytes tell says of them.
use Rattle.std.proofs.Common.{◌≡◌, ℕ, ◌+◌, ◌<◌, ◌≤◌, List, [], ◌∷◌, ◌++◌, length, take, drop, All, refl, ap, sym, ◌∙◌, subst, inl, inr, arith}
use Rattle.std.specs.Prelude.{MatchResult}
use Rattle.std.proofs.Math.Seq.{take-add}
use Rattle.std.proofs.lemmas.List.{length-append, length-drop, length-take-le, take_at}
use Rattle.std.proofs.lemmas.List.Elements.{All-take, All-drop}
use Rattle.tg_cid.specs.Faults.{MayBegin, Follows, IsVersionZero, HasPrefixCause}
use Rattle.tg_cid.specs.Reading.{Answer, NoNumberAt, DigestThen, SizeThen, HashThen, CodecThen, ReadsAsOne}
use Rattle.tg_cid.specs.Spelling.{CidBytes, IsDigestSize, Varints, codec_code, hash_code}
use Rattle.tg_cid.specs.declared.cid.HashKind.{HashKind}
use Rattle.tg_cid.specs.declared.cid.Codec.{Codec}
use Rattle.tg_cid.specs.declared.fault.CidFault.{CidFault}
use Rattle.tg_cid.proofs.Places.{follows_none, follows_more}
use Rattle.tg_cid.specs.CodeLaws.{code_is}

-- the CID stands at the front, or the cause of the refusal holds
abbrev pub Told : List ℕ → Answer → Type 0
Told bytes answer = MatchResult answer (λ found. (found.1 ≤ length bytes) × CidBytes found.0 (take found.1 bytes)) (HasPrefixCause bytes)

told_fault : (bytes numbers : List ℕ) (at : ℕ) (fault : CidFault) → (IsVersionZero bytes → ⊥) → MayBegin numbers
    → Follows numbers bytes at (drop at bytes) → NoNumberAt bytes at fault → HasPrefixCause bytes fault
told_fault bytes numbers at fault other begins f (inl p) =
    subst (HasPrefixCause bytes) (sym p.0) (
      refl,
      inr (inl (record {
        numbers = numbers;
        at = at;
        rest = drop at bytes;
        other = other;
        begins = begins;
        follows = f;
        ends = p.1;
      })),
    )
told_fault bytes numbers at fault other begins f (inr p) =
    subst (HasPrefixCause bytes) (sym p.0) (record { numbers = numbers; rest = drop at bytes; begins = begins; follows = f; bad = p.1 })

-- a CIDv1's digest
told_digest : (codec : Codec) (hash : HashKind) (size : ℕ) (bytes : List ℕ) (at : ℕ) (r : Answer) → IsDigestSize hash size
    → All (λ b. b < 256) bytes → Follows (1 ∷ codec_code codec ∷ hash_code hash ∷ size ∷ []) bytes at (drop at bytes)
    → DigestThen 1 codec hash size bytes at r → Told bytes r
told_digest codec hash size bytes at r is are_bytes f (inl a) =
    let few : length bytes < at + size = a.0 in
    let start : at ≡ length f.front = f.at_is in
    let long : length bytes ≡ length f.front + length (drop at bytes) = ap length f.whole ∙ length-append f.front (drop at bytes) in
    subst (Told bytes) (sym a.1) (
      refl,
      inr (inr (record {
        codec = codec_code codec;
        hash = hash;
        size = size;
        at = at;
        rest = drop at bytes;
        codec_is = code_is codec;
        size_is = is;
        follows = f;
        fewer = omega arith;
      })),
    )
told_digest codec hash size bytes at r is are_bytes f (inr a) =
    let enough : at + size ≤ length bytes = a.0 in
    let long : length (take size (drop at bytes)) ≡ size = length-take-le size (drop at bytes) (omega (arith, length-drop at bytes)) in
    let front : take at bytes ≡ f.front = ap (λ l. take at l) f.whole ∙ take_at f.front (drop at bytes) at (sym f.at_is) in
    subst (Told bytes) (sym a.1) (
      enough,
      inr (record {
        version = refl;
        size = subst (λ (n : ℕ). IsDigestSize hash n) (sym long) is;
        are_bytes = All-take (λ b. b < 256) size (drop at bytes) (All-drop (λ b. b < 256) at bytes are_bytes);
        head = f.front;
        numbers = subst (λ (n : ℕ). Varints (1 ∷ codec_code codec ∷ hash_code hash ∷ n ∷ []) f.front) (sym long) f.spelled;
        whole = take-add at size bytes ∙ ap (λ l. l ++ take size (drop at bytes)) front;
      }),
    )

told_size : (codec : Codec) (hash : HashKind) (bytes : List ℕ) (at : ℕ) (r : Answer) → (IsVersionZero bytes → ⊥)
    → All (λ b. b < 256) bytes → Follows (1 ∷ codec_code codec ∷ hash_code hash ∷ []) bytes at (drop at bytes)
    → SizeThen codec hash bytes at r → Told bytes r
told_size codec hash bytes at r other are_bytes f (inl a) =
    subst (Told bytes) (sym a.1) (told_fault bytes _ at a.0 other (refl, code_is codec, (hash, refl)) f a.2)
told_size codec hash bytes at r other are_bytes f (inr a) =
    let more : Follows (1 ∷ codec_code codec ∷ hash_code hash ∷ a.0 ∷ []) bytes a.1 (drop a.1 bytes) = follows_more f a.2 in
    elim a.3 [
      | inl p ↦ subst (Told bytes) (sym p.1) (codec_code codec, hash, code_is codec, record { at = a.1; rest = drop a.1 bytes; other = other; follows = more }, p.0)
      | inr p ↦ told_digest codec hash a.0 bytes a.1 r p.0 are_bytes more p.1
    ]

told_hash : (codec : Codec) (bytes : List ℕ) (at : ℕ) (r : Answer) → (IsVersionZero bytes → ⊥) → All (λ b. b < 256) bytes
    → Follows (1 ∷ codec_code codec ∷ []) bytes at (drop at bytes) → HashThen codec bytes at r → Told bytes r
told_hash codec bytes at r other are_bytes f (inl a) =
    subst (Told bytes) (sym a.1) (told_fault bytes _ at a.0 other (refl, code_is codec) f a.2)
told_hash codec bytes at r other are_bytes f (inr a) =
    let more : Follows (1 ∷ codec_code codec ∷ a.0 ∷ []) bytes a.1 (drop a.1 bytes) = follows_more f a.2 in
    elim a.3 [
      | inl p ↦ subst (Told bytes) (sym p.1) (codec_code codec, code_is codec, record { at = a.1; rest = drop a.1 bytes; other = other; follows = more }, p.0)
      | inr p ↦
          told_size codec p.0 bytes a.1 r other are_bytes
          (subst (λ (n : ℕ). Follows (1 ∷ codec_code codec ∷ n ∷ []) bytes a.1 (drop a.1 bytes)) p.1 more) p.2
    ]

told_codec : (bytes : List ℕ) (at : ℕ) (r : Answer) → (IsVersionZero bytes → ⊥) → All (λ b. b < 256) bytes
    → Follows (1 ∷ []) bytes at (drop at bytes) → CodecThen bytes at r → Told bytes r
told_codec bytes at r other are_bytes f (inl a) = subst (Told bytes) (sym a.1) (told_fault bytes _ at a.0 other refl f a.2)
told_codec bytes at r other are_bytes f (inr a) =
    let more : Follows (1 ∷ a.0 ∷ []) bytes a.1 (drop a.1 bytes) = follows_more f a.2 in
    elim a.3 [
      | inl p ↦ subst (Told bytes) (sym p.1) (record { at = a.1; rest = drop a.1 bytes; other = other; follows = more }, p.0)
      | inr p ↦
          told_hash p.0 bytes a.1 r other are_bytes
          (subst (λ (n : ℕ). Follows (1 ∷ n ∷ []) bytes a.1 (drop a.1 bytes)) p.1 more) p.2
    ]

pub told_one : (bytes : List ℕ) (r : Answer) → (IsVersionZero bytes → ⊥) → All (λ b. b < 256) bytes → ReadsAsOne bytes r → Told bytes r
told_one bytes r other are_bytes (inl a) = subst (Told bytes) (sym a.1) (told_fault bytes [] 0 a.0 other tt (follows_none bytes) a.2)
told_one bytes r other are_bytes (inr a) =
    let more : Follows (a.0 ∷ []) bytes a.1 (drop a.1 bytes) = follows_more (follows_none bytes) a.2 in
    elim a.3 [
      | inl p ↦ subst (Told bytes) (sym p.1) (record { at = a.1; rest = drop a.1 bytes; other = other; follows = more }, p.0)
      | inr p ↦
          told_codec bytes a.1 r other are_bytes
          (subst (λ (n : ℕ). Follows (n ∷ []) bytes a.1 (drop a.1 bytes)) p.0 more) p.1
    ]
