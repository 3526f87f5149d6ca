-- Bytes tell one answer.
use Rattle.std.proofs.Common.{◌≡◌, ◌≢◌, ℕ, ◌+◌, ◌<◌, ◌≤◌, ◌⊎◌, List, length, Err, refl, ap, sym, ◌∙◌, subst, inl, inr, arith}
use Rattle.tg_varint.specs.Laws.{SpellingLaws}
use Rattle.tg_cid.specs.Faults.{IsCodec}
use Rattle.tg_cid.specs.Reading.{Answer, NumberThen, DigestThen, SizeThen, HashThen, CodecThen, ReadsAsOne}
use Rattle.tg_cid.specs.Spelling.{IsDigestSize, codec_code, hash_code}
use Rattle.tg_cid.specs.declared.cid.Codec.{Codec}
use Rattle.tg_cid.specs.declared.cid.Codec.TheVariants.{Raw, DagPb}
use Rattle.tg_cid.specs.declared.cid.HashKind.{HashKind}
use Rattle.tg_cid.specs.declared.cid.HashKind.TheVariants.{Sha256, Identity}
use Rattle.tg_cid.proofs.Places.{one_number, not_both, one_fault}
use Rattle.tg_cid.specs.CodeLaws.{code_is}

pub one_then : SpellingLaws → (bytes : List ℕ) (at : ℕ) (P Q : ℕ → ℕ → Type 0) (r s : Answer)
    → ((number next : ℕ) → P number next → Q number next → r ≡ s)
    → NumberThen bytes at P r → NumberThen bytes at Q s → r ≡ s
one_then laws bytes at P Q r s same (inl a) (inl b) = a.1 ∙ (ap Err (one_fault laws bytes at a.0 b.0 a.2 b.2) ∙ sym b.1)
one_then laws bytes at P Q r s same (inl a) (inr b) = absurd (not_both laws bytes at b.0 b.1 a.0 b.2 a.2)
one_then laws bytes at P Q r s same (inr a) (inl b) = absurd (not_both laws bytes at a.0 a.1 b.0 a.2 b.2)
one_then laws bytes at P Q r s same (inr a) (inr b) =
    let one = one_number laws a.2 b.2 in
    same b.0 b.1 (subst (λ (n : ℕ). P n b.1) one.0 (subst (λ (n : ℕ). P a.0 n) one.1 a.3)) b.3

-- a number is refused, or taken and the rest tells one answer
either : (R T : Type 0) (refused r s : Answer) (P Q : Type 0) → (R → T → ⊥) → (P → Q → r ≡ s)
    → ((R × (r ≡ refused)) ⊎ (T × P)) → ((R × (s ≡ refused)) ⊎ (T × Q)) → r ≡ s
either R T refused r s P Q apart same (inl a) (inl b) = a.1 ∙ sym b.1
either R T refused r s P Q apart same (inl a) (inr b) = absurd (apart a.0 b.0)
either R T refused r s P Q apart same (inr a) (inl b) = absurd (apart b.0 a.0)
either R T refused r s P Q apart same (inr a) (inr b) = same a.1 b.1

pub one_digest : (version : ℕ) (codec : Codec) (hash : HashKind) (size : ℕ) (bytes : List ℕ) (at : ℕ) (r s : Answer)
    → DigestThen version codec hash size bytes at r → DigestThen version codec hash size bytes at s → r ≡ s
one_digest version codec hash size bytes at r s (inl a) (inl b) = a.1 ∙ sym b.1
one_digest version codec hash size bytes at r s (inl a) (inr b) =
    let few : length bytes < at + size = a.0 in
    let enough : at + size ≤ length bytes = b.0 in
    absurd (omega arith)
one_digest version codec hash size bytes at r s (inr a) (inl b) =
    let few : length bytes < at + size = b.0 in
    let enough : at + size ≤ length bytes = a.0 in
    absurd (omega arith)
one_digest version codec hash size bytes at r s (inr a) (inr b) = a.1 ∙ sym b.1

one_size : SpellingLaws → (codec : Codec) (hash : HashKind) (bytes : List ℕ) (at : ℕ) (r s : Answer)
    → SizeThen codec hash bytes at r → SizeThen codec hash bytes at s → r ≡ s
one_size laws codec hash bytes at r s = one_then laws bytes at _ _ r s
    (λ number next. either (IsDigestSize hash number → ⊥) (IsDigestSize hash number) _ r s _ _ (λ no yes. no yes)
    (one_digest 1 codec hash number bytes next r s))

one_kind : (a b : HashKind) → hash_code a ≡ hash_code b → a ≡ b
one_kind Sha256 Sha256 e = refl
one_kind Sha256 Identity e = absurd (omega arith)
one_kind Identity Sha256 e = absurd (omega arith)
one_kind Identity Identity e = refl

one_hash : SpellingLaws → (codec : Codec) (bytes : List ℕ) (at : ℕ) (r s : Answer) → HashThen codec bytes at r → HashThen codec bytes at s → r ≡ s
one_hash laws codec bytes at r s = one_then laws bytes at _ _ r s (λ number next a b. elim a [
  | inl p ↦ elim b [
    | inl q ↦ p.1 ∙ sym q.1
    | inr q ↦ absurd (p.0 (q.0, q.1))
  ]
  | inr p ↦ elim b [
    | inl q ↦ absurd (q.0 (p.0, p.1))
    | inr q ↦
        let same : p.0 ≡ q.0 = one_kind p.0 q.0 (sym p.1 ∙ q.1) in
        one_size laws codec q.0 bytes next r s (subst (λ (hash : HashKind). SizeThen codec hash bytes next r) same p.2) q.2
  ]
])

one_code : (a b : Codec) → codec_code a ≡ codec_code b → a ≡ b
one_code Raw Raw e = refl
one_code Raw DagPb e = absurd (omega arith)
one_code DagPb Raw e = absurd (omega arith)
one_code DagPb DagPb e = refl

one_codec : SpellingLaws → (bytes : List ℕ) (at : ℕ) (r s : Answer) → CodecThen bytes at r → CodecThen bytes at s → r ≡ s
one_codec laws bytes at r s = one_then laws bytes at _ _ r s (λ number next a b. elim a [
  | inl p ↦ elim b [
    | inl q ↦ p.1 ∙ sym q.1
    | inr q ↦ absurd (p.0 (subst IsCodec (sym q.1) (code_is q.0)))
  ]
  | inr p ↦ elim b [
    | inl q ↦ absurd (q.0 (subst IsCodec (sym p.1) (code_is p.0)))
    | inr q ↦
        let same : p.0 ≡ q.0 = one_code p.0 q.0 (sym p.1 ∙ q.1) in
        one_hash laws q.0 bytes next r s (subst (λ (codec : Codec). HashThen codec bytes next r) same p.2) q.2
  ]
])

pub one_answer : SpellingLaws → (bytes : List ℕ) (r s : Answer) → ReadsAsOne bytes r → ReadsAsOne bytes s → r ≡ s
one_answer laws bytes r s = one_then laws bytes 0 _ _ r s
    (λ number next. either (number ≢ 1) (number ≡ 1) _ r s _ _ (λ no yes. no yes) (one_codec laws bytes next r s))
