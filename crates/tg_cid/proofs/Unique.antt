-- No CID's bytes begin another's, a CID has one spelling, and a CIDv1 has one text.
use Rattle.std.proofs.Common.{◌≡◌, ℕ, List, [], ◌∷◌, ◌++◌, length, take, refl, ap, ap₂, sym, ◌∙◌, subst, inl, inr, arith}
use Rattle.std.proofs.lemmas.List.{take_at}
use Rattle.tg_base32.specs.Base32.{Base32Text}
use Rattle.tg_base32.specs.Laws.{TextLaws}
use Rattle.tg_varint.specs.Laws.{SpellingLaws}
use Rattle.tg_cid.specs.Cid.{CidParts}
use Rattle.tg_cid.specs.Spelling.{CidBytes, CidV1Bytes, CidText, Varints, codec_code, hash_code}
use Rattle.tg_cid.proofs.Prefix.{reads_once, found}
use Rattle.tg_cid.proofs.Whole.{same_found}

pub no_front : SpellingLaws → (a b : CidParts) (u v x y : List ℕ) → CidBytes a u → CidBytes b v → u ++ x ≡ v ++ y → (u ≡ v) × (a ≡ b)
no_front laws a b u v x y h k e =
    let one = same_found a b (length u) (length v) (reads_once laws (u ++ x) _ _ (found laws (u ++ x) a u x h refl) (found laws (u ++ x) b v y k e)) in (
      sym (take_at u x (length u) refl) ∙ (ap₂ (λ (n : ℕ) (l : List ℕ). take n l) one.1 e ∙ take_at v y (length v) refl),
      one.0,
    )

varints_once : SpellingLaws → (numbers a b : List ℕ) → Varints numbers a → Varints numbers b → a ≡ b
varints_once laws [] a b h k = h ∙ sym k
varints_once laws (n ∷ numbers) a b h k =
    let front : h.0 ≡ k.0 = laws.one_spelling n h.0 k.0 h.3 k.3 in
    let rest : h.1 ≡ k.1 = varints_once laws numbers h.1 k.1 h.4 k.4 in
    h.2 ∙ (ap₂ (λ (p q : List ℕ). p ++ q) front rest ∙ sym k.2)

pub one_v1 : SpellingLaws → (a : CidParts) (u v : List ℕ) → CidV1Bytes a u → CidV1Bytes a v → u ≡ v
one_v1 laws a u v h k =
    let heads : h.head ≡ k.head =
    varints_once laws (1 ∷ codec_code a.codec ∷ hash_code a.hash ∷ length a.digest ∷ []) h.head k.head h.numbers k.numbers in
    h.whole ∙ (ap (λ (l : List ℕ). l ++ a.digest) heads ∙ sym k.whole)

pub one_text : SpellingLaws → TextLaws → (a : CidParts) (s t : List ℕ) → CidText a s → CidText a t → s ≡ t
one_text laws texts a s t h k =
    let bytes : h.bytes ≡ k.bytes = one_v1 laws a h.bytes k.bytes h.in_bytes k.in_bytes in
    let m = h.in_base in
    let n = k.in_base in
    let letters : m.letters ≡ n.letters =
    texts.one_text m.letters n.letters k.bytes (subst (Base32Text m.letters) bytes m.rest) n.rest in
    m.begins ∙ (ap (λ (l : List ℕ). 98 ∷ l) letters ∙ sym n.begins)

pub one_cid : SpellingLaws → TextLaws → (a b : CidParts) (t : List ℕ) → CidText a t → CidText b t → a ≡ b
one_cid laws texts a b t h k =
    let m = h.in_base in
    let n = k.in_base in
    let letters : m.letters ≡ n.letters = let whole : 98 ∷ m.letters ≡ 98 ∷ n.letters = sym m.begins ∙ n.begins in cc in
    let bytes : h.bytes ≡ k.bytes =
    texts.one_reading n.letters h.bytes k.bytes (subst (λ (l : List ℕ). Base32Text l h.bytes) letters m.rest) n.rest in
    (no_front laws a b h.bytes k.bytes [] [] (inr h.in_bytes) (inr k.in_bytes) (ap (λ (l : List ℕ). l ++ []) bytes)).1

-- a CIDv0 has version 0, and a CIDv1 version 1
pub one_bytes : SpellingLaws → (a : CidParts) (u v : List ℕ) → CidBytes a u → CidBytes a v → u ≡ v
one_bytes laws a u v (inl h) (inl k) = h.whole ∙ sym k.whole
one_bytes laws a u v (inl h) (inr k) = absurd (omega (arith, h.version, k.version))
one_bytes laws a u v (inr h) (inl k) = absurd (omega (arith, h.version, k.version))
one_bytes laws a u v (inr h) (inr k) = one_v1 laws a u v h k
