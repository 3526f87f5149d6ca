-- The bytes of a CID are bytes, and there are 1 to 133 of them.
use Rattle.std.proofs.Common.{◌≡◌, ℕ, ◌+◌, ◌<◌, ◌≤◌, List, [], ◌∷◌, length, All, ap, sym, ◌∙◌, subst, inl, inr, arith}
use Rattle.std.proofs.lemmas.List.{length-append}
use Rattle.std.proofs.lemmas.List.Elements.{All-nil, All-cons, All-append}
use Rattle.tg_varint.specs.GroupLaws.{not_empty}
use Rattle.tg_varint.specs.Laws.{SpellingLaws}
use Rattle.tg_cid.specs.Cid.{CidParts}
use Rattle.tg_cid.specs.Spelling.{CidBytes, Varints, codec_code, hash_code}
use Rattle.tg_cid.proofs.Written.{size_most}
use Rattle.tg_cid.specs.CodeLaws.{codec_below, hash_below}

pub name_some : (cid : CidParts) (name : List ℕ) → CidBytes cid name → 0 < length name
name_some cid name (inl h) = let long : length name ≡ length (0x12 ∷ 0x20 ∷ cid.digest) = ap length h.whole in omega arith
name_some cid name (inr h) =
    let n = h.numbers in
    let first : 0 < length n.0 = not_empty 1 n.0 n.3 in
    omega (arith, ap length n.2, length-append n.0 n.1, ap length h.whole, length-append h.head cid.digest)

varints_bytes : (numbers bytes : List ℕ) → Varints numbers bytes → All (λ b. b < 256) bytes
varints_bytes [] bytes h = subst (λ (l : List ℕ). All (λ b. b < 256) l) (sym h) (All-nil (λ (b : ℕ). b < 256))
varints_bytes (n ∷ numbers) bytes h =
    subst (λ (l : List ℕ). All (λ b. b < 256) l) (sym h.2)
    (All-append (λ (b : ℕ). b < 256) h.0 h.1 h.3.are_bytes (varints_bytes numbers h.1 h.4))

pub name_bytes : (cid : CidParts) (name : List ℕ) → CidBytes cid name → All (λ b. b < 256) name
name_bytes cid name (inl h) =
    subst (λ (l : List ℕ). All (λ b. b < 256) l) (sym h.whole) (All-cons (λ (b : ℕ). b < 256) 0x12 (0x20 ∷ cid.digest) (omega arith)
    (All-cons (λ (b : ℕ). b < 256) 0x20 cid.digest (omega arith) h.are_bytes))
name_bytes cid name (inr h) =
    subst (λ (l : List ℕ). All (λ b. b < 256) l) (sym h.whole)
    (All-append (λ (b : ℕ). b < 256) h.head cid.digest (varints_bytes (1 ∷ codec_code cid.codec ∷ hash_code cid.hash ∷ length cid.digest ∷ []) h.head h.numbers) h.are_bytes)

-- three numbers of one byte, and the length of the digest, which has two at most
pub name_most : SpellingLaws → (cid : CidParts) (name : List ℕ) → CidBytes cid name → length name ≤ 133
name_most laws cid name (inl h) = omega (arith, ap length h.whole, h.size)
name_most laws cid name (inr h) =
    let n = h.numbers in
    let m = n.4 in
    let k = m.4 in
    let l = k.4 in
    let digest : length cid.digest ≤ 128 = size_most cid.hash (length cid.digest) h.size in
    let a : length n.0 ≤ 1 = laws.at_most 1 1 n.0 (omega arith) (omega arith) n.3 in
    let b : length m.0 ≤ 1 = laws.at_most (codec_code cid.codec) 1 m.0 (omega arith) (codec_below cid.codec) m.3 in
    let c : length k.0 ≤ 1 = laws.at_most (hash_code cid.hash) 1 k.0 (omega arith) (hash_below cid.hash) k.3 in
    let d : length l.0 ≤ 2 = laws.at_most (length cid.digest) 2 l.0 (omega arith) (omega arith) l.3 in
    let e : length h.head ≡ length n.0 + length n.1 = ap length n.2 ∙ length-append n.0 n.1 in
    let f : length n.1 ≡ length m.0 + length m.1 = ap length m.2 ∙ length-append m.0 m.1 in
    let g : length m.1 ≡ length k.0 + length k.1 = ap length k.2 ∙ length-append k.0 k.1 in
    let i : length k.1 ≡ length l.0 + length l.1 = ap length l.2 ∙ length-append l.0 l.1 in
    let none : length l.1 ≡ 0 = ap length l.4 in
    let whole : length name ≡ length h.head + length cid.digest = ap length h.whole ∙ length-append h.head cid.digest in
    omega arith
