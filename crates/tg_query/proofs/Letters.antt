-- The bytes that are computed of letters are those whose text they are.
use Rattle.std.proofs.Common.{List, None, Option, Some, [], ap, ap₂, arith, refl, subst, ℕ, zero, suc, ◌%◌, ◌*◌, ◌++◌, ◌+◌, ◌/◌, ◌<◌, ◌∙◌, ◌∷◌, ◌≡◌}
use Rattle.std.specs.List.{AllByRecursion}
use Rattle.std.specs.Prelude.{bytes_eq, replicate}
use Rattle.std.proofs.lemmas.Bool.{cond-true, cond_both}
use Rattle.std.proofs.lemmas.List.Elements.{All-cons, All-head, All-nil, All-tail}
use Rattle.std.proofs.lemmas.Option.{same_Some}
use Rattle.std.proofs.lemmas.Slice.Eq.{bytes_eq-Decides}
use Rattle.tg_base32.specs.Base32.{Base32Text, bits, bits_of_bytes, bits_of_text, value_of}
use Rattle.tg_base32.specs.Computed.{base32}
use Rattle.tg_base32.specs.Laws.{TextLaws}
use Rattle.tg_bytes.specs.Lists.{AreBytes}
use Rattle.tg_query.specs.CidAnswers.{byte_of_bits, bytes_of_bits, bytes_of_letters, if_spelled}

-- ---- bits are below two

abbrev AreBits : List ℕ → Type 0
AreBits bits = AllByRecursion (λ (b : ℕ). b < 2) bits

bits_append : (xs ys : List ℕ) → AreBits xs → AreBits ys → AreBits (xs ++ ys)
bits_append [] ys h k = k
bits_append (x ∷ xs) ys h k = (h.0, bits_append xs ys h.1 k)

number_bits : (count number : ℕ) → AreBits (bits count number)
unfolding bits
number_bits zero number = tt
number_bits (suc count) number = (omega arith, number_bits count number)

text_bits : (text : List ℕ) → AreBits (bits_of_text text)
text_bits [] = tt
text_bits (letter ∷ text) = bits_append (bits 5 (value_of letter)) (bits_of_text text) (number_bits 5 (value_of letter)) (text_bits text)

below : (a b c d e f g h : ℕ) → a < 2 → b < 2 → c < 2 → d < 2 → e < 2 → f < 2 → g < 2 → h < 2 → byte_of_bits a b c d e f g h < 256
below a b c d e f g h p q r s t u v w = omega arith

bytes_below : (bits : List ℕ) → AreBits bits → AreBytes (bytes_of_bits bits)
bytes_below [] p = All-nil (λ (b : ℕ). b < 256)
bytes_below (a ∷ []) p = All-nil (λ (b : ℕ). b < 256)
bytes_below (a ∷ b ∷ []) p = All-nil (λ (b : ℕ). b < 256)
bytes_below (a ∷ b ∷ c ∷ []) p = All-nil (λ (b : ℕ). b < 256)
bytes_below (a ∷ b ∷ c ∷ d ∷ []) p = All-nil (λ (b : ℕ). b < 256)
bytes_below (a ∷ b ∷ c ∷ d ∷ e ∷ []) p = All-nil (λ (b : ℕ). b < 256)
bytes_below (a ∷ b ∷ c ∷ d ∷ e ∷ f ∷ []) p = All-nil (λ (b : ℕ). b < 256)
bytes_below (a ∷ b ∷ c ∷ d ∷ e ∷ f ∷ g ∷ []) p = All-nil (λ (b : ℕ). b < 256)
bytes_below (a ∷ b ∷ c ∷ d ∷ e ∷ f ∷ g ∷ h ∷ bits) p =
    All-cons (λ (b : ℕ). b < 256) (byte_of_bits a b c d e f g h) (bytes_of_bits bits)
    (below a b c d e f g h p.0 p.1.0 p.1.1.0 p.1.1.1.0 p.1.1.1.1.0 p.1.1.1.1.1.0 p.1.1.1.1.1.1.0 p.1.1.1.1.1.1.1.0)
    (bytes_below bits p.1.1.1.1.1.1.1.1)

-- ---- the bytes of their own bits

-- half of a number and its last bit
halves : (n : ℕ) → n / 2 * 2 + n % 2 ≡ n
halves n = omega arith

byte_again : (b : ℕ) → b < 256
    → byte_of_bits (b / 128 % 2) (b / 64 % 2) (b / 32 % 2) (b / 16 % 2) (b / 8 % 2) (b / 4 % 2) (b / 2 % 2) (b / 1 % 2) ≡ b
byte_again b below =
    let h1 : b ≡ 2 * (b / 2) + b % 2 = omega arith in
    let h2 : b / 2 ≡ 2 * (b / 4) + b / 2 % 2 = omega arith in
    let h3 : b / 4 ≡ 2 * (b / 8) + b / 4 % 2 = omega arith in
    let h4 : b / 8 ≡ 2 * (b / 16) + b / 8 % 2 = omega arith in
    let h5 : b / 16 ≡ 2 * (b / 32) + b / 16 % 2 = omega arith in
    let h6 : b / 32 ≡ 2 * (b / 64) + b / 32 % 2 = omega arith in
    let h7 : b / 64 ≡ 2 * (b / 128) + b / 64 % 2 = omega arith in
    let h8 : b / 128 % 2 ≡ b / 128 = omega arith in
    let h0 : b / 1 % 2 ≡ b % 2 = omega arith in
    sum_again b (b / 2) (b / 4) (b / 8) (b / 16) (b / 32) (b / 64) (b / 128) _ _ _ _ _ _ _ _ h1 h2 h3 h4 h5 h6 h7 h8 h0
  where
    sum_again : (b n2 n4 n8 n16 n32 n64 n128 r0 r1 r2 r3 r4 r5 r6 r7 : ℕ) → b ≡ 2 * n2 + b % 2 → n2 ≡ 2 * n4 + r1 → n4 ≡ 2 * n8 + r2
        → n8 ≡ 2 * n16 + r3 → n16 ≡ 2 * n32 + r4 → n32 ≡ 2 * n64 + r5 → n64 ≡ 2 * n128 + r6 → r7 ≡ n128 → r0 ≡ b % 2
        → byte_of_bits r7 r6 r5 r4 r3 r2 r1 r0 ≡ b
    sum_again b n2 n4 n8 n16 n32 n64 n128 r0 r1 r2 r3 r4 r5 r6 r7 h1 h2 h3 h4 h5 h6 h7 h8 h0 = omega arith

few_bits : (padding : ℕ) → padding < 5 → bytes_of_bits (replicate {A = ℕ} padding 0) ≡ []
few_bits zero h = refl
few_bits (suc zero) h = refl
few_bits (suc (suc zero)) h = refl
few_bits (suc (suc (suc zero))) h = refl
few_bits (suc (suc (suc (suc zero)))) h = refl
few_bits (suc (suc (suc (suc (suc more))))) h = absurd (omega arith)

bytes_again : (bytes : List ℕ) (padding : ℕ) → AreBytes bytes → padding < 5
    → bytes_of_bits (bits_of_bytes bytes ++ replicate {A = ℕ} padding 0) ≡ bytes
unfolding bits
bytes_again [] padding are h = few_bits padding h
bytes_again (b ∷ bytes) padding are h =
    ap₂ (λ (x : ℕ) (xs : List ℕ). x ∷ xs) (byte_again b (All-head (λ (b : ℕ). b < 256) b bytes are))
    (bytes_again bytes padding (All-tail (λ (b : ℕ). b < 256) b bytes are) h)

-- ---- the law

spelled_told : (letters bytes : List ℕ) (found : List ℕ) → if_spelled letters bytes ≡ Some found → (base32 bytes ≡ letters) × (bytes ≡ found)
spelled_told letters bytes found = cond_both (bytes_eq (base32 bytes) letters) (Some bytes) None
    (λ (o : Option (List ℕ)). o ≡ Some found → (base32 bytes ≡ letters) × (bytes ≡ found))
    (λ t e. ((bytes_eq-Decides (base32 bytes) letters).0 t, same_Some bytes found e))
    (λ f e. absurd cc)

pub letters_told : TextLaws → (letters bytes : List ℕ) → bytes_of_letters letters ≡ Some bytes → Base32Text letters bytes
unfolding bytes_of_letters
letters_told laws letters bytes e =
    let found = bytes_of_bits (bits_of_text letters) in
    let told = spelled_told letters found bytes e in
    let text : Base32Text (base32 found) found = laws.computed found (bytes_below (bits_of_text letters) (text_bits letters)) in
    subst (λ (l : List ℕ). Base32Text letters l) told.1 (subst (λ (l : List ℕ). Base32Text l found) told.0 text)

pub letters_found : TextLaws → (letters bytes : List ℕ) → Base32Text letters bytes → bytes_of_letters letters ≡ Some bytes
unfolding bytes_of_letters
letters_found laws letters bytes text =
    let same : bytes_of_bits (bits_of_text letters) ≡ bytes =
    ap bytes_of_bits text.same_bits ∙ bytes_again bytes text.padding text.are_bytes text.fewer in
    let spelled : base32 bytes ≡ letters = laws.one_text (base32 bytes) letters bytes (laws.computed bytes text.are_bytes) text in
    ap (if_spelled letters) same
    ∙ cond-true (bytes_eq (base32 bytes) letters) (Some bytes) None ((bytes_eq-Decides (base32 bytes) letters).1 spelled)
