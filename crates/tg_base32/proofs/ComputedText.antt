-- The letters that are computed are those of the bytes.
use Rattle.std.proofs.Common.{◌≡◌, ℕ, zero, suc, ◌+◌, ◌-◌, ◌*◌, ◌/◌, ◌%◌, ◌^◌, ◌<◌, ◌≤◌, List, [], ◌∷◌, ◌++◌, refl, ap, ap₂, ◌∙◌, inl, inr, arith, codes}
use Rattle.std.specs.Prelude.{All, replicate, nat_lt}
use Rattle.std.proofs.lemmas.Bool.{cond_both, cond-true, cond-false, ltb-true, ltb-false, lt-ltb, le-ltb}
use Rattle.std.proofs.lemmas.List.{append-nil}
use Rattle.std.proofs.lemmas.List.Elements.{All-nil, All-cons, All-append}
use Rattle.tg_base32.specs.Base32.{IsLetter, value_of, bits, bits_of_bytes, bits_of_text, Base32Text}
use Rattle.tg_base32.specs.Computed.{letter_of, letter_of_bits, letters_of, base32}

-- ---- one letter

pub record LetterTold (letter value : ℕ) : Type 0 where
  pub is_letter : IsLetter letter
  pub value_is : value_of letter ≡ value

letter_told : (v : ℕ) → v < 32 → LetterTold (letter_of v) v
letter_told v below = cond_both (nat_lt v 26) (v + 97) (v + 24) (λ (l : ℕ). LetterTold l v)
    (λ t.
    let low : v < 26 = ltb-true v 26 t in
    record { is_letter = inl (omega arith, omega arith); value_is = cond-false (nat_lt (v + 97) 97) (v + 97 - 24) (v + 97 - 97) (le-ltb (v + 97) 97 (omega arith)) ∙ omega arith })
    (λ f.
    let high : 26 ≤ v = ltb-false v 26 f in
    record { is_letter = inr (omega arith, omega arith); value_is = cond-true (nat_lt (v + 24) 97) (v + 24 - 24) (v + 24 - 97) (lt-ltb (v + 24) 97 (omega arith)) ∙ omega arith })

five_bits : (a b c d e : ℕ) → a < 2 → b < 2 → c < 2 → d < 2 → e < 2 → bits 5 (a * 16 + b * 8 + c * 4 + d * 2 + e) ≡ a ∷ b ∷ c ∷ d ∷ e ∷ []
unfolding bits
five_bits a b c d e p q r s t =
    let n = a * 16 + b * 8 + c * 4 + d * 2 + e in
    let first : n / 16 % 2 ≡ a = omega arith in
    let second : n / 8 % 2 ≡ b = omega arith in
    let third : n / 4 % 2 ≡ c = omega arith in
    let fourth : n / 2 % 2 ≡ d = omega arith in
    let fifth : n / 1 % 2 ≡ e = omega arith in
    ap₂ (λ (x : ℕ) (xs : List ℕ). x ∷ xs) first (ap₂ (λ (x : ℕ) (xs : List ℕ). x ∷ xs) second (ap₂ (λ (x : ℕ) (xs : List ℕ). x ∷ xs) third (ap₂ (λ (x y : ℕ). x ∷ y ∷ []) fourth fifth)))

pub record FiveTold (letter a b c d e : ℕ) : Type 0 where
  pub is_letter : IsLetter letter
  pub same_bits : bits 5 (value_of letter) ≡ a ∷ b ∷ c ∷ d ∷ e ∷ []

five_told : (a b c d e : ℕ) → a < 2 → b < 2 → c < 2 → d < 2 → e < 2 → FiveTold (letter_of_bits a b c d e) a b c d e
five_told a b c d e p q r s t =
    let told = letter_told (a * 16 + b * 8 + c * 4 + d * 2 + e) (omega arith) in
    record { is_letter = told.is_letter; same_bits = ap (bits 5) told.value_is ∙ five_bits a b c d e p q r s t }

-- ---- the text

-- letters spell bits and fewer than five zeros
pub record LettersTold (text bs : List ℕ) : Type 0 where
  pub letters : All IsLetter text
  pub padding : ℕ
  pub fewer : padding < 5
  pub same_bits : bits_of_text text ≡ bs ++ replicate {A = ℕ} padding 0

last_told : (letter : ℕ) (bs : List ℕ) (padding : ℕ) → padding < 5 → IsLetter letter → bits 5 (value_of letter) ≡ bs ++ replicate {A = ℕ} padding 0 → LettersTold (letter ∷ []) bs
last_told letter bs padding fewer is e = record {
  letters = All-cons IsLetter letter [] is (All-nil IsLetter);
  padding = padding;
  fewer = fewer;
  same_bits = append-nil (bits 5 (value_of letter)) ∙ e;
}

letters_told : (bs : List ℕ) → All (λ (b : ℕ). b < 2) bs → LettersTold (letters_of bs) bs
letters_told [] h = record { letters = All-nil IsLetter; padding = 0; fewer = omega arith; same_bits = refl }
letters_told (a ∷ []) h =
    let told = five_told a 0 0 0 0 (h 0 0 (omega arith)) (omega arith) (omega arith) (omega arith) (omega arith) in
    last_told (letter_of_bits a 0 0 0 0) (a ∷ []) 4 (omega arith) told.is_letter told.same_bits
letters_told (a ∷ b ∷ []) h =
    let told = five_told a b 0 0 0 (h 0 0 (omega arith)) (h 1 0 (omega arith)) (omega arith) (omega arith) (omega arith) in
    last_told (letter_of_bits a b 0 0 0) (a ∷ b ∷ []) 3 (omega arith) told.is_letter told.same_bits
letters_told (a ∷ b ∷ c ∷ []) h =
    let told = five_told a b c 0 0 (h 0 0 (omega arith)) (h 1 0 (omega arith)) (h 2 0 (omega arith)) (omega arith) (omega arith) in
    last_told (letter_of_bits a b c 0 0) (a ∷ b ∷ c ∷ []) 2 (omega arith) told.is_letter told.same_bits
letters_told (a ∷ b ∷ c ∷ d ∷ []) h =
    let told = five_told a b c d 0 (h 0 0 (omega arith)) (h 1 0 (omega arith)) (h 2 0 (omega arith)) (h 3 0 (omega arith)) (omega arith) in
    last_told (letter_of_bits a b c d 0) (a ∷ b ∷ c ∷ d ∷ []) 1 (omega arith) told.is_letter told.same_bits
letters_told (a ∷ b ∷ c ∷ d ∷ e ∷ rest) h =
    let told = five_told a b c d e (h 0 0 (omega arith)) (h 1 0 (omega arith)) (h 2 0 (omega arith)) (h 3 0 (omega arith)) (h 4 0 (omega arith)) in
    let others = letters_told rest (λ k x l. h (suc (suc (suc (suc (suc k))))) x (omega arith)) in
    record {
      letters = All-cons IsLetter (letter_of_bits a b c d e) (letters_of rest) told.is_letter others.letters;
      padding = others.padding;
      fewer = others.fewer;
      same_bits = ap₂ (λ (x y : List ℕ). x ++ y) told.same_bits others.same_bits;
    }

bits_below : (count number : ℕ) → All (λ (b : ℕ). b < 2) (bits count number)
unfolding bits
bits_below zero number = All-nil (λ (b : ℕ). b < 2)
bits_below (suc count) number = All-cons (λ (b : ℕ). b < 2) (number / 2 ^ count % 2) (bits count number) (omega arith) (bits_below count number)

all_below : (bytes : List ℕ) → All (λ (b : ℕ). b < 2) (bits_of_bytes bytes)
all_below [] = All-nil (λ (b : ℕ). b < 2)
all_below (x ∷ xs) = All-append (λ (b : ℕ). b < 2) (bits 8 x) (bits_of_bytes xs) (bits_below 8 x) (all_below xs)

pub text_law : (bytes : List ℕ) → All (λ (b : ℕ). b < 256) bytes → Base32Text (base32 bytes) bytes
unfolding base32
text_law bytes are =
    let told = letters_told (bits_of_bytes bytes) (all_below bytes) in
    record { letters = told.letters; are_bytes = are; padding = told.padding; fewer = told.fewer; same_bits = told.same_bits }

-- ---- worked values: RFC 4648, section 10, in lower case and without padding

pub text_of_foobar : base32 (codes "foobar") ≡ codes "mzxw6ytboi"
unfolding bits base32
text_of_foobar = refl

pub text_of_fooba : base32 (codes "fooba") ≡ codes "mzxw6ytb"
unfolding bits base32
text_of_fooba = refl

pub text_of_foob : base32 (codes "foob") ≡ codes "mzxw6yq"
unfolding bits base32
text_of_foob = refl
