-- Letters that are read one by one, and what they come to.
use Rattle.std.proofs.Common.{false, ◌≡◌, ℕ, ◌+◌, ◌-◌, ◌*◌, ◌/◌, ◌%◌, ◌^◌, ◌<◌, ◌≢◌, List, [], ◌∷◌, ◌++◌, length, refl, sym, ap, ap₂, ◌∙◌, append_assoc, subst, inl, inr, arith}
use Rattle.std.specs.Prelude.{All, Any, replicate, drop, IsTrue}
use Rattle.std.proofs.Math.Nat.{mod-lt}
use Rattle.std.proofs.lemmas.Bool.{cases_lt}
use Rattle.std.proofs.lemmas.Grind.{flat_map-append}
use Rattle.std.proofs.lemmas.List.{length-append, append-nil}
use Rattle.std.proofs.lemmas.List.Elements.{All-push, All-nil, All-head, All-tail, All-get_or}
use Rattle.std.proofs.lemmas.Nat.{pow_pos}
use Rattle.std.proofs.lemmas.Option.{slice_get_within, get_or_from_slice_get}
use Rattle.tg_base32.specs.declared.Held.{Held}
use Rattle.tg_base32.specs.Base32.{IsLetter, IsNoLength, IsFirstOutside, value_of, bits, bits_of_bytes, bits_of_text, Base32Text}
use Rattle.tg_base32.specs.Held.{IsHeld, Reads, TakesLetter, bits_of}
use Rattle.tg_base32.proofs.Bits.{length-bits, bits_join, bits_zero, some_bit, no_bit}
use Rattle.tg_base32.proofs.Texts.{bits_of_letter, value_below, length_of_text, length_of_bytes, lengths, drop_front}
use Rattle.tg_base32.proofs.Steps.{holds_more, high_below, moved}

-- too few bits for a byte
pub stays : (old : List ℕ) (held : Held) (letter : ℕ) → IsHeld 8 held → IsLetter letter → held.count < 3 → TakesLetter old held letter old (record { value = held.value * 32 + value_of letter; count = held.count + 5 })
stays old held letter h is few =
    let below = value_below letter is in
    record {
      are_bytes = λ p. p;
      is_held = record { fewer = omega arith; fits = holds_more held.value (value_of letter) held.count 5 h.fits below };
      same_bits = ap (λ (t : List ℕ). bits_of_bytes old ++ t) (bits_join held.count 5 held.value (value_of letter) below);
    }

-- the first eight bits are a byte
pub goes : (old : List ℕ) (held : Held) (letter count : ℕ) → IsHeld 8 held → IsLetter letter → 8 + count ≡ held.count + 5 → TakesLetter old held letter (old ++ (held.value * 32 + value_of letter) / 2 ^ count ∷ []) (record { value = (held.value * 32 + value_of letter) % 2 ^ count; count = count })
goes old held letter count h is e =
    let all = held.value * 32 + value_of letter in
    let below = value_below letter is in
    let byte : all / 2 ^ count < 2 ^ 8 = high_below held.value (value_of letter) held.count 5 8 count e h.fits below in
    record {
      are_bytes = λ p. All-push (λ b. b < 256) old (all / 2 ^ count) p byte;
      is_held = record { fewer = omega (arith, h.fewer); fits = mod-lt all (pow_pos count) };
      same_bits = moved (bits 8) old (all / 2 ^ count) 8 count held.count 5 held.value (value_of letter) e below refl;
    }

-- one more letter
pub reads_more : (text bytes : List ℕ) (letter : ℕ) (new : List ℕ) (rest : Held) (h : Reads text bytes) → TakesLetter bytes h.held letter new rest → Reads (text ++ letter ∷ []) new
reads_more text bytes letter new rest h t = record {
  are_bytes = t.are_bytes h.are_bytes;
  held = rest;
  is_held = t.is_held;
  same_bits =
      flat_map-append bits_of_letter text (letter ∷ [])
      ∙ ap₂ (λ (a b : List ℕ). a ++ b) h.same_bits (append-nil (bits_of_letter letter))
      ∙ append_assoc (bits_of_bytes bytes) (bits_of h.held) (bits_of_letter letter)
      ∙ sym t.same_bits;
}

reads_one : (text bytes : List ℕ) (letter : ℕ) → IsLetter letter → Reads text bytes → (more : List ℕ) × Reads (text ++ letter ∷ []) more
reads_one text bytes letter is h =
    elim (cases_lt h.held.count 3) [
      | inl few ↦ (bytes, reads_more text bytes letter bytes _ h (stays bytes h.held letter h.is_held is few))
      | inr enough ↦
          let t = goes bytes h.held letter (h.held.count - 3) h.is_held is (omega arith) in
          (bytes ++ (h.held.value * 32 + value_of letter) / 2 ^ (h.held.count - 3) ∷ [], reads_more text bytes letter _ _ h t)
    ]

reads_on : (more text bytes : List ℕ) → All IsLetter more → Reads text bytes → (all : List ℕ) × Reads (text ++ more) all
reads_on [] text bytes letters h = (bytes, subst (λ (t : List ℕ). Reads t bytes) (sym (append-nil text)) h)
reads_on (x ∷ xs) text bytes letters h =
    let one = reads_one text bytes x (All-head IsLetter x xs letters) h in
    let all = reads_on xs (text ++ x ∷ []) one.0 (All-tail IsLetter x xs letters) one.1 in
    (all.0, subst (λ (t : List ℕ). Reads t all.0) (append_assoc text (x ∷ []) xs) all.1)

nothing_read : Reads [] []
unfolding bits
nothing_read = record { are_bytes = All-nil (λ b. b < 256); held = record { value = 0; count = 0 }; is_held = record { fewer = omega arith; fits = omega arith }; same_bits = refl }

-- letters can be read
pub some_bytes : (text : List ℕ) → All IsLetter text → (bytes : List ℕ) × Reads text bytes
some_bytes text letters = reads_on text [] [] letters nothing_read

abbrev pub tail_bits : List ℕ → List ℕ
tail_bits text = drop (8 * (5 * length text / 8)) (bits_of_text text)

-- what is read from letters in a possible number and with no tail is spelled
pub spelled : (text bytes : List ℕ) → All IsLetter text → (IsNoLength (length text) → ⊥) → (Any (λ (bit : ℕ). bit ≡ 1) (tail_bits text) → ⊥) → Reads text bytes → Base32Text text bytes
spelled text bytes letters possible no_tail h =
    let size : 5 * length text ≡ 8 * length bytes + h.held.count =
    omega (arith, length_of_text text, length_of_bytes bytes, ap length h.same_bits, length-append (bits_of_bytes bytes) (bits_of h.held), length-bits h.held.count h.held.value) in
    let fewer : h.held.count < 8 = h.is_held.fewer in
    let not1 : length text % 8 ≢ 1 = λ e. possible (inl e) in
    let not3 : length text % 8 ≢ 3 = λ e. possible (inr (inl e)) in
    let not6 : length text % 8 ≢ 6 = λ e. possible (inr (inr e)) in
    let tail : tail_bits text ≡ bits h.held.count h.held.value =
    ap (drop (8 * (5 * length text / 8))) h.same_bits
    ∙ drop_front (8 * (5 * length text / 8)) (bits_of_bytes bytes) (bits_of h.held) (omega (arith, length_of_bytes bytes)) in
    let none : h.held.value ≡ 0 = elim (cases_lt 0 h.held.value) [
      | inl p ↦ absurd (no_tail (subst (λ (bs : List ℕ). Any (λ (bit : ℕ). bit ≡ 1) bs) (sym tail) (some_bit h.held.count h.held.value h.is_held.fits p)))
      | inr p ↦ omega arith
    ] in
    record {
      letters = letters;
      are_bytes = h.are_bytes;
      padding = h.held.count;
      fewer = omega arith;
      same_bits = h.same_bits ∙ ap (λ (t : List ℕ). bits_of_bytes bytes ++ t) (ap (bits h.held.count) none ∙ bits_zero h.held.count);
    }

-- ---- what a spelled text excludes

pub spelled_length : (text bytes : List ℕ) → Base32Text text bytes → IsNoLength (length text) → ⊥
spelled_length text bytes h n =
    let size = lengths text bytes h in
    elim n [
      | inl e ↦ omega (arith, size, h.fewer)
      | inr m ↦ elim m [ inl e ↦ omega (arith, size, h.fewer) | inr e ↦ omega (arith, size, h.fewer) ]
    ]

pub spelled_tail : (text bytes : List ℕ) → Base32Text text bytes → Any (λ (bit : ℕ). bit ≡ 1) (tail_bits text) → ⊥
spelled_tail text bytes h any =
    let tail : tail_bits text ≡ replicate {A = ℕ} h.padding 0 =
    ap (drop (8 * (5 * length text / 8))) h.same_bits
    ∙ drop_front (8 * (5 * length text / 8)) (bits_of_bytes bytes) (replicate {A = ℕ} h.padding 0) (omega (arith, length_of_bytes bytes, lengths text bytes h, h.fewer)) in
    no_bit h.padding (subst (λ (bs : List ℕ). Any (λ (bit : ℕ). bit ≡ 1) bs) tail any)

pub none_outside : (text : List ℕ) (at : ℕ) → All IsLetter text → IsFirstOutside text at → ⊥
none_outside text at letters h =
    let within : at < length text = slice_get_within text at h.letter h.here in
    h.outside (subst IsLetter (get_or_from_slice_get text at h.letter 0 h.here) (All-get_or IsLetter text at 0 within letters))

-- the first place is one place
pub one_place : (text : List ℕ) (a b : ℕ) → IsFirstOutside text a → IsFirstOutside text b → a ≡ b
one_place text a b p q =
    elim (cases_lt a b) [
      | inl lt ↦ absurd (p.outside (q.before a p.letter lt p.here))
      | inr le ↦ elim (cases_lt b a) [
        | inl lt ↦ absurd (q.outside (p.before b q.letter lt q.here))
        | inr ge ↦ omega arith
      ]
    ]

pub falsehood : IsTrue false → ⊥
falsehood h = cc

-- letters in a possible number and with no tail have bytes
pub readable : (text : List ℕ) → All IsLetter text → (IsNoLength (length text) → ⊥) → (Any (λ (bit : ℕ). bit ≡ 1) (tail_bits text) → ⊥) → (bytes : List ℕ) × Base32Text text bytes
readable text letters possible no_tail =
    let read = some_bytes text letters in
    (read.0, spelled text read.0 letters possible no_tail read.1)
