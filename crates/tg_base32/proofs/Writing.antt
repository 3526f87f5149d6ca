-- Bytes that are written as letters.
use Rattle.std.proofs.Common.{◌≡◌, ℕ, ◌+◌, ◌-◌, ◌*◌, ◌/◌, ◌%◌, ◌^◌, ◌<◌, List, [], ◌∷◌, ◌++◌, refl, sym, ap, ap₂, ◌∙◌, append_assoc, subst, inl, inr, arith}
use Rattle.std.specs.Prelude.{All, replicate}
use Rattle.std.proofs.Math.Nat.{mod-lt}
use Rattle.std.proofs.lemmas.Grind.{flat_map-append}
use Rattle.std.proofs.lemmas.List.{append-nil}
use Rattle.std.proofs.lemmas.List.Elements.{All-push}
use Rattle.std.proofs.lemmas.Nat.{pow_pos, shl_below, shl_whole}
use Rattle.std.proofs.lemmas.Bool.{cases_lt}
use Rattle.tg_base32.specs.declared.Held.{Held}
use Rattle.tg_base32.specs.Base32.{IsLetter, value_of, bits, bits_of_bytes, bits_of_text, Base32Text}
use Rattle.tg_base32.specs.Held.{IsHeld, TakesByte, MovesLetter, bits_of}
use Rattle.tg_base32.proofs.Bits.{bits_join, bits_zero}
use Rattle.tg_base32.proofs.Texts.{bits_of_letter}
use Rattle.tg_base32.proofs.Steps.{holds_more, move}

-- too few bits for a letter
pub none_moves : (old : List ℕ) (held : Held) → IsHeld 13 held → held.count < 5 → MovesLetter old held old held
none_moves old held h few = record { letters = λ p. p; fits = h.fits; count = (λ _. refl, λ le. absurd (omega arith)); same_bits = refl }

-- the first five bits are a letter
pub one_moves : (old : List ℕ) (held : Held) (letter count : ℕ) → 5 + count ≡ held.count → IsLetter letter → value_of letter ≡ held.value / 2 ^ count → MovesLetter old held (old ++ letter ∷ []) (record { value = held.value % 2 ^ count; count = count })
one_moves old held letter count e is v = record {
  letters = λ p. All-push IsLetter old letter p is;
  fits = mod-lt held.value (pow_pos count);
  count = (λ lt. absurd (omega arith), λ _. omega arith);
  same_bits =
      move bits_of_letter old letter 5 count held.value (ap (bits 5) v)
      ∙ ap (λ (n : ℕ). bits_of_text old ++ bits n held.value) e;
}

-- a byte comes in, and at most two letters go out
pub two_moves : (old mid new : List ℕ) (held one two : Held) (byte : ℕ) → IsHeld 5 held → byte < 2 ^ 8 → MovesLetter old (record { value = held.value * 256 + byte; count = held.count + 8 }) mid one → MovesLetter mid one new two → TakesByte old held byte new two
two_moves old mid new held one two byte h below p q =
    let first : one.count + 5 ≡ held.count + 8 = p.count.1 (omega arith) in
    let fewer : two.count < 5 = elim (cases_lt one.count 5) [
      | inl lt ↦ omega (arith, q.count.0 lt)
      | inr le ↦ omega (arith, q.count.1 le, first, h.fewer)
    ] in
    record {
      letters = λ l. q.letters (p.letters l);
      is_held = record { fewer = fewer; fits = q.fits };
      same_bits =
          q.same_bits ∙ p.same_bits
          ∙ ap (λ (t : List ℕ). bits_of_text old ++ t) (bits_join held.count 8 held.value byte below);
    }

pub takes_in : (held : Held) (byte : ℕ) → IsHeld 5 held → byte < 2 ^ 8 → IsHeld 13 (record { value = held.value * 256 + byte; count = held.count + 8 })
takes_in held byte h below = record { fewer = omega (arith, h.fewer); fits = holds_more held.value byte held.count 8 h.fits below }

-- whole letters
pub whole_text : (text bytes : List ℕ) (held : Held) → All IsLetter text → All (λ b. b < 256) bytes → held.count ≡ 0 → bits_of_text text ++ bits_of held ≡ bits_of_bytes bytes → Base32Text text bytes
unfolding bits
whole_text text bytes held letters are_bytes none e =
    let nothing : bits_of held ≡ [] = ap (λ (n : ℕ). bits n held.value) none in
    record {
      letters = letters;
      are_bytes = are_bytes;
      padding = 0;
      fewer = omega arith;
      same_bits = sym (append-nil (bits_of_text text)) ∙ ap (λ (t : List ℕ). bits_of_text text ++ t) (sym nothing) ∙ e ∙ sym (append-nil (bits_of_bytes bytes));
    }

-- the rest is the last letter's first bits, and zeros are its others
pub last_letter : (text bytes : List ℕ) (held : Held) (letter : ℕ) → All IsLetter text → All (λ b. b < 256) bytes → 0 < held.count → held.count < 5 → IsLetter letter → value_of letter ≡ held.value * 2 ^ (5 - held.count) → bits_of_text text ++ bits_of held ≡ bits_of_bytes bytes → Base32Text (text ++ letter ∷ []) bytes
last_letter text bytes held letter letters are_bytes some few is v e =
    let padding = 5 - held.count in
    let split : bits_of_letter letter ≡ bits_of held ++ replicate {A = ℕ} padding 0 =
    ap₂ bits (omega arith) (v ∙ omega arith)
    ∙ bits_join held.count padding held.value 0 (pow_pos padding)
    ∙ ap (λ (t : List ℕ). bits_of held ++ t) (bits_zero padding) in
    record {
      letters = All-push IsLetter text letter letters is;
      are_bytes = are_bytes;
      padding = padding;
      fewer = omega arith;
      same_bits =
          flat_map-append bits_of_letter text (letter ∷ [])
          ∙ ap (λ (t : List ℕ). bits_of_text text ++ t) (append-nil (bits_of_letter letter) ∙ split)
          ∙ sym (append_assoc (bits_of_text text) (bits_of held) (replicate {A = ℕ} padding 0))
          ∙ ap (λ (t : List ℕ). t ++ replicate {A = ℕ} padding 0) e;
    }

-- the last letter's value, as the code computes it
pub last_value : (held : Held) → 0 < held.count → IsHeld 5 held → (held.value * 2 ^ (5 - held.count) % 65536 ≡ held.value * 2 ^ (5 - held.count)) × (held.value * 2 ^ (5 - held.count) < 2 ^ 5)
last_value held some h =
    let whole : held.count + (5 - held.count) ≡ 5 = omega (arith, h.fewer) in
    let below : held.value * 2 ^ (5 - held.count) < 2 ^ (held.count + (5 - held.count)) = shl_below held.value held.count (5 - held.count) h.fits in (
      shl_whole held.value held.count (5 - held.count) 16 h.fits (omega (arith, h.fewer)),
      subst (λ (n : ℕ). held.value * 2 ^ (5 - held.count) < 2 ^ n) whole below,
    )
