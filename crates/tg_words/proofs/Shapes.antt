-- What a word is: the end of options, an option, a bundle of short options, or a plain word.
use Rattle.std.proofs.Common.{◌≡◌, ℕ, suc, zero, List, [], ◌∷◌, ◌++◌, Bool, true, false, cond, ◌==◌, refl, sym, ap, ◌∙◌, subst, arith, inl, inr, Option, Some, None, true≢false, eqb-true}
use Rattle.std.specs.Prelude.{slice_get, option_and_then}
use Rattle.std.specs.Str.{bytes_eq, chars, IsUtf8}
use Rattle.std.proofs.Math.Utf8.{encodes}
use Rattle.std.proofs.lemmas.Str.{IsUtf8-drop, IsCharBoundary-after_ascii, encodes-chars}
use Rattle.clap.specs.Lexer.{long_of, long_of_rest, name_and_value, short_of, short_of_rest, strip_byte}
use Rattle.clap.proofs.LexerLemmas.{name_and_value-at, name_and_value-without}
use Rattle.tg_bytes.specs.Lists.{other_bytes}
use Rattle.tg_words.specs.Words.{IsPlain}
use Rattle.tg_words.proofs.Readings.{assigned, named, LacksEquals}

abbrev pub dashes : List ℕ
dashes = 45 ∷ 45 ∷ []

abbrev pub written : List ℕ → Option (List ℕ) → List ℕ
written name None = named name
written name (Some value) = assigned name value

pub data WordIs (word : List ℕ) : Type 0 where
  is_end : word ≡ dashes → WordIs word
  is_long : (name : List ℕ) (value : Option (List ℕ)) → bytes_eq word dashes ≡ false → long_of word ≡ Some (name, value) → word ≡ written name value → LacksEquals name → WordIs word
  is_short : (y : ℕ) (ys : List ℕ) (x : ℕ) → bytes_eq word dashes ≡ false → long_of word ≡ None → short_of word ≡ Some (y ∷ ys) → slice_get (chars (y ∷ ys)) 0 ≡ Some x
      → word ≡ 45 ∷ y ∷ ys → (y == 45) ≡ false → WordIs word
  is_plain : IsPlain word → bytes_eq word dashes ≡ false → long_of word ≡ None → short_of word ≡ None → WordIs word

-- a text is cut at its first `=`, or has none
data Cut (text : List ℕ) : Type 0 where
  cut_at : (name value : List ℕ) → text ≡ name ++ (61 ∷ value) → LacksEquals name → Cut text
  uncut : LacksEquals text → Cut text

lacks_more : (x : ℕ) (xs : List ℕ) → (x == 61) ≡ false → LacksEquals xs → LacksEquals (x ∷ xs)
lacks_more x xs other lack zero below at = absurd (true≢false (sym (ap (λ y. y == 61) at) ∙ other))
lacks_more x xs other lack (suc i) below at = lack i (omega (arith, below)) at

cut : (text : List ℕ) → Cut text
cut [] = uncut (λ i below. absurd (omega (arith, below)))
cut (x ∷ xs) = go (x == 61) refl (cut xs)
  where
    go : (b : Bool) → (x == 61) ≡ b → Cut xs → Cut (x ∷ xs)
    go true e rest = cut_at [] xs (ap (λ y. y ∷ xs) (eqb-true x 61 e)) (λ i below. absurd (omega (arith, below)))
    go false e (cut_at name value is lack) = cut_at (x ∷ name) value (ap (λ ys. x ∷ ys) is) (lacks_more x name e lack)
    go false e (uncut lack) = uncut (lacks_more x xs e lack)

first_char : (y : ℕ) (ys : List ℕ) → IsUtf8 (45 ∷ y ∷ ys) → (x : ℕ) × (slice_get (chars (y ∷ ys)) 0 ≡ Some x)
first_char y ys utf8 = go (chars (y ∷ ys)) (encodes-chars (y ∷ ys) (IsUtf8-drop (45 ∷ y ∷ ys) 1 utf8 (IsCharBoundary-after_ascii (45 ∷ y ∷ ys) 0 utf8 (omega arith) (omega arith))))
  where
    go : (cs : List ℕ) → encodes cs ≡ y ∷ ys → (x : ℕ) × (slice_get cs 0 ≡ Some x)
    go [] e = absurd (cc)
    go (c ∷ cs) e = (c, refl)

long_word : (z : ℕ) (zs : List ℕ) → WordIs (45 ∷ 45 ∷ z ∷ zs)
long_word z zs = go (cut (z ∷ zs))
  where
    other : bytes_eq (45 ∷ 45 ∷ z ∷ zs) dashes ≡ false
    other = refl

    go : Cut (z ∷ zs) → WordIs (45 ∷ 45 ∷ z ∷ zs)
    go (cut_at name value is lack) = is_long name (Some value) other (ap (λ t. Some t) (ap name_and_value is ∙ name_and_value-at name value lack)) (ap (λ t. 45 ∷ 45 ∷ t) is) lack
    go (uncut lack) = is_long (z ∷ zs) None other (ap (λ t. Some t) (name_and_value-without (z ∷ zs) lack)) refl lack

after_dash : (y : ℕ) (ys : List ℕ) → IsUtf8 (45 ∷ y ∷ ys) → WordIs (45 ∷ y ∷ ys)
after_dash y ys utf8 = go (y == 45) refl
  where
    two : (zs : List ℕ) → WordIs (45 ∷ 45 ∷ zs)
    two [] = is_end refl
    two (z ∷ zs) = long_word z zs

    go : (b : Bool) → (y == 45) ≡ b → WordIs (45 ∷ y ∷ ys)
    go true e = subst (λ t. WordIs (45 ∷ t ∷ ys)) (sym (eqb-true y 45 e)) (two ys)
    go false e =
        let first = first_char y ys utf8 in
        is_short y ys first.0
        (other_bytes (45 ∷ y ∷ ys) dashes (λ same. let at : y ≡ 45 = cc in true≢false (sym (ap (λ t. t == 45) at) ∙ e)))
        (ap (λ b. option_and_then long_of_rest (cond b (Some ys) None)) e)
        (ap (λ b. cond b None (Some (y ∷ ys))) e) first.1 refl e

pub word_is : (word : List ℕ) → IsUtf8 word → WordIs word
word_is [] utf8 = is_plain (inr refl) refl refl refl
word_is (x ∷ xs) utf8 = go (x == 45) refl
  where
    one : (ys : List ℕ) → IsUtf8 (45 ∷ ys) → WordIs (45 ∷ ys)
    one [] u = is_plain (inl refl) refl refl refl
    one (y ∷ ys) u = after_dash y ys u

    go : (b : Bool) → (x == 45) ≡ b → WordIs (x ∷ xs)
    go true e =
        let at = eqb-true x 45 e in
        subst (λ t. WordIs (t ∷ xs)) (sym at) (one xs (subst (λ t. IsUtf8 (t ∷ xs)) at utf8))
    go false e = is_plain (inr e)
        (other_bytes (x ∷ xs) dashes (λ same. let at : x ≡ 45 = cc in true≢false (sym (ap (λ t. t == 45) at) ∙ e)))
        (ap (λ b. option_and_then long_of_rest (option_and_then (strip_byte 45) (cond b (Some xs) None))) e)
        (ap (λ b. option_and_then short_of_rest (cond b (Some xs) None)) e)
