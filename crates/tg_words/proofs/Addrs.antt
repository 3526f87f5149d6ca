-- Whether a word is an address HOST:PORT.
use Rattle.std.proofs.Common.{◌≡◌, ◌≢◌, ℕ, ◌<◌, ◌≤◌, List, [], ◌∷◌, ◌++◌, length, get_or, take, drop, Bool, true, IsTrue, refl, sym, ap, ap₂, ◌∙◌, subst, arith, length-append, take-append-drop}
use Rattle.std.specs.Prelude.{All, ◌↔◌, ◌==◌}
use Rattle.std.specs.Char.{is_ascii_graphic}
use Rattle.std.specs.List.{list_all}
use Rattle.std.specs.Str.{NoCharPasses}
use Rattle.std.specs.Str.Parse.{AllDigits}
use Rattle.std.specs.Str.Pattern.{RFindsChar, SplitsAroundMatch}
use Rattle.std.proofs.lemmas.Bool.Decides.{nat_tests}
use Rattle.std.proofs.lemmas.List.{get_or_at}
use Rattle.std.proofs.lemmas.List.Elements.{All-weaker}
use Rattle.std.proofs.lemmas.List.Sums.{AllPass-from_list_all}
use Rattle.std.proofs.lemmas.Str.Parse.{digit_at}
use Rattle.std.proofs.lemmas.Str.Pattern.{NoCharPasses-char}
use Rattle.tg_query.specs.Requests.{IsAddr}
use Rattle.tg_words.specs.Operands.{PortText}

-- ---- the last colon

-- the word is cut at its last colon
pub record IsCut (word front back : List ℕ) : Type 0 where
  pub whole : word ≡ front ++ 58 ∷ back
  pub last : (i : ℕ) → i < length back → get_or back i 0 ≢ 58

pub cut_at : (word front back : List ℕ) → SplitsAroundMatch (RFindsChar 58) word front back → IsCut word front back
unfolding lib.Utf8.encode
cut_at word front back h =
    let whole : word ≡ take h.0 word ++ 58 ∷ drop h.1 word = sym (take-append-drop h.0 word) ∙ ap (λ l. take h.0 word ++ l) h.2.1.split in
    record {
      whole = whole ∙ ap₂ (λ (a b : List ℕ). a ++ 58 ∷ b) (sym h.3) (sym h.4);
      last = λ i below. NoCharPasses-char 58 back i (subst (NoCharPasses (λ d. d == 58)) (sym h.4) h.2.0) (omega arith) below;
    }

behind_one : (port rest back : List ℕ) → port ≡ rest ++ 58 ∷ back → ((i : ℕ) → i < length port → get_or port i 0 ≢ 58) → ⊥
behind_one port rest back is last =
    last (length rest) (omega (arith, ap length is, length-append rest (58 ∷ back))) (ap (λ l. get_or l (length rest) 0) is ∙ get_or_at rest 58 back 0 (length rest) refl)

one_cut : (host port front back : List ℕ) → host ++ 58 ∷ port ≡ front ++ 58 ∷ back → ((i : ℕ) → i < length port → get_or port i 0 ≢ 58)
    → ((i : ℕ) → i < length back → get_or back i 0 ≢ 58) → port ≡ back
one_cut [] port [] back same one other = cc
one_cut [] port (x ∷ front) back same one other = let tails : port ≡ front ++ 58 ∷ back = cc in absurd (behind_one port front back tails one)
one_cut (x ∷ host) port [] back same one other = let tails : back ≡ host ++ 58 ∷ port = cc in absurd (behind_one back host port tails other)
one_cut (x ∷ host) port (y ∷ front) back same one other = let tails : host ++ 58 ∷ port ≡ front ++ 58 ∷ back = cc in one_cut host port front back tails one other

digits_last : (port : List ℕ) → AllDigits 10 port → (i : ℕ) → i < length port → get_or port i 0 ≢ 58
digits_last port digits i below is = let digit = digit_at port i digits below in absurd (omega (arith, digit.1, is))

-- ---- addresses

visible_by : (b : ℕ) → is_ascii_graphic b ≡ true → (33 ≤ b) × (b ≤ 126)
visible_by b is = grind (arith, nat_tests, is)

visible_all : (word : List ℕ) → list_all is_ascii_graphic word ≡ true → All (λ b. (33 ≤ b) × (b ≤ 126)) word
visible_all word all = All-weaker (λ b. is_ascii_graphic b ≡ true) (λ b. (33 ≤ b) × (b ≤ 126)) visible_by word (AllPass-from_list_all is_ascii_graphic word all)

pub addr_by : (word front back : List ℕ) (test : Bool) → 3 ≤ length word → length word ≤ 255 → list_all is_ascii_graphic word ≡ true → IsCut word front back
    → (IsTrue test ↔ PortText back) → IsTrue test ↔ IsAddr word
addr_by word front back test enough few all cut says = (
  (λ yes. let port = says.0 yes in
      record {
        few = few;
        enough = enough;
        visible = visible_all word all;
        host = front;
        port = back;
        whole = cut.whole;
        digits = port.digits;
        at_most_five = port.at_most_five;
        not_zero = port.not_zero;
        fits = port.fits;
      }),
  λ addr.
      let same = one_cut addr.host addr.port front back (sym addr.whole ∙ cut.whole) (digits_last addr.port addr.digits.1) cut.last in
      says.1 (subst PortText same (record { digits = addr.digits; at_most_five = addr.at_most_five; not_zero = addr.not_zero; fits = addr.fits })),
)

-- a word without a colon is none
pub no_addr : (word : List ℕ) → NoCharPasses (λ d. d == 58) word → IsAddr word → ⊥
no_addr word none addr =
    NoCharPasses-char 58 word (length addr.host) none (omega arith) (omega (arith, ap length addr.whole, length-append addr.host (58 ∷ addr.port)))
    (ap (λ l. get_or l (length addr.host) 0) addr.whole ∙ get_or_at addr.host 58 addr.port 0 (length addr.host) refl)
