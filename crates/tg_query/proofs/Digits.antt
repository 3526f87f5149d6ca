-- The digits of a number.
use Rattle.std.proofs.Common.{◌≡◌, Bool, true, false, ap, refl, subst, sym, ◌∙◌, ℕ, ◌^◌, ◌<◌, ◌≤◌, List, length}
use Rattle.std.specs.Bool.{Decides, then_some}
use Rattle.std.specs.Char.{is_digit}
use Rattle.std.specs.List.{list_all}
use Rattle.std.proofs.lemmas.Bool.{cond-true, cond_both, le-leb, leb-true, lt-ltb, ltb-true}
use Rattle.std.proofs.lemmas.Bool.Decides.{Decides-and, Decides-ltb}
use Rattle.std.specs.Prelude.{None, Option, Some, nat_le, nat_lt, ◌&&◌}
use Rattle.std.specs.Str.Parse.{AllDigits, digits_value}
use Rattle.tg_bytes.specs.DigitLaws.{digits_decide}
use Rattle.tg_bytes.specs.Digits.{IsDigits}
use Rattle.tg_query.specs.Spans.{NumberText, is_number, number_of}

-- numbers of 1 to 19 digits: the test says what the relation says
abbrev Parts : List ℕ → Type 0
Parts text = (0 < length text) × ((length text ≤ 19) × (AllDigits 10 text × (digits_value 10 text < 2 ^ 63)))

number_decides : (text : List ℕ) → Decides (is_number text) (Parts text)
number_decides text =
    let small = nat_lt (digits_value 10 text) (2 ^ 63) in
    let digits = list_all (λ (b : ℕ). is_digit b 10) text in
    Decides-and (nat_lt 0 (length text)) (nat_le (length text) 19 && (digits && small)) (Decides-ltb 0 (length text))
    (Decides-and (nat_le (length text) 19) (digits && small) (leb-true (length text) 19, le-leb (length text) 19)
    (Decides-and digits small (digits_decide text) (Decides-ltb (digits_value 10 text) (2 ^ 63))))

pub number_none : (text : List ℕ) → (Parts text → ⊥) → number_of text ≡ None
unfolding number_of
number_none text never =
    cond_both (is_number text) (Some (digits_value 10 text)) None (λ (o : Option ℕ). o ≡ None) (λ t. absurd (never ((number_decides text).0 t))) (λ f. refl)

pub number_some : (text : List ℕ) → Parts text → number_of text ≡ Some (digits_value 10 text)
unfolding number_of
number_some text p = cond-true (is_number text) (Some (digits_value 10 text)) None ((number_decides text).1 p)

-- the number of a text is what the relation says
pub number_found : (text : List ℕ) (n : ℕ) → NumberText text n → number_of text ≡ Some n
number_found text n h =
    let is = h.written.number_is in
    number_some text (h.written.digits.0, (h.written.few, (h.written.digits.1, subst (λ (k : ℕ). k < 2 ^ 63) is h.small))) ∙ ap (λ (k : ℕ). Some k) (sym is)

pub number_told : (text : List ℕ) (n : ℕ) → number_of text ≡ Some n → NumberText text n
unfolding number_of
number_told text n =
    cond_both (is_number text) (Some (digits_value 10 text)) None (λ (o : Option ℕ). o ≡ Some n → NumberText text n)
    (λ t e.
    let p = (number_decides text).0 t in
    let same : digits_value 10 text ≡ n = cc in
    record { written = record { digits = (p.0, p.1.1.0); few = p.1.0; number_is = sym same }; small = subst (λ (k : ℕ). k < 2 ^ 63) same p.1.1.1 })
    (λ f e. absurd cc)

-- ---- what was read of the digits

pub none_read : (text : List ℕ) → ((n : ℕ) → IsDigits text n → ⊥) → None ≡ number_of text
none_read text never =
    sym (number_none text (λ p. never (digits_value 10 text) (record { digits = (p.0, p.1.1.0); few = p.1.0; number_is = refl })))

by_test : (b : Bool) (n : ℕ) (o : Option ℕ) → (b ≡ true → Some n ≡ o) → (b ≡ false → None ≡ o) → then_some b n ≡ o
by_test true n o hit miss = hit refl
by_test false n o hit miss = miss refl

pub number_read : (text : List ℕ) (number : ℕ) → IsDigits text number → then_some (nat_lt number (2 ^ 63)) number ≡ number_of text
number_read text number h =
    let is = h.number_is in
    by_test (nat_lt number (2 ^ 63)) number (number_of text)
    (λ t. sym (number_found text number (record { written = h; small = ltb-true number (2 ^ 63) t })))
    (λ f. sym (number_none text (λ p. let t : nat_lt number (2 ^ 63) ≡ true = lt-ltb number (2 ^ 63) (subst (λ (k : ℕ). k < 2 ^ 63) (sym is) p.1.1.1) in absurd cc)))
