-- The heads of replies read back as what they were given.
use Rattle.std.proofs.Common.{◌≡◌, ℕ, ◌^◌, ◌<◌, ◌≤◌, Bool, true, false, All, List, [], ◌∷◌, Some, codes, inl, inr, length, map, not, refl, reverse, sym, ap, subst, ◌∙◌, arith}
use Rattle.httparse.specs.Grammar.{AllPass, is_ows, is_value_byte, skip_ows, trim_ows}
use Rattle.httparse.specs.Spans.{name_and_value}
use Rattle.httparse.proofs.TrimLemmas.{AllPass-reverse, skip_ows_no, trim_ows_space}
use Rattle.std.specs.Char.{digit_value}
use Rattle.std.specs.Prelude.{IsTrue, decimal}
use Rattle.std.specs.Str.Parse.{AllDigits, digits_value}
use Rattle.std.proofs.lemmas.Bool.{ne_eqb}
use Rattle.std.proofs.lemmas.List.Elements.{All-head}
use Rattle.tg_bytes.specs.Lists.{same_only}
use Rattle.tg_bytes.specs.DigitLaws.{decimal_digits, digits_all}
use Rattle.tg_bytes.specs.Digits.{IsDigits}
use Rattle.tg_http.specs.Fields.{coding_of, first, values}
use Rattle.tg_http.specs.Framing.{HasFraming, IsFramingOf}
use Rattle.tg_http.specs.declared.framing.Framing.{Framing}
use Rattle.tg_http.specs.declared.framing.Framing.TheVariants as framings
use Rattle.tg_reply.specs.Heads.{NamedValue, digits_of, head_text}
use Rattle.tg_reply.specs.Laws.{ReadsBack, number_of}
use Rattle.tg_reply.specs.declared.status.Status.{Status}
use Rattle.tg_reply.specs.declared.status.Status.TheVariants as statuses
use Rattle.tg_reply.proofs.HeadLines.{Good, is_reply, tree_field, tree_of}

-- ---- one framing

some_none : {A : Type 0} (x : A) (xs : List A) → x ∷ xs ≡ [] → ⊥
some_none x xs e = cc

has_one : (fields : List (List ℕ × List ℕ)) (wanted found : Framing) → HasFraming fields wanted → HasFraming fields found → found ≡ wanted
has_one fields (framings.Length n) (framings.Length m) h k =
    let same = same_only h.1 k.1 (sym h.2 ∙ k.2) in
    ap framings.Length (k.3.number_is ∙ ap (digits_value 10) (sym same) ∙ sym h.3.number_is)
has_one fields (framings.Length n) framings.Chunked h k = absurd (some_none h.1 [] (sym h.2 ∙ k.0))
has_one fields (framings.Length n) framings.UntilClose h k = absurd (some_none h.1 [] (sym h.2 ∙ k.1))
has_one fields (framings.Length n) framings.Broken h k = absurd k
has_one fields framings.Chunked (framings.Length m) h k = absurd (some_none k.1 [] (sym k.2 ∙ h.0))
has_one fields framings.Chunked framings.Chunked h k = refl
has_one fields framings.Chunked framings.UntilClose h k = absurd (some_none h.1 [] (sym h.2 ∙ k.0))
has_one fields framings.Chunked framings.Broken h k = absurd k
has_one fields framings.UntilClose (framings.Length m) h k = absurd (some_none k.1 [] (sym k.2 ∙ h.1))
has_one fields framings.UntilClose framings.Chunked h k = absurd (some_none k.1 [] (sym k.2 ∙ h.0))
has_one fields framings.UntilClose framings.UntilClose h k = refl
has_one fields framings.UntilClose framings.Broken h k = absurd k
has_one fields framings.Broken found h k = absurd h

one_framing : (fields : List (List ℕ × List ℕ)) (wanted found : Framing) → HasFraming fields wanted → IsFramingOf fields found → found ≡ wanted
one_framing fields wanted found h (inl k) = has_one fields wanted found h k
one_framing fields wanted found h (inr k) = absurd (k.1 wanted h)

-- ---- values

abbrev is_inside : ℕ → Bool
is_inside b = not (is_ows b)

inside_no : (b : ℕ) → IsTrue (is_inside b) → false ≡ is_ows b
inside_no b t = by_test (is_ows b) t
  where
    by_test : (o : Bool) → not o ≡ true → false ≡ o
    by_test true t = absurd cc
    by_test false t = refl

skip_none : (bytes : List ℕ) → AllPass is_inside bytes → skip_ows bytes ≡ bytes
skip_none [] pass = refl
skip_none (b ∷ bytes) pass = skip_ows_no {b = b} {all = b ∷ bytes} {rest = bytes} refl (inside_no b (All-head (λ (b : ℕ). IsTrue (is_inside b)) b bytes pass))

shown_inside : (bytes : List ℕ) → AllPass is_inside bytes → trim_ows (32 ∷ bytes) ≡ bytes
shown_inside bytes pass = trim_ows_space bytes (skip_none bytes pass) (skip_none (reverse bytes) (AllPass-reverse is_inside bytes pass))

digit_inside : (b : ℕ) → digit_value b < 10 → IsTrue (is_inside b)
digit_inside b h =
    let space : (b ≡ 32) → ⊥ = λ e. omega (arith, h, ap digit_value e) in
    let tab : (b ≡ 9) → ⊥ = λ e. omega (arith, h, ap digit_value e) in
    rw (ne_eqb b 32 space, ne_eqb b 9 tab) refl

digit_value_byte : (b : ℕ) → digit_value b < 10 → IsTrue (is_value_byte b)
digit_value_byte b h = grind (arith, h)

pub digits_value_bytes : (text : List ℕ) → AllDigits 10 text → AllPass is_value_byte text
digits_value_bytes = digits_all (λ (b : ℕ). IsTrue (is_value_byte b)) digit_value_byte

decimal_shown : (n : ℕ) → n < 2 ^ 63 → trim_ows (32 ∷ decimal n) ≡ decimal n
decimal_shown n h = shown_inside (decimal n) (digits_all (λ (b : ℕ). IsTrue (is_inside b)) digit_inside (decimal n) (decimal_digits n h).digits.1)

pub length_value : (n : ℕ) → n < 2 ^ 63 → IsDigits (trim_ows (32 ∷ decimal n)) n
length_value n h = subst (λ (v : List ℕ). IsDigits v n) (sym (decimal_shown n h)) (decimal_digits n h)

-- ---- any head of such fields

abbrev pub told_fields : List NamedValue → List (List ℕ × List ℕ)
told_fields fields = map name_and_value (map tree_field fields)

status_number : (status : Status) → digits_value 10 (digits_of status) ≡ number_of status
status_number statuses.Ok = refl
status_number statuses.BadRequest = refl
status_number statuses.NotFound = refl
status_number statuses.MethodNotAllowed = refl
status_number statuses.NotAcceptable = refl
status_number statuses.FieldsTooLarge = refl
status_number statuses.ServerError = refl

pub reads_back : (status : Status) (fields : List NamedValue) (kind : List ℕ) (framing : Framing) → All Good fields → length fields ≤ 64 → length (head_text status fields) ≤ 16384
    → first (values (codes "content-type") (told_fields fields)) ≡ Some kind → values (codes "content-encoding") (told_fields fields) ≡ [] → HasFraming (told_fields fields) framing
    → ReadsBack (head_text status fields) (number_of status) kind framing
reads_back status fields kind framing good few fits type coding has = record {
  tree = tree_of status fields;
  is_reply = λ rest. is_reply status fields rest good few fits;
  told = λ head t. record {
    used = t.used_is;
    status_is = t.status_is ∙ status_number status;
    kind_is = t.kind_is ∙ type;
    coding = t.coding_is ∙ ap coding_of coding;
    framing_is = one_framing (told_fields fields) framing head.framing has t.framing_is;
  };
}
