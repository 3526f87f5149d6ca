-- Each head of a reply has a framing, and one.
use Rattle.std.proofs.Common.{◌≡◌, ℕ, ◌<◌, ◌≤◌, ◌^◌, Bool, true, false, List, [], ◌∷◌, codes, inl, inr, length, map, refl, sym, ap, subst, ◌∙◌, arith}
use Rattle.httparse.specs.Grammar.{ResponseHead as ReplyTree, status_code}
use Rattle.httparse.specs.Spans.{name_and_value}
use Rattle.std.specs.Bool.{Decides}
use Rattle.std.specs.List.{list_all}
use Rattle.std.specs.Prelude.{IsTrue, nat_le, nat_lt, ◌&&◌}
use Rattle.std.specs.Char.{is_digit}
use Rattle.std.specs.Str.{str_eq_ignore_ascii_case}
use Rattle.std.specs.Str.Parse.{digits_value}
use Rattle.std.proofs.lemmas.Bool.Decides.{Decides-and, Decides-ltb, not_from_Decides}
use Rattle.tg_bytes.specs.Lists.{same_only}
use Rattle.tg_bytes.specs.DigitLaws.{digits_decide}
use Rattle.tg_bytes.specs.Digits.{IsDigits}
use Rattle.tg_http.specs.Fields.{coding_of, first, values}
use Rattle.tg_http.specs.Framing.{HasFraming, IsFramingOf, codings, lengths}
use Rattle.tg_http.specs.Heads.{TellsReply}
use Rattle.tg_http.specs.declared.framing.Framing.{Framing}
use Rattle.tg_http.specs.declared.framing.Framing.TheVariants as framings
use Rattle.tg_http.specs.declared.reply.ReplyHead.{ReplyHead}

-- ---- each head has a framing

-- names and values
abbrev Fields : Type 0
Fields = List (List ℕ × List ℕ)

-- a list with an element is not empty
some_none : (x : List ℕ) (xs : List (List ℕ)) → x ∷ xs ≡ [] → ⊥
some_none x xs e = cc

-- nor is a list of two elements one of one
two_one : (x y z : List ℕ) (xs : List (List ℕ)) → x ∷ y ∷ xs ≡ z ∷ [] → ⊥
two_one x y z xs e = cc

-- the fields have a framing
abbrev Framed : Fields → Type 0
Framed fields = (framing : Framing) × IsFramingOf fields framing

-- fields that have none of the framings are broken
broken : (fields : Fields) → ((other : Framing) → HasFraming fields other → ⊥) → Framed fields
broken fields no_other = (framings.Broken, inr (refl, no_other))

-- 1 to 19 digits, of a number below 2 ^ 63
abbrev is_length : List ℕ → Bool
is_length value = nat_lt 0 (length value) && (list_all (λ b. is_digit b 10) value && (nat_le (length value) 19 && nat_lt (digits_value 10 value) (2 ^ 63)))

-- the value writes a length
abbrev Lengths : List ℕ → Type 0
Lengths value = IsDigits value (digits_value 10 value) × (digits_value 10 value < 2 ^ 63)

-- the test of an order decides it
le_decides : (a b : ℕ) → Decides (nat_le a b) (a ≤ b)
le_decides a b = (λ e. grind (arith, e), λ e. grind (arith, e))

-- and the test of a length decides whether the value writes one
length_decides : (value : List ℕ) → Decides (is_length value) (Lengths value)
length_decides value =
    let all = Decides-and _ _ (Decides-ltb 0 (length value)) (Decides-and _ _ (digits_decide value)
    (Decides-and _ _ (le_decides (length value) 19) (Decides-ltb (digits_value 10 value) (2 ^ 63)))) in (
      λ e.
          let h = all.0 e in
          (record { digits = (h.0, h.1.0); few = h.1.1.0; number_is = refl }, h.1.1.1),
      λ i. all.1 (i.0.digits.0, (i.0.digits.1, (i.0.few, i.1))),
    )

-- a field of one kind, and fields of the other
no_coding : (fields : Fields) (value : List ℕ) (t : Bool) → codings fields ≡ [] → lengths fields ≡ value ∷ [] → is_length value ≡ t → Framed fields
no_coding fields value true c l e =
    let h = (length_decides value).0 e in
    (framings.Length (digits_value 10 value), inl (c, value, l, h.0, h.1))
no_coding fields value false c l e = broken fields none_has
  where
    none_has : (other : Framing) → HasFraming fields other → ⊥
    none_has (framings.Length n) h =
        let same : h.1 ≡ value = same_only h.1 value (sym h.2 ∙ l) in
        let number : n ≡ digits_value 10 value = h.3.number_is ∙ ap (digits_value 10) same in
        not_from_Decides _ (length_decides value) e
        (subst (λ (m : ℕ). IsDigits value m × (m < 2 ^ 63)) number (subst (λ (v : List ℕ). IsDigits v n × (n < 2 ^ 63)) same (h.3, h.4)))
    none_has framings.Chunked h = some_none value [] (sym l ∙ h.0)
    none_has framings.UntilClose h = some_none value [] (sym l ∙ h.1)
    none_has framings.Broken h = h

-- the same of one coding
no_length : (fields : Fields) (value : List ℕ) (t : Bool) → codings fields ≡ value ∷ [] → lengths fields ≡ [] → str_eq_ignore_ascii_case value (codes "chunked") ≡ t
    → Framed fields
no_length fields value true c l e = (framings.Chunked, inl (l, value, c, e))
no_length fields value false c l e = broken fields none_has
  where
    clash : true ≡ false → ⊥
    clash e = cc

    none_has : (other : Framing) → HasFraming fields other → ⊥
    none_has (framings.Length n) h = some_none value [] (sym c ∙ h.0)
    none_has framings.Chunked h =
        let same : h.1 ≡ value = same_only h.1 value (sym h.2 ∙ c) in
        clash (sym (subst (λ (v : List ℕ). IsTrue (str_eq_ignore_ascii_case v (codes "chunked"))) same h.3) ∙ e)
    none_has framings.UntilClose h = some_none value [] (sym c ∙ h.0)
    none_has framings.Broken h = h

-- by the numbers of codings and of lengths
by_both : (fields : Fields) (c l : List (List ℕ)) → codings fields ≡ c → lengths fields ≡ l → Framed fields
by_both fields [] [] c l = (framings.UntilClose, inl (c, l))
by_both fields [] (value ∷ []) c l = no_coding fields value (is_length value) c l refl
by_both fields [] (value ∷ other ∷ more) c l = broken fields none_has
  where
    none_has : (other : Framing) → HasFraming fields other → ⊥
    none_has (framings.Length n) h = two_one value other h.1 more (sym l ∙ h.2)
    none_has framings.Chunked h = some_none value (other ∷ more) (sym l ∙ h.0)
    none_has framings.UntilClose h = some_none value (other ∷ more) (sym l ∙ h.1)
    none_has framings.Broken h = h
by_both fields (value ∷ []) [] c l = no_length fields value (str_eq_ignore_ascii_case value (codes "chunked")) c l refl
by_both fields (value ∷ []) (number ∷ more) c l = broken fields none_has
  where
    none_has : (other : Framing) → HasFraming fields other → ⊥
    none_has (framings.Length n) h = some_none value [] (sym c ∙ h.0)
    none_has framings.Chunked h = some_none number more (sym l ∙ h.0)
    none_has framings.UntilClose h = some_none value [] (sym c ∙ h.0)
    none_has framings.Broken h = h
by_both fields (value ∷ other ∷ more) found c l = broken fields none_has
  where
    none_has : (framing : Framing) → HasFraming fields framing → ⊥
    none_has (framings.Length n) h = some_none value (other ∷ more) (sym c ∙ h.0)
    none_has framings.Chunked h = two_one value other h.1 more (sym c ∙ h.2)
    none_has framings.UntilClose h = some_none value (other ∷ more) (sym c ∙ h.0)
    none_has framings.Broken h = h

-- each list of fields has a framing
framed : (fields : Fields) → Framed fields
framed fields = by_both fields (codings fields) (lengths fields) refl refl

-- a head is told of each tree
pub told_of : (used : ℕ) (tree : ReplyTree) → (head : ReplyHead) × TellsReply tree used head
told_of used tree =
    let fields = map name_and_value tree.fields in
    let framing = framed fields in (
      record {
        used = used;
        status = status_code tree;
        kind = first (values (codes "content-type") fields);
        coding = coding_of (values (codes "content-encoding") fields);
        framing = framing.0;
      },
      record { used_is = refl; status_is = refl; kind_is = refl; coding_is = refl; framing_is = framing.1 },
    )

-- ---- and no other

-- fields have one of the framings that a body can have
has_one : (fields : List (List ℕ × List ℕ)) (wanted found : Framing) → HasFraming fields wanted → HasFraming fields found → wanted ≡ found
has_one fields (framings.Length n) (framings.Length m) h k =
    let same = same_only h.1 k.1 (sym h.2 ∙ k.2) in
    ap framings.Length (h.3.number_is ∙ ap (digits_value 10) same ∙ sym k.3.number_is)
has_one fields (framings.Length n) framings.Chunked h k = absurd (some_none h.1 [] (sym h.2 ∙ k.0))
has_one fields (framings.Length n) framings.UntilClose h k = absurd (some_none h.1 [] (sym h.2 ∙ k.1))
has_one fields (framings.Length n) framings.Broken h k = absurd k
has_one fields framings.Chunked (framings.Length m) h k = absurd (some_none k.1 [] (sym k.2 ∙ h.0))
has_one fields framings.Chunked framings.Chunked h k = refl
has_one fields framings.Chunked framings.UntilClose h k = absurd (some_none h.1 [] (sym h.2 ∙ k.0))
has_one fields framings.Chunked framings.Broken h k = absurd k
has_one fields framings.UntilClose (framings.Length m) h k = absurd (some_none k.1 [] (sym k.2 ∙ h.1))
has_one fields framings.UntilClose framings.Chunked h k = absurd (some_none k.1 [] (sym k.2 ∙ h.0))
has_one fields framings.UntilClose framings.UntilClose h k = refl
has_one fields framings.UntilClose framings.Broken h k = absurd k
has_one fields framings.Broken found h k = absurd h

-- and so one at all, since broken fields have none of these
pub one_framing : (fields : Fields) (f g : Framing) → IsFramingOf fields f → IsFramingOf fields g → f ≡ g
one_framing fields f g (inl h) (inl k) = has_one fields f g h k
one_framing fields f g (inl h) (inr k) = absurd (k.1 f h)
one_framing fields f g (inr h) (inl k) = absurd (h.1 g k)
one_framing fields f g (inr h) (inr k) = h.0 ∙ sym k.0
