-- The request at the front of bytes is found and read by computing.
use Rattle.std.proofs.Common.{◌≡◌, ◌⊎◌, ◌↔◌, ℕ, ◌<◌, ◌≤◌, Bool, true, false, All, List, [], ◌∷◌, ◌++◌, None, Option, Some, inl, inr, length, map, refl, sym, ap, subst, ◌∙◌, arith, append_assoc}
use Rattle.httparse.specs.Grammar.{Field, IsField, IsRequestHead, IsToken, RequestHead as RequestTree, ReadsRequest, is_token, is_token_byte, is_uri_byte, is_value_byte, print_blank, print_end, print_request}
use Rattle.httparse.specs.Spans.{name_and_value}
use Rattle.std.specs.Bool.{Decides}
use Rattle.std.specs.List.{list_all}
use Rattle.std.specs.Prelude.{IsFalse, IsTrue, drop, nat_le, nat_lt, not}
use Rattle.std.specs.Str.Parse.{digits_value}
use Rattle.std.proofs.lemmas.Bool.{ltb-false}
use Rattle.std.proofs.lemmas.Bool.Decides.{Decides-and, Decides-by_and, Decides-eqb, Decides-ltb, not_from_Decides}
use Rattle.std.proofs.lemmas.List.{append-nil, drop_at, length-append}
use Rattle.std.proofs.lemmas.Option.{same_Some}
use Rattle.std.proofs.lemmas.Slice.Eq.{bytes_eq-Decides}
use Rattle.std.proofs.lemmas.Str.{IsUtf8-from_is_utf8, is_utf8-from_IsUtf8}
use Rattle.tg_bytes.specs.Lists.{joined}
use Rattle.tg_bytes.specs.DigitLaws.{digits_decide}
use Rattle.tg_bytes.specs.Digits.{IsDigits}
use Rattle.tg_http.specs.Framing.{HasNoBody, codings, lengths}
use Rattle.tg_http.specs.HeadText.{BeginsHead, HeadText}
use Rattle.tg_http.specs.Heads.{IsNoRequest, TellsRequest}
use Rattle.tg_http.specs.Laws.{LineLaws}
use Rattle.tg_reply.specs.FirstHead.{FirstHeads, HeadLines, IsFirst, announces_body, first_of_lines, first_of_request, head_lines, is_field, is_request, is_request_head, is_zero_text, lines_of, request_of_lines, states_length, text_of_lines, told_of}
use Rattle.tg_reply.proofs.RequestLines.{lines_fields, lines_start, lines_text, request_read, tree_lines}
use Rattle.tg_reply.proofs.TextLines.{HeadFound, are_lines, head_at, head_found, lines_in, text_found}

-- a head text isn't empty
pub some_text : (text : List ℕ) (count : ℕ) → HeadText text count → 0 < length text
some_text text count t =
    let start = t.start_is.line_is in
    let rest = t.start ++ (joined t.fields ++ print_end t.last) in
    omega (
      arith,
      ap length t.whole,
      length-append (print_blank t.blank) rest,
      length-append t.start (joined t.fields ++ print_end t.last),
      ap length start.whole,
      length-append start.front (10 ∷ []),
    )

-- ---- the tests decide

all_decides : (test : ℕ → Bool) (bytes : List ℕ) → Decides (list_all test bytes) (All (λ b. IsTrue (test b)) bytes)
all_decides test bytes = Decides-by_and test (λ b. IsTrue (test b)) (list_all test) (λ b. (λ e. e, λ e. e)) refl (λ _ _. refl) bytes

token_decides : (bytes : List ℕ) → Decides (is_token bytes) (IsToken bytes)
token_decides bytes = Decides-and _ _ (Decides-ltb 0 (length bytes)) (all_decides is_token_byte bytes)

field_decides : (f : Field) → Decides (is_field f) (IsField f)
field_decides f =
    let both = Decides-and _ _ (token_decides f.name) (all_decides is_value_byte f.raw) in
    (λ e. record { name = (both.0 e).0; raw = (both.0 e).1 }, λ i. both.1 (i.name, i.raw))

le_decides : (a b : ℕ) → Decides (nat_le a b) (a ≤ b)
le_decides a b = (λ e. grind (arith, e), λ e. grind (arith, e))

head_decides : (tree : RequestTree) → Decides (is_request_head tree) (IsRequestHead tree)
head_decides tree =
    let fields = Decides-by_and is_field IsField (list_all is_field) field_decides refl (λ _ _. refl) tree.fields in
    let all = Decides-and _ _ (token_decides tree.method) (Decides-and _ _ (Decides-ltb 0 (length tree.target)) (Decides-and _ _ (all_decides is_uri_byte tree.target)
    (Decides-and _ _ (IsUtf8-from_is_utf8 tree.target, is_utf8-from_IsUtf8 tree.target) (Decides-and _ _ (le_decides tree.minor 1) fields)))) in (
      λ e.
          let h = all.0 e in
          record { method = h.0; target = (h.1.0, h.1.1.0); target_text = h.1.1.1.0; minor = h.1.1.1.1.0; fields = h.1.1.1.1.1 },
      λ i. all.1 (i.method, (i.target.0, (i.target.1, (i.target_text, (i.minor, i.fields))))),
    )

-- it prints as the text exactly where the text is the request
request_decides : (tree : RequestTree) (text : List ℕ) → Decides (is_request tree text) (ReadsRequest text tree [])
request_decides tree text =
    let both = Decides-and _ _ (head_decides tree) (bytes_eq-Decides text (print_request tree)) in (
      λ e. ((both.0 e).0, (both.0 e).1 ∙ sym (append-nil (print_request tree))),
      λ r. both.1 (r.0, r.1 ∙ append-nil (print_request tree)),
    )

-- ---- whether a body is announced

zero_decides : (value : List ℕ) → Decides (is_zero_text value) (IsDigits value 0)
zero_decides value =
    let all = Decides-and _ _ (Decides-ltb 0 (length value)) (Decides-and _ _ (digits_decide value) (Decides-and _ _ (le_decides (length value) 19) (Decides-eqb 0 (digits_value 10 value)))) in (
      λ e.
          let h = all.0 e in
          record { digits = (h.0, h.1.0); few = h.1.1.0; number_is = h.1.1.1 },
      λ i. all.1 (i.digits.0, (i.digits.1, (i.few, i.number_is))),
    )

abbrev NoLength : List (List ℕ) → Type 0
NoLength found = (found ≡ []) ⊎ ((value : List ℕ) × (found ≡ value ∷ []) × IsDigits value 0)

length_told : (found : List (List ℕ)) → IsFalse (states_length found) ↔ NoLength found
length_told [] = (λ e. inl refl, λ h. refl)
length_told (value ∷ []) = (by_test (is_zero_text value) refl, back)
  where
    by_test : (t : Bool) → is_zero_text value ≡ t → IsFalse (not t) → NoLength (value ∷ [])
    by_test true e f = inr (value, refl, (zero_decides value).0 e)
    by_test false e f = absurd (clash f)
      where
        clash : IsFalse true → ⊥
        clash e = cc

    back : NoLength (value ∷ []) → IsFalse (not (is_zero_text value))
    back (inl e) = absurd (cc e)
    back (inr h) =
        let same : value ≡ h.0 = cc h.1 in
        rw ((zero_decides value).1 (subst (λ (v : List ℕ). IsDigits v 0) (sym same) h.2)) refl
length_told (value ∷ other ∷ more) = (λ f. absurd (clash f), λ h. absurd (two h))
  where
    clash : IsFalse true → ⊥
    clash e = cc

    two : NoLength (value ∷ other ∷ more) → ⊥
    two (inl e) = cc e
    two (inr h) = cc h.1

body_told : (fields : List (List ℕ × List ℕ)) → IsFalse (announces_body fields) ↔ HasNoBody fields
body_told fields = by_codings (codings fields) refl
  where
    by_codings : (found : List (List ℕ)) → codings fields ≡ found → IsFalse (announces_body fields) ↔ HasNoBody fields
    by_codings [] e =
        let told = length_told (lengths fields) in
        (λ f. record { no_coding = e; no_length = told.0 (rw e at f) }, λ h. rw e (told.1 h.no_length))
    by_codings (value ∷ more) e = (λ f. absurd (clash (rw e at f)), λ h. absurd (some (sym e ∙ h.no_coding)))
      where
        clash : IsFalse true → ⊥
        clash e = cc

        some : value ∷ more ≡ [] → ⊥
        some e = cc

tells : (used : ℕ) (tree : RequestTree) → TellsRequest tree used (told_of used tree)
tells used tree =
    record { used_is = refl; method_is = refl; target_is = refl; minor_is = refl; accept_is = refl; close_is = refl; framed_is = body_told (map name_and_value tree.fields) }

-- ---- the first head

clash_none : {T : Type 0} {x : T} → None ≡ Some x → ⊥
clash_none e = cc

module _ (laws : LineLaws) (bytes : List ℕ) where
  -- a head text at the front is the text of the lines that are found
  one_text : (found : Option HeadLines) → head_lines (lines_of bytes) ≡ found → (text : List ℕ) (count : ℕ) (b : BeginsHead bytes text count)
      → found ≡ Some (lines_in text count b.text_is)
  one_text found e text count b = sym e ∙ ap (λ (l : List ℕ). head_lines (lines_of l)) b.whole ∙ text_found laws.end_line text b.rest count b.text_is

  no_text : head_lines (lines_of bytes) ≡ None → (text : List ℕ) (count : ℕ) → BeginsHead bytes text count → ⊥
  no_text e text count b = clash_none (one_text None e text count b)

  by_none : head_lines (lines_of bytes) ≡ None → IsFirst bytes (first_of_lines bytes None)
  by_none e = by_size (nat_lt (length bytes) 16384) refl
    where
      by_size : (t : Bool) → nat_lt (length bytes) 16384 ≡ t → IsFirst bytes (first_of_lines bytes None)
      by_size true s = rw s (record { none = no_text e; short = (Decides-ltb (length bytes) 16384).0 s })
      by_size false s = rw s (inl (ltb-false (length bytes) 16384 s, no_text e))

  module _ (head : HeadLines) (e : head_lines (lines_of bytes) ≡ Some head) where
    text : List ℕ
    text = text_of_lines head

    found : HeadFound (lines_of bytes) head
    found = head_found (lines_of bytes) head (are_lines bytes).each e

    rest : List ℕ
    rest = joined found.left ++ (are_lines bytes).rest

    whole : bytes ≡ text ++ rest
    unfolding text rest
    whole =
        (are_lines bytes).whole ∙ ap (λ (l : List ℕ). l ++ (are_lines bytes).rest) found.whole
        ∙ append_assoc (text_of_lines head) (joined found.left) (are_lines bytes).rest

    is_text : HeadText text (length head.section.fields)
    unfolding text
    is_text = record {
      blank = head.blank;
      start = head.start;
      fields = head.section.fields;
      last = head.section.last;
      start_is = found.start_is;
      fields_are = found.fields_are;
      count_is = refl;
      whole = refl;
    }

    -- another head text is the same
    same_text : (other : List ℕ) (count : ℕ) → BeginsHead bytes other count → other ≡ text
    unfolding text
    same_text other count b =
        b.text_is.whole ∙ ap text_of_lines (sym (same_Some _ _ (one_text (Some head) e other count b)))

    begins_text : length text ≤ 16384 → BeginsHead bytes text (length head.section.fields)
    begins_text fits = record { text_is = is_text; rest = rest; whole = whole; fits = fits }

    -- a request that the text is, is read from the lines
    one_tree : (tree : RequestTree) → ReadsRequest text tree [] → request_of_lines head ≡ tree
    unfolding text
    one_tree tree r =
        let printed : text_of_lines head ≡ text_of_lines (tree_lines tree) = r.1 ∙ append-nil (print_request tree) ∙ sym (lines_text tree) in
        let here = head_at laws.end_line head.blank head.start head.section.fields head.section.last [] found.start_is found.fields_are in
        let lines = tree_lines tree in
        let there = head_at laws.end_line lines.blank lines.start lines.section.fields lines.section.last [] (lines_start tree r.0) (lines_fields tree r.0) in
        let same : head ≡ lines = same_Some _ _ (sym here ∙ ap (λ (l : List ℕ). head_lines (lines_of (l ++ []))) printed ∙ there) in
        ap request_of_lines same ∙ request_read tree r.0

    -- the text within the limits is a request, or none
    by_text : length text ≤ 16384 → length head.section.fields ≤ 64 → IsFirst bytes (first_of_request bytes text (request_of_lines head))
    by_text fits few = by_test (is_request (request_of_lines head) text) refl
      where
        by_test : (t : Bool) → is_request (request_of_lines head) text ≡ t → IsFirst bytes (first_of_request bytes text (request_of_lines head))
        by_test true s =
            let left : drop (length text) bytes ≡ rest = ap (drop (length text)) whole ∙ drop_at text rest (length text) refl in
            rw (s, left) (
              record {
                text = text;
                tree = request_of_lines head;
                is_request = record {
                  count = length head.section.fields;
                  begins = begins_text fits;
                  few = few;
                  reads = (request_decides (request_of_lines head) text).0 s;
                };
                told = tells (length text) (request_of_lines head);
                whole = whole;
              },
              omega (arith, ap length whole, length-append text rest, some_text text (length head.section.fields) is_text),
            )
        by_test false s =
            let none : IsNoRequest text = λ tree r.
            not_from_Decides _ (request_decides tree text) (subst (λ (t : RequestTree). is_request t text ≡ false) (one_tree tree r) s) r in
            rw s (text, length head.section.fields, begins_text fits, few, none)

    by_head : IsFirst bytes (first_of_lines bytes (Some head))
    unfolding text
    by_head = by_size (nat_lt 16384 (length text)) refl
      where
        by_count : (t : Bool) → nat_lt 16384 (length text) ≡ false → nat_lt 64 (length head.section.fields) ≡ t → IsFirst bytes (first_of_lines bytes (Some head))
        by_count true s c =
            rw (s, c) (inr (text, length head.section.fields, begins_text (ltb-false 16384 (length text) s), (Decides-ltb 64 (length head.section.fields)).0 c))
        by_count false s c = rw (s, c) (by_text (ltb-false 16384 (length text) s) (ltb-false 64 (length head.section.fields) c))

        by_size : (t : Bool) → nat_lt 16384 (length text) ≡ t → IsFirst bytes (first_of_lines bytes (Some head))
        by_size true s =
            let long : 16384 < length text = (Decides-ltb 16384 (length text)).0 s in
            rw s (inl (omega (arith, long, ap length whole, length-append text rest), λ other count b. omega (arith, long, b.fits, ap length (same_text other count b))))
        by_size false s = by_count (nat_lt 64 (length head.section.fields)) s refl

  first : (o : Option HeadLines) → head_lines (lines_of bytes) ≡ o → IsFirst bytes (first_of_lines bytes o)
  first None e = by_none e
  first (Some head) e = by_head head e

pub first_heads : LineLaws → FirstHeads
first_heads laws bytes = first laws bytes (head_lines (lines_of bytes)) refl
