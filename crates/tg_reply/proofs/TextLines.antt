-- The lines of bytes, and the head text that they begin with.
use Rattle.std.proofs.Common.{◌≡◌, ◌≢◌, ◌⊎◌, ℕ, Bool, true, false, All, List, [], ◌∷◌, ◌++◌, None, Option, Some, inl, inr, refl, sym, ap, ap₂, subst, ◌∙◌, append_assoc}
use Rattle.httparse.specs.Grammar.{LineEnd, crlf, lf, print_blank, print_end}
use Rattle.std.specs.Prelude.{bytes_eq, ◌==◌}
use Rattle.std.proofs.lemmas.Bool.{eqb-true, ne_eqb}
use Rattle.std.proofs.lemmas.Bool.Decides.{not_from_Decides}
use Rattle.std.proofs.lemmas.List.Elements.{All-cons, All-head, All-nil, All-tail}
use Rattle.std.proofs.lemmas.Slice.Eq.{bytes_eq-Decides}
use Rattle.tg_bytes.specs.Lists.{joined}
use Rattle.tg_http.specs.HeadText.{HasNoFeed, HeadText, IsEmptyLine, IsFullLine, IsLine}
use Rattle.tg_reply.specs.FirstHead.{HeadLines, SectionLines, add_blank, add_field, empty_end, head_lines, lines_of, with_byte, section_lines, text_of_lines}

-- ---- the first line

up_to_feed : (front rest : List ℕ) → HasNoFeed front → lines_of (front ++ 10 ∷ rest) ≡ (front ++ 10 ∷ []) ∷ lines_of rest
up_to_feed [] rest none = refl
up_to_feed (b ∷ front) rest none =
    rw (ne_eqb b 10 (All-head (λ (b : ℕ). b ≢ 10) b front none), up_to_feed front rest (All-tail (λ (b : ℕ). b ≢ 10) b front none)) refl

pub first_line : (line rest : List ℕ) → IsLine line → lines_of (line ++ rest) ≡ line ∷ lines_of rest
first_line line rest l =
    ap lines_of (ap (λ (s : List ℕ). s ++ rest) l.whole ∙ append_assoc l.front (10 ∷ []) rest) ∙ up_to_feed l.front rest l.inside
    ∙ ap (λ (s : List ℕ). s ∷ lines_of rest) (sym l.whole)

-- ---- the bytes are their lines, and what is behind them

pub record Lines (bytes : List ℕ) (lines : List (List ℕ)) : Type 0 where
  pub rest : List ℕ
  pub each : All IsLine lines
  pub whole : bytes ≡ joined lines ++ rest

feed_alone : IsLine (10 ∷ [])
feed_alone = record { front = []; inside = All-nil (λ (b : ℕ). b ≢ 10); whole = refl }

longer : (b : ℕ) (line : List ℕ) → b ≢ 10 → IsLine line → IsLine (b ∷ line)
longer b line n l = record {
  front = b ∷ l.front;
  inside = All-cons (λ (b : ℕ). b ≢ 10) b l.front n l.inside;
  whole = ap (λ (s : List ℕ). b ∷ s) l.whole;
}

onto_lines : (b : ℕ) (bytes : List ℕ) (lines : List (List ℕ)) → b ≢ 10 → Lines bytes lines → Lines (b ∷ bytes) (with_byte b lines)
onto_lines b bytes [] n s = record { rest = b ∷ s.rest; each = s.each; whole = ap (λ (l : List ℕ). b ∷ l) s.whole }
onto_lines b bytes (line ∷ lines) n s = record {
  rest = s.rest;
  each = All-cons IsLine (b ∷ line) lines (longer b line n (All-head IsLine line lines s.each)) (All-tail IsLine line lines s.each);
  whole = ap (λ (l : List ℕ). b ∷ l) s.whole;
}

pub are_lines : (bytes : List ℕ) → Lines bytes (lines_of bytes)
are_lines [] = record { rest = []; each = All-nil IsLine; whole = refl }
are_lines (b ∷ bytes) = by_byte (b == 10) refl (are_lines bytes)
  where
    not_from : (b == 10) ≡ false → b ≢ 10
    not_from e same =
        let none : (10 == 10) ≡ false = subst (λ (n : ℕ). (n == 10) ≡ false) same e in
        cc

    by_byte : (t : Bool) → (b == 10) ≡ t → Lines bytes (lines_of bytes) → Lines (b ∷ bytes) (lines_of (b ∷ bytes))
    by_byte true e below = rw e (record {
      rest = below.rest;
      each = All-cons IsLine (10 ∷ []) (lines_of bytes) feed_alone below.each;
      whole = ap₂ (λ (c : ℕ) (l : List ℕ). c ∷ l) (eqb-true b 10 e) below.whole;
    })
    by_byte false e below = rw e (onto_lines b bytes (lines_of bytes) (not_from e) below)

-- ---- empty lines

pub end_found : (end : LineEnd) → empty_end (print_end end) ≡ Some end
end_found crlf = refl
end_found lf = refl

-- a line is empty, or has no end that it is
abbrev EmptyOrNot : List ℕ → Type 0
EmptyOrNot line = ((end : LineEnd) × (empty_end line ≡ Some end) × (line ≡ print_end end)) ⊎ ((empty_end line ≡ None) × (IsEmptyLine line → ⊥))

empty_or_not : (line : List ℕ) → EmptyOrNot line
empty_or_not line = by_lf (bytes_eq line (print_end lf)) refl
  where
    neither : (line ≡ print_end lf → ⊥) → (line ≡ print_end crlf → ⊥) → (end : LineEnd) → line ≡ print_end end → ⊥
    neither first second crlf e = second e
    neither first second lf e = first e

    by_crlf : (t : Bool) → bytes_eq line (print_end lf) ≡ false → bytes_eq line (print_end crlf) ≡ t → EmptyOrNot line
    by_crlf true f e = inl (crlf, rw (f, e) refl, (bytes_eq-Decides line (print_end crlf)).0 e)
    by_crlf false f e =
        inr (rw (f, e) refl, λ h. neither (not_from_Decides _ (bytes_eq-Decides line (print_end lf)) f) (not_from_Decides _ (bytes_eq-Decides line (print_end crlf)) e) h.0 h.1)

    by_lf : (t : Bool) → bytes_eq line (print_end lf) ≡ t → EmptyOrNot line
    by_lf true e = inl (lf, rw e refl, (bytes_eq-Decides line (print_end lf)).0 e)
    by_lf false e = by_crlf (bytes_eq line (print_end crlf)) e refl

pub full_is_none : (line : List ℕ) → IsFullLine line → empty_end line ≡ None
full_is_none line full = by_case (empty_or_not line)
  where
    by_case : EmptyOrNot line → empty_end line ≡ None
    by_case (inl h) = absurd (full.not_empty (h.0, h.2))
    by_case (inr h) = h.0

-- ---- the lines of a head text are found

pub section_at : ((end : LineEnd) → IsLine (print_end end)) → (fields : List (List ℕ)) (last : LineEnd) (rest : List ℕ) → All IsFullLine fields
    → section_lines (lines_of ((joined fields ++ print_end last) ++ rest)) ≡ Some (record { fields = fields; last = last })
section_at ends [] last rest full = rw (first_line (print_end last) rest (ends last), end_found last) refl
section_at ends (field ∷ fields) last rest full =
    let more = (joined fields ++ print_end last) ++ rest in
    let split : (joined (field ∷ fields) ++ print_end last) ++ rest ≡ field ++ more =
    ap (λ (s : List ℕ). s ++ rest) (append_assoc field (joined fields) (print_end last)) ∙ append_assoc field (joined fields ++ print_end last) rest in
    let here = All-head IsFullLine field fields full in
    rw (split, first_line field more here.line_is, full_is_none field here, section_at ends fields last rest (All-tail IsFullLine field fields full)) refl

pub head_at : ((end : LineEnd) → IsLine (print_end end)) → (blank : List LineEnd) (start : List ℕ) (fields : List (List ℕ)) (last : LineEnd) (rest : List ℕ)
    → IsFullLine start → All IsFullLine fields
    → head_lines (lines_of ((print_blank blank ++ (start ++ (joined fields ++ print_end last))) ++ rest))
    ≡ Some (record { blank = blank; start = start; section = record { fields = fields; last = last } })
head_at ends [] start fields last rest begun full =
    rw (append_assoc start (joined fields ++ print_end last) rest, first_line start ((joined fields ++ print_end last) ++ rest) begun.line_is, full_is_none start begun, section_at ends fields last rest full) refl
head_at ends (end ∷ blank) start fields last rest begun full =
    let tail = start ++ (joined fields ++ print_end last) in
    let more = (print_blank blank ++ tail) ++ rest in
    let split : (print_blank (end ∷ blank) ++ tail) ++ rest ≡ print_end end ++ more =
    ap (λ (s : List ℕ). s ++ rest) (append_assoc (print_end end) (print_blank blank) tail) ∙ append_assoc (print_end end) (print_blank blank ++ tail) rest in
    rw (split, first_line (print_end end) more (ends end), end_found end, head_at ends blank start fields last rest begun full) refl

-- the lines of a head text
abbrev pub lines_in : (text : List ℕ) (count : ℕ) → HeadText text count → HeadLines
lines_in text count t = record { blank = t.blank; start = t.start; section = record { fields = t.fields; last = t.last } }

pub text_found : ((end : LineEnd) → IsLine (print_end end)) → (text rest : List ℕ) (count : ℕ) (t : HeadText text count)
    → head_lines (lines_of (text ++ rest)) ≡ Some (lines_in text count t)
text_found ends text rest count t =
    ap (λ (s : List ℕ). head_lines (lines_of (s ++ rest))) t.whole ∙ head_at ends t.blank t.start t.fields t.last rest t.start_is t.fields_are

-- ---- lines that are found are those of a head text

pub record SectionFound (lines : List (List ℕ)) (section : SectionLines) : Type 0 where
  pub left : List (List ℕ)
  pub fields_are : All IsFullLine section.fields
  pub whole : joined lines ≡ (joined section.fields ++ print_end section.last) ++ joined left

pub record HeadFound (lines : List (List ℕ)) (head : HeadLines) : Type 0 where
  pub left : List (List ℕ)
  pub start_is : IsFullLine head.start
  pub fields_are : All IsFullLine head.section.fields
  pub whole : joined lines ≡ text_of_lines head ++ joined left

section_found : (lines : List (List ℕ)) (section : SectionLines) → All IsLine lines → section_lines lines ≡ Some section → SectionFound lines section
section_found [] section all e = absurd (cc e)
section_found (line ∷ lines) section all e = by_case (empty_or_not line) (λ found m. section_found lines found (All-tail IsLine line lines all) m)
  where
    below : (more : Option SectionLines) → section_lines lines ≡ more → empty_end line ≡ None → (IsEmptyLine line → ⊥)
        → ((found : SectionLines) → section_lines lines ≡ Some found → SectionFound lines found) → SectionFound (line ∷ lines) section
    below None m g n each = absurd (cc (rw (g, m) at e))
    below (Some found) m g n each =
        let same : add_field line found ≡ section = cc (rw (g, m) at e) in
        let rest = each found m in
        subst (SectionFound (line ∷ lines)) same (record {
          left = rest.left;
          fields_are = All-cons IsFullLine line found.fields (record { line_is = All-head IsLine line lines all; not_empty = n }) rest.fields_are;
          whole =
              ap (λ (s : List ℕ). line ++ s) rest.whole ∙ sym (append_assoc line (joined found.fields ++ print_end found.last) (joined rest.left))
              ∙ ap (λ (s : List ℕ). s ++ joined rest.left) (sym (append_assoc line (joined found.fields) (print_end found.last)));
        })

    by_case : EmptyOrNot line → ((found : SectionLines) → section_lines lines ≡ Some found → SectionFound lines found) → SectionFound (line ∷ lines) section
    by_case (inl h) each =
        let same : record { fields = []; last = h.0 } ≡ section = cc (rw h.1 at e) in
        subst (SectionFound (line ∷ lines)) same (record { left = lines; fields_are = All-nil IsFullLine; whole = ap (λ (s : List ℕ). s ++ joined lines) h.2 })
    by_case (inr h) each = below (section_lines lines) refl h.0 h.1 each

pub head_found : (lines : List (List ℕ)) (head : HeadLines) → All IsLine lines → head_lines lines ≡ Some head → HeadFound lines head
head_found [] head all e = absurd (cc e)
head_found (line ∷ lines) head all e = by_case (empty_or_not line) (λ found m. head_found lines found (All-tail IsLine line lines all) m)
  where
    by_blank : (more : Option HeadLines) (end : LineEnd) → head_lines lines ≡ more → empty_end line ≡ Some end → line ≡ print_end end
        → ((found : HeadLines) → head_lines lines ≡ Some found → HeadFound lines found) → HeadFound (line ∷ lines) head
    by_blank None end m g w each = absurd (cc (rw (g, m) at e))
    by_blank (Some found) end m g w each =
        let same : add_blank end found ≡ head = cc (rw (g, m) at e) in
        let rest = each found m in
        let tail = found.start ++ (joined found.section.fields ++ print_end found.section.last) in
        subst (HeadFound (line ∷ lines)) same (record {
          left = rest.left;
          start_is = rest.start_is;
          fields_are = rest.fields_are;
          whole =
              ap (λ (s : List ℕ). s ++ joined lines) w ∙ ap (λ (s : List ℕ). print_end end ++ s) rest.whole
              ∙ sym (append_assoc (print_end end) (text_of_lines found) (joined rest.left))
              ∙ ap (λ (s : List ℕ). s ++ joined rest.left) (sym (append_assoc (print_end end) (print_blank found.blank) tail));
        })

    by_start : (more : Option SectionLines) → section_lines lines ≡ more → empty_end line ≡ None → (IsEmptyLine line → ⊥) → HeadFound (line ∷ lines) head
    by_start None m g n = absurd (cc (rw (g, m) at e))
    by_start (Some found) m g n =
        let same : record { blank = []; start = line; section = found } ≡ head = cc (rw (g, m) at e) in
        let rest = section_found lines found (All-tail IsLine line lines all) m in
        subst (HeadFound (line ∷ lines)) same (record {
          left = rest.left;
          start_is = record { line_is = All-head IsLine line lines all; not_empty = n };
          fields_are = rest.fields_are;
          whole = ap (λ (s : List ℕ). line ++ s) rest.whole ∙ sym (append_assoc line (joined found.fields ++ print_end found.last) (joined rest.left));
        })

    by_case : EmptyOrNot line → ((found : HeadLines) → head_lines lines ≡ Some found → HeadFound lines found) → HeadFound (line ∷ lines) head
    by_case (inl h) each = by_blank (head_lines lines) h.0 refl h.1 h.2 each
    by_case (inr h) each = by_start (section_lines lines) refl h.0 h.1
