-- A head text, line by line.
use Rattle.std.proofs.Common.{◌≡◌, ℕ, zero, suc, ◌+◌, List, [], ◌∷◌, ◌++◌, length, refl, sym, ap, ◌∙◌, subst, arith, append_assoc}
use Rattle.std.specs.Prelude.{All}
use Rattle.std.proofs.lemmas.List.Elements.{All-head, All-tail}
use Rattle.httparse.specs.Grammar.{LineEnd, print_end, print_blank}
use Rattle.tg_bytes.specs.Lists.{joined}
use Rattle.tg_http.specs.HeadText.{HasNoFeed, HasNoHead, IsLine, IsEmptyLine, IsFullLine, HeadText}
use Rattle.tg_http.specs.Lines.{one_line, end_line, feed_in_line}

-- what of a head text is left behind its start line and lines of fields
pub record FieldsTail (more : List ℕ) (count : ℕ) : Type 0 where
  pub fields : List (List ℕ)
  pub last : LineEnd
  pub fields_are : All IsFullLine fields
  pub count_is : count ≡ length fields
  pub whole : more ≡ joined fields ++ print_end last

-- what of a head text is left behind lines of which so many aren't empty
abbrev pub Tail : ℕ → List ℕ → ℕ → Type 0
Tail zero more count = HeadText more count
Tail (suc done) more count = (left : ℕ) × (count ≡ done + left) × FieldsTail more left

-- the first line of what is left, and what is left behind it
pub blank_taken : (line more rest after : List ℕ) (count : ℕ) → IsEmptyLine line → Tail 0 more count → more ++ rest ≡ line ++ after
    → (next : List ℕ) × Tail 0 next count × (more ≡ line ++ next)
blank_taken line more rest after count e t same = by_blank t.blank t.whole
  where
    tail : List ℕ
    tail = t.start ++ (joined t.fields ++ print_end t.last)

    by_blank : (blank : List LineEnd) → more ≡ print_blank blank ++ (t.start ++ (joined t.fields ++ print_end t.last))
        → (next : List ℕ) × Tail 0 next count × (more ≡ line ++ next)
    by_blank [] whole =
        let ends : IsLine line = subst IsLine (sym e.1) (end_line e.0) in
        let fronts : t.start ++ ((joined t.fields ++ print_end t.last) ++ rest) ≡ line ++ after =
        sym (append_assoc t.start _ rest) ∙ ap (λ (s : List ℕ). s ++ rest) (sym whole) ∙ same in
        let one = one_line t.start line _ after t.start_is.line_is ends fronts in
        absurd (t.start_is.not_empty (e.0, one.0 ∙ e.1))
    by_blank (end ∷ blank) whole =
        let ends : IsLine line = subst IsLine (sym e.1) (end_line e.0) in
        let next = print_blank blank ++ (t.start ++ (joined t.fields ++ print_end t.last)) in
        let split : more ≡ print_end end ++ next = whole ∙ append_assoc (print_end end) (print_blank blank) _ in
        let fronts : print_end end ++ (next ++ rest) ≡ line ++ after =
        sym (append_assoc (print_end end) next rest) ∙ ap (λ (s : List ℕ). s ++ rest) (sym split) ∙ same in
        let one = one_line (print_end end) line _ after (end_line end) ends fronts in (
          next,
          record {
            blank = blank;
            start = t.start;
            fields = t.fields;
            last = t.last;
            start_is = t.start_is;
            fields_are = t.fields_are;
            count_is = t.count_is;
            whole = refl;
          },
          split ∙ ap (λ (s : List ℕ). s ++ next) one.0,
        )

pub start_taken : (line more rest after : List ℕ) (count : ℕ) → IsFullLine line → Tail 0 more count → more ++ rest ≡ line ++ after
    → (next : List ℕ) × Tail 1 next count × (more ≡ line ++ next)
start_taken line more rest after count l t same = by_blank t.blank t.whole
  where
    by_blank : (blank : List LineEnd) → more ≡ print_blank blank ++ (t.start ++ (joined t.fields ++ print_end t.last))
        → (next : List ℕ) × Tail 1 next count × (more ≡ line ++ next)
    by_blank [] whole =
        let next = joined t.fields ++ print_end t.last in
        let fronts : t.start ++ (next ++ rest) ≡ line ++ after =
        sym (append_assoc t.start next rest) ∙ ap (λ (s : List ℕ). s ++ rest) (sym whole) ∙ same in
        let one = one_line t.start line _ after t.start_is.line_is l.line_is fronts in (
          next,
          (count, omega arith, record { fields = t.fields; last = t.last; fields_are = t.fields_are; count_is = t.count_is; whole = refl }),
          whole ∙ ap (λ (s : List ℕ). s ++ next) one.0,
        )
    by_blank (end ∷ blank) whole =
        let next = print_blank blank ++ (t.start ++ (joined t.fields ++ print_end t.last)) in
        let split : more ≡ print_end end ++ next = whole ∙ append_assoc (print_end end) (print_blank blank) _ in
        let fronts : print_end end ++ (next ++ rest) ≡ line ++ after =
        sym (append_assoc (print_end end) next rest) ∙ ap (λ (s : List ℕ). s ++ rest) (sym split) ∙ same in
        let one = one_line (print_end end) line _ after (end_line end) l.line_is fronts in
        absurd (l.not_empty (end, sym one.0))

pub field_taken : (line more rest after : List ℕ) (done count : ℕ) → IsFullLine line → Tail (suc done) more count → more ++ rest ≡ line ++ after
    → (next : List ℕ) × Tail (suc (suc done)) next count × (more ≡ line ++ next)
field_taken line more rest after done count l t same = by_fields t.2.fields t.2.fields_are (t.1 ∙ ap (λ n. done + n) t.2.count_is) t.2.whole
  where
    by_fields : (fields : List (List ℕ)) → All IsFullLine fields → count ≡ done + length fields → more ≡ joined fields ++ print_end t.2.last
        → (next : List ℕ) × Tail (suc (suc done)) next count × (more ≡ line ++ next)
    by_fields [] full number whole =
        let fronts : print_end t.2.last ++ rest ≡ line ++ after = ap (λ (s : List ℕ). s ++ rest) (sym whole) ∙ same in
        let one = one_line (print_end t.2.last) line _ after (end_line t.2.last) l.line_is fronts in
        absurd (l.not_empty (t.2.last, sym one.0))
    by_fields (field ∷ fields) full number whole =
        let next = joined fields ++ print_end t.2.last in
        let split : more ≡ field ++ next = whole ∙ append_assoc field (joined fields) _ in
        let fronts : field ++ (next ++ rest) ≡ line ++ after =
        sym (append_assoc field next rest) ∙ ap (λ (s : List ℕ). s ++ rest) (sym split) ∙ same in
        let first = All-head IsFullLine field fields full in
        let one = one_line field line _ after first.line_is l.line_is fronts in (
          next,
          (length fields, omega (arith, number), record { fields = fields; last = t.2.last; fields_are = All-tail IsFullLine field fields full; count_is = refl; whole = refl }),
          split ∙ ap (λ (s : List ℕ). s ++ next) one.0,
        )

-- what is left has a line feed
pub tail_has_feed : (lines : ℕ) (more rest : List ℕ) (count : ℕ) → Tail lines more count → HasNoFeed (more ++ rest) → ⊥
tail_has_feed zero more rest count t none = by_blank t.blank t.whole
  where
    by_blank : (blank : List LineEnd) → more ≡ print_blank blank ++ (t.start ++ (joined t.fields ++ print_end t.last)) → ⊥
    by_blank [] whole =
        feed_in_line t.start _ t.start_is.line_is
        (subst HasNoFeed (ap (λ (s : List ℕ). s ++ rest) whole ∙ append_assoc t.start _ rest) none)
    by_blank (end ∷ blank) whole =
        feed_in_line (print_end end) _ (end_line end)
        (subst HasNoFeed (ap (λ (s : List ℕ). s ++ rest) (whole ∙ append_assoc (print_end end) (print_blank blank) _) ∙ append_assoc (print_end end) _ rest) none)
tail_has_feed (suc done) more rest count t none = by_fields t.2.fields t.2.fields_are t.2.whole
  where
    by_fields : (fields : List (List ℕ)) → All IsFullLine fields → more ≡ joined fields ++ print_end t.2.last → ⊥
    by_fields [] full whole =
        feed_in_line (print_end t.2.last) rest (end_line t.2.last) (subst HasNoFeed (ap (λ (s : List ℕ). s ++ rest) whole) none)
    by_fields (field ∷ fields) full whole =
        feed_in_line field _ (All-head IsFullLine field fields full).line_is
        (subst HasNoFeed (ap (λ (s : List ℕ). s ++ rest) (whole ∙ append_assoc field (joined fields) _) ∙ append_assoc field _ rest) none)

-- bytes without a line feed begin with no head text
pub no_feed_no_head : (bytes : List ℕ) → HasNoFeed bytes → HasNoHead bytes
no_feed_no_head bytes none text count b = tail_has_feed zero text b.rest count b.text_is (subst HasNoFeed b.whole none)
