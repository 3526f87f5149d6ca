-- Bytes have one head text at their front.
use Rattle.std.proofs.Common.{◌≡◌, ℕ, suc, ◌≤◌, List, [], ◌∷◌, ◌++◌, inl, inr, length, refl, sym, ap, ap₂, ◌∙◌, arith}
use Rattle.std.proofs.Common.{append_assoc}
use Rattle.std.specs.Prelude.{All}
use Rattle.std.proofs.lemmas.List.Elements.{All-head, All-tail}
use Rattle.httparse.specs.Grammar.{LineEnd, print_blank, print_end}
use Rattle.tg_bytes.specs.Lists.{joined}
use Rattle.tg_http.specs.HeadText.{BeginsHead, HeadText, IsFullLine, IsLine}
use Rattle.tg_http.specs.Heads.{IsWaiting, PassesLimit}
use Rattle.tg_http.specs.Lines.{end_line, one_line}

-- a line, and what is behind it
first_lines : (line other more rest r q : List ℕ) → IsLine line → IsLine other
    → (line ++ more) ++ r ≡ (other ++ rest) ++ q
    → (line ≡ other) × (more ++ r ≡ rest ++ q)
first_lines line other more rest r q l o e =
    one_line line other (more ++ r) (rest ++ q) l o (sym (append_assoc line more r) ∙ e ∙ append_assoc other rest q)

-- a line that isn't empty is no empty line
no_end : (line rest r q : List ℕ) (end : LineEnd) → IsFullLine line → (line ++ rest) ++ r ≡ print_end end ++ q → ⊥
no_end line rest r q end full e =
    let one = one_line line (print_end end) (rest ++ r) q full.line_is (end_line end) (sym (append_assoc line rest r) ∙ e) in
    full.not_empty (end, one.0)

-- lines up to and with the first empty one are determined
pub one_section : (fields others : List (List ℕ)) (last end : LineEnd) (r q : List ℕ) → All IsFullLine fields
    → All IsFullLine others
    → (joined fields ++ print_end last) ++ r ≡ (joined others ++ print_end end) ++ q
    → (joined fields ++ print_end last ≡ joined others ++ print_end end) × (length fields ≡ length others)
one_section [] [] last end r q full all e =
    ((one_line (print_end last) (print_end end) r q (end_line last) (end_line end) e).0, refl)
one_section [] (other ∷ others) last end r q full all e =
    absurd (no_end other (joined others ++ print_end end) q r last (All-head IsFullLine other others all)
    (ap (λ (l : List ℕ). l ++ q) (sym (append_assoc other (joined others) (print_end end))) ∙ sym e))
one_section (field ∷ fields) [] last end r q full all e =
    absurd (no_end field (joined fields ++ print_end last) r q end (All-head IsFullLine field fields full)
    (ap (λ (l : List ℕ). l ++ r) (sym (append_assoc field (joined fields) (print_end last))) ∙ e))
one_section (field ∷ fields) (other ∷ others) last end r q full all e =
    let more = joined fields ++ print_end last in
    let rest = joined others ++ print_end end in
    let one = first_lines field other more rest r q (All-head IsFullLine field fields full).line_is (All-head IsFullLine other others all).line_is
    (ap (λ (l : List ℕ). l ++ r) (sym (append_assoc field (joined fields) (print_end last))) ∙ e
    ∙ ap (λ (l : List ℕ). l ++ q) (append_assoc other (joined others) (print_end end))) in
    let below = one_section fields others last end r q (All-tail IsFullLine field fields full) (All-tail IsFullLine other others all) one.1 in (
      append_assoc field (joined fields) (print_end last) ∙ ap₂ (λ (a b : List ℕ). a ++ b) one.0 below.0 ∙ sym (append_assoc other (joined others) (print_end end)),
      ap (λ (n : ℕ). suc n) below.1,
    )

-- behind the empty lines: a start line, the fields and the empty line
abbrev tail_of : List ℕ → List (List ℕ) → LineEnd → List ℕ
tail_of start fields last = start ++ (joined fields ++ print_end last)

same_heads : (blank ends : List LineEnd) (start other : List ℕ) (fields others : List (List ℕ)) (last end : LineEnd) (r q : List ℕ)
    → IsFullLine start → IsFullLine other → All IsFullLine fields → All IsFullLine others
    → (print_blank blank ++ tail_of start fields last) ++ r ≡ (print_blank ends ++ tail_of other others end) ++ q
    → (print_blank blank ++ tail_of start fields last ≡ print_blank ends ++ tail_of other others end) × (length fields ≡ length others)
same_heads [] [] start other fields others last end r q s o f g e =
    let one = first_lines start other (joined fields ++ print_end last) (joined others ++ print_end end) r q s.line_is o.line_is e in
    let below = one_section fields others last end r q f g one.1 in
    (ap₂ (λ (a b : List ℕ). a ++ b) one.0 below.0, below.1)
same_heads [] (b ∷ ends) start other fields others last end r q s o f g e =
    absurd (no_end start (joined fields ++ print_end last) r ((print_blank ends ++ tail_of other others end) ++ q) b s
    (e ∙ ap (λ (l : List ℕ). l ++ q) (append_assoc (print_end b) (print_blank ends) (tail_of other others end))
    ∙ append_assoc (print_end b) (print_blank ends ++ tail_of other others end) q))
same_heads (b ∷ blank) [] start other fields others last end r q s o f g e =
    absurd (no_end other (joined others ++ print_end end) q ((print_blank blank ++ tail_of start fields last) ++ r) b o
    (sym e ∙ ap (λ (l : List ℕ). l ++ r) (append_assoc (print_end b) (print_blank blank) (tail_of start fields last))
    ∙ append_assoc (print_end b) (print_blank blank ++ tail_of start fields last) r))
same_heads (b ∷ blank) (c ∷ ends) start other fields others last end r q s o f g e =
    let left = append_assoc (print_end b) (print_blank blank) (tail_of start fields last) in
    let right = append_assoc (print_end c) (print_blank ends) (tail_of other others end) in
    let one = first_lines (print_end b) (print_end c) (print_blank blank ++ tail_of start fields last) (print_blank ends ++ tail_of other others end) r q
    (end_line b) (end_line c) (ap (λ (l : List ℕ). l ++ r) (sym left) ∙ e ∙ ap (λ (l : List ℕ). l ++ q) right) in
    let below = same_heads blank ends start other fields others last end r q s o f g one.1 in
    (left ∙ ap₂ (λ (a b : List ℕ). a ++ b) one.0 below.0 ∙ sym right, below.1)

pub one_head : (text other r q : List ℕ) (count number : ℕ) → HeadText text count → HeadText other number
    → text ++ r ≡ other ++ q
    → (text ≡ other) × (count ≡ number)
one_head text other r q count number t u e =
    let same = same_heads t.blank u.blank t.start u.start t.fields u.fields t.last u.last r q t.start_is u.start_is t.fields_are u.fields_are
    (ap (λ (l : List ℕ). l ++ r) (sym t.whole) ∙ e ∙ ap (λ (l : List ℕ). l ++ q) u.whole) in
    (t.whole ∙ same.0 ∙ sym u.whole, t.count_is ∙ same.1 ∙ sym u.count_is)

pub one_beginning : (bytes text other : List ℕ) (count number : ℕ) → BeginsHead bytes text count
    → BeginsHead bytes other number
    → (text ≡ other) × (count ≡ number)
one_beginning bytes text other count number b d =
    one_head text other b.rest d.rest count number b.text_is d.text_is (sym b.whole ∙ d.whole)

-- bytes that pass the limits begin with no head text within them
pub limit_only : (bytes text : List ℕ) (count : ℕ) → PassesLimit bytes → BeginsHead bytes text count → count ≤ 64 → ⊥
limit_only bytes text count (inl none) b few = none.1 text count b
limit_only bytes text count (inr many) b few =
    let same = one_beginning bytes text many.0 count many.1 b many.2 in
    omega (arith, same.1, many.3)

-- and no more bytes make them one
pub limit_not_waiting : (bytes : List ℕ) → PassesLimit bytes → IsWaiting bytes → ⊥
limit_not_waiting bytes (inl none) w = omega (arith, none.0, w.short)
limit_not_waiting bytes (inr many) w = w.none many.0 many.1 many.2
