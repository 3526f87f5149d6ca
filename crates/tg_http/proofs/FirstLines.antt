-- First lines of a head, and one line more.
use Rattle.std.proofs.Common.{◌≡◌, ℕ, ◌+◌, ◌-◌, ◌<◌, ◌≤◌, List, [], ◌∷◌, ◌++◌, length, refl, sym, ap, ap₂, ◌∙◌, subst, arith, append_assoc}
use Rattle.std.specs.Prelude.{All}
use Rattle.std.proofs.lemmas.List.{append-nil, append_cancel_left, flat_map_more, length-append, length_push}
use Rattle.std.proofs.lemmas.List.Elements.{All-head, All-tail, All-nil, All-cons, All-append}
use Rattle.httparse.specs.Grammar.{LineEnd, print_end, print_blank}
use Rattle.tg_bytes.specs.Lists.{joined, joined_push}
use Rattle.tg_http.specs.HeadText.{HasNoFeed, IsEmptyLine, IsFullLine, HeadText}
use Rattle.tg_http.specs.Sought.{AreFirstLines}
use Rattle.tg_http.proofs.Cuts.{full_takes}
use Rattle.tg_http.proofs.Heads.{Tail, blank_taken, tail_has_feed}

pub full_more : (front line : List ℕ) (count : ℕ) → AreFirstLines front count → IsFullLine line → AreFirstLines (front ++ line) (count + 1)
full_more front line count a full = record {
  blank = a.blank;
  lines = a.lines ++ line ∷ [];
  lines_are = All-append IsFullLine a.lines (line ∷ []) a.lines_are (All-cons IsFullLine line [] full (All-nil IsFullLine));
  count_is = omega (arith, a.count_is, length_push a.lines line);
  whole =
      ap (λ (s : List ℕ). s ++ line) a.whole ∙ append_assoc (print_blank a.blank) (joined a.lines) line
      ∙ ap (λ (s : List ℕ). print_blank a.blank ++ s) (sym (joined_push a.lines line));
}

pub blank_more : (front line : List ℕ) → AreFirstLines front 0 → IsEmptyLine line → AreFirstLines (front ++ line) 0
blank_more front line a empty = by_lines a.lines a.count_is a.whole
  where
    by_lines : (lines : List (List ℕ)) → 0 ≡ length lines → front ≡ print_blank a.blank ++ joined lines → AreFirstLines (front ++ line) 0
    by_lines [] none whole = record {
      blank = a.blank ++ empty.0 ∷ [];
      lines = [];
      lines_are = All-nil IsFullLine;
      count_is = refl;
      whole =
          ap₂ (λ (s t : List ℕ). s ++ t) (whole ∙ append-nil (print_blank a.blank)) empty.1
          ∙ flat_map_more print_end [] a.blank empty.0 ∙ sym (append-nil (print_blank (a.blank ++ empty.0 ∷ [])));
    }
    by_lines (x ∷ lines) none whole = absurd (omega (arith, none))

-- an empty line behind lines that aren't empty ends a head text
pub ended : (front line : List ℕ) (count : ℕ) → AreFirstLines front count → 0 < count → IsEmptyLine line → HeadText (front ++ line) (count - 1)
ended front line count a some empty = by_lines a.lines a.lines_are a.count_is a.whole
  where
    by_lines : (lines : List (List ℕ)) → All IsFullLine lines → count ≡ length lines → front ≡ print_blank a.blank ++ joined lines
        → HeadText (front ++ line) (count - 1)
    by_lines [] full number whole = absurd (omega (arith, number))
    by_lines (start ∷ fields) full number whole = record {
      blank = a.blank;
      start = start;
      fields = fields;
      last = empty.0;
      start_is = All-head IsFullLine start fields full;
      fields_are = All-tail IsFullLine start fields full;
      count_is = omega (arith, number);
      whole =
          ap₂ (λ (s t : List ℕ). s ++ t) whole empty.1
          ∙ append_assoc (print_blank a.blank) (start ++ joined fields) (print_end empty.0)
          ∙ ap (λ (s : List ℕ). print_blank a.blank ++ s) (append_assoc start (joined fields) (print_end empty.0));
    }

-- each line has a byte
lines_few : (lines : List (List ℕ)) → All IsFullLine lines → length lines ≤ length (joined lines)
lines_few [] full = omega arith
lines_few (line ∷ lines) full =
    let first = (All-head IsFullLine line lines full).line_is in
    let size : 0 < length line = omega (arith, ap length first.whole, length_push first.front 10) in
    omega (arith, lines_few lines (All-tail IsFullLine line lines full), length-append line (joined lines))

pub few : (front : List ℕ) (count : ℕ) → AreFirstLines front count → count ≤ length front
few front count a =
    omega (arith, a.count_is, lines_few a.lines a.lines_are, ap length a.whole, length-append (print_blank a.blank) (joined a.lines))

-- behind one line of both
behind : (line more next rest after : List ℕ) → more ≡ line ++ next → more ++ rest ≡ line ++ after → next ++ rest ≡ after
behind line more next rest after split same =
    append_cancel_left line (next ++ rest) after (sym (append_assoc line next rest) ∙ ap (λ (s : List ℕ). s ++ rest) (sym split) ∙ same)

-- first lines and bytes without a line feed begin with no head text
pub unended : (front left text rest : List ℕ) (count number : ℕ) → AreFirstLines front count → HasNoFeed left → HeadText text number
    → text ++ rest ≡ front ++ left → ⊥
unended front left text rest count number a none t same =
    by_blank a.blank text t (same ∙ ap (λ (s : List ℕ). s ++ left) a.whole ∙ append_assoc (print_blank a.blank) (joined a.lines) left)
  where
    by_lines : (lines : List (List ℕ)) (done : ℕ) (more : List ℕ) → All IsFullLine lines → Tail done more number → more ++ rest ≡ joined lines ++ left → ⊥
    by_lines [] done more full t same = tail_has_feed done more rest number t (subst HasNoFeed (sym same) none)
    by_lines (line ∷ lines) done more full t same =
        let fronts : more ++ rest ≡ line ++ (joined lines ++ left) = same ∙ append_assoc line (joined lines) left in
        let taken = full_takes done line more rest (joined lines ++ left) number (All-head IsFullLine line lines full) t fronts in
        by_lines lines (done + 1) taken.0 (All-tail IsFullLine line lines full) taken.1
        (behind line more taken.0 rest (joined lines ++ left) taken.2 fronts)

    by_blank : (blank : List LineEnd) (more : List ℕ) → Tail 0 more number → more ++ rest ≡ print_blank blank ++ (joined a.lines ++ left) → ⊥
    by_blank [] more t same = by_lines a.lines 0 more a.lines_are t same
    by_blank (end ∷ blank) more t same =
        let fronts : more ++ rest ≡ print_end end ++ (print_blank blank ++ (joined a.lines ++ left)) =
        same ∙ append_assoc (print_end end) (print_blank blank) (joined a.lines ++ left) in
        let taken = blank_taken (print_end end) more rest (print_blank blank ++ (joined a.lines ++ left)) number (end, refl) t fronts in
        by_blank blank taken.0 taken.1 (behind (print_end end) more taken.0 rest (print_blank blank ++ (joined a.lines ++ left)) taken.2 fronts)
