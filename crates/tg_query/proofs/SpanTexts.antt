-- Ranges: what is computed is what the grammar says.
use Rattle.std.proofs.Common.{All, Err, List, None, Ok, Option, Result, Some, [], ap, arith, false, length, refl, subst, sym, true, ℕ, ◌++◌, ◌<◌, ◌≤◌, ◌∙◌, ◌∷◌, ◌≡◌, ◌≢◌, ◌==◌, Bool}
use Rattle.std.specs.Char.{digit_value}
use Rattle.std.specs.Prelude.{IfSome, bytes_eq, option_map, ◌↔◌}
use Rattle.std.specs.Str.Parse.{AllDigits}
use Rattle.std.proofs.lemmas.Bool.{cond-false, cond-true, cond_both, le-leb, leb-true, ne_eqb}
use Rattle.std.proofs.lemmas.List.Elements.{All-cons, All-nil}
use Rattle.std.proofs.lemmas.Slice.Eq.{bytes_eq-Decides}
use Rattle.tg_model.specs.Queries.{IsFrom, IsSpan, IsUpTo, SpanParts}
use Rattle.tg_model.specs.declared.queries.SpanFrom.{SpanFrom}
use Rattle.tg_model.specs.declared.queries.SpanFrom.TheVariants.{Last, Start}
use Rattle.tg_query.specs.Cuts.{IsCut, behind_front, cut_first}
use Rattle.tg_query.specs.Spans.{FromText, NumberText, SpanText, ToText, from_by, from_of, is_up_to, number_of, span_by, span_of, span_with, to_of}
use Rattle.tg_query.specs.declared.fault.QueryFault.{QueryFault}
use Rattle.tg_query.specs.declared.fault.QueryFault.TheVariants.{BadRange}
use Rattle.tg_query.proofs.Digits.{number_found, number_told}
use Rattle.tg_query.proofs.FirstCuts.{Parts, cut_found, cut_told}
use Rattle.tg_query.proofs.Fronts.{front_told}

pub parts_span : (text from : List ℕ) (to : Option (List ℕ)) → ◌≡◌ {A = Parts} (from, to) (cut_first 58 text) → span_by from to ≡ span_of text
unfolding span_of
parts_span text from to e = ap (λ (p : Parts). span_by p.0 p.1) e

-- ---- the ends

-- a digit is none of the other bytes of a range
not_digit : (b other : ℕ) → digit_value b < 10 → 10 ≤ digit_value other → b ≢ other
not_digit b other low high e = omega (arith, low, high, ap digit_value e)

all_not : (other : ℕ) → 10 ≤ digit_value other → (text : List ℕ) → AllDigits 10 text → All (λ (b : ℕ). b ≢ other) text
all_not other high [] all = All-nil (λ (b : ℕ). b ≢ other)
all_not other high (b ∷ text) all = All-cons (λ (b : ℕ). b ≢ other) b text (not_digit b other all.0 high) (all_not other high text all.1)

pub no_colon : (text : List ℕ) (from : SpanFrom) → FromText text from → All (λ (b : ℕ). b ≢ 58) text
no_colon text (Start start) h = all_not 58 (omega arith) text h.written.digits.1
no_colon text (Last count) h =
    subst (λ (l : List ℕ). All (λ (b : ℕ). b ≢ 58) l) (sym h.1)
    (All-cons (λ (b : ℕ). b ≢ 58) 45 h.0 (λ e. omega (arith, e)) (all_not 58 (omega arith) h.0 h.2.written.digits.1))

no_minus : (text : List ℕ) → 0 < length text → AllDigits 10 text → behind_front (45 ∷ []) text ≡ None
no_minus [] some all = absurd (omega arith)
no_minus (b ∷ text) some all = cond-false (b == 45) (Some text) None (ne_eqb b 45 (not_digit b 45 all.0 (omega arith)))

pub from_found : (text : List ℕ) (from : SpanFrom) → FromText text from → from_of text ≡ Some from
from_found text (Start start) h =
    ap (from_by text) (no_minus text h.written.digits.0 h.written.digits.1) ∙ ap (option_map (λ (n : ℕ). Start n)) (number_found text start h)
from_found text (Last count) h =
    ap from_of h.1 ∙ ap (option_map (λ (n : ℕ). Last n)) (number_found h.0 count h.2)

start_told : (text : List ℕ) (o : Option ℕ) (from : SpanFrom) → number_of text ≡ o → option_map (λ (n : ℕ). Start n) o ≡ Some from → FromText text from
start_told text None from e h = absurd cc
start_told text (Some n) from e h = subst (FromText text) (let same : Start n ≡ from = cc in same) (number_told text n e)

last_told : (text digits : List ℕ) (o : Option ℕ) (from : SpanFrom) → text ≡ 45 ∷ digits → number_of digits ≡ o
    → option_map (λ (n : ℕ). Last n) o ≡ Some from → FromText text from
last_told text digits None from t e h = absurd cc
last_told text digits (Some n) from t e h = subst (FromText text) (let same : Last n ≡ from = cc in same) (digits, t, number_told digits n e)

from_told_by : (text : List ℕ) (o : Option (List ℕ)) (from : SpanFrom) → behind_front (45 ∷ []) text ≡ o → from_by text o ≡ Some from → FromText text from
from_told_by text None from e h = start_told text (number_of text) from refl h
from_told_by text (Some digits) from e h = last_told text digits (number_of digits) from (front_told (45 ∷ []) text digits e) refl h

pub from_told : (text : List ℕ) (from : SpanFrom) → from_of text ≡ Some from → FromText text from
from_told text from h = from_told_by text (behind_front (45 ∷ []) text) from refl h

no_star : (text : List ℕ) (n : ℕ) → NumberText text n → bytes_eq text (42 ∷ []) ≡ false
no_star text n h = cond_cases (bytes_eq text (42 ∷ [])) refl
  where
    cond_cases : (b : Bool) → bytes_eq text (42 ∷ []) ≡ b → bytes_eq text (42 ∷ []) ≡ false
    cond_cases true e =
        let same : text ≡ 42 ∷ [] = (bytes_eq-Decides text (42 ∷ [])).0 e in
        let all : AllDigits 10 (42 ∷ []) = subst (AllDigits 10) same h.written.digits.1 in
        absurd (omega (arith, all.0))
    cond_cases false e = e

pub to_found : (text : List ℕ) (to : Option ℕ) → ToText text to → to_of text ≡ Some to
to_found text None h = cond-true (bytes_eq text (42 ∷ [])) (Some None) (option_map (λ (n : ℕ). Some n) (number_of text)) ((bytes_eq-Decides text (42 ∷ [])).1 h)
to_found text (Some n) h =
    cond-false (bytes_eq text (42 ∷ [])) (Some None) (option_map (λ (n : ℕ). Some n) (number_of text)) (no_star text n h)
    ∙ ap (option_map (λ (n : ℕ). Some n)) (number_found text n h)

digits_told : (text : List ℕ) (o to : Option ℕ) → number_of text ≡ o → option_map (λ (n : ℕ). Some n) o ≡ Some to → ToText text to
digits_told text None to e h = absurd cc
digits_told text (Some n) to e h = subst (ToText text) (let same : Some n ≡ to = cc in same) (number_told text n e)

pub to_told : (text : List ℕ) (to : Option ℕ) → to_of text ≡ Some to → ToText text to
to_told text to =
    cond_both (bytes_eq text (42 ∷ [])) (Some None) (option_map (λ (n : ℕ). Some n) (number_of text)) (λ (o : Option (Option ℕ)). o ≡ Some to → ToText text to)
    (λ t h. subst (ToText text) (let same : ◌≡◌ {A = Option ℕ} None to = cc in same) ((bytes_eq-Decides text (42 ∷ [])).0 t))
    (λ f h. digits_told text (number_of text) to refl h)

-- ---- the range

from_small : (text : List ℕ) (from : SpanFrom) → FromText text from → IsFrom from
from_small text (Start start) h = h.small
from_small text (Last count) h = h.2.small

well_formed : (from_text to_text : List ℕ) (from : SpanFrom) (to : Option ℕ) → FromText from_text from → ToText to_text to → is_up_to from to ≡ true
    → IsSpan (record { from = from; to = to })
well_formed from_text to_text (Start start) None f t e = record { from = from_small from_text (Start start) f; to = tt }
well_formed from_text to_text (Start start) (Some to) f t e = record { from = from_small from_text (Start start) f; to = (t.small, leb-true start to e) }
well_formed from_text to_text (Last count) None f t e = record { from = from_small from_text (Last count) f; to = tt }
well_formed from_text to_text (Last count) (Some to) f t e = record { from = from_small from_text (Last count) f; to = t.small }

up_to : (span : SpanParts) → IsSpan span → is_up_to span.from span.to ≡ true
up_to span h = by_ends span.from span.to h.to
  where
    by_ends : (from : SpanFrom) (to : Option ℕ) → IfSome to (λ to. IsUpTo from to) → is_up_to from to ≡ true
    by_ends (Start start) None h = refl
    by_ends (Start start) (Some to) h = le-leb start to h.1
    by_ends (Last count) None h = refl
    by_ends (Last count) (Some to) h = refl

span_told_by : (text from_text to_text : List ℕ) (f : Option SpanFrom) (t : Option (Option ℕ)) (span : SpanParts) → text ≡ from_text ++ 58 ∷ to_text
    → from_of from_text ≡ f → to_of to_text ≡ t → span_with f t ≡ Ok span → SpanText text span
span_told_by text from_text to_text None t span e p q = λ h. absurd cc
span_told_by text from_text to_text (Some from) None span e p q = λ h. absurd cc
span_told_by text from_text to_text (Some from) (Some to) span e p q =
    let known : SpanParts = record { from = from; to = to } in
    cond_both (is_up_to from to) (Ok known) (Err BadRange) (λ (r : Result SpanParts QueryFault). r ≡ Ok span → SpanText text span)
    (λ c h.
    let same : known ≡ span = cc in
    let from_is = from_told from_text from p in
    let to_is = to_told to_text to q in
    subst (SpanText text) same
    (record {
      from_text = from_text;
      to_text = to_text;
      whole = e;
      from_is = from_is;
      to_is = to_is;
      well_formed = well_formed from_text to_text from to from_is to_is c;
    }))
    (λ c h. absurd cc)

span_told_at : (text front : List ℕ) (rest : Option (List ℕ)) (span : SpanParts) → IsCut 58 text front rest → span_by front rest ≡ Ok span → SpanText text span
span_told_at text front None span c h = absurd cc
span_told_at text front (Some to) span c h = span_told_by text front to (from_of front) (to_of to) span c.whole refl refl h

pub span_told : (text : List ℕ) (span : SpanParts) → span_of text ≡ Ok span → SpanText text span
unfolding span_of
span_told text span h = span_told_at text (cut_first 58 text).0 (cut_first 58 text).1 span (cut_told 58 text) h

pub span_found : (text : List ℕ) (span : SpanParts) → SpanText text span → span_of text ≡ Ok span
span_found text span h =
    let cut = cut_found 58 text h.from_text (Some h.to_text) (record { whole = h.whole; none = no_colon h.from_text span.from h.from_is }) in
    sym (parts_span text h.from_text (Some h.to_text) (sym cut))
    ∙ ap (λ (f : Option SpanFrom). span_with f (to_of h.to_text)) (from_found h.from_text span.from h.from_is)
    ∙ ap (λ (t : Option (Option ℕ)). span_with (Some span.from) t) (to_found h.to_text span.to h.to_is)
    ∙ cond-true (is_up_to span.from span.to) (Ok span) (Err BadRange) (up_to span h.well_formed)

pub span_law : (text : List ℕ) (span : SpanParts) → (span_of text ≡ Ok span) ↔ SpanText text span
span_law text span = (span_told text span, span_found text span)

-- ---- its one fault

span_fault_by : (f : Option SpanFrom) (t : Option (Option ℕ)) (fault : QueryFault) → span_with f t ≡ Err fault → fault ≡ BadRange
span_fault_by None t fault = λ h. cc
span_fault_by (Some from) None fault = λ h. cc
span_fault_by (Some from) (Some to) fault =
    let known : SpanParts = record { from = from; to = to } in
    cond_both (is_up_to from to) (Ok known) (Err BadRange) (λ (r : Result SpanParts QueryFault). r ≡ Err fault → fault ≡ BadRange)
    (λ c h. absurd cc) (λ c h. cc)

span_fault_at : (front : List ℕ) (rest : Option (List ℕ)) (fault : QueryFault) → span_by front rest ≡ Err fault → fault ≡ BadRange
span_fault_at front None fault h = cc
span_fault_at front (Some to) fault h = span_fault_by (from_of front) (to_of to) fault h

pub span_fault : (text : List ℕ) (fault : QueryFault) → span_of text ≡ Err fault → fault ≡ BadRange
unfolding span_of
span_fault text fault h = span_fault_at (cut_first 58 text).0 (cut_first 58 text).1 fault h
