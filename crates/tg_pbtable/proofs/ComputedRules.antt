-- What is computed of a field under a table, and of the fields before it, is what holds of them.
use Rattle.std.proofs.Common.{◌≡◌, ℕ, zero, suc, ◌<◌, ◌≤◌, ◌≢◌, true, false, Option, Some, None, Result, Ok, Err, List, [], ◌∷◌, ◌++◌, length, get_or, refl, sym, ap, ◌∙◌, subst, inl, inr, arith, min, ◌-◌}
use Rattle.std.specs.Prelude.{All, Any, Contains, MatchOption, MatchResult, nat_lt, ◌==◌, ◌&&◌, not}
use Rattle.std.specs.List.{list_any}
use Rattle.std.proofs.lemmas.Bool.{cases_lt, cond_both, both_ways, ltb-true, ltb-false, eqb-true, eqb-false, eq-eqb, and_parts, and_cases, or_cases, or_parts, not-true, not-false}
use Rattle.std.proofs.lemmas.List.Elements.{All-nil, All-cons, All-weaker}
use Rattle.std.proofs.lemmas.Option.{get_or_from_slice_get}
use Rattle.tg_pbtable.specs.declared.table.Rule.{Rule}
use Rattle.tg_pbtable.specs.declared.table.Times.{Times}
use Rattle.tg_pbtable.specs.declared.table.Times.TheVariants.{One, Optional, Many}
use Rattle.tg_pbtable.specs.declared.table.Order.{Order}
use Rattle.tg_pbtable.specs.declared.table.Order.TheVariants.{Ascending, Runs}
use Rattle.tg_pbtable.specs.declared.table.Field.{Field}
use Rattle.tg_pbtable.specs.declared.table.Wire.{Wire}
use Rattle.tg_pbtable.specs.declared.raw.RawField.{RawField}
use Rattle.tg_pbtable.specs.declared.raw.RawValue.{RawValue}
use Rattle.tg_pbtable.specs.declared.raw.ReadFault.{ReadFault}
use Rattle.tg_pbtable.specs.declared.raw.ReadFault.TheVariants.{Short, Bad}
use Rattle.tg_pbtable.specs.declared.fault.PbFault.{PbFault}
use Rattle.tg_pbtable.specs.declared.fault.PbFault.TheVariants as faults
use Rattle.tg_pbtable.specs.Wires.{wire_code}
use Rattle.tg_pbtable.specs.Message.{count_of, numbers_of, IsInOrder}
use Rattle.tg_pbtable.specs.Faults.{HasField, BreaksOrder}
use Rattle.tg_pbtable.specs.Cursor.{IsRefused, EndsIn, has_number}
use Rattle.tg_pbtable.specs.Reading.{IsValueOf, IsSpelledAt, IsRuleAt, IsRuled}
use Rattle.tg_pbtable.specs.Computed.{rule_of, Ruled, with_value, with_rule, ruled, ends_in, breaks_order, is_many, asks, lower, lowest_missing}
use Rattle.tg_bytes.specs.Lists.{rises}
use Rattle.tg_pbtable.proofs.Numbers.{count_contains, contains_count, last_of, none_counted, new_run, same_run}
use Rattle.tg_pbtable.proofs.Spellings.{same_code}
use Rattle.tg_pbtable.proofs.ComputedVarints.{FieldTold}

-- ---- the rule of a number

pub record RuleFound (rules : List Rule) (number : ℕ) (rule : Rule) : Type 0 where
  pub index : ℕ
  pub rule_at : IsRuleAt rules index rule
  pub number_is : rule.number ≡ number

abbrev RuleTold : List Rule → ℕ → Option Rule → Type 0
RuleTold rules number o = MatchOption o (All (λ rule. rule.number ≢ number) rules) (λ rule. RuleFound rules number rule)

rule_further : (r : Rule) (rules : List Rule) (number : ℕ) (o : Option Rule) → r.number ≢ number → RuleTold rules number o → RuleTold (r ∷ rules) number o
rule_further r rules number None other h = All-cons (λ (x : Rule). x.number ≢ number) r rules other h
rule_further r rules number (Some rule) other h = record {
  index = suc h.index;
  rule_at = record { inside = omega (arith, h.rule_at.inside); here = h.rule_at.here };
  number_is = h.number_is;
}

rule_told : (rules : List Rule) (number : ℕ) → RuleTold rules number (rule_of rules number)
rule_told [] number = All-nil (λ (x : Rule). x.number ≢ number)
rule_told (r ∷ rules) number = cond_both (r.number == number) (Some r) (rule_of rules number) (RuleTold (r ∷ rules) number)
    (λ t. record { index = 0; rule_at = record { inside = omega arith; here = refl }; number_is = eqb-true r.number number t })
    (λ f. rule_further r rules number (rule_of rules number) (eqb-false r.number number f) (rule_told rules number))

-- ---- a field under the table

pub record IsRuledAs (rules : List Rule) (at : ℕ) (rest : List ℕ) (r : Ruled) : Type 0 where
  pub index : ℕ
  pub is_ruled : IsRuled rules at rest index r.field r.next
  pub rule_is : is_ruled.rule ≡ r.rule

abbrev pub RuledTold : List Rule → ℕ → List ℕ → Result Ruled PbFault → Type 0
RuledTold rules at rest r = MatchResult r (λ x. IsRuledAs rules at rest x) (λ e. IsRefused rules at rest e)

found_among : (rules : List Rule) (number : ℕ) (rule : Rule) (f : RuleFound rules number rule) → Contains rules rule
found_among rules number rule f = (f.index, f.rule_at.inside, get_or_from_slice_get rules f.index rule rule f.rule_at.here)

with_value_told : (rules : List Rule) (at : ℕ) (rest : List ℕ) (number wire : ℕ) (o : Option RawValue) (rule : Rule) → HasField number wire rest → IsValueOf at rest number wire o → RuleFound rules number rule
    → RuledTold rules at rest (with_value at rule o)
with_value_told rules at rest number wire None rule field v found =
    (refl, record { number = number; wire = wire; field = field; rule = rule; among = found_among rules number rule found; number_is = found.number_is; other = λ e. v rule.wire (sym e) })
with_value_told rules at rest number wire (Some v) rule field has found =
    cond_both (wire_code rule.wire == wire_code v.wire) (Ok (record { rule = rule; field = record { number = rule.number; wire = rule.wire; value = v.value }; next = v.next })) (Err (faults.WrongWire at)) (RuledTold rules at rest)
    (λ t.
    let codes : wire_code rule.wire ≡ wire_code v.wire = eqb-true (wire_code rule.wire) (wire_code v.wire) t in
    let wire_is : wire ≡ wire_code rule.wire = has.0 ∙ sym codes in
    record {
      index = found.index;
      is_ruled = record {
        rule = rule;
        rule_at = found.rule_at;
        number_is = refl;
        wire_is = refl;
        has_field = subst (λ (n : ℕ). HasField n (wire_code rule.wire) rest) (sym found.number_is) (subst (λ (w : ℕ). HasField number w rest) wire_is field);
        spelled = subst (λ (n : ℕ). IsSpelledAt at rest n rule.wire v.value v.next) (sym found.number_is) (subst (λ (w : Wire). IsSpelledAt at rest number w v.value v.next) (sym (same_code rule.wire v.wire codes)) has.1);
      };
      rule_is = refl;
    })
    (λ f. (
      refl,
      record {
        number = number;
        wire = wire;
        field = field;
        rule = rule;
        among = found_among rules number rule found;
        number_is = found.number_is;
        other = λ e. eqb-false (wire_code rule.wire) (wire_code v.wire) f (e ∙ has.0);
      },
    ))

with_rule_told : (rules : List Rule) (at : ℕ) (rest : List ℕ) (raw : RawField) (o : Option Rule) (wire : ℕ) → HasField raw.number wire rest → IsValueOf at rest raw.number wire raw.value → RuleTold rules raw.number o
    → RuledTold rules at rest (with_rule at raw o)
with_rule_told rules at rest raw None wire field v h = (refl, record { wire = wire; field = field; unknown = h })
with_rule_told rules at rest raw (Some rule) wire field v h = with_value_told rules at rest raw.number wire raw.value rule field v h

pub ruled_told : (rules : List Rule) (at : ℕ) (rest : List ℕ) (r : Result RawField ReadFault) → FieldTold at rest r → RuledTold rules at rest (ruled rules at r)
ruled_told rules at rest (Err Short) h = (refl, h)
ruled_told rules at rest (Err Bad) h = (refl, h)
ruled_told rules at rest (Ok raw) h = with_rule_told rules at rest raw (rule_of rules raw.number) h.wire h.field h.value_is (rule_told rules raw.number)

-- ---- the numbers before it

ends_tail : (a b : ℕ) (ms : List ℕ) (n : ℕ) (front : List ℕ) → a ∷ b ∷ ms ≡ front ++ n ∷ [] → EndsIn (b ∷ ms) n
ends_tail a b ms n [] e = absurd cc
ends_tail a b ms n (x ∷ xs) e = (xs, cc)

pub ends_true : (ns : List ℕ) (n : ℕ) → ends_in ns n ≡ true → EndsIn ns n
ends_true [] n e = absurd cc
ends_true (m ∷ []) n e = ([], ap (λ (x : ℕ). x ∷ []) (eqb-true m n e))
ends_true (a ∷ b ∷ ms) n e = let h = ends_true (b ∷ ms) n e in (a ∷ h.0, ap (λ (t : List ℕ). a ∷ t) h.1)

pub ends_found : (ns : List ℕ) (n : ℕ) → EndsIn ns n → ends_in ns n ≡ true
ends_found [] n h = let last = last_of [] n h in let some : 0 < 0 = last.0 in absurd (omega arith)
ends_found (m ∷ []) n h = eq-eqb m n (last_of (m ∷ []) n h).1
ends_found (a ∷ b ∷ ms) n h = ends_found (b ∷ ms) n (ends_tail a b ms n h.0 h.1)

some_greater : (ns : List ℕ) (n : ℕ) → list_any (λ m. nat_lt n m) ns ≡ true → Any (λ (m : ℕ). n < m) ns
some_greater [] n e = absurd cc
some_greater (m ∷ ms) n e = elim (or_cases (nat_lt n m) (list_any (λ m. nat_lt n m) ms) e) [
  | inl t ↦ (0, m, omega arith, refl, ltb-true n m t)
  | inr t ↦ let h = some_greater ms n t in (suc h.0, h.1, omega (arith, h.2), h.3, h.4)
]

none_greater : (ns : List ℕ) (n k : ℕ) → list_any (λ m. nat_lt n m) ns ≡ false → k < length ns → get_or ns k 0 ≤ n
none_greater [] n k e l = absurd (omega arith)
none_greater (m ∷ ms) n zero e l = ltb-false n m (or_parts (nat_lt n m) (list_any (λ m. nat_lt n m) ms) e).0
none_greater (m ∷ ms) n (suc k) e l = none_greater ms n k (or_parts (nat_lt n m) (list_any (λ m. nat_lt n m) ms) e).1 (omega arith)

pub counted : (fields : List Field) (n : ℕ) → has_number fields n ≡ true → 0 < count_of fields n
counted fields n e = ltb-true 0 (count_of fields n) e

pub breaks_true : (order : Order) (fields : List Field) (n : ℕ) → breaks_order order fields n ≡ true → BreaksOrder order (numbers_of fields) n
breaks_true Ascending fields n e = some_greater (numbers_of fields) n e
breaks_true Runs fields n e =
    let both = and_parts (has_number fields n) (not (ends_in (numbers_of fields) n)) e in
    (count_contains fields n (counted fields n both.0), λ front h. both_ways (ends_in (numbers_of fields) n) (not-true (ends_in (numbers_of fields) n) both.1) (ends_found (numbers_of fields) n (front, h)))

pub breaks_false : (order : Order) (fields : List Field) (n : ℕ) → breaks_order order fields n ≡ false → IsInOrder order (numbers_of fields) → IsInOrder order (numbers_of fields ++ n ∷ [])
breaks_false Ascending fields n e h = rises (numbers_of fields) n h (λ some. none_greater (numbers_of fields) n (length (numbers_of fields) - 1) e (omega arith))
breaks_false Runs fields n e h = elim (and_cases (has_number fields n) (not (ends_in (numbers_of fields) n)) e) [
  | inl fails ↦ new_run (numbers_of fields) n h (λ c. let some : 0 < count_of fields n = contains_count fields n c in let none : count_of fields n ≡ 0 = none_counted fields n fails in omega arith)
  | inr fails ↦ same_run (numbers_of fields) n h (ends_true (numbers_of fields) n (not-false (ends_in (numbers_of fields) n) fails))
]

pub many_true : (t : Times) → is_many t ≡ true → t ≡ Many
many_true One e = absurd cc
many_true Optional e = absurd cc
many_true Many e = refl

pub many_false : (t : Times) → is_many t ≡ false → t ≢ Many
many_false One e is = cc
many_false Optional e is = cc
many_false Many e is = cc

-- ---- the fields that are asked for

pub record IsLowestMissing (rules : List Rule) (fields : List Field) (number : ℕ) : Type 0 where
  pub rule : Rule
  pub among : Contains rules rule
  pub number_is : rule.number ≡ number
  pub asks : rule.times ≡ One
  pub none : count_of fields number ≡ 0
  pub lowest : All (λ other. other.times ≡ One → count_of fields other.number ≡ 0 → number ≤ other.number) rules

abbrev pub LowestTold : List Rule → List Field → Option ℕ → Type 0
LowestTold rules fields o = MatchOption o (All (λ rule. rule.times ≡ One → 0 < count_of fields rule.number) rules) (λ n. IsLowestMissing rules fields n)

asks_true : (t : Times) → asks t ≡ true → t ≡ One
asks_true One e = refl
asks_true Optional e = absurd cc
asks_true Many e = absurd cc

asks_false : (t : Times) → asks t ≡ false → t ≢ One
asks_false One e is = cc
asks_false Optional e is = cc
asks_false Many e is = cc

met_further : (r : Rule) (rules : List Rule) (fields : List Field) (o : Option ℕ) → (r.times ≡ One → 0 < count_of fields r.number) → LowestTold rules fields o → LowestTold (r ∷ rules) fields o
met_further r rules fields None met h = All-cons (λ (x : Rule). x.times ≡ One → 0 < count_of fields x.number) r rules met h
met_further r rules fields (Some n) met h = record {
  rule = h.rule;
  among = (suc h.among.0, omega (arith, h.among.1), h.among.2);
  number_is = h.number_is;
  asks = h.asks;
  none = h.none;
  lowest = All-cons (λ (x : Rule). x.times ≡ One → count_of fields x.number ≡ 0 → n ≤ x.number) r rules (λ one none. let some : 0 < count_of fields r.number = met one in absurd (omega arith)) h.lowest;
}

unmet_here : (r : Rule) (rules : List Rule) (fields : List Field) → r.times ≡ One → count_of fields r.number ≡ 0
    → All (λ (x : Rule). x.times ≡ One → count_of fields x.number ≡ 0 → r.number ≤ x.number) rules → IsLowestMissing (r ∷ rules) fields r.number
unmet_here r rules fields one none low = record {
  rule = r;
  among = (0, omega arith, refl);
  number_is = refl;
  asks = one;
  none = none;
  lowest = All-cons (λ (x : Rule). x.times ≡ One → count_of fields x.number ≡ 0 → r.number ≤ x.number) r rules (λ _ _. omega arith) low;
}

unmet_further : (r : Rule) (rules : List Rule) (fields : List Field) (o : Option ℕ) → r.times ≡ One → count_of fields r.number ≡ 0 → LowestTold rules fields o → LowestTold (r ∷ rules) fields (lower r.number o)
unmet_further r rules fields None one none h =
    unmet_here r rules fields one none (All-weaker (λ (x : Rule). x.times ≡ One → 0 < count_of fields x.number) (λ (x : Rule). x.times ≡ One → count_of fields x.number ≡ 0 → r.number ≤ x.number)
    (λ x met asked gone. let some : 0 < count_of fields x.number = met asked in absurd (omega arith)) rules h)
unmet_further r rules fields (Some n) one none h = elim (cases_lt r.number n) [
  | inl lt ↦
      let is : r.number ≡ min r.number n = omega arith in
      subst (λ (m : ℕ). IsLowestMissing (r ∷ rules) fields m) is (unmet_here r rules fields one none
      (All-weaker (λ (x : Rule). x.times ≡ One → count_of fields x.number ≡ 0 → n ≤ x.number) (λ (x : Rule). x.times ≡ One → count_of fields x.number ≡ 0 → r.number ≤ x.number)
      (λ x low asked gone. let le : n ≤ x.number = low asked gone in omega arith) rules h.lowest))
  | inr ge ↦
      let is : n ≡ min r.number n = omega arith in
      subst (λ (m : ℕ). IsLowestMissing (r ∷ rules) fields m) is (record {
        rule = h.rule;
        among = (suc h.among.0, omega (arith, h.among.1), h.among.2);
        number_is = h.number_is;
        asks = h.asks;
        none = h.none;
        lowest = All-cons (λ (x : Rule). x.times ≡ One → count_of fields x.number ≡ 0 → n ≤ x.number) r rules (λ _ _. ge) h.lowest;
      })
]

pub lowest_told : (rules : List Rule) (fields : List Field) → LowestTold rules fields (lowest_missing rules fields)
lowest_told [] fields = All-nil (λ (x : Rule). x.times ≡ One → 0 < count_of fields x.number)
lowest_told (r ∷ rules) fields =
    let others = lowest_missing rules fields in
    let told = lowest_told rules fields in
    cond_both (asks r.times && not (has_number fields r.number)) (lower r.number others) others (LowestTold (r ∷ rules) fields)
    (λ t.
    let both = and_parts (asks r.times) (not (has_number fields r.number)) t in
    unmet_further r rules fields others (asks_true r.times both.0) (none_counted fields r.number (not-true (has_number fields r.number) both.1)) told)
    (λ f. met_further r rules fields others
    (λ one. elim (and_cases (asks r.times) (not (has_number fields r.number)) f) [
      | inl fails ↦ absurd (asks_false r.times fails one)
      | inr fails ↦ counted fields r.number (not-false (has_number fields r.number) fails)
    ]) told)
