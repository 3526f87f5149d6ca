-- The steps of a cursor, and what the end of the text says.
use Rattle.std.proofs.Common.{◌≡◌, ℕ, zero, suc, ◌+◌, ◌<◌, ◌≤◌, ◌≢◌, ◌⊎◌, Option, Some, None, Bool, true, false, List, [], ◌∷◌, ◌++◌, length, drop, get_or, map, refl, sym, ap, ◌∙◌, append_assoc, subst, inl, inr, arith, min}
use Rattle.std.specs.Prelude.{Contains, MatchOption, nat_lt, slice_set, replicate}
use Rattle.std.proofs.lemmas.Bool.{cases_lt, cases_eq, cases_order}
use Rattle.std.proofs.lemmas.Bool.Decides.{Decides-ltb}
use Rattle.std.proofs.lemmas.List.{length-append, length-drop, length-map, length-set, append-nil, drop_at, drop_all, get_or-map, get_or-set_same, get_or-set_other, same_lists, length-replicate, get_or-replicate}
use Rattle.std.proofs.lemmas.List.Elements.{All-push, Contains-get_or}
use Rattle.std.proofs.lemmas.Option.{get_or_from_slice_get}
use Rattle.tg_pbtable.specs.declared.table.Rule.{Rule}
use Rattle.tg_pbtable.specs.declared.table.Times.{Times}
use Rattle.tg_pbtable.specs.declared.table.Times.TheVariants.{One, Optional, Many}
use Rattle.tg_pbtable.specs.declared.table.Order.{Order}
use Rattle.tg_pbtable.specs.declared.table.Order.TheVariants.{Ascending, Runs}
use Rattle.tg_pbtable.specs.declared.table.Field.{Field}
use Rattle.tg_pbtable.specs.declared.cursor.FieldCursor.{FieldCursor}
use Rattle.tg_pbtable.specs.declared.fault.PbFault.{PbFault}
use Rattle.tg_pbtable.specs.declared.fault.PbFault.TheVariants as faults
use Rattle.tg_pbtable.specs.Message.{Message, IsTable, Spelled, FieldSpelling, IsRuledField, count_of, numbers_of, IsInOrder, IsAtMost, IsCount}
use Rattle.tg_pbtable.specs.Faults.{Begins, HasCause, HasRuled, BreaksOrder}
use Rattle.tg_pbtable.specs.Emitted.{LiesIn}
use Rattle.tg_pbtable.specs.Cursor.{HasRead, EndsIn, has_number}
use Rattle.tg_pbtable.specs.Reading.{IsRuled, IsRuleAt, AreMet, IsLowest, IsLowestUnmet}
use Rattle.tg_pbtable.proofs.Causes.{one_rule, one_cause, no_cause}
use Rattle.tg_pbtable.proofs.Numbers.{count_push_same, count_push_other, contains_count, count_contains, none_before, none_counted, numbers_push}
use Rattle.tg_pbtable.proofs.Spellings.{spelled_push, value_of_wire}
use Rattle.tg_pbtable.proofs.Tables.{value_inside}

-- ---- which rules have a field

rule_is : (rules : List Rule) (i : ℕ) (rule d : Rule) → IsRuleAt rules i rule → get_or rules i d ≡ rule
rule_is rules i rule d r = get_or_from_slice_get rules i rule d r.here

pub among : (rules : List Rule) (i : ℕ) (rule : Rule) → IsRuleAt rules i rule → Contains rules rule
among rules i rule r = (i, r.inside, rule_is rules i rule rule r)

seen_value : (rules : List Rule) (fields : List Field) (seen : List Bool) (i : ℕ) (rule : Rule) → seen ≡ map (λ (r : Rule). has_number fields r.number) rules → IsRuleAt rules i rule → get_or seen i false ≡ has_number fields rule.number
seen_value rules fields seen i rule e r =
    ap (λ (t : List Bool). get_or t i false) e
    ∙ get_or-map (λ (x : Rule). has_number fields x.number) rules i rule false r.inside
    ∙ ap (λ (x : Rule). has_number fields x.number) (rule_is rules i rule rule r)

pub seen_means : (rules : List Rule) (fields : List Field) (seen : List Bool) (i : ℕ) (rule : Rule) (n : ℕ) → seen ≡ map (λ (r : Rule). has_number fields r.number) rules → IsRuleAt rules i rule → rule.number ≡ n
    → (get_or seen i false ≡ true → Contains (numbers_of fields) n) × (Contains (numbers_of fields) n → get_or seen i false ≡ true)
seen_means rules fields seen i rule n e r is =
    let value : get_or seen i false ≡ has_number fields n = seen_value rules fields seen i rule e r ∙ ap (has_number fields) is in
    let decides = Decides-ltb 0 (count_of fields n) in
    (λ t. count_contains fields n (decides.0 (sym value ∙ t)), λ c. value ∙ decides.1 (contains_count fields n c))

other_number : (rules : List Rule) (i k : ℕ) (d : Rule) → IsTable rules → i < length rules → k < length rules → k ≢ i → (get_or rules i d).number ≡ (get_or rules k d).number → ⊥
other_number rules i k d t il kl other e =
    let left : get_or (map (λ (x : Rule). x.number) rules) i 0 ≡ (get_or rules i d).number = get_or-map (λ (x : Rule). x.number) rules i d 0 il in
    let right : get_or (map (λ (x : Rule). x.number) rules) k 0 ≡ (get_or rules k d).number = get_or-map (λ (x : Rule). x.number) rules k d 0 kl in
    elim (cases_order i k) [
      | inl same ↦ other (sym same)
      | inr apart ↦ elim apart [
        | inl lt ↦ t.differ i k lt kl (left ∙ e ∙ sym right)
        | inr gt ↦ t.differ k i gt il (right ∙ sym e ∙ sym left)
      ]
    ]

seen_more : (rules : List Rule) (fields : List Field) (seen : List Bool) (i : ℕ) (rule : Rule) (f : Field) → IsTable rules → seen ≡ map (λ (r : Rule). has_number fields r.number) rules → IsRuleAt rules i rule → rule.number ≡ f.number
    → slice_set seen i true ≡ map (λ (r : Rule). has_number (fields ++ f ∷ []) r.number) rules
seen_more rules fields seen i rule f t e r is =
    let size : length seen ≡ length rules = ap length e ∙ length-map rules (λ (x : Rule). has_number fields x.number) in
    let new_size : length (slice_set seen i true) ≡ length seen = length-set seen i true in
    let all_size : length (map (λ (x : Rule). has_number (fields ++ f ∷ []) x.number) rules) ≡ length rules = length-map rules (λ (x : Rule). has_number (fields ++ f ∷ []) x.number) in
    same_lists (slice_set seen i true) (map (λ (x : Rule). has_number (fields ++ f ∷ []) x.number) rules) (new_size ∙ size ∙ sym all_size)
    (λ (k : ℕ) (d : Bool) (kl : k < length (slice_set seen i true)).
    let kl' : k < length rules = omega arith in
    let new : get_or (map (λ (x : Rule). has_number (fields ++ f ∷ []) x.number) rules) k d ≡ has_number (fields ++ f ∷ []) (get_or rules k rule).number =
    get_or-map (λ (x : Rule). has_number (fields ++ f ∷ []) x.number) rules k rule d kl' in
    elim (cases_eq k i) [
      | inl same ↦
          let here : get_or rules k rule ≡ rule = ap (λ (x : ℕ). get_or rules x rule) same ∙ rule_is rules i rule rule r in
          let number : f.number ≡ (get_or rules k rule).number = sym is ∙ ap (λ (x : Rule). x.number) (sym here) in
          let some : 0 < count_of (fields ++ f ∷ []) (get_or rules k rule).number = omega (arith, count_push_same fields f (get_or rules k rule).number number) in
          ap (λ (x : ℕ). get_or (slice_set seen i true) x d) same ∙ get_or-set_same seen i true d (omega (arith, r.inside))
          ∙ sym (new ∙ (Decides-ltb 0 (count_of (fields ++ f ∷ []) (get_or rules k rule).number)).1 some)
      | inr other ↦
          let number : f.number ≡ (get_or rules k rule).number → ⊥ =
          λ same. other_number rules i k rule t r.inside kl' other (ap (λ (x : Rule). x.number) (rule_is rules i rule rule r) ∙ is ∙ same) in
          get_or-set_other seen i k true d other
          ∙ ap (λ (x : List Bool). get_or x k d) e
          ∙ get_or-map (λ (x : Rule). has_number fields x.number) rules k rule d kl'
          ∙ sym (new ∙ ap (nat_lt 0) (count_push_other fields f (get_or rules k rule).number number))
    ])

-- ---- one more field

times_more : (times : Times) (n : ℕ) → (times ≢ Many → n ≡ 0) → IsAtMost times (n + 1)
times_more One n h = let none : n ≡ 0 = h (λ e. cc) in omega arith
times_more Optional n h = let none : n ≡ 0 = h (λ e. cc) in omega arith
times_more Many n h = tt

count_more : (rules : List Rule) (way : Order) (fields : List Field) (f : Field) (rule other : Rule) → IsTable rules → Contains rules rule → rule.number ≡ f.number → IsInOrder way (numbers_of fields ++ f.number ∷ [])
    → (rule.times ≢ Many → EndsIn (numbers_of fields) f.number → ⊥) → Contains rules other → IsAtMost other.times (count_of fields other.number) → IsAtMost other.times (count_of (fields ++ f ∷ []) other.number)
count_more rules way fields f rule other t here is inorder once there most = elim (cases_eq f.number other.number) [
  | inr apart ↦ subst (λ (n : ℕ). IsAtMost other.times n) (sym (count_push_other fields f other.number apart)) most
  | inl same ↦
      let rules_same : other ≡ rule = one_rule rules other rule t there here (sym same ∙ sym is) in
      let none : other.times ≢ Many → count_of fields other.number ≡ 0 = λ not_many. elim (cases_lt 0 (count_of fields other.number)) [
        | inr le ↦ omega arith
        | inl some ↦ absurd (none_before way (numbers_of fields) f.number inorder
            (once (λ e. not_many (ap (λ (r : Rule). r.times) rules_same ∙ e)))
            (subst (λ (n : ℕ). Contains (numbers_of fields) n) (sym same) (count_contains fields other.number some)))
      ] in
      subst (λ (n : ℕ). IsAtMost other.times n) (sym (count_push_same fields f other.number same)) (times_more other.times (count_of fields other.number) none)
]

abbrev pub cursor_after : {N : ℕ} → FieldCursor N → ℕ → Field → ℕ → FieldCursor N
cursor_after c i f next = record { at = next; seen = slice_set c.seen i true; last = Some f.number }

pub read_more : {N : ℕ} (rules : List Rule) (way : Order) (text : List ℕ) (fields : List Field) (c : FieldCursor N) (i : ℕ) (f : Field) (next : ℕ) → IsTable rules → HasRead rules way text fields c → (r : IsRuled rules c.at (drop c.at text) i f next)
    → IsInOrder way (numbers_of fields ++ f.number ∷ []) → (r.rule.times ≢ Many → EndsIn (numbers_of fields) f.number → ⊥)
    → HasRead rules way text (fields ++ f ∷ []) (cursor_after c i f next) × LiesIn text f.value × (c.at < next)
read_more rules way text fields c i f next t s r inorder once =
    let b = s.begins in
    let p = r.spelled in
    let front = b.front ++ p.front in
    let whole : text ≡ front ++ p.behind = b.whole ∙ ap (λ (x : List ℕ). b.front ++ x) p.whole ∙ sym (append_assoc b.front p.front p.behind) in
    let size : length front ≡ length b.front + length p.front = length-append b.front p.front in
    let at_is : c.at ≡ length b.front = b.at_is in
    let next_is : next ≡ c.at + length p.front = p.next_is in
    let end : next ≡ length front = omega arith in
    let rest : drop next text ≡ p.behind = ap (drop next) whole ∙ drop_at front p.behind next (sym end) in
    let here : Contains rules r.rule = among rules i r.rule r.rule_at in
    let numbers : numbers_of (fields ++ f ∷ []) ≡ numbers_of fields ++ f.number ∷ [] = numbers_push fields f [] in
    let place : FieldSpelling (length b.front) f p.front = subst (λ (n : ℕ). FieldSpelling n f p.front) at_is p.spelled in (
      record {
        inside = omega (arith, ap length whole, length-append front p.behind);
        begins = record {
          front = front;
          whole = whole ∙ ap (λ (x : List ℕ). front ++ x) (sym rest);
          at_is = end;
          spelled = spelled_push fields f 0 b.front p.front b.spelled (subst (λ (n : ℕ). FieldSpelling n f p.front) (let e : length b.front ≡ 0 + length b.front = omega arith in e) place);
          ruled = All-push (IsRuledField rules) fields f b.ruled (record { has_rule = record { rule = r.rule; among = here; number_is = r.number_is; wire_is = r.wire_is }; of_wire = value_of_wire c.at f.number f.wire f.value p.front p.spelled });
          counts = λ k d l. count_more rules way fields f r.rule (get_or rules k d) t here r.number_is inorder once (Contains-get_or rules k d l) (b.counts k d l);
          ordered = subst (λ (ns : List ℕ). IsInOrder way ns) (sym numbers) inorder;
        };
        seen_is = seen_more rules fields c.seen i r.rule f t s.seen_is r.rule_at r.number_is;
        last_is = (numbers_of fields, numbers);
      },
      subst (λ (x : List ℕ). LiesIn x f.value) (sym (b.whole ∙ ap (λ (x : List ℕ). b.front ++ x) p.whole)) (value_inside b.front p.front p.behind f.number f.wire f.value place),
      omega (arith, p.more),
    )

-- ---- refusals

pub has_ruled : (rules : List Rule) (at : ℕ) (rest : List ℕ) (i : ℕ) (f : Field) (next : ℕ) (r : IsRuled rules at rest i f next) → HasRuled rules r.rule rest
has_ruled rules at rest i f next r = record { among = among rules i r.rule r.rule_at; field = r.has_field }

more_left : (text : List ℕ) (at : ℕ) → at < length text → 0 < length (drop at text)
more_left text at l = omega (arith, length-drop at text)

pub out_of_order : {N : ℕ} (rules : List Rule) (way : Order) (text : List ℕ) (fields : List Field) (c : FieldCursor N) (i : ℕ) (f : Field) (next : ℕ) → c.at < length text → HasRead rules way text fields c → IsRuled rules c.at (drop c.at text) i f next
    → BreaksOrder way (numbers_of fields) f.number → HasCause rules way text (faults.OutOfOrder c.at)
out_of_order rules way text fields c i f next l s r breaks = record {
  fields = fields;
  rest = drop c.at text;
  begins = s.begins;
  more = more_left text c.at l;
  cause = record { rule = r.rule; ruled = has_ruled rules c.at (drop c.at text) i f next r; breaks = subst (λ (n : ℕ). BreaksOrder way (numbers_of fields) n) (sym r.number_is) breaks };
}

pub doubled : {N : ℕ} (rules : List Rule) (way : Order) (text : List ℕ) (fields : List Field) (c : FieldCursor N) (i : ℕ) (f : Field) (next : ℕ) (d : Rule) → c.at < length text → HasRead rules way text fields c → IsRuled rules c.at (drop c.at text) i f next
    → (get_or rules i d).times ≢ Many → EndsIn (numbers_of fields) f.number → HasCause rules way text (faults.Doubled c.at)
doubled rules way text fields c i f next d l s r once ends = record {
  fields = fields;
  rest = drop c.at text;
  begins = s.begins;
  more = more_left text c.at l;
  cause = record {
    rule = r.rule;
    ruled = has_ruled rules c.at (drop c.at text) i f next r;
    once = λ e. once (ap (λ (x : Rule). x.times) (rule_is rules i r.rule d r.rule_at) ∙ e);
    front = ends.0;
    last = ends.1 ∙ ap (λ (n : ℕ). ends.0 ++ n ∷ []) (sym r.number_is);
  };
}

pub times_is : (rules : List Rule) (at : ℕ) (rest : List ℕ) (i : ℕ) (f : Field) (next : ℕ) (d : Rule) (r : IsRuled rules at rest i f next) → (get_or rules i d).times ≡ Many → r.rule.times ≡ Many
times_is rules at rest i f next d r e = ap (λ (x : Rule). x.times) (sym (rule_is rules i r.rule d r.rule_at)) ∙ e

-- ---- the end

none_at_most : (times : Times) → IsAtMost times 0
none_at_most One = omega arith
none_at_most Optional = omega arith
none_at_most Many = tt

abbrev pub first_cursor : (N : ℕ) → List Bool → FieldCursor N
first_cursor N seen = record { at = 0; seen = seen; last = None }

pub nothing_yet : (N : ℕ) (rules : List Rule) (way : Order) (text : List ℕ) (seen : List Bool) → IsInOrder way [] → seen ≡ map (λ (r : Rule). has_number [] r.number) rules → HasRead rules way text [] (first_cursor N seen)
nothing_yet N rules way text seen inorder e = record {
  inside = omega arith;
  begins = record {
    front = [];
    whole = refl;
    at_is = refl;
    spelled = refl;
    ruled = λ k d l. absurd (omega arith);
    counts = λ k d l. none_at_most (get_or rules k d).times;
    ordered = inorder;
  };
  seen_is = e;
  last_is = refl;
}

pub end_begins : {N : ℕ} (rules : List Rule) (way : Order) (text : List ℕ) (fields : List Field) (c : FieldCursor N) → length text ≤ c.at → HasRead rules way text fields c → Begins rules way text fields (length text) []
end_begins rules way text fields c past s =
    let all : c.at ≡ length text = omega (arith, s.inside) in
    subst (λ (n : ℕ). Begins rules way text fields n []) all (subst (λ (t : List ℕ). Begins rules way text fields c.at t) (drop_all c.at text past) s.begins)

some_count : (rules : List Rule) (fields : List Field) (seen : List Bool) (k : ℕ) (d : Rule) → seen ≡ map (λ (r : Rule). has_number fields r.number) rules → k < length rules → get_or seen k false ≡ has_number fields (get_or rules k d).number
some_count rules fields seen k d e l = ap (λ (t : List Bool). get_or t k false) e ∙ get_or-map (λ (x : Rule). has_number fields x.number) rules k d false l

pub exact_count : (times : Times) (n : ℕ) → IsAtMost times n → (times ≡ One → 0 < n) → IsCount times n
exact_count One n most some = let p : 0 < n = some refl in omega arith
exact_count Optional n most some = most
exact_count Many n most some = tt

pub whole_message : {N : ℕ} (rules : List Rule) (way : Order) (text : List ℕ) (fields : List Field) (c : FieldCursor N) → length text ≤ c.at → HasRead rules way text fields c → AreMet rules c.seen (length rules) → Message rules way text fields
whole_message rules way text fields c past s met =
    let b = end_begins rules way text fields c past s in
    record {
      spelled = subst (λ (t : List ℕ). Spelled 0 fields t) (sym (b.whole ∙ append-nil b.front)) b.spelled;
      ruled = b.ruled;
      counts = λ k d l. exact_count (get_or rules k d).times (count_of fields (get_or rules k d).number) (b.counts k d l)
          (λ asks. (Decides-ltb 0 (count_of fields (get_or rules k d).number)).0 (sym (some_count rules fields c.seen k d s.seen_is l) ∙ met k d l asks));
      ordered = b.ordered;
    }

unmet_value : (fields : List Field) (n : ℕ) → count_of fields n ≡ 0 → has_number fields n ≡ false
unmet_value fields n e = ap (nat_lt 0) e

pub missing_there : {N : ℕ} (rules : List Rule) (way : Order) (text : List ℕ) (fields : List Field) (c : FieldCursor N) (number : ℕ) → length text ≤ c.at → HasRead rules way text fields c → IsLowestUnmet rules c.seen (length rules) number → HasCause rules way text (faults.Missing number)
missing_there rules way text fields c number past s h = record {
  fields = fields;
  begins = end_begins rules way text fields c past s;
  rule = h.rule;
  among = (h.k, h.inside, h.here h.rule);
  number_is = h.number_is;
  asks = h.asks;
  none =
      let number_here : (get_or rules h.k h.rule).number ≡ number = ap (λ (x : Rule). x.number) (h.here h.rule) ∙ h.number_is in
      none_counted fields number (ap (has_number fields) (sym number_here) ∙ sym (some_count rules fields c.seen h.k h.rule s.seen_is h.inside) ∙ h.unmet);
  lowest = λ j d l asks none. h.lowest j d l asks (some_count rules fields c.seen j d s.seen_is l ∙ unmet_value fields (get_or rules j d).number none);
}

-- ---- the lowest of the rules that are not met

pub keep_lowest : (rules : List Rule) (seen : List Bool) (i : ℕ) (low : Option ℕ) → i < length rules → ((d : Rule) → (get_or rules i d).times ≡ One → get_or seen i false ≡ true) → IsLowest rules seen i low → IsLowest rules seen (i + 1) low
keep_lowest rules seen i None l met h = λ k d kl asks. elim (cases_lt k i) [
  | inl lt ↦ h k d lt asks
  | inr ge ↦
      let same : k ≡ i = omega arith in
      ap (λ (x : ℕ). get_or seen x false) same ∙ met d (subst (λ (x : ℕ). (get_or rules x d).times ≡ One) same asks)
]
keep_lowest rules seen i (Some n) l met h = record {
  k = h.k;
  rule = h.rule;
  inside = omega (arith, h.inside);
  here = h.here;
  number_is = h.number_is;
  asks = h.asks;
  unmet = h.unmet;
  lowest = λ j d jl asks unmet. elim (cases_lt j i) [
    | inl lt ↦ h.lowest j d lt asks unmet
    | inr ge ↦
        let same : j ≡ i = omega arith in
        let yes : get_or seen j false ≡ true = ap (λ (x : ℕ). get_or seen x false) same ∙ met d (subst (λ (x : ℕ). (get_or rules x d).times ≡ One) same asks) in
        let clash : true ≡ false = sym yes ∙ unmet in
        absurd cc
  ];
}

abbrev pub Lower : Option ℕ → ℕ → ℕ → Type 0
Lower low number result = MatchOption low (result ≡ number) (λ n. result ≡ min n number)

new_lowest : (rules : List Rule) (seen : List Bool) (i number : ℕ) → i < length rules → ((d : Rule) → (get_or rules i d).times ≡ One) → ((d : Rule) → (get_or rules i d).number ≡ number) → get_or seen i false ≡ false
    → ((j : ℕ) (d : Rule) → j < i → (get_or rules j d).times ≡ One → get_or seen j false ≡ false → number ≤ (get_or rules j d).number) → (rule : Rule) → ((d : Rule) → get_or rules i d ≡ rule) → IsLowestUnmet rules seen (i + 1) number
new_lowest rules seen i number l asks is unmet low rule here = record {
  k = i;
  rule = rule;
  inside = omega arith;
  here = here;
  number_is = ap (λ (x : Rule). x.number) (sym (here rule)) ∙ is rule;
  asks = ap (λ (x : Rule). x.times) (sym (here rule)) ∙ asks rule;
  unmet = unmet;
  lowest = λ j d jl a u. elim (cases_lt j i) [
    | inl lt ↦ low j d lt a u
    | inr ge ↦
        let same : j ≡ i = omega arith in
        let number_here : (get_or rules j d).number ≡ number = ap (λ (x : ℕ). (get_or rules x d).number) same ∙ is d in
        omega arith
  ];
}

pub take_lowest : (rules : List Rule) (seen : List Bool) (i : ℕ) (low : Option ℕ) (rule : Rule) (result : ℕ) → i < length rules → ((d : Rule) → get_or rules i d ≡ rule) → rule.times ≡ One → get_or seen i false ≡ false → Lower low rule.number result → IsLowest rules seen i low
    → IsLowestUnmet rules seen (i + 1) result
take_lowest rules seen i None rule result l here asks unmet e h =
    new_lowest rules seen i result l (λ d. ap (λ (x : Rule). x.times) (here d) ∙ asks) (λ d. ap (λ (x : Rule). x.number) (here d) ∙ sym e) unmet
    (λ j d jl a u. let yes : get_or seen j false ≡ true = h j d jl a in let clash : true ≡ false = sym yes ∙ u in absurd cc) rule here
take_lowest rules seen i (Some n) rule result l here asks unmet e h = elim (cases_lt n rule.number) [
  | inl lt ↦
      let is : result ≡ n = omega arith in
      record {
        k = h.k;
        rule = h.rule;
        inside = omega (arith, h.inside);
        here = h.here;
        number_is = h.number_is ∙ sym is;
        asks = h.asks;
        unmet = h.unmet;
        lowest = λ j d jl a u. elim (cases_lt j i) [
          | inl before ↦ let le : n ≤ (get_or rules j d).number = h.lowest j d before a u in omega arith
          | inr ge ↦
              let same : j ≡ i = omega arith in
              let number_here : (get_or rules j d).number ≡ rule.number = ap (λ (x : ℕ). (get_or rules x d).number) same ∙ ap (λ (x : Rule). x.number) (here d) in
              omega arith
        ];
      }
  | inr ge ↦
      let is : result ≡ rule.number = omega arith in
      new_lowest rules seen i result l (λ d. ap (λ (x : Rule). x.times) (here d) ∙ asks) (λ d. ap (λ (x : Rule). x.number) (here d) ∙ sym is) unmet
      (λ j d jl a u. let le : n ≤ (get_or rules j d).number = h.lowest j d jl a u in omega arith) rule here
]

-- ---- what a result says of the whole text

unseen : (rules : List Rule) (k : ℕ) (d : Bool) → k < length rules → get_or (map (λ (x : Rule). has_number [] x.number) rules) k d ≡ false
unseen [] k d l = absurd (omega arith)
unseen (r ∷ rs) zero d l = refl
unseen (r ∷ rs) (suc k) d l = unseen rs k d (omega arith)

pub none_in_order : (way : Order) → IsInOrder way []
none_in_order Ascending = λ i j d ij jl. absurd (omega arith)
none_in_order Runs = λ i j k ij jk kl e. absurd (omega arith)

pub only_oom : (rules : List Rule) (way : Order) (text : List ℕ) (e : PbFault) → IsTable rules → (e ≡ faults.OutOfMemory) ⊎ HasCause rules way text e → (fields : List Field) → Message rules way text fields → e ≡ faults.OutOfMemory
only_oom rules way text e t cause fields m = elim cause [ inl o ↦ o | inr h ↦ absurd (no_cause rules way text fields e t m h) ]

pub that_one : (rules : List Rule) (way : Order) (text : List ℕ) (e : PbFault) → IsTable rules → (e ≡ faults.OutOfMemory) ⊎ HasCause rules way text e → (fault : PbFault) → HasCause rules way text fault → (e ≡ fault) ⊎ (e ≡ faults.OutOfMemory)
that_one rules way text e t cause fault h = elim cause [ inl o ↦ inr o | inr k ↦ inl (one_cause rules way text e fault t k h) ]

pub first_unseen : (rules : List Rule) (n : ℕ) → length rules ≡ n → replicate n false ≡ map (λ (r : Rule). has_number [] r.number) rules
first_unseen rules n e =
    same_lists (replicate n false) (map (λ (x : Rule). has_number [] x.number) rules) (length-replicate n false ∙ sym e ∙ sym (length-map rules (λ (x : Rule). has_number [] x.number)))
    (λ (k : ℕ) (d : Bool) (kl : k < length (replicate n false)).
    let kn : k < n = omega (arith, length-replicate n false) in
    let kr : k < length rules = omega arith in
    get_or-replicate n k false d kn ∙ sym (unseen rules k d kr))
