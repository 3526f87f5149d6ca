-- The fields that are computed are those of the message, and the fault that is computed has its cause.
use Rattle.std.proofs.Common.{◌≡◌, ℕ, zero, suc, ◌+◌, ◌-◌, ◌<◌, ◌≤◌, ◌≢◌, Bool, Option, Some, None, Result, Ok, Err, List, [], ◌∷◌, ◌++◌, length, drop, get_or, map, refl, sym, ap, ◌∙◌, subst, inl, inr, arith}
use Rattle.std.specs.Prelude.{All, MatchResult, ◌↔◌, ◌&&◌, not, if◌then◌else◌}
use Rattle.std.proofs.lemmas.Bool.{cond_both, both_ways, and_parts, and_cases, not-true, not-false}
use Rattle.std.proofs.lemmas.List.{length-drop, drop-drop, append-nil}
use Rattle.tg_pbtable.specs.declared.table.Rule.{Rule}
use Rattle.tg_pbtable.specs.declared.table.Times.TheVariants.{Many}
use Rattle.tg_pbtable.specs.declared.table.Order.{Order}
use Rattle.tg_pbtable.specs.declared.table.Field.{Field}
use Rattle.tg_pbtable.specs.declared.fault.PbFault.{PbFault}
use Rattle.tg_pbtable.specs.declared.fault.PbFault.TheVariants as faults
use Rattle.tg_pbtable.specs.Message.{Message, IsTable, Spelled, count_of, numbers_of}
use Rattle.tg_pbtable.specs.Faults.{FirstAt, IsShort, HasBadVarint, IsUnknown, HasWrongWire, HasCause}
use Rattle.tg_pbtable.specs.declared.cursor.FieldCursor.{FieldCursor}
use Rattle.tg_pbtable.specs.Cursor.{HasRead, IsRefused, EndsIn, has_number}
use Rattle.tg_pbtable.specs.Computed.{and_then, field_in, Ruled, ruled, ends_in, breaks_order, is_many, joined, lowest_missing, whole, fields_from, fields_of}
use Rattle.tg_pbtable.proofs.Spellings.{one_reading}
use Rattle.tg_pbtable.proofs.Causes.{no_cause, one_cause}
use Rattle.tg_pbtable.proofs.Scanning.{read_more, out_of_order, doubled, times_is, nothing_yet, none_in_order, end_begins, exact_count}
use Rattle.tg_pbtable.proofs.ComputedVarints.{gone_on, field_told}
use Rattle.tg_pbtable.proofs.ComputedRules.{IsRuledAs, RuledTold, ruled_told, ends_true, ends_found, breaks_true, breaks_false, many_true, many_false, LowestTold, lowest_told}

-- of each rule, whether it has a field
abbrev seen_in : List Rule → List Field → List Bool
seen_in rules fields = map (λ rule. has_number fields rule.number) rules

-- a cursor at `at`
abbrev cursor : List Rule → List Field → ℕ → Option ℕ → FieldCursor 0
cursor rules fields at last = record { at = at; seen = seen_in rules fields; last = last }

-- the fields up to `at` are read
abbrev ReadTo : List Rule → Order → List ℕ → List Field → ℕ → Type 0
ReadTo rules order text fields at = (last : Option ℕ) × HasRead rules order text fields (cursor rules fields at last)

-- ---- a field that is refused

refused_at : (rules : List Rule) (order : Order) (text : List ℕ) (fields : List Field) (at place : ℕ) (Cause : List Field → List ℕ → Type 0) → at < length text → ReadTo rules order text fields at → place ≡ at → Cause fields (drop at text)
    → FirstAt rules order text place Cause
refused_at rules order text fields at place Cause l s is cause =
    subst (λ (n : ℕ). FirstAt rules order text n Cause) (sym is) (record { fields = fields; rest = drop at text; begins = s.1.begins; more = omega (arith, length-drop at text); cause = cause })

refused : (rules : List Rule) (order : Order) (text : List ℕ) (fields : List Field) (at : ℕ) (e : PbFault) → at < length text → ReadTo rules order text fields at → IsRefused rules at (drop at text) e → HasCause rules order text e
refused rules order text fields at (faults.Short place) l s h = refused_at rules order text fields at place (λ _ rest. IsShort rest) l s h.0 h.1
refused rules order text fields at (faults.BadVarint place) l s h = refused_at rules order text fields at place (λ _ rest. HasBadVarint rest) l s h.0 h.1
refused rules order text fields at (faults.Unknown place number) l s h = refused_at rules order text fields at place (λ _ rest. IsUnknown rules number rest) l s h.0 h.1
refused rules order text fields at (faults.WrongWire place) l s h = refused_at rules order text fields at place (λ _ rest. HasWrongWire rules rest) l s h.0 h.1
refused rules order text fields at (faults.OutOfOrder place) l s h = absurd h
refused rules order text fields at (faults.Doubled place) l s h = absurd h
refused rules order text fields at (faults.Missing number) l s h = absurd h
refused rules order text fields at faults.OutOfMemory l s h = absurd h

-- ---- a field behind the others

abbrev JoinedTold : List Rule → Order → List ℕ → ℕ → ℕ → Result (List Field) PbFault → Type 0
JoinedTold rules order text at next r = MatchResult r (λ fields. (at < next) × ReadTo rules order text fields next) (λ e. HasCause rules order text e)

joined_told : (rules : List Rule) (order : Order) (text : List ℕ) (fields : List Field) (at : ℕ) (r : Ruled) → IsTable rules → at < length text → ReadTo rules order text fields at → IsRuledAs rules at (drop at text) r
    → JoinedTold rules order text at r.next (joined order fields at r)
joined_told rules order text fields at r table l s h =
    let numbers = numbers_of fields in
    let number = r.field.number in
    let here = cursor rules fields at s.0 in
    let once = ends_in numbers number && not (is_many r.rule.times) in
    let pushed : Result (List Field) PbFault = Ok (fields ++ r.field ∷ []) in
    let rest : Result (List Field) PbFault = if once then Err (faults.Doubled at) else pushed in
    let times : h.is_ruled.rule.times ≡ r.rule.times = ap (λ (x : Rule). x.times) h.rule_is in
    cond_both (breaks_order order fields number) (Err (faults.OutOfOrder at)) rest (JoinedTold rules order text at r.next)
    (λ t. out_of_order rules order text fields here h.index r.field r.next l s.1 h.is_ruled (breaks_true order fields number t))
    (λ f. cond_both once (Err (faults.Doubled at)) pushed (JoinedTold rules order text at r.next)
    (λ t.
    let both = and_parts (ends_in numbers number) (not (is_many r.rule.times)) t in
    let single : r.rule.times ≢ Many = many_false r.rule.times (not-true (is_many r.rule.times) both.1) in
    doubled rules order text fields here h.index r.field r.next r.rule l s.1 h.is_ruled
    (λ e. single (sym times ∙ times_is rules at (drop at text) h.index r.field r.next r.rule h.is_ruled e)) (ends_true numbers number both.0))
    (λ g.
    let alone : h.is_ruled.rule.times ≢ Many → EndsIn numbers number → ⊥ = λ single ends. elim (and_cases (ends_in numbers number) (not (is_many r.rule.times)) g) [
      | inl fails ↦ both_ways (ends_in numbers number) fails (ends_found numbers number ends)
      | inr fails ↦ single (times ∙ many_true r.rule.times (not-false (is_many r.rule.times) fails))
    ] in
    let on = read_more rules order text fields here h.index r.field r.next table s.1 h.is_ruled (breaks_false order fields number f s.1.begins.ordered) alone in
    (on.2, (Some r.field.number, record { inside = on.0.inside; begins = on.0.begins; seen_is = refl; last_is = on.0.last_is }))))

-- ---- the end

abbrev pub FieldsTold : List Rule → Order → List ℕ → Result (List Field) PbFault → Type 0
FieldsTold rules order text r = MatchResult r (λ fields. Message rules order text fields) (λ e. HasCause rules order text e)

whole_told : (rules : List Rule) (order : Order) (text : List ℕ) (fields : List Field) (at : ℕ) (o : Option ℕ) → length text ≤ at → ReadTo rules order text fields at → LowestTold rules fields o → FieldsTold rules order text (whole fields o)
whole_told rules order text fields at None past s h =
    let b = end_begins rules order text fields (cursor rules fields at s.0) past s.1 in
    record {
      spelled = subst (λ (t : List ℕ). Spelled 0 fields t) (sym (b.whole ∙ append-nil b.front)) b.spelled;
      ruled = b.ruled;
      counts = λ k d l. exact_count (get_or rules k d).times (count_of fields (get_or rules k d).number) (b.counts k d l) (h k d l);
      ordered = b.ordered;
    }
whole_told rules order text fields at (Some number) past s h = record {
  fields = fields;
  begins = end_begins rules order text fields (cursor rules fields at s.0) past s.1;
  rule = h.rule;
  among = h.among;
  number_is = h.number_is;
  asks = h.asks;
  none = h.none;
  lowest = h.lowest;
}

-- ---- the text

from_told : (rules : List Rule) (order : Order) (text : List ℕ) (most : ℕ) (fields : List Field) (at : ℕ) (rest : List ℕ) → IsTable rules → All (λ (b : ℕ). b < 256) text → ReadTo rules order text fields at → rest ≡ drop at text → length rest ≤ most
    → FieldsTold rules order text (fields_from rules order most fields at rest)
from_told rules order text most fields at [] table are s e few =
    let none : 0 ≡ length (drop at text) = ap length e in
    whole_told rules order text fields at (lowest_missing rules fields) (omega (arith, length-drop at text)) s (lowest_told rules fields)
from_told rules order text zero fields at (b ∷ rest) table are s e few = absurd (omega arith)
from_told rules order text (suc most) fields at (b ∷ rest) table are s e few =
    let some : suc (length rest) ≡ length (drop at text) = ap length e in
    let l : at < length text = omega (arith, length-drop at text) in
    let told : RuledTold rules at (drop at text) (ruled rules at (field_in at (b ∷ rest))) =
    subst (λ (t : List ℕ). RuledTold rules at (drop at text) (ruled rules at (field_in at t))) (sym e)
    (ruled_told rules at (drop at text) (field_in at (drop at text)) (field_told at text (omega arith) are)) in
    let on : Ruled → List Field → Result (List Field) PbFault = λ r more. fields_from rules order most more r.next (drop (r.next - at) (b ∷ rest)) in
    gone_on (FieldsTold rules order text) (λ (r : Ruled). IsRuledAs rules at (drop at text) r) (λ (x : PbFault). IsRefused rules at (drop at text) x) (ruled rules at (field_in at (b ∷ rest)))
    (λ (r : Ruled). and_then (joined order fields at r) (on r)) told
    (λ r h. gone_on (FieldsTold rules order text) (λ (more : List Field). (at < r.next) × ReadTo rules order text more r.next) (λ (x : PbFault). HasCause rules order text x) (joined order fields at r) (on r)
    (joined_told rules order text fields at r table l s h)
    (λ more g.
    let lt : at < r.next = g.0 in
    let there : at + (r.next - at) ≡ r.next = omega arith in
    let next_rest : drop (r.next - at) (b ∷ rest) ≡ drop r.next text =
    ap (drop (r.next - at)) e ∙ drop-drop (r.next - at) at text ∙ ap (λ (n : ℕ). drop n text) there in
    from_told rules order text most more r.next (drop (r.next - at) (b ∷ rest)) table are g.1 next_rest (omega (arith, length-drop (r.next - at) (b ∷ rest))))
    (λ x cause. cause))
    (λ x h. refused rules order text fields at x l s h)

fields_told : (rules : List Rule) (order : Order) (text : List ℕ) → IsTable rules → All (λ (b : ℕ). b < 256) text → FieldsTold rules order text (fields_of rules order text)
unfolding fields_of
fields_told rules order text table are =
    from_told rules order text (length text) [] 0 text table are (None, nothing_yet 0 rules order text (seen_in rules []) (none_in_order order) refl) refl (omega arith)

-- ---- both ways

same_fields : (rules : List Rule) (order : Order) (text : List ℕ) (fields : List Field) (r : Result (List Field) PbFault) → IsTable rules → FieldsTold rules order text r → Message rules order text fields → r ≡ Ok fields
same_fields rules order text fields (Ok found) table h m = ap (λ (x : List Field). Ok x) (one_reading 0 text found fields h.spelled m.spelled)
same_fields rules order text fields (Err e) table h m = absurd (no_cause rules order text fields e table m h)

same_fault : (rules : List Rule) (order : Order) (text : List ℕ) (fault : PbFault) (r : Result (List Field) PbFault) → IsTable rules → FieldsTold rules order text r → HasCause rules order text fault → r ≡ Err fault
same_fault rules order text fault (Ok found) table h c = absurd (no_cause rules order text found fault table h c)
same_fault rules order text fault (Err e) table h c = ap (λ (x : PbFault). Err x) (one_cause rules order text e fault table h c)

pub fields_law : (rules : List Rule) (order : Order) (text : List ℕ) (fields : List Field) → IsTable rules → All (λ (b : ℕ). b < 256) text → (fields_of rules order text ≡ Ok fields) ↔ Message rules order text fields
fields_law rules order text fields table are =
    let told = fields_told rules order text table are in (
      λ e. subst (λ (r : Result (List Field) PbFault). FieldsTold rules order text r) e told,
      λ m. same_fields rules order text fields (fields_of rules order text) table told m,
    )

pub fault_law : (rules : List Rule) (order : Order) (text : List ℕ) (fault : PbFault) → IsTable rules → All (λ (b : ℕ). b < 256) text → (fields_of rules order text ≡ Err fault) ↔ HasCause rules order text fault
fault_law rules order text fault table are =
    let told = fields_told rules order text table are in (
      λ e. subst (λ (r : Result (List Field) PbFault). FieldsTold rules order text r) e told,
      λ c. same_fault rules order text fault (fields_of rules order text) table told c,
    )
