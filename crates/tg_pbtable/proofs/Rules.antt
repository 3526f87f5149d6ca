-- The rule of a field that was read, or why it isn't the field's.
use Rattle.std.proofs.Common.{◌≡◌, ◌≢◌, ℕ, List, get_or, Some, None, true, false, refl, sym, ap, ◌∙◌, subst}
use Rattle.std.specs.Prelude.{Contains}
use Rattle.std.proofs.lemmas.Option.{get_or_from_slice_get}
use Rattle.tg_pbtable.specs.declared.table.Rule.{Rule}
use Rattle.tg_pbtable.specs.declared.table.Wire.{Wire}
use Rattle.tg_pbtable.specs.declared.table.Wire.TheVariants.{Varint, Bytes, Fixed32}
use Rattle.tg_pbtable.specs.declared.raw.RawField.{RawField}
use Rattle.tg_pbtable.specs.declared.raw.RawValue.{RawValue}
use Rattle.tg_pbtable.specs.contracts.table.Wire.{the_type}
use denote.Enum.Bare.{sameb}
use Rattle.tg_pbtable.specs.Faults.{HasField, HasWrongWire}
use Rattle.tg_pbtable.specs.Reading.{IsRuled, IsFieldAt, IsValueOf, IsRuleAt, HasNumberAt, IsSpelledAt}
use Rattle.tg_pbtable.specs.Wires.{wire_code}

same_wire : (a b : Wire) → sameb the_type a b ≡ true → a ≡ b
same_wire Varint Varint e = refl
same_wire Varint Bytes e = absurd cc
same_wire Varint Fixed32 e = absurd cc
same_wire Bytes Varint e = absurd cc
same_wire Bytes Bytes e = refl
same_wire Bytes Fixed32 e = absurd cc
same_wire Fixed32 Varint e = absurd cc
same_wire Fixed32 Bytes e = absurd cc
same_wire Fixed32 Fixed32 e = refl

other_wire : (a b : Wire) → sameb the_type a b ≡ false → wire_code b ≢ wire_code a
other_wire Varint Varint e same = cc
other_wire Varint Bytes e same = absurd cc
other_wire Varint Fixed32 e same = absurd cc
other_wire Bytes Varint e same = absurd cc
other_wire Bytes Bytes e same = cc
other_wire Bytes Fixed32 e same = absurd cc
other_wire Fixed32 Varint e same = absurd cc
other_wire Fixed32 Bytes e same = absurd cc
other_wire Fixed32 Fixed32 e same = cc

among : (rules : List Rule) (i : ℕ) (rule : Rule) → IsRuleAt rules i rule → Contains rules rule
among rules i rule at = (i, at.inside, get_or_from_slice_get rules i rule rule at.here)

pub ruled_at : (rules : List Rule) (at : ℕ) (rest : List ℕ) (i : ℕ) (raw : RawField) (v : RawValue) (d : Rule) → IsFieldAt at rest raw → raw.value ≡ Some v → HasNumberAt rules i raw.number
    → sameb the_type v.wire (get_or rules i d).wire ≡ true
    → IsRuled rules at rest i (record { number = (get_or rules i d).number; wire = (get_or rules i d).wire; value = v.value }) v.next
ruled_at rules at rest i raw v d f is h same =
    let here : get_or rules i d ≡ h.rule = get_or_from_slice_get rules i h.rule d h.rule_at.here in
    let is_value : IsValueOf at rest raw.number f.wire (Some v) = subst (IsValueOf at rest raw.number f.wire) is f.value_is in
    let wires : v.wire ≡ h.rule.wire = same_wire v.wire (get_or rules i d).wire same ∙ ap (λ (r : Rule). r.wire) here in
    let code : f.wire ≡ wire_code h.rule.wire = is_value.0 ∙ ap wire_code wires in
    subst (λ (r : Rule). IsRuled rules at rest i (record { number = r.number; wire = r.wire; value = v.value }) v.next) (sym here) (record {
      rule = h.rule;
      rule_at = h.rule_at;
      number_is = refl;
      wire_is = refl;
      has_field = subst (λ n. HasField n (wire_code h.rule.wire) rest) (sym h.number_is) (subst (λ w. HasField raw.number w rest) code f.field);
      spelled = subst (λ (n : ℕ). IsSpelledAt at rest n h.rule.wire v.value v.next) (sym h.number_is) (subst (λ (w : Wire). IsSpelledAt at rest raw.number w v.value v.next) wires is_value.1);
    })

pub wrong_value : (rules : List Rule) (at : ℕ) (rest : List ℕ) (i : ℕ) (raw : RawField) (v : RawValue) (d : Rule) → IsFieldAt at rest raw → raw.value ≡ Some v → HasNumberAt rules i raw.number
    → sameb the_type v.wire (get_or rules i d).wire ≡ false
    → HasWrongWire rules rest
wrong_value rules at rest i raw v d f is h differs =
    let here : get_or rules i d ≡ h.rule = get_or_from_slice_get rules i h.rule d h.rule_at.here in
    let is_value : IsValueOf at rest raw.number f.wire (Some v) = subst (IsValueOf at rest raw.number f.wire) is f.value_is in
    record {
      number = raw.number;
      wire = f.wire;
      field = f.field;
      rule = h.rule;
      among = among rules i h.rule h.rule_at;
      number_is = h.number_is;
      other = λ same. other_wire v.wire (get_or rules i d).wire differs (ap (λ (r : Rule). wire_code r.wire) here ∙ same ∙ is_value.0);
    }

pub no_value : (rules : List Rule) (at : ℕ) (rest : List ℕ) (i : ℕ) (raw : RawField) → IsFieldAt at rest raw → raw.value ≡ None → HasNumberAt rules i raw.number → HasWrongWire rules rest
no_value rules at rest i raw f is h =
    let v : IsValueOf at rest raw.number f.wire None = subst (IsValueOf at rest raw.number f.wire) is f.value_is in
    record {
      number = raw.number;
      wire = f.wire;
      field = f.field;
      rule = h.rule;
      among = among rules i h.rule h.rule_at;
      number_is = h.number_is;
      other = λ same. v h.rule.wire (sym same);
    }
