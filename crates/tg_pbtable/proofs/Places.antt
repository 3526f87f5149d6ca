-- The field at a place of a text, and the fields before a cursor.
use Rattle.std.proofs.Common.{◌≡◌, ℕ, ◌≤◌, List, [], ◌++◌, length, take, drop, sym, ap, ◌∙◌, subst, arith}
use Rattle.std.proofs.lemmas.List.{length-append, length-drop, length-take-le, take-append-drop, take_at}
use Rattle.tg_pbtable.specs.declared.table.Rule.{Rule}
use Rattle.tg_pbtable.specs.declared.table.Wire.{Wire}
use Rattle.tg_pbtable.specs.declared.table.Order.{Order}
use Rattle.tg_pbtable.specs.declared.table.Order.TheVariants.{Ascending}
use Rattle.tg_pbtable.specs.declared.table.Field.{Field}
use Rattle.tg_pbtable.specs.declared.cursor.FieldCursor.{FieldCursor}
use Rattle.tg_pbtable.specs.declared.fault.PbFault.{PbFault}
use Rattle.tg_pbtable.specs.declared.fault.PbFault.TheVariants as faults
use Rattle.tg_pbtable.specs.Message.{IsTable, Spelled, FieldSpelling}
use Rattle.tg_pbtable.specs.Wires.{wire_code}
use Rattle.tg_pbtable.specs.Faults.{HasField}
use Rattle.tg_pbtable.specs.Emitted.{LiesIn}
use Rattle.tg_pbtable.specs.Cursor.{HasRead, StandsAt, IsRefused}
use Rattle.tg_pbtable.specs.Reading.{IsRuled}
use Rattle.tg_pbtable.proofs.Spellings.{one_field, value_of_wire}
use Rattle.tg_pbtable.proofs.Tables.{value_inside}
use Rattle.tg_pbtable.proofs.Whole.{spelled_has, read_short_field, read_bad_field}
use Rattle.tg_pbtable.proofs.Causes.{Verdict, short, bad, unknown, wrong, Judged, fault_of, one_verdict, unknown_known, wrong_right}
use Rattle.tg_pbtable.proofs.Scanning.{among, none_in_order}

-- the fields before a cursor are spelled by the text up to it
pub read_front : {N : ℕ} (rules : List Rule) (order : Order) (text : List ℕ) (fields : List Field) (c : FieldCursor N) → HasRead rules order text fields c → Spelled 0 fields (take c.at text)
read_front rules order text fields c h =
    let b = h.begins in
    let at_is : c.at ≡ length b.front = b.at_is in
    let front : take c.at text ≡ b.front = ap (take c.at) b.whole ∙ take_at b.front (drop c.at text) c.at (sym at_is) in
    subst (λ (t : List ℕ). Spelled 0 fields t) (sym front) b.spelled

-- ---- what is found

pub next_inside : (rules : List Rule) (text : List ℕ) (at i : ℕ) (f : Field) (next : ℕ) → at ≤ length text → IsRuled rules at (drop at text) i f next → next ≤ length text
next_inside rules text at i f next l r =
    let p = r.spelled in
    omega (arith, p.next_is, ap length p.whole, length-append p.front p.behind, length-drop at text)

pub stands_at : (rules : List Rule) (text : List ℕ) (at i : ℕ) (f : Field) (next : ℕ) → IsRuled rules at (drop at text) i f next → StandsAt rules text at f next
stands_at rules text at i f next r = record {
  front = r.spelled.front;
  rest = r.spelled.behind;
  whole = r.spelled.whole;
  spelled = r.spelled.spelled;
  ruled = record { has_rule = record { rule = r.rule; among = among rules i r.rule r.rule_at; number_is = r.number_is; wire_is = r.wire_is }; of_wire = value_of_wire at f.number f.wire f.value r.spelled.front r.spelled.spelled };
  next_is = r.spelled.next_is;
}

pub lies_in : (rules : List Rule) (text : List ℕ) (at : ℕ) (f : Field) (next : ℕ) → at ≤ length text → StandsAt rules text at f next → LiesIn text f.value
lies_in rules text at f next l s =
    let before : at ≡ length (take at text) = sym (length-take-le at text l) in
    subst (λ (t : List ℕ). LiesIn t f.value) (ap (λ (t : List ℕ). take at text ++ t) (sym s.whole) ∙ take-append-drop at text)
    (value_inside (take at text) s.front s.rest f.number f.wire f.value (subst (λ (n : ℕ). FieldSpelling n f s.front) before s.spelled))

-- one field stands at a place
pub one_at : (rules : List Rule) (text : List ℕ) (at : ℕ) (f g : Field) (m n : ℕ) → StandsAt rules text at f m → StandsAt rules text at g n → (f ≡ g) × (m ≡ n)
one_at rules text at f g m n a b =
    let same = one_field at f g a.front b.front a.rest b.rest a.spelled b.spelled (sym a.whole ∙ b.whole) in
    let size : length a.front ≡ length b.front = ap length same.1 in
    (same.0, omega (arith, a.next_is, b.next_is))

-- ---- where a field under a rule stands nothing is refused

stands_field : (rules : List Rule) (text : List ℕ) (at : ℕ) (f : Field) (next : ℕ) → StandsAt rules text at f next → HasField f.number (wire_code f.wire) (drop at text)
stands_field rules text at f next s = spelled_has at f.number f.wire f.value s.front s.rest (drop at text) s.spelled s.whole

ruled_field : (rules : List Rule) (text : List ℕ) (at : ℕ) (f : Field) (next : ℕ) (s : StandsAt rules text at f next) → HasField s.ruled.has_rule.rule.number (wire_code s.ruled.has_rule.rule.wire) (drop at text)
ruled_field rules text at f next s =
    subst (λ (n : ℕ). HasField n (wire_code s.ruled.has_rule.rule.wire) (drop at text)) (sym s.ruled.has_rule.number_is)
    (subst (λ (w : Wire). HasField f.number (wire_code w) (drop at text)) (sym s.ruled.has_rule.wire_is) (stands_field rules text at f next s))

pub not_refused : (rules : List Rule) (text : List ℕ) (at : ℕ) (f : Field) (next : ℕ) (e : PbFault) → IsTable rules → StandsAt rules text at f next → IsRefused rules at (drop at text) e → ⊥
not_refused rules text at f next (faults.Short place) t s h = read_short_field (drop at text) f.number (wire_code f.wire) h.1 (stands_field rules text at f next s)
not_refused rules text at f next (faults.BadVarint place) t s h = read_bad_field (drop at text) f.number (wire_code f.wire) h.1 (stands_field rules text at f next s)
not_refused rules text at f next (faults.Unknown place number) t s h =
    unknown_known rules (drop at text) number s.ruled.has_rule.rule f.number (wire_code f.wire) h.1 s.ruled.has_rule.among s.ruled.has_rule.number_is (stands_field rules text at f next s)
not_refused rules text at f next (faults.WrongWire place) t s h = wrong_right rules (drop at text) s.ruled.has_rule.rule t h.1 s.ruled.has_rule.among (ruled_field rules text at f next s)
not_refused rules text at f next (faults.OutOfOrder place) t s h = absurd h
not_refused rules text at f next (faults.Doubled place) t s h = absurd h
not_refused rules text at f next (faults.Missing number) t s h = absurd h
not_refused rules text at f next faults.OutOfMemory t s h = absurd h

-- ---- one refusal at a place

record Refusal (rules : List Rule) (at : ℕ) (rest : List ℕ) (e : PbFault) : Type 0 where
  verdict : Verdict
  judged : Judged rules Ascending [] rest verdict
  is : e ≡ fault_of at verdict

refusal : (rules : List Rule) (at : ℕ) (rest : List ℕ) (e : PbFault) → IsRefused rules at rest e → Refusal rules at rest e
refusal rules at rest (faults.Short place) h = record { verdict = short; judged = h.1; is = ap (λ (n : ℕ). faults.Short n) h.0 }
refusal rules at rest (faults.BadVarint place) h = record { verdict = bad; judged = h.1; is = ap (λ (n : ℕ). faults.BadVarint n) h.0 }
refusal rules at rest (faults.Unknown place number) h = record { verdict = unknown number; judged = h.1; is = ap (λ (n : ℕ). faults.Unknown n number) h.0 }
refusal rules at rest (faults.WrongWire place) h = record { verdict = wrong; judged = h.1; is = ap (λ (n : ℕ). faults.WrongWire n) h.0 }
refusal rules at rest (faults.OutOfOrder place) h = absurd h
refusal rules at rest (faults.Doubled place) h = absurd h
refusal rules at rest (faults.Missing number) h = absurd h
refusal rules at rest faults.OutOfMemory h = absurd h

pub one_refusal : (rules : List Rule) (at : ℕ) (rest : List ℕ) (a b : PbFault) → IsTable rules → IsRefused rules at rest a → IsRefused rules at rest b → a ≡ b
one_refusal rules at rest a b t p q =
    let x = refusal rules at rest a p in
    let y = refusal rules at rest b q in
    x.is ∙ ap (fault_of at) (one_verdict rules Ascending [] rest x.verdict y.verdict t (none_in_order Ascending) x.judged y.judged) ∙ sym y.is
