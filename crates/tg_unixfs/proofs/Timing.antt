-- Modification times among the fields of a text: a field of number 8 is the only one, and its bytes are told by the text.
use Rattle.std.proofs.Common.{◌≡◌, ◌≢◌, ℕ, zero, suc, ◌+◌, ◌<◌, ◌≤◌, Bool, cond, Option, Some, None, List, [], ◌∷◌, ◌++◌, length, get_or, refl, sym, ap, ap₂, ◌∙◌, subst, inl, inr, arith}
use Rattle.std.specs.Prelude.{All, Contains, slice_range, ◌==◌}
use Rattle.std.proofs.lemmas.Bool.{cases_eq, eq-eqb, ne_eqb}
use Rattle.std.proofs.lemmas.List.Elements.{All-head, All-contains, Contains-append_left, Contains-append_right}
use Rattle.std.proofs.lemmas.List.Sums.{sum_by-cons}
use Rattle.tg_bytes.specs.Lists.{All-split}
use Rattle.tg_pbtable.specs.declared.table.Field.{Field}
use Rattle.tg_pbtable.specs.declared.table.Place as places
use Rattle.tg_pbtable.specs.declared.table.Rule.{Rule}
use Rattle.tg_pbtable.specs.declared.table.Wire.{Wire}
use Rattle.tg_pbtable.specs.declared.table.Wire.TheVariants.{Bytes}
use Rattle.tg_pbtable.specs.declared.table.Value.{Value}
use Rattle.tg_pbtable.specs.declared.table.Value.TheVariants.{Place}
use Rattle.tg_pbtable.specs.declared.table.Order.TheVariants.{Ascending}
use Rattle.tg_pbtable.specs.declared.fault.PbFault.{PbFault}
use Rattle.tg_pbtable.specs.Message.{Message, IsOfWire, IsRuledField, AreRuled, count_of}
use Rattle.tg_pbtable.specs.Faults.{HasCause, moved_by}
use Rattle.tg_pbtable.specs.Values.{bytes_at, listed, later}
use Rattle.tg_pbtable.specs.Place.{placed_bytes}
use Rattle.tg_pbtable.specs.Laws.{TableLaws}
use Rattle.tg_pbtable.specs.TableRules.{any_rule, place_wire}
use Rattle.tg_unixfs.specs.declared.TheConstants.{DATA, TIME}
use Rattle.tg_unixfs.specs.declared.Unix.{Unix}
use Rattle.tg_unixfs.specs.declared.UnixFault.{UnixFault}
use Rattle.tg_unixfs.specs.declared.UnixFault.TheVariants as faults
use Rattle.tg_unixfs.specs.Unix.{IsTime, HasTime}
use Rattle.tg_unixfs.specs.Faults.{HasData, HasBadTime, HasUnixCause}
use Rattle.tg_unixfs.specs.Places.{timed, IsAmong, IsBadTimeAt}
use Rattle.tg_unixfs.proofs.Parts.{time_table}

-- ---- one field of the number

pub count_here : (f : Field) (fs : List Field) → f.number ≡ 8 → count_of (f ∷ fs) 8 ≡ 1 + count_of fs 8
count_here f fs is = sum_by-cons (λ (x : Field). cond (x.number == 8) 1 0) f fs ∙ ap (λ (b : Bool). cond b 1 0 + count_of fs 8) (eq-eqb f.number 8 is)

pub count_other : (f : Field) (fs : List Field) → f.number ≢ 8 → count_of (f ∷ fs) 8 ≡ count_of fs 8
count_other f fs other =
    let h : count_of (f ∷ fs) 8 ≡ 0 + count_of fs 8 = sum_by-cons (λ (x : Field). cond (x.number == 8) 1 0) f fs ∙ ap (λ (b : Bool). cond b 1 0 + count_of fs 8) (ne_eqb f.number 8 other) in
    omega arith

count_rest : (f : Field) (fs : List Field) → count_of fs 8 ≤ count_of (f ∷ fs) 8
count_rest f fs = elim (cases_eq f.number 8) [
  | inl is ↦ omega (arith, count_here f fs is)
  | inr other ↦ omega (arith, count_other f fs other)
]

counted : (fs : List Field) (j : ℕ) (w : Field) → j < length fs → get_or fs j w ≡ w → w.number ≡ 8 → 0 < count_of fs 8
counted [] j w l e is = absurd (omega arith)
counted (f ∷ fs) zero w l e is = omega (arith, count_here f fs (ap (λ (x : Field). x.number) e ∙ is))
counted (f ∷ fs) (suc j) w l e is = omega (arith, counted fs j w (omega arith) e is, count_rest f fs)

same_field : (fs : List Field) (i j : ℕ) (v w : Field) → i < length fs → j < length fs → get_or fs i v ≡ v → get_or fs j w ≡ w → v.number ≡ 8 → w.number ≡ 8 → count_of fs 8 ≤ 1 → v ≡ w
same_field [] i j v w k l p q a b few = absurd (omega arith)
same_field (f ∷ fs) zero zero v w k l p q a b few = sym p ∙ q
same_field (f ∷ fs) zero (suc j) v w k l p q a b few = absurd (omega (arith, counted fs j w (omega arith) q b, count_here f fs (ap (λ (x : Field). x.number) p ∙ a)))
same_field (f ∷ fs) (suc i) zero v w k l p q a b few = absurd (omega (arith, counted fs i v (omega arith) p a, count_here f fs (ap (λ (x : Field). x.number) q ∙ b)))
same_field (f ∷ fs) (suc i) (suc j) v w k l p q a b few = same_field fs i j v w (omega arith) (omega arith) p q a b (omega (arith, count_rest f fs))

-- bytes of number 8 are a time's
pub timed_is : (f : Field) (start end : ℕ) → IsOfWire f.wire f.value → f.number ≡ 8 → f.value ≡ Place start end → f ≡ timed start end
timed_is f start end wire is e =
    let bytes : f.wire ≡ Bytes = place_wire f.wire start end (subst (λ (v : Value). IsOfWire f.wire v) e wire) in
    ap₂ (λ (n : ℕ) (v : Value). let x : Field = record { number = n; wire = f.wire; value = v } in x) is e
    ∙ ap (λ (w : Wire). let x : Field = record { number = 8; wire = w; value = Place start end } in x) bytes

-- the last of fields under rules has a value of its wire type
pub last_wire : (rules : List Rule) (fs : List Field) (f : Field) → AreRuled rules (fs ++ f ∷ []) → IsOfWire f.wire f.value
last_wire rules fs f h = (All-contains (IsRuledField rules) (fs ++ f ∷ []) f h (Contains-append_right fs (f ∷ []) f (0, omega arith, refl))).of_wire

pub among_more : (fs : List Field) (f : Field) (time : Option places.Place) → IsAmong fs time → IsAmong (fs ++ f ∷ []) time
among_more fs f None h = tt
among_more fs f (Some place) h = Contains-append_left fs (f ∷ []) (timed place.start place.end) h

pub among_last : (fs : List Field) (f : Field) (start end : ℕ) → f ≡ timed start end → IsAmong (fs ++ f ∷ []) (Some (record { start = start; end = end }))
among_last fs f start end e = Contains-append_right fs (f ∷ []) (timed start end) (0, omega arith, e)

-- ---- a time's bytes

rest_times : (laws : TableLaws) → (text : List ℕ) (f : Field) (fs : List Field) → HasTime text (f ∷ fs) → HasTime text fs
rest_times laws text f fs h = (All-split IsTime (bytes_at text 8 (f ∷ [])) (bytes_at text 8 fs) (subst (λ (t : List (List ℕ)). All IsTime t) (laws.values.bytes_append text 8 (f ∷ []) fs) h)).1

time_there : (laws : TableLaws) → (text : List ℕ) (fs : List Field) (i start end : ℕ) → i < length fs → get_or fs i (timed start end) ≡ timed start end → HasTime text fs → IsTime (slice_range text start end)
time_there laws text [] i start end l e h = absurd (omega arith)
time_there laws text (f ∷ fs) zero start end l e h =
    All-head IsTime (slice_range text start end) (bytes_at text 8 fs) (subst (λ (x : Field). All IsTime (bytes_at text 8 (x ∷ fs))) e h)
time_there laws text (f ∷ fs) (suc i) start end l e h = time_there laws text fs i start end (omega arith) e (rest_times laws text f fs h)

pub time_has_none : (laws : TableLaws) → (text : List ℕ) (fs : List Field) (start end : ℕ) (cause : PbFault) → Contains fs (timed start end) → HasTime text fs → HasCause TIME.now Ascending (slice_range text start end) cause → ⊥
time_has_none laws text fs start end cause among h bad =
    let time = time_there laws text fs among.0 start end among.1 among.2 h in
    laws.messages.no_cause TIME.now Ascending (slice_range text start end) time.0 cause (time_table laws) time.1 bad

-- the one place of a time among the fields of a message says whether they have a time
pub times_there : (laws : TableLaws) → (text : List ℕ) (fs : List Field) (time : Option places.Place) → Message DATA.now Ascending text fs → placed_bytes text time ≡ later None (bytes_at text 8 fs)
    → All IsTime (listed (placed_bytes text time)) → HasTime text fs
times_there laws text fs time m e all =
    let eight : count_of fs 8 ≤ 1 = m.counts 7 any_rule (omega arith) in
    subst (λ (t : List (List ℕ)). All IsTime t) (sym (laws.last_bytes.at_most_one (bytes_at text 8 fs) (placed_bytes text time) (omega (arith, laws.values.count text 8 fs)) e)) all

-- ---- the cause of a bad time

pub bad_time_data : (laws : TableLaws) → (text : List ℕ) (unix : Unix) (fault : PbFault) → HasData text unix → HasBadTime text fault → ⊥
bad_time_data laws text unix fault d h =
    let fields : d.fields ≡ h.fields = laws.messages.one_reading 0 text d.fields h.fields d.message.spelled h.message.spelled in
    time_has_none laws text h.fields h.start h.end h.cause h.among (subst (λ (fs : List Field). HasTime text fs) fields d.time) h.cause_is

record SamePlace (start end from to : ℕ) : Type 0 where
  starts : start ≡ from
  ends : end ≡ to

one_place : (i j k l : ℕ) → timed i j ≡ timed k l → SamePlace i j k l
one_place i j k l e =
    let values : Place i j ≡ Place k l = ap (λ (f : Field). f.value) e in
    record { starts = cc; ends = cc }

pub one_bad_time : (laws : TableLaws) → (text : List ℕ) (a b : PbFault) → HasBadTime text a → HasBadTime text b → a ≡ b
one_bad_time laws text a b p q =
    let fields : p.fields ≡ q.fields = laws.messages.one_reading 0 text p.fields q.fields p.message.spelled q.message.spelled in
    let there : Contains q.fields (timed p.start p.end) = subst (λ (fs : List Field). Contains fs (timed p.start p.end)) fields p.among in
    let few : count_of q.fields 8 ≤ 1 = q.message.counts 7 any_rule (omega arith) in
    let same = one_place p.start p.end q.start q.end (same_field q.fields there.0 q.among.0 (timed p.start p.end) (timed q.start q.end) there.1 q.among.1 there.2 q.among.2 refl refl few) in
    let cause : HasCause TIME.now Ascending (slice_range text q.start q.end) p.cause =
    subst (λ (n : ℕ). HasCause TIME.now Ascending (slice_range text q.start n) p.cause) same.ends (subst (λ (n : ℕ). HasCause TIME.now Ascending (slice_range text n p.end) p.cause) same.starts p.cause_is) in
    p.fault_is ∙ ap₂ moved_by same.starts (laws.messages.one_cause TIME.now Ascending (slice_range text q.start q.end) p.cause q.cause (time_table laws) cause q.cause_is) ∙ sym q.fault_is

pub bad_time_given : (laws : TableLaws) → (text : List ℕ) (fault : PbFault) (other : UnixFault) → HasBadTime text fault → HasUnixCause text other → faults.BadTime fault ≡ other
bad_time_given laws text fault (faults.Pb p) h k = absurd (laws.messages.no_cause DATA.now Ascending text h.fields p (laws.messages.table DATA.now refl) h.message k)
bad_time_given laws text fault (faults.BadTime f) h k = ap (λ (x : PbFault). faults.BadTime x) (one_bad_time laws text fault f h k)
bad_time_given laws text fault (faults.BadKind number) h k = absurd (bad_time_data laws text k.unix fault k.has h)
bad_time_given laws text fault (faults.BadHash number) h k = absurd (bad_time_data laws text k.unix fault k.has h)
bad_time_given laws text fault (faults.BadFanout number) h k = absurd (bad_time_data laws text k.unix fault k.has h)
bad_time_given laws text fault faults.OutOfMemory h k = absurd k

-- the fault of a place among the fields of a message
pub record IsBadTimeIn (text : List ℕ) (fault : UnixFault) : Type 0 where
  pub moved : PbFault
  pub has : HasBadTime text moved
  pub is : fault ≡ faults.BadTime moved

pub bad_time_in : (text : List ℕ) (fs : List Field) (time : Option places.Place) (fault : UnixFault) → Message DATA.now Ascending text fs → IsAmong fs time → IsBadTimeAt text time fault → IsBadTimeIn text fault
bad_time_in text fs time fault m among bad =
    let there : IsAmong fs (Some bad.place) = subst (λ (o : Option places.Place). IsAmong fs o) bad.place_is among in
    record {
      moved = bad.told;
      has = record { fields = fs; message = m; start = bad.place.start; end = bad.place.end; among = there; cause = bad.bad.cause; cause_is = bad.bad.cause_is; fault_is = bad.bad.fault_is };
      is = bad.fault_is;
    }

pub bad_time_cause : (text : List ℕ) (fault : UnixFault) → IsBadTimeIn text fault → HasUnixCause text fault
bad_time_cause text fault h = subst (λ (e : UnixFault). HasUnixCause text e) (sym h.is) h.has

-- the fault of a field among others, which are those of a message
pub record IsBadTimeOf (text : List ℕ) (fields : List Field) (fault : PbFault) : Type 0 where
  pub start : ℕ
  pub end : ℕ
  pub among : Contains fields (timed start end)
  pub cause : PbFault
  pub cause_is : HasCause TIME.now Ascending (slice_range text start end) cause
  pub fault_is : fault ≡ moved_by start cause

pub bad_time_of : (text : List ℕ) (fs : List Field) (fault : PbFault) → Message DATA.now Ascending text fs → IsBadTimeOf text fs fault → HasBadTime text fault
bad_time_of text fs fault m h = record { fields = fs; message = m; start = h.start; end = h.end; among = h.among; cause = h.cause; cause_is = h.cause_is; fault_is = h.fault_is }
