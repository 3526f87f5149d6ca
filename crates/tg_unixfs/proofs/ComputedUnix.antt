-- The data that is computed of a text is its own, and the fault that is computed has its cause.
use Rattle.std.proofs.Common.{◌≡◌, ◌≢◌, ℕ, suc, ◌-◌, ◌<◌, ◌≤◌, true, false, Option, Some, None, Result, Ok, Err, List, [], ◌∷◌, ◌++◌, length, drop, refl, ap₂, sym, ap, ◌∙◌, subst, inl, inr, arith}
use Rattle.tg_bytes.specs.Lists.{AreBytes}
use Rattle.std.proofs.lemmas.List.Elements.{All-nil, All-cons, All-head, All-tail, All-take, All-drop}
use Rattle.std.specs.Prelude.{All, slice_range, MatchOption, MatchResult, ◌↔◌, ◌==◌, ◌||◌, unwrap_or, if◌then◌else◌}
use Rattle.std.proofs.lemmas.Bool.{cond_both, cond-true, cond-false, eqb-true, eqb-false, eq-eqb, ne_eqb, cases_eq, false_from_ne_true}
use Rattle.std.proofs.lemmas.Bool.Decides.{Decides-eqb, Decides-or}
use Rattle.tg_pbtable.specs.declared.table.Field.{Field}
use Rattle.tg_pbtable.specs.declared.table.Value.{Value}
use Rattle.tg_pbtable.specs.declared.table.Value.TheVariants.{Number, Place}
use Rattle.tg_pbtable.specs.declared.table.Order.TheVariants.{Ascending}
use Rattle.tg_pbtable.specs.declared.fault.PbFault.{PbFault}
use Rattle.tg_pbtable.specs.Message.{Message, IsOfWire, IsRuledField, AreRuled, count_of}
use Rattle.tg_pbtable.specs.Faults.{HasCause}
use Rattle.tg_pbtable.specs.Values.{numbers_at, bytes_at, bytes_in}
use Rattle.tg_pbtable.specs.Computed.{fields_of}
use Rattle.tg_pbtable.specs.Laws.{TableLaws}
use Rattle.tg_pbtable.specs.TableRules.{any_rule, rule_at}
use Rattle.tg_unixfs.specs.declared.TheConstants.{DATA, TIME}
use Rattle.tg_unixfs.specs.declared.Unix.{Unix}
use Rattle.tg_unixfs.specs.declared.UnixFault.{UnixFault}
use Rattle.tg_unixfs.specs.declared.UnixFault.TheVariants as faults
use Rattle.tg_unixfs.specs.Unix.{UnixText, HasParts, IsTime, HasTime, IsUnix, IsKind, IsShardOf}
use Rattle.tg_unixfs.specs.Faults.{HasData, HasBadTime, HasUnixCause}
use Rattle.tg_unixfs.specs.Computed.{parts_of, is_kind, checked_shard, checked, moved_fault, bad_time_at, bad_time, behind_time, with_fields, unix_of}
use Rattle.tg_unixfs.specs.Places.{timed}
use Rattle.tg_unixfs.proofs.Parts.{data_table, time_table}
use Rattle.tg_unixfs.proofs.Same.{one_data}
use Rattle.tg_unixfs.proofs.Timing.{count_here, count_other, timed_is, time_has_none, one_bad_time, IsBadTimeOf, bad_time_of}

-- ---- the parts

pub parts_told : (laws : TableLaws) → (text : List ℕ) (fs : List Field) → Message DATA.now Ascending text fs → HasParts text fs (parts_of text fs)
parts_told laws text fs m =
    let one : count_of fs 1 ≡ 1 = m.counts 0 any_rule (omega arith) in
    let two : count_of fs 2 ≤ 1 = m.counts 1 any_rule (omega arith) in
    let three : count_of fs 3 ≤ 1 = m.counts 2 any_rule (omega arith) in
    let five : count_of fs 5 ≤ 1 = m.counts 4 any_rule (omega arith) in
    let six : count_of fs 6 ≤ 1 = m.counts 5 any_rule (omega arith) in
    record {
      kind = laws.last_number.first_alone 0 (numbers_at 1 fs) (laws.values.all_numbers DATA.now 1 fs (data_table laws) (rule_at DATA.now 0 (omega arith)) m.ruled ∙ one);
      inline = laws.last_bytes.first_listed (bytes_at text 2 fs) (omega (arith, laws.values.count text 2 fs));
      filesize = laws.last_number.first_listed (numbers_at 3 fs) (omega (arith, laws.values.count text 3 fs));
      sizes = refl;
      hash = laws.last_number.first_listed (numbers_at 5 fs) (omega (arith, laws.values.count text 5 fs));
      fanout = laws.last_number.first_listed (numbers_at 6 fs) (omega (arith, laws.values.count text 6 fs));
    }

-- ---- the checks

kind_decides : (kind : ℕ) → (is_kind kind ≡ true → IsKind kind) × (IsKind kind → is_kind kind ≡ true)
kind_decides kind =
    Decides-or (kind == 0) (kind == 1 || (kind == 2 || (kind == 4 || kind == 5))) (Decides-eqb kind 0)
    (Decides-or (kind == 1) (kind == 2 || (kind == 4 || kind == 5)) (Decides-eqb kind 1)
    (Decides-or (kind == 2) (kind == 4 || kind == 5) (Decides-eqb kind 2)
    (Decides-or (kind == 4) (kind == 5) (Decides-eqb kind 4) (Decides-eqb kind 5))))

-- a part that counts as a number other than 0 is there
is_there : (o : Option ℕ) (n : ℕ) → 0 < n → unwrap_or o 0 ≡ n → o ≡ Some n
is_there None n some e = absurd (omega arith)
is_there (Some m) n some e = ap (λ (k : ℕ). Some k) e

abbrev UnixTold : List ℕ → Result Unix UnixFault → Type 0
UnixTold text r = MatchResult r (λ unix. UnixText unix text) (λ e. HasUnixCause text e)

unix_text : (text : List ℕ) (u : Unix) → HasData text u → IsKind u.kind → (u.kind ≡ 5 → IsShardOf u) → UnixText u text
unix_text text u d kind shard = record { fields = d.fields; message = d.message; parts = d.parts; time = d.time; is_unix = record { known = kind; shard = shard } }

shard_told : (text : List ℕ) (u : Unix) → HasData text u → IsKind u.kind → u.kind ≡ 5 → UnixTold text (checked_shard u)
shard_told text u d kind five =
    let hash = unwrap_or u.hash 0 in
    let fanout = unwrap_or u.fanout 0 in
    cond_both (hash == 0x22) (if fanout == 256 then Ok u else Err (faults.BadFanout fanout)) (Err (faults.BadHash hash)) (UnixTold text)
    (λ t.
    let murmur : hash ≡ 0x22 = eqb-true hash 0x22 t in
    cond_both (fanout == 256) (Ok u) (Err (faults.BadFanout fanout)) (UnixTold text)
    (λ s. unix_text text u d kind (λ _. record { hash = is_there u.hash 0x22 (omega arith) murmur; fanout = is_there u.fanout 256 (omega arith) (eqb-true fanout 256 s) }))
    (λ f. record { unix = u; has = d; kind = five; hash = murmur; number_is = refl; other = eqb-false fanout 256 f }))
    (λ f. record { unix = u; has = d; kind = five; number_is = refl; other = eqb-false hash 0x22 f })

checked_told : (text : List ℕ) (u : Unix) → HasData text u → UnixTold text (checked u)
checked_told text u d =
    let decides = kind_decides u.kind in
    cond_both (is_kind u.kind) (if u.kind == 5 then checked_shard u else Ok u) (Err (faults.BadKind u.kind)) (UnixTold text)
    (λ t. cond_both (u.kind == 5) (checked_shard u) (Ok u) (UnixTold text)
    (λ s. shard_told text u d (decides.0 t) (eqb-true u.kind 5 s))
    (λ f. unix_text text u d (decides.0 t) (λ five. absurd (eqb-false u.kind 5 f five))))
    (λ f. record { unix = u; has = d; kind = refl; unknown = λ k. let clash : true ≡ false = sym (decides.1 k) ∙ f in cc })

-- ---- what the checks answer

shard_is : (u : Unix) → u.kind ≡ 5 → checked u ≡ checked_shard u
shard_is u five =
    cond-true (is_kind u.kind) (if u.kind == 5 then checked_shard u else Ok u) (Err (faults.BadKind u.kind)) ((kind_decides u.kind).1 (inr (inr (inr (inr five)))))
    ∙ cond-true (u.kind == 5) (checked_shard u) (Ok u) (eq-eqb u.kind 5 five)

murmur_is : (u : Unix) → unwrap_or u.hash 0 ≡ 0x22
    → checked_shard u ≡ (if unwrap_or u.fanout 0 == 256 then Ok u else Err (faults.BadFanout (unwrap_or u.fanout 0)))
murmur_is u e =
    cond-true (unwrap_or u.hash 0 == 0x22) (if unwrap_or u.fanout 0 == 256 then Ok u else Err (faults.BadFanout (unwrap_or u.fanout 0)))
    (Err (faults.BadHash (unwrap_or u.hash 0))) (eq-eqb (unwrap_or u.hash 0) 0x22 e)

checked_ok : (u : Unix) → IsUnix u → checked u ≡ Ok u
checked_ok u is = elim (cases_eq u.kind 5) [
  | inl five ↦
      let shard = is.shard five in
      shard_is u five ∙ murmur_is u (ap (λ (o : Option ℕ). unwrap_or o 0) shard.hash)
      ∙ cond-true (unwrap_or u.fanout 0 == 256) (Ok u) (Err (faults.BadFanout (unwrap_or u.fanout 0))) (eq-eqb (unwrap_or u.fanout 0) 256 (ap (λ (o : Option ℕ). unwrap_or o 0) shard.fanout))
  | inr other ↦
      cond-true (is_kind u.kind) (if u.kind == 5 then checked_shard u else Ok u) (Err (faults.BadKind u.kind)) ((kind_decides u.kind).1 is.known)
      ∙ cond-false (u.kind == 5) (checked_shard u) (Ok u) (ne_eqb u.kind 5 other)
]

bad_kind : (u : Unix) (number : ℕ) → u.kind ≡ number → (IsKind number → ⊥) → checked u ≡ Err (faults.BadKind number)
bad_kind u number e unknown =
    cond-false (is_kind u.kind) (if u.kind == 5 then checked_shard u else Ok u) (Err (faults.BadKind u.kind))
    (false_from_ne_true (is_kind u.kind) (λ t. unknown (subst (λ (n : ℕ). IsKind n) e ((kind_decides u.kind).0 t))))
    ∙ ap (λ (n : ℕ). Err (faults.BadKind n)) e

bad_hash : (u : Unix) (number : ℕ) → u.kind ≡ 5 → number ≡ unwrap_or u.hash 0 → number ≢ 0x22 → checked u ≡ Err (faults.BadHash number)
bad_hash u number five e other =
    shard_is u five
    ∙ cond-false (unwrap_or u.hash 0 == 0x22) (if unwrap_or u.fanout 0 == 256 then Ok u else Err (faults.BadFanout (unwrap_or u.fanout 0)))
    (Err (faults.BadHash (unwrap_or u.hash 0))) (ne_eqb (unwrap_or u.hash 0) 0x22 (λ h. other (e ∙ h)))
    ∙ ap (λ (n : ℕ). Err (faults.BadHash n)) (sym e)

bad_fanout : (u : Unix) (number : ℕ) → u.kind ≡ 5 → unwrap_or u.hash 0 ≡ 0x22 → number ≡ unwrap_or u.fanout 0 → number ≢ 256 → checked u ≡ Err (faults.BadFanout number)
bad_fanout u number five murmur e other =
    shard_is u five ∙ murmur_is u murmur
    ∙ cond-false (unwrap_or u.fanout 0 == 256) (Ok u) (Err (faults.BadFanout (unwrap_or u.fanout 0))) (ne_eqb (unwrap_or u.fanout 0) 256 (λ h. other (e ∙ h)))
    ∙ ap (λ (n : ℕ). Err (faults.BadFanout n)) (sym e)

-- ---- the modification time

range_bytes : (text : List ℕ) (start end : ℕ) → AreBytes text → AreBytes (slice_range text start end)
range_bytes text start end are = All-take (λ (b : ℕ). b < 256) (end - start) (drop start text) (All-drop (λ (b : ℕ). b < 256) start text are)

no_length : {A : Type 0} (xs : List A) → length xs ≡ 0 → xs ≡ []
no_length [] e = refl
no_length (x ∷ xs) e = absurd (omega arith)

abbrev TimeTold : List ℕ → List Field → Option PbFault → Type 0
TimeTold text fields o = MatchOption o (HasTime text fields) (λ fault. IsBadTimeOf text fields fault)

moved_told : (laws : TableLaws) → (text : List ℕ) (f : Field) (fs : List Field) (start end : ℕ) (r : Result (List Field) PbFault) → AreBytes text → f ≡ timed start end → bytes_at text 8 (f ∷ fs) ≡ slice_range text start end ∷ []
    → fields_of TIME.now Ascending (slice_range text start end) ≡ r → TimeTold text (f ∷ fs) (moved_fault start r)
moved_told laws text f fs start end (Ok fields) are is one e =
    let bytes = slice_range text start end in
    let time : IsTime bytes = (fields, (laws.messages.computed TIME.now Ascending bytes fields (time_table laws) (range_bytes text start end are)).0 e) in
    subst (λ (t : List (List ℕ)). All IsTime t) (sym one) (All-cons IsTime bytes [] time (All-nil IsTime))
moved_told laws text f fs start end (Err fault) are is one e = record {
  start = start;
  end = end;
  among = (0, omega arith, is);
  cause = fault;
  cause_is = (laws.messages.computed_fault TIME.now Ascending (slice_range text start end) fault (time_table laws) (range_bytes text start end are)).0 e;
  fault_is = refl;
}

here_told : (laws : TableLaws) → (text : List ℕ) (f : Field) (fs : List Field) (v : Value) → AreBytes text → IsOfWire f.wire f.value → f.number ≡ 8 → f.value ≡ v → bytes_at text 8 fs ≡ [] → TimeTold text (f ∷ fs) (bad_time_at text v)
here_told laws text f fs (Number n) are wire is e none =
    let bytes : bytes_at text 8 (f ∷ fs) ≡ [] = laws.values.bytes_here text 8 f fs is ∙ ap₂ (λ (v : Value) (t : List (List ℕ)). bytes_in text v ++ t) e none in
    subst (λ (t : List (List ℕ)). All IsTime t) (sym bytes) (All-nil IsTime)
here_told laws text f fs (Place start end) are wire is e none =
    let bytes : bytes_at text 8 (f ∷ fs) ≡ slice_range text start end ∷ [] = laws.values.bytes_here text 8 f fs is ∙ ap₂ (λ (v : Value) (t : List (List ℕ)). bytes_in text v ++ t) e none in
    moved_told laws text f fs start end (fields_of TIME.now Ascending (slice_range text start end)) are (timed_is f start end wire is e) bytes refl

further_told : (laws : TableLaws) → (text : List ℕ) (f : Field) (fs : List Field) (o : Option PbFault) → f.number ≢ 8 → TimeTold text fs o → TimeTold text (f ∷ fs) o
further_told laws text f fs None other h = subst (λ (t : List (List ℕ)). All IsTime t) (sym (laws.values.bytes_other text 8 f fs other)) h
further_told laws text f fs (Some fault) other h = record {
  start = h.start;
  end = h.end;
  among = (suc h.among.0, omega (arith, h.among.1), h.among.2);
  cause = h.cause;
  cause_is = h.cause_is;
  fault_is = h.fault_is;
}

time_told : (laws : TableLaws) → (text : List ℕ) (fs : List Field) → AreBytes text → AreRuled DATA.now fs → count_of fs 8 ≤ 1 → TimeTold text fs (bad_time text fs)
time_told laws text [] are ruled few = All-nil IsTime
time_told laws text (f ∷ fs) are ruled few = elim (cases_eq f.number 8) [
  | inl is ↦
      let none : length (bytes_at text 8 fs) ≡ 0 = omega (arith, laws.values.count text 8 fs, count_here f fs is) in
      let told = here_told laws text f fs f.value are (All-head (IsRuledField DATA.now) f fs ruled).of_wire is refl (no_length (bytes_at text 8 fs) none) in
      subst (λ (o : Option PbFault). TimeTold text (f ∷ fs) o) (sym (cond-true (f.number == 8) (bad_time_at text f.value) (bad_time text fs) (eq-eqb f.number 8 is))) told
  | inr other ↦
      let told = further_told laws text f fs (bad_time text fs) other (time_told laws text fs are (All-tail (IsRuledField DATA.now) f fs ruled) (omega (arith, count_other f fs other))) in
      subst (λ (o : Option PbFault). TimeTold text (f ∷ fs) o) (sym (cond-false (f.number == 8) (bad_time_at text f.value) (bad_time text fs) (ne_eqb f.number 8 other))) told
]

behind_told : (laws : TableLaws) → (text : List ℕ) (fs : List Field) (o : Option PbFault) → Message DATA.now Ascending text fs → TimeTold text fs o → UnixTold text (behind_time o (checked (parts_of text fs)))
behind_told laws text fs None m h = checked_told text (parts_of text fs) (record { fields = fs; message = m; parts = parts_told laws text fs m; time = h })
behind_told laws text fs (Some fault) m h = bad_time_of text fs fault m h

none_told : (laws : TableLaws) → (text : List ℕ) (fs : List Field) (o : Option PbFault) → TimeTold text fs o → HasTime text fs → o ≡ None
none_told laws text fs None h time = refl
none_told laws text fs (Some fault) h time = absurd (time_has_none laws text fs h.start h.end h.cause h.among time h.cause_is)

some_told : (laws : TableLaws) → (text : List ℕ) (fault : PbFault) (o : Option PbFault) (h : HasBadTime text fault) → TimeTold text h.fields o → o ≡ Some fault
some_told laws text fault None h t = absurd (time_has_none laws text h.fields h.start h.end h.cause h.among t h.cause_is)
some_told laws text fault (Some found) h t = ap (λ (x : PbFault). Some x) (one_bad_time laws text found fault (bad_time_of text h.fields found h.message t) h)

fields_time : (laws : TableLaws) → (text : List ℕ) (fs : List Field) → AreBytes text → Message DATA.now Ascending text fs → TimeTold text fs (bad_time text fs)
fields_time laws text fs are m = let few : count_of fs 8 ≤ 1 = m.counts 7 any_rule (omega arith) in time_told laws text fs are m.ruled few

time_none : (laws : TableLaws) → (text : List ℕ) (fs : List Field) → AreBytes text → Message DATA.now Ascending text fs → HasTime text fs → bad_time text fs ≡ None
time_none laws text fs are m time = none_told laws text fs (bad_time text fs) (fields_time laws text fs are m) time

time_is : (laws : TableLaws) → (text : List ℕ) (fault : PbFault) → AreBytes text → HasBadTime text fault → unix_of text ≡ Err (faults.BadTime fault)
unfolding unix_of
time_is laws text fault are h =
    ap (with_fields text) ((laws.messages.computed DATA.now Ascending text h.fields (data_table laws) are).1 h.message)
    ∙ ap (λ (o : Option PbFault). behind_time o (checked (parts_of text h.fields))) (some_told laws text fault (bad_time text h.fields) h (fields_time laws text h.fields are h.message))

-- ---- the text

with_told : (laws : TableLaws) → (text : List ℕ) (r : Result (List Field) PbFault) → All (λ (b : ℕ). b < 256) text → fields_of DATA.now Ascending text ≡ r → UnixTold text (with_fields text r)
with_told laws text (Ok fields) are e =
    let m = (laws.messages.computed DATA.now Ascending text fields (data_table laws) are).0 e in
    let few : count_of fields 8 ≤ 1 = m.counts 7 any_rule (omega arith) in
    behind_told laws text fields (bad_time text fields) m (time_told laws text fields are m.ruled few)
with_told laws text (Err fault) are e = (laws.messages.computed_fault DATA.now Ascending text fault (data_table laws) are).0 e

unix_told : (laws : TableLaws) → (text : List ℕ) → All (λ (b : ℕ). b < 256) text → UnixTold text (unix_of text)
unfolding unix_of
unix_told laws text are = with_told laws text (fields_of DATA.now Ascending text) are refl

-- data of a text is computed up to the checks
data_is : (laws : TableLaws) → (text : List ℕ) (u : Unix) → All (λ (b : ℕ). b < 256) text → HasData text u → unix_of text ≡ checked u
unfolding unix_of
data_is laws text u are d =
    ap (with_fields text) ((laws.messages.computed DATA.now Ascending text d.fields (data_table laws) are).1 d.message)
    ∙ ap (λ (o : Option PbFault). behind_time o (checked (parts_of text d.fields))) (time_none laws text d.fields are d.message d.time)
    ∙ ap checked (one_data laws text d.fields d.fields (parts_of text d.fields) u d.message d.message (parts_told laws text d.fields d.message) d.parts)

fault_is : (laws : TableLaws) → (text : List ℕ) (fault : PbFault) → All (λ (b : ℕ). b < 256) text → HasCause DATA.now Ascending text fault → unix_of text ≡ Err (faults.Pb fault)
unfolding unix_of
fault_is laws text fault are h = ap (with_fields text) ((laws.messages.computed_fault DATA.now Ascending text fault (data_table laws) are).1 h)

cause_is : (laws : TableLaws) → (text : List ℕ) (fault : UnixFault) → All (λ (b : ℕ). b < 256) text → HasUnixCause text fault → unix_of text ≡ Err fault
cause_is laws text (faults.Pb fault) are h = fault_is laws text fault are h
cause_is laws text (faults.BadTime fault) are h = time_is laws text fault are h
cause_is laws text (faults.BadKind number) are h = data_is laws text h.unix are h.has ∙ bad_kind h.unix number h.kind h.unknown
cause_is laws text (faults.BadHash number) are h = data_is laws text h.unix are h.has ∙ bad_hash h.unix number h.kind h.number_is h.other
cause_is laws text (faults.BadFanout number) are h = data_is laws text h.unix are h.has ∙ bad_fanout h.unix number h.kind h.hash h.number_is h.other
cause_is laws text faults.OutOfMemory are h = absurd h

pub data_law : (laws : TableLaws) → (text : List ℕ) (unix : Unix) → All (λ (b : ℕ). b < 256) text → (unix_of text ≡ Ok unix) ↔ UnixText unix text
data_law laws text unix are = (
  λ e. subst (λ (r : Result Unix UnixFault). UnixTold text r) e (unix_told laws text are),
  λ h. data_is laws text unix are (record { fields = h.fields; message = h.message; parts = h.parts; time = h.time }) ∙ checked_ok unix h.is_unix,
)

pub unix_fault_law : (laws : TableLaws) → (text : List ℕ) (fault : UnixFault) → All (λ (b : ℕ). b < 256) text → (unix_of text ≡ Err fault) ↔ HasUnixCause text fault
unix_fault_law laws text fault are = (
  λ e. subst (λ (r : Result Unix UnixFault). UnixTold text r) e (unix_told laws text are),
  λ h. cause_is laws text fault are h,
)
