-- What is computed at the front of bytes is what stands there: varints, values and fields.
use Rattle.std.proofs.Common.{◌≡◌, ◌≢◌, ℕ, zero, suc, ◌+◌, ◌-◌, ◌/◌, ◌%◌, ◌^◌, ◌<◌, ◌≤◌, Option, Some, None, Result, Ok, Err, List, [], ◌∷◌, length, take, drop, get_or, refl, sym, ◌∙◌, subst, inl, inr, arith}
use Rattle.std.specs.Int.{from_le_bytes, w32}
use Rattle.std.specs.Prelude.{All, MatchResult, nat_lt, ◌==◌, ◌&&◌, slice_get, if◌then◌else◌}
use Rattle.std.proofs.lemmas.Bool.{cases_lt, cond_both, ltb-true, ltb-false, eqb-true, eqb-false, and_parts, and_cases}
use Rattle.std.proofs.lemmas.List.{length-drop, take-append-drop, drop-drop}
use Rattle.std.proofs.lemmas.List.Elements.{All-nil, All-cons, All-drop}
use Rattle.std.proofs.lemmas.Option.{slice_get_within, slice_get-get_or, get_or_from_slice_get}
use Rattle.tg_pbtable.specs.declared.table.Wire.{Wire}
use Rattle.tg_pbtable.specs.declared.table.Wire.TheVariants.{Varint, Bytes, Fixed32}
use Rattle.tg_pbtable.specs.declared.table.Value.TheVariants.{Number, Place}
use Rattle.tg_pbtable.specs.declared.raw.RawField.{RawField}
use Rattle.tg_pbtable.specs.declared.raw.RawValue.{RawValue}
use Rattle.tg_pbtable.specs.declared.raw.ReadFault.{ReadFault}
use Rattle.tg_pbtable.specs.declared.raw.ReadFault.TheVariants.{Short, Bad}
use Rattle.tg_varint.specs.Varint.{number_of, AllGoOn}
use Rattle.tg_pbtable.specs.Wires.{wire_code, IsNoWire}
use Rattle.tg_pbtable.specs.Reading.{IsVarintAt, IsVarintFault, IsValueAt, IsValueFault, IsWireOf, IsFieldAt, IsFieldFault}
use Rattle.tg_pbtable.specs.Computed.{and_then, going_on, below_range, ended, varint_in, some_value, place_in, fixed_in, wire_with, value_with, value_in, field_in}
use Rattle.tg_varint.specs.GroupLaws.{group_at, inside_at, zero_at}
use Rattle.tg_pbtable.proofs.Whole.{number_there, place_there, short_place, fixed_there, field_there, fault_there}

-- what goes on with something that was read says what it says of each reading, and of each fault
pub gone_on : {A B E : Type 0} (P : Result B E → Type 0) (Q : A → Type 0) (R : E → Type 0) (r : Result A E) (next : A → Result B E)
    → MatchResult r Q R → ((a : A) → Q a → P (next a)) → ((e : E) → R e → P (Err e)) → P (and_then r next)
gone_on P Q R (Ok a) next h good bad = good a h
gone_on P Q R (Err e) next h good bad = bad e h

-- ---- varints

going_all : (most : ℕ) (bytes : List ℕ) → AllGoOn (take (going_on most bytes) bytes)
going_all zero bytes = All-nil (λ (b : ℕ). 128 ≤ b)
going_all (suc most) [] = All-nil (λ (b : ℕ). 128 ≤ b)
going_all (suc most) (b ∷ bytes) = cond_both (nat_lt b 128) 0 (suc (going_on most bytes)) (λ (n : ℕ). AllGoOn (take n (b ∷ bytes)))
    (λ t. All-nil (λ (x : ℕ). 128 ≤ x)) (λ f. All-cons (λ (x : ℕ). 128 ≤ x) b (take (going_on most bytes) bytes) (ltb-false b 128 f) (going_all most bytes))

going_within : (most : ℕ) (bytes : List ℕ) → (going_on most bytes ≤ length bytes) × (going_on most bytes ≤ most)
going_within zero bytes = (omega arith, omega arith)
going_within (suc most) [] = (omega arith, omega arith)
going_within (suc most) (b ∷ bytes) = cond_both (nat_lt b 128) 0 (suc (going_on most bytes)) (λ (n : ℕ). (n ≤ length (b ∷ bytes)) × (n ≤ suc most))
    (λ t. (omega arith, omega arith)) (λ f. let h = going_within most bytes in (omega (arith, h.0), omega (arith, h.1)))

going_ends : (most : ℕ) (bytes : List ℕ) → going_on most bytes < most → going_on most bytes < length bytes → get_or bytes (going_on most bytes) 0 < 128
going_ends zero bytes m l = absurd (omega arith)
going_ends (suc most) [] m l = absurd (omega arith)
going_ends (suc most) (b ∷ bytes) m l =
    cond_both (nat_lt b 128) 0 (suc (going_on most bytes)) (λ (n : ℕ). n < suc most → n < length (b ∷ bytes) → get_or (b ∷ bytes) n 0 < 128)
    (λ t k i. ltb-true b 128 t) (λ f k i. going_ends most bytes (omega arith) (omega arith)) m l

none_past : (bytes : List ℕ) (i : ℕ) → slice_get bytes i ≡ None → length bytes ≤ i
none_past bytes i e = elim (cases_lt i (length bytes)) [
  | inr past ↦ past
  | inl lt ↦
      let some = slice_get-get_or bytes i 0 lt in
      let clash : Some (get_or bytes i 0) ≡ None = sym some ∙ e in
      absurd cc
]

abbrev pub VarintTold : List ℕ → Result (ℕ × ℕ) ReadFault → Type 0
VarintTold bytes r = MatchResult r (λ v. IsVarintAt bytes v.0 v.1) (λ e. IsVarintFault e bytes)

ended_told : (bytes : List ℕ) (high : ℕ) (last : Option ℕ) → slice_get bytes high ≡ last → All (λ (b : ℕ). b < 256) bytes → AllGoOn (take high bytes) → high < 10 → (high < length bytes → get_or bytes high 0 < 128)
    → VarintTold bytes (ended bytes high last)
ended_told bytes high None e are on few low = inside_at 10 bytes high (none_past bytes high e) few on
ended_told bytes high (Some last) e are on few low =
    let l : high < length bytes = slice_get_within bytes high last e in
    let here : get_or bytes high 0 ≡ last = get_or_from_slice_get bytes high last 0 e in
    let number = number_of (take (high + 1) bytes) in
    cond_both (nat_lt 0 high && last == 0) (Err Bad) (below_range number (high + 1)) (VarintTold bytes)
    (λ t.
    let both = and_parts (nat_lt 0 high) (last == 0) t in
    let zero_is : last ≡ 0 = eqb-true last 0 both.1 in
    inr (inl (zero_at 10 bytes high l few on (omega arith) (ltb-true 0 high both.0))))
    (λ f.
    let short : 0 < high → 0 < get_or bytes high 0 = λ p. elim (and_cases (nat_lt 0 high) (last == 0) f) [
      | inl fails ↦ let none : high ≤ 0 = ltb-false 0 high fails in omega arith
      | inr fails ↦ elim (cases_lt 0 last) [ inl some ↦ omega arith | inr none ↦ let is : last ≡ 0 = omega arith in absurd (eqb-false last 0 fails is) ]
    ] in
    let groups = group_at 10 bytes high number are l few on (low l) short refl in
    cond_both (nat_lt number (2 ^ 64)) (Ok (number, high + 1)) (Err Bad) (VarintTold bytes)
    (λ t. record { inside = omega arith; spells = record { groups = groups; fits = ltb-true number (2 ^ 64) t } })
    (λ f. inr (inr (record {
      number = number;
      front = take (high + 1) bytes;
      rest = drop (high + 1) bytes;
      whole = sym (take-append-drop (high + 1) bytes);
      groups = groups;
      range = ltb-false number (2 ^ 64) f;
    }))))

pub varint_told : (bytes : List ℕ) → All (λ (b : ℕ). b < 256) bytes → VarintTold bytes (varint_in bytes)
varint_told bytes are =
    let high = going_on 10 bytes in
    let on = going_all 10 bytes in
    let within = going_within 10 bytes in
    cond_both (nat_lt 9 high) (Err Bad) (ended bytes high (slice_get bytes high)) (VarintTold bytes)
    (λ t.
    let past : 9 < high = ltb-true 9 high t in
    let ten : high ≡ 10 = omega (arith, within.1) in
    inl (record { enough = omega (arith, within.0); goes_on = subst (λ (n : ℕ). AllGoOn (take n bytes)) ten on }))
    (λ f.
    let few : high ≤ 9 = ltb-false 9 high f in
    ended_told bytes high (slice_get bytes high) refl are on (omega arith) (λ l. going_ends 10 bytes (omega arith) l))

-- ---- a value and a field

abbrev ValueTold : ℕ → List ℕ → ℕ → Result (Option RawValue) ReadFault → Type 0
ValueTold at after wire r = MatchResult r (λ v. IsValueAt at after wire v) (λ e. IsValueFault e wire after)

number_fault : (wire : ℕ) (after : List ℕ) (e : ReadFault) → wire ≡ wire_code Varint → IsVarintFault e after → IsValueFault e wire after
number_fault wire after Short is h = (Varint, is, h)
number_fault wire after Bad is h = (Varint, is, h)

size_fault : (wire : ℕ) (after : List ℕ) (e : ReadFault) → wire ≡ wire_code Bytes → IsVarintFault e after → IsValueFault e wire after
size_fault wire after Short is h = (Bytes, is, inl h)
size_fault wire after Bad is h = (Bytes, is, h)

place_told : (at : ℕ) (text : List ℕ) (wire amount size : ℕ) → at ≤ length text → wire ≡ wire_code Bytes → All (λ (b : ℕ). b < 256) text → IsVarintAt (drop at text) amount size
    → ValueTold at (drop at text) wire (place_in at (drop at text) amount size)
place_told at text wire amount size l is are v =
    let left : length (drop at text) ≡ length text - at = length-drop at text in
    cond_both (nat_lt (length (drop at text) - size) amount) (Err Short) (Ok (some_value Bytes (Place (at + size) (at + size + amount)) (at + size + amount))) (ValueTold at (drop at text) wire)
    (λ t. let fewer : length (drop at text) - size < amount = ltb-true (length (drop at text) - size) amount t in (Bytes, is, short_place at text amount size l v (omega arith)))
    (λ f. let enough : amount ≤ length (drop at text) - size = ltb-false (length (drop at text) - size) amount f in (is, (place_there at text amount size l v (omega arith) are, refl)))

fixed_told : (at : ℕ) (after : List ℕ) (code : ℕ) → code ≡ wire_code Fixed32 → All (λ (b : ℕ). b < 256) after → ValueTold at after code (fixed_in at after)
fixed_told at after code is are =
    let number = from_le_bytes w32 (take 4 after) in
    cond_both (nat_lt (length after) 4) (Err Short) (Ok (some_value Fixed32 (Number number) (at + 4))) (ValueTold at after code)
    (λ t. (Fixed32, is, ltb-true (length after) 4 t))
    (λ f. let enough : 4 ≤ length after = ltb-false (length after) 4 f in (is, (fixed_there after number enough are refl, refl)))

none_of_all : (code : ℕ) → code ≢ wire_code Varint → code ≢ wire_code Bytes → code ≢ wire_code Fixed32 → IsNoWire code
none_of_all code a b c Varint e = a e
none_of_all code a b c Bytes e = b e
none_of_all code a b c Fixed32 e = c e

wire_told : (code : ℕ) → IsWireOf code (wire_with code)
wire_told code =
    cond_both (code == wire_code Varint) (Some Varint) (if code == wire_code Bytes then Some Bytes else (if code == wire_code Fixed32 then Some Fixed32 else None)) (IsWireOf code)
    (λ t. eqb-true code (wire_code Varint) t)
    (λ f. cond_both (code == wire_code Bytes) (Some Bytes) (if code == wire_code Fixed32 then Some Fixed32 else None) (IsWireOf code)
    (λ t. eqb-true code (wire_code Bytes) t)
    (λ g. cond_both (code == wire_code Fixed32) (Some Fixed32) None (IsWireOf code)
    (λ t. eqb-true code (wire_code Fixed32) t)
    (λ h. none_of_all code (eqb-false code (wire_code Varint) f) (eqb-false code (wire_code Bytes) g) (eqb-false code (wire_code Fixed32) h))))

told_with : (at : ℕ) (text : List ℕ) (code : ℕ) (wire : Option Wire) → at ≤ length text → All (λ (b : ℕ). b < 256) text → IsWireOf code wire → ValueTold at (drop at text) code (value_with at (drop at text) wire)
told_with at text code None l are is = is
told_with at text code (Some Varint) l are is =
    let after = drop at text in
    let number : ℕ × ℕ → Result (Option RawValue) ReadFault = λ v. Ok (some_value Varint (Number v.0) (at + v.1)) in
    gone_on (ValueTold at after code) (λ (v : ℕ × ℕ). IsVarintAt after v.0 v.1) (λ (e : ReadFault). IsVarintFault e after) (varint_in after) number
    (varint_told after (All-drop (λ (b : ℕ). b < 256) at text are))
    (λ v h. (is, number_there at after v.0 v.1 h)) (λ e h. number_fault code after e is h)
told_with at text code (Some Fixed32) l are is = fixed_told at (drop at text) code is (All-drop (λ (b : ℕ). b < 256) at text are)
told_with at text code (Some Bytes) l are is =
    let after = drop at text in
    let place : ℕ × ℕ → Result (Option RawValue) ReadFault = λ v. place_in at after v.0 v.1 in
    gone_on (ValueTold at after code) (λ (v : ℕ × ℕ). IsVarintAt after v.0 v.1) (λ (e : ReadFault). IsVarintFault e after) (varint_in after) place
    (varint_told after (All-drop (λ (b : ℕ). b < 256) at text are))
    (λ v h. place_told at text code v.0 v.1 l is are h) (λ e h. size_fault code after e is h)

pub value_told : (at : ℕ) (text : List ℕ) (code : ℕ) → at ≤ length text → All (λ (b : ℕ). b < 256) text → ValueTold at (drop at text) code (value_in at (drop at text) code)
value_told at text code l are = told_with at text code (wire_with code) l are (wire_told code)

abbrev pub FieldTold : ℕ → List ℕ → Result RawField ReadFault → Type 0
FieldTold at rest r = MatchResult r (λ raw. IsFieldAt at rest raw) (λ e. IsFieldFault e rest)

varint_fault : (rest : List ℕ) (e : ReadFault) → IsVarintFault e rest → IsFieldFault e rest
varint_fault rest Short h = inl h
varint_fault rest Bad h = inl h

pub field_told : (at : ℕ) (text : List ℕ) → at ≤ length text → All (λ (b : ℕ). b < 256) text → FieldTold at (drop at text) (field_in at (drop at text))
field_told at text l are =
    let rest = drop at text in
    let key_next : ℕ × ℕ → Result RawField ReadFault = λ key. and_then (value_in (at + key.1) (drop key.1 rest) (key.0 % 8)) (λ value. Ok (record { number = key.0 / 8; value = value })) in
    gone_on (FieldTold at rest) (λ (v : ℕ × ℕ). IsVarintAt rest v.0 v.1) (λ (e : ReadFault). IsVarintFault e rest) (varint_in rest) key_next
    (varint_told rest (All-drop (λ (b : ℕ). b < 256) at text are))
    (λ key h.
    let size : key.1 ≤ length rest = h.inside in
    let past : at + key.1 ≤ length text = omega (arith, length-drop at text) in
    let after : drop (at + key.1) text ≡ drop key.1 rest = sym (drop-drop key.1 at text) in
    let value_next : Option RawValue → Result RawField ReadFault = λ value. Ok (record { number = key.0 / 8; value = value }) in
    let told : ValueTold (at + key.1) (drop (at + key.1) text) (key.0 % 8) (value_in (at + key.1) (drop key.1 rest) (key.0 % 8)) =
    subst (λ (t : List ℕ). ValueTold (at + key.1) (drop (at + key.1) text) (key.0 % 8) (value_in (at + key.1) t (key.0 % 8))) after (value_told (at + key.1) text (key.0 % 8) past are) in
    gone_on (FieldTold at rest) (λ (v : Option RawValue). IsValueAt (at + key.1) (drop (at + key.1) text) (key.0 % 8) v) (λ (e : ReadFault). IsValueFault e (key.0 % 8) (drop (at + key.1) text))
    (value_in (at + key.1) (drop key.1 rest) (key.0 % 8)) value_next told
    (λ v w. field_there at text key.0 key.1 v h w)
    (λ e w. fault_there at text key.0 key.1 e h w))
    (λ e h. varint_fault rest e h)
