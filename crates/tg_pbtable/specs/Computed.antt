-- The fields of a text, or its first fault, as a function: what `Message` and `HasCause` say as relations.
use Rattle.std.specs.Prelude.{ℕ, zero, suc, ◌+◌, ◌-◌, ◌/◌, ◌%◌, ◌^◌, List, [], ◌∷◌, ◌++◌, length, take, drop, Bool}
use Rattle.std.specs.Prelude.{true, false, not, ◌&&◌, nat_lt, ◌==◌, if◌then◌else◌, Option, Some, None, Result, Ok, Err}
use Rattle.std.specs.Prelude.{slice_get, min}
use Rattle.std.specs.List.{list_any}
use Rattle.tg_pbtable.specs.declared.table.Rule.{Rule}
use Rattle.tg_pbtable.specs.declared.table.Times.{Times}
use Rattle.tg_pbtable.specs.declared.table.Wire.{Wire}
use Rattle.tg_pbtable.specs.declared.table.Wire.TheVariants.{Varint, Bytes, Fixed32}
use Rattle.tg_pbtable.specs.declared.table.Times.TheVariants.{One, Optional, Many}
use Rattle.tg_pbtable.specs.declared.table.Order.{Order}
use Rattle.tg_pbtable.specs.declared.table.Order.TheVariants.{Ascending, Runs}
use Rattle.tg_pbtable.specs.declared.table.Field.{Field}
use Rattle.tg_pbtable.specs.declared.table.Value.{Value}
use Rattle.tg_pbtable.specs.declared.table.Value.TheVariants.{Number, Place}
use Rattle.tg_pbtable.specs.declared.raw.RawField.{RawField}
use Rattle.tg_pbtable.specs.declared.raw.RawValue.{RawValue}
use Rattle.tg_pbtable.specs.declared.raw.ReadFault.{ReadFault}
use Rattle.tg_pbtable.specs.declared.raw.ReadFault.TheVariants.{Short, Bad}
use Rattle.tg_pbtable.specs.declared.fault.PbFault.{PbFault}
use Rattle.tg_pbtable.specs.declared.fault.PbFault.TheVariants as faults
use Rattle.tg_varint.specs.Varint.{number_of}
use Rattle.tg_pbtable.specs.Wires.{wire_code}
use Rattle.std.specs.Int.{from_le_bytes, w32}
use Rattle.tg_pbtable.specs.Message.{numbers_of}
use Rattle.tg_pbtable.specs.Cursor.{has_number}

-- goes on with what was read, and keeps a fault
abbrev pub and_then : {A B E : Type 0} → Result A E → (A → Result B E) → Result B E
and_then (Ok x) next = next x
and_then (Err e) next = Err e

-- ---- varints

-- how many bytes at the front, one after another and `most` at most, have the high bit set
abbrev pub going_on : ℕ → List ℕ → ℕ
going_on zero bytes = 0
going_on (suc most) [] = 0
going_on (suc most) (b ∷ bytes) = if nat_lt b 128 then 0 else suc (going_on most bytes)

abbrev pub below_range : ℕ → ℕ → Result (ℕ × ℕ) ReadFault
below_range number size = if nat_lt number (2 ^ 64) then Ok (number, size) else Err Bad

-- the byte behind those with the high bit, of which there are `high`, is the last one; behind others it isn't zero
abbrev pub ended : List ℕ → ℕ → Option ℕ → Result (ℕ × ℕ) ReadFault
ended bytes high None = Err Short
ended bytes high (Some last) =
    if nat_lt 0 high && last == 0 then Err Bad else below_range (number_of (take (high + 1) bytes)) (high + 1)

abbrev pub varint_of : List ℕ → ℕ → Result (ℕ × ℕ) ReadFault
varint_of bytes high = if nat_lt 9 high then Err Bad else ended bytes high (slice_get bytes high)

-- the number of the varint at the front, and how many bytes it takes
abbrev pub varint_in : List ℕ → Result (ℕ × ℕ) ReadFault
varint_in bytes = varint_of bytes (going_on 10 bytes)

-- ---- one field

abbrev pub some_value : Wire → Value → ℕ → Option RawValue
some_value wire value next = Some (record { wire = wire; value = value; next = next })

abbrev pub place_in : ℕ → List ℕ → ℕ → ℕ → Result (Option RawValue) ReadFault
place_in at after amount size =
    if nat_lt (length after - size) amount then Err Short else
    Ok (some_value Bytes (Place (at + size) (at + size + amount)) (at + size + amount))

abbrev pub fixed_in : ℕ → List ℕ → Result (Option RawValue) ReadFault
fixed_in at after =
    if nat_lt (length after) 4 then Err Short else
    Ok (some_value Fixed32 (Number (from_le_bytes w32 (take 4 after))) (at + 4))

-- the wire type of a number, if it is one that a table may use
abbrev pub wire_with : ℕ → Option Wire
wire_with code =
    if code == wire_code Varint then Some Varint else
    if code == wire_code Bytes then Some Bytes else
    if code == wire_code Fixed32 then Some Fixed32 else
    None

-- the value of a wire type at the front of the bytes from `at` on, and where the next key stands; no value of a wire
-- type that is no table's
abbrev pub value_with : ℕ → List ℕ → Option Wire → Result (Option RawValue) ReadFault
value_with at after None = Ok None
value_with at after (Some Varint) =
    and_then (varint_in after) (λ v. Ok (some_value Varint (Number v.0) (at + v.1)))
value_with at after (Some Bytes) = and_then (varint_in after) (λ v. place_in at after v.0 v.1)
value_with at after (Some Fixed32) = fixed_in at after

abbrev pub value_in : ℕ → List ℕ → ℕ → Result (Option RawValue) ReadFault
value_in at after code = value_with at after (wire_with code)

-- the key and the value at the front of the bytes from `at` on
abbrev pub field_in : ℕ → List ℕ → Result RawField ReadFault
field_in at rest = and_then (varint_in rest) (λ key.
    and_then (value_in (at + key.1) (drop key.1 rest) (key.0 % 8)) (λ value.
    Ok (record { number = key.0 / 8; value = value })))

-- ---- the table

-- the rule of a number
abbrev pub rule_of : List Rule → ℕ → Option Rule
rule_of [] number = None
rule_of (rule ∷ rules) number = if rule.number == number then Some rule else rule_of rules number

-- a field with its rule, and where the next one begins
pub record Ruled : Type 0 where
  pub rule : Rule
  pub field : Field
  pub next : ℕ

abbrev pub with_value : ℕ → Rule → Option RawValue → Result Ruled PbFault
with_value at rule None = Err (faults.WrongWire at)
with_value at rule (Some v) =
    if wire_code rule.wire == wire_code v.wire
    then Ok (record {
      rule = rule;
      field = record { number = rule.number; wire = rule.wire; value = v.value };
      next = v.next;
    })
    else Err (faults.WrongWire at)

abbrev pub with_rule : ℕ → RawField → Option Rule → Result Ruled PbFault
with_rule at raw None = Err (faults.Unknown at raw.number)
with_rule at raw (Some rule) = with_value at rule raw.value

abbrev pub ruled : List Rule → ℕ → Result RawField ReadFault → Result Ruled PbFault
ruled rules at (Err Short) = Err (faults.Short at)
ruled rules at (Err Bad) = Err (faults.BadVarint at)
ruled rules at (Ok raw) = with_rule at raw (rule_of rules raw.number)

-- ---- the fields before it

-- whether the last of the numbers is this one
abbrev pub ends_in : List ℕ → ℕ → Bool
ends_in [] number = false
ends_in (n ∷ []) number = n == number
ends_in (n ∷ m ∷ numbers) number = ends_in (m ∷ numbers) number

-- whether a field of the number may not stand behind fields of these numbers
abbrev pub breaks_order : Order → List Field → ℕ → Bool
breaks_order Ascending fields number = list_any (λ n. nat_lt number n) (numbers_of fields)
breaks_order Runs fields number = has_number fields number && not (ends_in (numbers_of fields) number)

abbrev pub is_many : Times → Bool
is_many One = false
is_many Optional = false
is_many Many = true

-- the field comes behind the others, if it may
abbrev pub joined : Order → List Field → ℕ → Ruled → Result (List Field) PbFault
joined order fields at r =
    if breaks_order order fields r.field.number then Err (faults.OutOfOrder at) else
    if ends_in (numbers_of fields) r.field.number && not (is_many r.rule.times) then Err (faults.Doubled at) else
    Ok (fields ++ r.field ∷ [])

-- ---- the end of the text

abbrev pub asks : Times → Bool
asks One = true
asks Optional = false
asks Many = false

abbrev pub lower : ℕ → Option ℕ → Option ℕ
lower number None = Some number
lower number (Some other) = Some (min number other)

-- the lowest number of a rule that asks for a field and has none
abbrev pub lowest_missing : List Rule → List Field → Option ℕ
lowest_missing [] fields = None
lowest_missing (rule ∷ rules) fields =
    if asks rule.times && not (has_number fields rule.number)
    then lower rule.number (lowest_missing rules fields)
    else lowest_missing rules fields

abbrev pub whole : List Field → Option ℕ → Result (List Field) PbFault
whole fields None = Ok fields
whole fields (Some number) = Err (faults.Missing number)

-- ---- the text

-- the fields go on with those of the rest of the text, which begins at `at`; `most` is a number that is no less than
-- the rest's bytes, since each field takes a byte at least
abbrev pub fields_from : List Rule → Order → ℕ → List Field → ℕ → List ℕ → Result (List Field) PbFault
fields_from rules order most fields at [] = whole fields (lowest_missing rules fields)
fields_from rules order zero fields at (b ∷ rest) = whole fields (lowest_missing rules fields)
fields_from rules order (suc most) fields at (b ∷ rest) =
    and_then (ruled rules at (field_in at (b ∷ rest))) (λ r.
    and_then (joined order fields at r) (λ more.
    fields_from rules order most more r.next (drop (r.next - at) (b ∷ rest))))

-- the fields of a text under a table, or its first fault
unfoldable pub fields_of : List Rule → Order → List ℕ → Result (List Field) PbFault
fields_of rules order text = fields_from rules order (length text) [] 0 text

-- ---- values

-- the first of the values of a number
abbrev pub first_of : {A : Type 0} → List A → Option A
first_of [] = None
first_of (x ∷ xs) = Some x
