-- What the scanner's private functions say.
use Rattle.std.specs.Prelude.{◌≡◌, ℕ, ◌+◌, ◌<◌, ◌≤◌, Option, Some, None, Bool, true, false, List, ◌++◌, length, take}
use Rattle.std.specs.Prelude.{◌^◌, All, slice_get, slice_index_or}
use Rattle.std.specs.Int.{to_le_bytes, w32}
use Rattle.tg_pbtable.specs.declared.table.Rule.{Rule}
use Rattle.tg_pbtable.specs.declared.table.Times.TheVariants.{One}
use Rattle.tg_pbtable.specs.declared.table.Wire.{Wire}
use Rattle.tg_pbtable.specs.declared.table.Wire.TheVariants.{Varint, Bytes, Fixed32}
use Rattle.tg_pbtable.specs.declared.table.Field.{Field}
use Rattle.tg_pbtable.specs.declared.table.Value.{Value}
use Rattle.tg_pbtable.specs.declared.table.Value.TheVariants.{Number, Place}
use Rattle.tg_pbtable.specs.declared.raw.RawField.{RawField}
use Rattle.tg_pbtable.specs.declared.raw.RawValue.{RawValue}
use Rattle.tg_pbtable.specs.declared.raw.ReadFault.{ReadFault}
use Rattle.tg_pbtable.specs.declared.raw.ReadFault.TheVariants.{Short, Bad}
use Rattle.tg_pbtable.specs.Varint.{VarintSpelling, EndsInside, IsBadVarint}
use Rattle.tg_pbtable.specs.Wires.{wire_code, wire_type, IsNoWire, EndsInValue, HasBadValue}
use Rattle.tg_pbtable.specs.Message.{ValueSpelling}
use Rattle.tg_pbtable.specs.Faults.{HasField, IsShort, HasBadVarint}

-- the first bytes, as many as `size`, spell the number
pub record IsVarintAt (bytes : List ℕ) (number size : ℕ) : Type 0 where
  pub inside : size ≤ length bytes
  pub spells : VarintSpelling number (take size bytes)

abbrev pub IsVarintFault : ReadFault → List ℕ → Type 0
IsVarintFault Short bytes = EndsInside bytes
IsVarintFault Bad bytes = IsBadVarint bytes

-- a number, which stands at the front of the bytes from `at` on
pub record IsNumberAt (at : ℕ) (after : List ℕ) (value next : ℕ) : Type 0 where
  pub amount : List ℕ
  pub rest : List ℕ
  pub whole : after ≡ amount ++ rest
  pub amount_is : VarintSpelling value amount
  pub next_is : next ≡ at + length amount

-- the number that the first four bytes are, the least significant one first
pub record IsFixedAt (after : List ℕ) (value : ℕ) : Type 0 where
  pub enough : 4 ≤ length after
  pub four : take 4 after ≡ to_le_bytes w32 value
  pub fits : value < 2 ^ 32

-- it ends before four bytes
abbrev pub IsFixedFault : ReadFault → List ℕ → Type 0
IsFixedFault Short after = length after < 4
IsFixedFault Bad after = ⊥

-- a length and that many bytes
pub record IsPlaceAt (at : ℕ) (after : List ℕ) (start end : ℕ) : Type 0 where
  pub size : List ℕ
  pub content : List ℕ
  pub rest : List ℕ
  pub whole : after ≡ size ++ (content ++ rest)
  pub size_is : VarintSpelling (length content) size
  pub are_bytes : All (λ b. b < 256) content
  pub start_is : start ≡ at + length size
  pub end_is : end ≡ start + length content

-- no length and so many bytes are there
abbrev pub IsPlaceFault : ReadFault → List ℕ → Type 0
IsPlaceFault Short after = (wire_type Bytes).cut after
IsPlaceFault Bad after = (wire_type Bytes).bad after

abbrev pub IsSomeValueAt : ℕ → List ℕ → Wire → Value → ℕ → Type 0
IsSomeValueAt at after Varint (Number n) next = IsNumberAt at after n next
IsSomeValueAt at after Varint (Place start end) next = ⊥
IsSomeValueAt at after Bytes (Number n) next = ⊥
IsSomeValueAt at after Bytes (Place start end) next = IsPlaceAt at after start end × (next ≡ end)
IsSomeValueAt at after Fixed32 (Number n) next = IsFixedAt after n × (next ≡ at + 4)
IsSomeValueAt at after Fixed32 (Place start end) next = ⊥

abbrev pub IsValueAt : ℕ → List ℕ → ℕ → Option RawValue → Type 0
IsValueAt at after code None = IsNoWire code
IsValueAt at after code (Some v) = (code ≡ wire_code v.wire) × IsSomeValueAt at after v.wire v.value v.next

abbrev pub IsValueFault : ReadFault → ℕ → List ℕ → Type 0
IsValueFault Short wire after = EndsInValue wire after
IsValueFault Bad wire after = HasBadValue wire after

-- a field of this number, wire type and value stands at the front of the bytes from `at` on
pub record IsSpelledAt (at : ℕ) (rest : List ℕ) (number : ℕ) (wire : Wire) (value : Value) (next : ℕ) : Type 0 where
  pub front : List ℕ
  pub behind : List ℕ
  pub whole : rest ≡ front ++ behind
  pub spelled : ValueSpelling at number wire value front
  pub next_is : next ≡ at + length front
  pub more : 0 < length front

abbrev pub IsValueOf : ℕ → List ℕ → ℕ → ℕ → Option RawValue → Type 0
IsValueOf at rest number code None = IsNoWire code
IsValueOf at rest number code (Some v) =
    (code ≡ wire_code v.wire) × IsSpelledAt at rest number v.wire v.value v.next

pub record IsFieldAt (at : ℕ) (rest : List ℕ) (raw : RawField) : Type 0 where
  pub wire : ℕ
  pub field : HasField raw.number wire rest
  pub value_is : IsValueOf at rest raw.number wire raw.value

abbrev pub IsFieldFault : ReadFault → List ℕ → Type 0
IsFieldFault Short rest = IsShort rest
IsFieldFault Bad rest = HasBadVarint rest

-- the wire type of a number, or none where it is no table's
abbrev pub IsWireOf : ℕ → Option Wire → Type 0
IsWireOf code None = IsNoWire code
IsWireOf code (Some wire) = code ≡ wire_code wire

-- the rule at an index
pub record IsRuleAt (rules : List Rule) (i : ℕ) (rule : Rule) : Type 0 where
  pub inside : i < length rules
  pub here : slice_get rules i ≡ Some rule

pub record HasNumberAt (rules : List Rule) (i number : ℕ) : Type 0 where
  pub rule : Rule
  pub rule_at : IsRuleAt rules i rule
  pub number_is : rule.number ≡ number

-- a field at the front has the rule at an index
pub record IsRuled (rules : List Rule) (at : ℕ) (rest : List ℕ) (i : ℕ) (field : Field) (next : ℕ) : Type 0 where
  pub rule : Rule
  pub rule_at : IsRuleAt rules i rule
  pub number_is : rule.number ≡ field.number
  pub wire_is : rule.wire ≡ field.wire
  pub has_field : HasField rule.number (wire_code rule.wire) rest
  pub spelled : IsSpelledAt at rest field.number field.wire field.value next

-- the first n rules that ask for a field have one
abbrev pub AreMet : List Rule → List Bool → ℕ → Type 0
AreMet rules seen n =
    (k : ℕ) (d : Rule) → k < n → (slice_index_or rules k d).times ≡ One → slice_index_or seen k false ≡ true

-- the lowest number of those of the first n rules that ask for a field and have none
pub record IsLowestUnmet (rules : List Rule) (seen : List Bool) (n number : ℕ) : Type 0 where
  pub k : ℕ
  pub rule : Rule
  pub inside : k < n
  pub here : (d : Rule) → slice_index_or rules k d ≡ rule
  pub number_is : rule.number ≡ number
  pub asks : rule.times ≡ One
  pub unmet : slice_index_or seen k false ≡ false
  pub lowest : (j : ℕ) (d : Rule) → j < n → (slice_index_or rules j d).times ≡ One → slice_index_or seen j false ≡ false
      → number ≤ (slice_index_or rules j d).number

abbrev pub IsLowest : List Rule → List Bool → ℕ → Option ℕ → Type 0
IsLowest rules seen n None = AreMet rules seen n
IsLowest rules seen n (Some number) = IsLowestUnmet rules seen n number
