-- A message under a table of fields, as a relation between the whole text and its fields (protobuf encoding guide,
-- Message Structure and Length-Delimited Records; the order and the rule on doubled fields are this project's own).
use Rattle.std.specs.Prelude.{◌≡◌, ℕ, ◌+◌, ◌*◌, ◌<◌, ◌≤◌, List, [], ◌∷◌, ◌++◌, length, map, All, Contains, slice_index}
use Rattle.std.specs.Prelude.{◌==◌, ◌^◌, ⊤}
use Rattle.std.specs.Int.{to_le_bytes, w32}
use Rattle.std.specs.List.{count_by}
use Rattle.std.specs.List.Sorted.{IsNonDecreasing}
use Rattle.tg_pbtable.specs.declared.table.Rule.{Rule}
use Rattle.tg_pbtable.specs.declared.table.Wire.{Wire}
use Rattle.tg_pbtable.specs.declared.table.Wire.TheVariants.{Varint, Bytes, Fixed32}
use Rattle.tg_pbtable.specs.declared.table.Times.{Times}
use Rattle.tg_pbtable.specs.declared.table.Times.TheVariants.{One, Optional, Many}
use Rattle.tg_pbtable.specs.declared.table.Order.{Order}
use Rattle.tg_pbtable.specs.declared.table.Order.TheVariants.{Ascending, Runs}
use Rattle.tg_pbtable.specs.declared.table.Field.{Field}
use Rattle.tg_pbtable.specs.declared.table.Value.{Value}
use Rattle.tg_pbtable.specs.declared.table.Value.TheVariants.{Number, Place}
use Rattle.tg_pbtable.specs.Varint.{VarintSpelling}
use Rattle.tg_pbtable.specs.Wires.{wire_code}

-- the value is one that a wire type has: any number, bytes, or a number below 2 ^ 32
abbrev pub IsOfWire : Wire → Value → Type 0
IsOfWire Varint (Number n) = ⊤
IsOfWire Varint (Place start end) = ⊥
IsOfWire Bytes (Number n) = ⊥
IsOfWire Bytes (Place start end) = ⊤
IsOfWire Fixed32 (Number n) = n < 2 ^ 32
IsOfWire Fixed32 (Place start end) = ⊥

-- the bytes are the spelling of a key: the field's number times eight plus the wire type
abbrev pub KeySpelling : ℕ → ℕ → List ℕ → Type 0
KeySpelling number wire bytes = VarintSpelling (number * 8 + wire) bytes

-- a key and the spelling of a number
pub record NumberSpelling (number value : ℕ) (bytes : List ℕ) : Type 0 where
  pub key : List ℕ
  pub amount : List ℕ
  pub whole : bytes ≡ key ++ amount
  pub key_is : KeySpelling number (wire_code Varint) key
  pub amount_is : VarintSpelling value amount

-- a key, the spelling of a length, and that many bytes, which lie from `start` to `end` of a text in which
-- the key stands at `at`
pub record PlaceSpelling (at number start end : ℕ) (bytes : List ℕ) : Type 0 where
  pub key : List ℕ
  pub size : List ℕ
  pub content : List ℕ
  pub whole : bytes ≡ key ++ (size ++ content)
  pub key_is : KeySpelling number (wire_code Bytes) key
  pub size_is : VarintSpelling (length content) size
  pub are_bytes : All (λ b. b < 256) content
  pub start_is : start ≡ at + length key + length size
  pub end_is : end ≡ start + length content

-- a key and a number below 2 ^ 32 in four bytes, the least significant one first
pub record FixedSpelling (number value : ℕ) (bytes : List ℕ) : Type 0 where
  pub key : List ℕ
  pub whole : bytes ≡ key ++ to_le_bytes w32 value
  pub key_is : KeySpelling number (wire_code Fixed32) key
  pub fits : value < 2 ^ 32

-- the bytes spell a value of a field by its wire type, where the key stands at `at`
abbrev pub ValueSpelling : ℕ → ℕ → Wire → Value → List ℕ → Type 0
ValueSpelling at number Varint (Number value) bytes = NumberSpelling number value bytes
ValueSpelling at number Varint (Place start end) bytes = ⊥
ValueSpelling at number Bytes (Number value) bytes = ⊥
ValueSpelling at number Bytes (Place start end) bytes = PlaceSpelling at number start end bytes
ValueSpelling at number Fixed32 (Number value) bytes = FixedSpelling number value bytes
ValueSpelling at number Fixed32 (Place start end) bytes = ⊥

abbrev pub FieldSpelling : ℕ → Field → List ℕ → Type 0
FieldSpelling at field bytes = ValueSpelling at field.number field.wire field.value bytes

-- the bytes from `at` on are the spellings of the fields, one after another
abbrev pub Spelled : ℕ → List Field → List ℕ → Type 0
Spelled at [] bytes = bytes ≡ []
Spelled at (field ∷ fields) bytes =
    (front : List ℕ) × (rest : List ℕ) × (bytes ≡ front ++ rest) × FieldSpelling at field front × Spelled (at + length front) fields rest

-- the table has a rule for fields of this number and wire type
pub record HasRule (rules : List Rule) (number : ℕ) (wire : Wire) : Type 0 where
  pub rule : Rule
  pub among : Contains rules rule
  pub number_is : rule.number ≡ number
  pub wire_is : rule.wire ≡ wire

-- the field's number has a rule with its wire type, which has such values
pub record IsRuledField (rules : List Rule) (field : Field) : Type 0 where
  pub has_rule : HasRule rules field.number field.wire
  pub of_wire : IsOfWire field.wire field.value

abbrev pub AreRuled : List Rule → List Field → Type 0
AreRuled rules fields = All (IsRuledField rules) fields

-- how many fields of a number there are
abbrev pub count_of : List Field → ℕ → ℕ
count_of fields number = count_by (λ field. field.number == number) fields

-- how often a rule lets its number stand, and how often at most
abbrev pub IsCount : Times → ℕ → Type 0
IsCount One count = count ≡ 1
IsCount Optional count = count ≤ 1
IsCount Many count = ⊤

abbrev pub IsAtMost : Times → ℕ → Type 0
IsAtMost One count = count ≤ 1
IsAtMost Optional count = count ≤ 1
IsAtMost Many count = ⊤

-- equal numbers stand together
abbrev pub StandTogether : List ℕ → Type 0
StandTogether numbers = (i j k : ℕ) → i < j → j < k → k < length numbers → slice_index numbers i ≡ slice_index numbers k
    → slice_index numbers j ≡ slice_index numbers i

abbrev pub numbers_of : List Field → List ℕ
numbers_of fields = map (λ field. field.number) fields

-- the order of the fields: the numbers never fall, or those of one number stand together
abbrev pub IsInOrder : Order → List ℕ → Type 0
IsInOrder Ascending numbers = IsNonDecreasing numbers
IsInOrder Runs numbers = StandTogether numbers

-- the text is a message with these fields, in their order
pub record Message (rules : List Rule) (order : Order) (text : List ℕ) (fields : List Field) : Type 0 where
  pub spelled : Spelled 0 fields text
  pub ruled : AreRuled rules fields
  pub counts : All (λ rule. IsCount rule.times (count_of fields rule.number)) rules
  pub ordered : IsInOrder order (numbers_of fields)

-- what a table of rules keeps: the numbers differ and lie from 1 to 2 ^ 29 - 1
pub record IsTable (rules : List Rule) : Type 0 where
  pub low : All (λ rule. 1 ≤ rule.number) rules
  pub high : All (λ rule. rule.number < 536870912) rules
  pub differ : (i j : ℕ) → i < j → j < length rules
      → slice_index (map (λ rule. rule.number) rules) i ≡ slice_index (map (λ rule. rule.number) rules) j → ⊥
