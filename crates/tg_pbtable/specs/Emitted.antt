-- What is written for fields whose places lie in a source (protobuf encoding guide, Message Structure and
-- Length-Delimited Records).
use Rattle.std.specs.Prelude.{◌≡◌, ℕ, ◌-◌, ◌^◌, ◌<◌, ◌≤◌, List, [], ◌∷◌, ◌++◌, length, slice_range, All, min, ⊤}
use Rattle.tg_pbtable.specs.declared.table.Field.{Field}
use Rattle.tg_pbtable.specs.declared.table.Value.{Value}
use Rattle.tg_pbtable.specs.declared.table.Value.TheVariants.{Number, Place}
use Rattle.tg_pbtable.specs.declared.table.Wire.{Wire}
use Rattle.tg_pbtable.specs.declared.table.Wire.TheVariants.{Varint, Bytes, Fixed32}
use Rattle.tg_pbtable.specs.Varint.{VarintSpelling}
use Rattle.tg_pbtable.specs.Wires.{wire_code}
use Rattle.tg_pbtable.specs.Message.{KeySpelling, NumberSpelling, FixedSpelling}

-- a place lies inside the source
abbrev pub LiesIn : List ℕ → Value → Type 0
LiesIn source (Number n) = ⊤
LiesIn source (Place start end) = (start ≤ end) × (end ≤ length source)

-- two values, each in its own text, are the same number or the same bytes
abbrev pub IsSameValue : List ℕ → Value → List ℕ → Value → Type 0
IsSameValue source (Number m) text (Number n) = m ≡ n
IsSameValue source (Place start end) text (Place from to) = slice_range source start end ≡ slice_range text from to
IsSameValue source (Number m) text (Place from to) = ⊥
IsSameValue source (Place start end) text (Number n) = ⊥

-- the same fields in the same order, places aside
abbrev pub AreSameFields : List ℕ → List Field → List ℕ → List Field → Type 0
AreSameFields source [] text [] = ⊤
AreSameFields source (f ∷ fs) text (g ∷ gs) =
    (f.number ≡ g.number) × (f.wire ≡ g.wire) × IsSameValue source f.value text g.value
    × AreSameFields source fs text gs
AreSameFields source [] text (g ∷ gs) = ⊥
AreSameFields source (f ∷ fs) text [] = ⊥

-- a key and the spelling of a length, which that many bytes follow
pub record HeadSpelling (number size : ℕ) (head : List ℕ) : Type 0 where
  pub key : List ℕ
  pub amount : List ℕ
  pub whole : head ≡ key ++ amount
  pub key_is : KeySpelling number (wire_code Bytes) key
  pub amount_is : VarintSpelling size amount

-- a field of these bytes, wherever it stands
pub record BytesSpelling (number : ℕ) (content bytes : List ℕ) : Type 0 where
  pub head : List ℕ
  pub whole : bytes ≡ head ++ content
  pub head_is : HeadSpelling number (length content) head
  pub are_bytes : All (λ b. b < 256) content

-- a field of as many bytes
abbrev pub SizedSpelling : ℕ → ℕ → List ℕ → Type 0
SizedSpelling number size bytes = (content : List ℕ) × (length content ≡ size) × BytesSpelling number content bytes

-- a field of a value by its wire type, whose place lies in the source, wherever it stands
abbrev pub ValueText : List ℕ → ℕ → Wire → Value → List ℕ → Type 0
ValueText source number Varint (Number n) bytes = NumberSpelling number n bytes
ValueText source number Varint (Place start end) bytes = ⊥
ValueText source number Bytes (Number n) bytes = ⊥
ValueText source number Bytes (Place start end) bytes = BytesSpelling number (slice_range source start end) bytes
ValueText source number Fixed32 (Number n) bytes = FixedSpelling number n bytes
ValueText source number Fixed32 (Place start end) bytes = ⊥

-- the fields of the source one behind another, wherever they stand
abbrev pub FieldTexts : List ℕ → List Field → List ℕ → Type 0
FieldTexts source [] bytes = bytes ≡ []
FieldTexts source (field ∷ fields) bytes =
    (front : List ℕ) × (rest : List ℕ) × (bytes ≡ front ++ rest) × ValueText source field.number field.wire field.value front × FieldTexts source fields rest

-- bytes of which the relation speaks are put behind a text
pub record Puts (Spells : List ℕ → Type 0) (old new : List ℕ) : Type 0 where
  pub bytes : List ℕ
  pub whole : new ≡ old ++ bytes
  pub spells : Spells bytes

-- how many bytes those have of which the relation speaks, or the greatest number where they are more
abbrev pub IsSizeOf : (List ℕ → Type 0) → ℕ → Type 0
IsSizeOf Spells size = (bytes : List ℕ) → Spells bytes → size ≡ min (length bytes) (2 ^ 64 - 1)
