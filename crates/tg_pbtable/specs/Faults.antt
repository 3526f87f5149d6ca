-- Why a text is no message under a table: the first field, from the left, at which a cause holds, and of several causes
-- the first in the order of this file.
use Rattle.std.specs.Prelude.{◌≡◌, ◌≢◌, ℕ, ◌+◌, ◌<◌, ◌≤◌, ◌⊎◌, List, [], ◌∷◌, ◌++◌, length, All, Any, Contains}
use Rattle.tg_pbtable.specs.declared.table.Rule.{Rule}
use Rattle.tg_pbtable.specs.declared.table.Times.TheVariants.{One, Many}
use Rattle.tg_pbtable.specs.declared.table.Order.{Order}
use Rattle.tg_pbtable.specs.declared.table.Order.TheVariants.{Ascending, Runs}
use Rattle.tg_pbtable.specs.declared.table.Field.{Field}
use Rattle.tg_pbtable.specs.declared.fault.PbFault.{PbFault}
use Rattle.tg_pbtable.specs.declared.fault.PbFault.TheVariants as faults
use Rattle.tg_pbtable.specs.Varint.{EndsInside, IsBadVarint}
use Rattle.tg_pbtable.specs.Wires.{wire_code, EndsInValue, HasBadValue, HasValue}
use Rattle.tg_pbtable.specs.Message.{Spelled, AreRuled, IsAtMost, count_of, IsInOrder, numbers_of, KeySpelling}

-- the text begins with these fields, which the table allows so far, and the rest stands behind them at `at`
pub record Begins (rules : List Rule) (order : Order) (text : List ℕ) (fields : List Field) (at : ℕ) (rest : List ℕ) : Type 0 where
  pub front : List ℕ
  pub whole : text ≡ front ++ rest
  pub at_is : at ≡ length front
  pub spelled : Spelled 0 fields front
  pub ruled : AreRuled rules fields
  pub counts : All (λ rule. IsAtMost rule.times (count_of fields rule.number)) rules
  pub ordered : IsInOrder order (numbers_of fields)

-- the text begins with a field or more, which the table allows so far
pub record HasFields (rules : List Rule) (order : Order) (text : List ℕ) : Type 0 where
  pub before : List Field
  pub last : Field
  pub at : ℕ
  pub rest : List ℕ
  pub begins : Begins rules order text (before ++ last ∷ []) at rest

-- a further field begins at `at`, and the cause holds of the fields before it and the bytes from there on
pub record FirstAt (rules : List Rule) (order : Order) (text : List ℕ) (at : ℕ) (Cause : List Field → List ℕ → Type 0) : Type 0 where
  pub fields : List Field
  pub rest : List ℕ
  pub begins : Begins rules order text fields at rest
  pub more : 0 < length rest
  pub cause : Cause fields rest

-- the bytes begin with the key of a field of this number and wire type, and the others follow it
pub record HasKey (number wire : ℕ) (bytes after : List ℕ) : Type 0 where
  pub key : List ℕ
  pub whole : bytes ≡ key ++ after
  pub wire_is : wire < 8
  pub key_is : KeySpelling number wire key

-- 1: the text ends inside the key or the value
abbrev pub IsShort : List ℕ → Type 0
IsShort rest = EndsInside rest ⊎ ((number : ℕ) × (wire : ℕ) × (after : List ℕ) × HasKey number wire rest after × EndsInValue wire after)

-- 2: the key, the number or the length is no varint
abbrev pub HasBadVarint : List ℕ → Type 0
HasBadVarint rest = IsBadVarint rest ⊎ ((number : ℕ) × (wire : ℕ) × (after : List ℕ) × HasKey number wire rest after × HasBadValue wire after)

-- a whole field of this number and wire type stands at the front
pub record HasField (number wire : ℕ) (rest : List ℕ) : Type 0 where
  pub after : List ℕ
  pub has_key : HasKey number wire rest after
  pub has_value : HasValue wire after

-- 3: no rule has the field's number
pub record IsUnknown (rules : List Rule) (number : ℕ) (rest : List ℕ) : Type 0 where
  pub wire : ℕ
  pub field : HasField number wire rest
  pub unknown : All (λ rule. rule.number ≢ number) rules

-- 4: the rule of the field's number has another wire type
pub record HasWrongWire (rules : List Rule) (rest : List ℕ) : Type 0 where
  pub number : ℕ
  pub wire : ℕ
  pub field : HasField number wire rest
  pub rule : Rule
  pub among : Contains rules rule
  pub number_is : rule.number ≡ number
  pub other : wire_code rule.wire ≢ wire

-- a field of a rule stands at the front
pub record HasRuled (rules : List Rule) (rule : Rule) (rest : List ℕ) : Type 0 where
  pub among : Contains rules rule
  pub field : HasField rule.number (wire_code rule.wire) rest

-- 5: a greater number stands before it, or the number itself and then another one
abbrev pub BreaksOrder : Order → List ℕ → ℕ → Type 0
BreaksOrder Ascending numbers number = Any (λ n. number < n) numbers
BreaksOrder Runs numbers number = Contains numbers number × ((front : List ℕ) → numbers ≡ front ++ number ∷ [] → ⊥)

pub record IsOutOfOrder (rules : List Rule) (order : Order) (fields : List Field) (rest : List ℕ) : Type 0 where
  pub rule : Rule
  pub ruled : HasRuled rules rule rest
  pub breaks : BreaksOrder order (numbers_of fields) rule.number

-- 6: the field directly before it has the same number, which may stand once alone
pub record IsDoubled (rules : List Rule) (fields : List Field) (rest : List ℕ) : Type 0 where
  pub rule : Rule
  pub ruled : HasRuled rules rule rest
  pub once : rule.times ≢ Many
  pub front : List ℕ
  pub last : numbers_of fields ≡ front ++ rule.number ∷ []

-- 7: the fields are whole, and this is the lowest number of a rule that asks for a field and has none
pub record IsMissing (rules : List Rule) (order : Order) (text : List ℕ) (number : ℕ) : Type 0 where
  pub fields : List Field
  pub begins : Begins rules order text fields (length text) []
  pub rule : Rule
  pub among : Contains rules rule
  pub number_is : rule.number ≡ number
  pub asks : rule.times ≡ One
  pub none : count_of fields number ≡ 0
  pub lowest : All (λ other. other.times ≡ One → count_of fields other.number ≡ 0 → number ≤ other.number) rules

-- the cause of each fault but want of memory
abbrev pub HasCause : List Rule → Order → List ℕ → PbFault → Type 0
HasCause rules order text (faults.Short at) = FirstAt rules order text at (λ _ rest. IsShort rest)
HasCause rules order text (faults.BadVarint at) = FirstAt rules order text at (λ _ rest. HasBadVarint rest)
HasCause rules order text (faults.Unknown at number) =
    FirstAt rules order text at (λ _ rest. IsUnknown rules number rest)
HasCause rules order text (faults.WrongWire at) = FirstAt rules order text at (λ _ rest. HasWrongWire rules rest)
HasCause rules order text (faults.OutOfOrder at) =
    FirstAt rules order text at (λ fields rest. IsOutOfOrder rules order fields rest)
HasCause rules order text (faults.Doubled at) = FirstAt rules order text at (λ fields rest. IsDoubled rules fields rest)
HasCause rules order text (faults.Missing number) = IsMissing rules order text number
HasCause rules order text faults.OutOfMemory = ⊥

-- a fault of a text that begins at `start` of another, with its place in that other one
abbrev pub moved_by : ℕ → PbFault → PbFault
moved_by start (faults.Short at) = faults.Short (start + at)
moved_by start (faults.BadVarint at) = faults.BadVarint (start + at)
moved_by start (faults.Unknown at number) = faults.Unknown (start + at) number
moved_by start (faults.WrongWire at) = faults.WrongWire (start + at)
moved_by start (faults.OutOfOrder at) = faults.OutOfOrder (start + at)
moved_by start (faults.Doubled at) = faults.Doubled (start + at)
moved_by start (faults.Missing number) = faults.Missing number
moved_by start faults.OutOfMemory = faults.OutOfMemory

-- the place of a fault, 0 where it has none
abbrev pub place_of : PbFault → ℕ
place_of (faults.Short at) = at
place_of (faults.BadVarint at) = at
place_of (faults.Unknown at number) = at
place_of (faults.WrongWire at) = at
place_of (faults.OutOfOrder at) = at
place_of (faults.Doubled at) = at
place_of (faults.Missing number) = 0
place_of faults.OutOfMemory = 0
