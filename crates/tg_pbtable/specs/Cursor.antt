-- A place between two fields of a text, and the field at a place.
use Rattle.std.specs.Prelude.{◌≡◌, ℕ, ◌+◌, ◌≤◌, Option, Some, None, Bool, List, [], ◌∷◌, ◌++◌, length, take, drop, map}
use Rattle.std.specs.Prelude.{nat_lt}
use Rattle.tg_pbtable.specs.declared.table.Rule.{Rule}
use Rattle.tg_pbtable.specs.declared.table.Order.{Order}
use Rattle.tg_pbtable.specs.declared.table.Field.{Field}
use Rattle.tg_pbtable.specs.declared.cursor.FieldCursor.{FieldCursor}
use Rattle.tg_pbtable.specs.declared.fault.PbFault.{PbFault}
use Rattle.tg_pbtable.specs.declared.fault.PbFault.TheVariants as faults
use Rattle.tg_pbtable.specs.Message.{Message, Spelled, FieldSpelling, IsRuledField, count_of, numbers_of}
use Rattle.tg_pbtable.specs.Faults.{Begins, IsShort, HasBadVarint, IsUnknown, HasWrongWire}

-- the last of the numbers
abbrev pub EndsIn : List ℕ → ℕ → Type 0
EndsIn numbers number = (front : List ℕ) × (numbers ≡ front ++ number ∷ [])

abbrev pub IsLast : List ℕ → Option ℕ → Type 0
IsLast numbers None = numbers ≡ []
IsLast numbers (Some number) = EndsIn numbers number

-- whether a field has the number
abbrev pub has_number : List Field → ℕ → Bool
has_number fields number = nat_lt 0 (count_of fields number)

-- the text begins with these fields, which the table allows so far, and the cursor stands behind them: of each rule it
-- is known whether it has a field, and of the last field its number
pub record HasRead {N : ℕ} (rules : List Rule) (order : Order) (text : List ℕ) (fields : List Field) (cursor : FieldCursor N) : Type 0 where
  pub inside : cursor.at ≤ length text
  pub begins : Begins rules order text fields cursor.at (drop cursor.at text)
  pub seen_is : cursor.seen ≡ map (λ rule. has_number fields rule.number) rules
  pub last_is : IsLast (numbers_of fields) cursor.last

-- a place between two fields of a message: the fields before it spell the text up to there, and the others are to come
pub record StandsBetween (rules : List Rule) (order : Order) (text : List ℕ) (at : ℕ) (behind ahead : List Field) : Type 0 where
  pub message : Message rules order text (behind ++ ahead)
  pub inside : at ≤ length text
  pub spelled : Spelled 0 behind (take at text)

-- the field is the next one at a place between two fields, and `next` is the place behind it
pub record IsNextField (rules : List Rule) (order : Order) (text : List ℕ) (behind ahead : List Field) (field : Field) (next : ℕ) : Type 0 where
  pub more : List Field
  pub ahead_is : ahead ≡ field ∷ more
  pub between : StandsBetween rules order text next (behind ++ field ∷ []) more

-- a field under a rule of the table stands at `at` of the text, and `next` is the place behind it
pub record StandsAt (rules : List Rule) (text : List ℕ) (at : ℕ) (field : Field) (next : ℕ) : Type 0 where
  pub front : List ℕ
  pub rest : List ℕ
  pub whole : drop at text ≡ front ++ rest
  pub spelled : FieldSpelling at field front
  pub ruled : IsRuledField rules field
  pub next_is : next ≡ at + length front

-- why no field under a rule stands at a place
abbrev pub IsRefused : List Rule → ℕ → List ℕ → PbFault → Type 0
IsRefused rules at rest (faults.Short place) = (place ≡ at) × IsShort rest
IsRefused rules at rest (faults.BadVarint place) = (place ≡ at) × HasBadVarint rest
IsRefused rules at rest (faults.Unknown place number) = (place ≡ at) × IsUnknown rules number rest
IsRefused rules at rest (faults.WrongWire place) = (place ≡ at) × HasWrongWire rules rest
IsRefused rules at rest (faults.OutOfOrder place) = ⊥
IsRefused rules at rest (faults.Doubled place) = ⊥
IsRefused rules at rest (faults.Missing number) = ⊥
IsRefused rules at rest faults.OutOfMemory = ⊥
