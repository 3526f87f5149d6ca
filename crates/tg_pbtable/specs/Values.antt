-- What the fields of one number say, in their order.
use Rattle.std.specs.Prelude.{◌≡◌, ℕ, List, [], ◌∷◌, ◌++◌, ◌==◌, slice_range, Option, Some, None, if◌then◌else◌}
use Rattle.tg_pbtable.specs.declared.table.Field.{Field}
use Rattle.tg_pbtable.specs.declared.table.Wire.{Wire}
use Rattle.tg_pbtable.specs.declared.table.Wire.TheVariants.{Varint, Bytes, Fixed32}
use Rattle.tg_pbtable.specs.declared.table.Value.{Value}
use Rattle.tg_pbtable.specs.declared.table.Value.TheVariants.{Number, Place}

-- the numbers and the bytes of the fields of one number, in order
abbrev pub number_in : Value → List ℕ
number_in (Number n) = n ∷ []
number_in (Place start end) = []

abbrev pub bytes_in : List ℕ → Value → List (List ℕ)
bytes_in text (Number n) = []
bytes_in text (Place start end) = slice_range text start end ∷ []

abbrev pub numbers_at : ℕ → List Field → List ℕ
numbers_at number [] = []
numbers_at number (field ∷ fields) =
    if field.number == number then number_in field.value ++ numbers_at number fields else numbers_at number fields

abbrev pub bytes_at : List ℕ → ℕ → List Field → List (List ℕ)
bytes_at text number [] = []
bytes_at text number (field ∷ fields) = if field.number == number then bytes_in text field.value ++ bytes_at text number fields else bytes_at text number fields

-- one value or none, as a list
abbrev pub listed : {A : Type 0} → Option A → List A
listed None = []
listed (Some x) = x ∷ []

-- the last of the values, or the one from before where there is none
abbrev pub later : {A : Type 0} → Option A → List A → Option A
later before [] = before
later before (x ∷ xs) = later (Some x) xs

-- two texts, each with its fields, have the same values of each number
pub record HasSameValues (source : List ℕ) (fields : List Field) (text : List ℕ) (others : List Field) : Type 0 where
  pub numbers : (number : ℕ) → numbers_at number fields ≡ numbers_at number others
  pub bytes : (number : ℕ) → bytes_at source number fields ≡ bytes_at text number others

-- two texts have the same values of a number, numbers or bytes as its wire type says
abbrev pub IsSameFor : List ℕ → List Field → List ℕ → List Field → ℕ → Wire → Type 0
IsSameFor source fields text others number Varint = numbers_at number fields ≡ numbers_at number others
IsSameFor source fields text others number Fixed32 = numbers_at number fields ≡ numbers_at number others
IsSameFor source fields text others number Bytes = bytes_at source number fields ≡ bytes_at text number others
