-- The wire types that a table may use (protobuf encoding guide, Message Structure), in one list: of each its number,
-- and what the bytes behind its key are where a value stands whole at their front, where they end inside one, and where
-- a varint of it is none. A further wire type is one line of `wire_type` here and one of `ValueSpelling`.
use Rattle.std.specs.Prelude.{◌≡◌, ◌≢◌, ℕ, ◌<◌, ◌≤◌, ◌⊎◌, List, ◌++◌, length}
use Rattle.tg_pbtable.specs.declared.table.Wire.{Wire}
use Rattle.tg_pbtable.specs.declared.table.Wire.TheVariants.{Varint, Bytes, Fixed32}
use Rattle.tg_pbtable.specs.Varint.{VarintSpelling, EndsInside, IsBadVarint}

-- a number stands at the front
pub record HasNumber (after : List ℕ) : Type 0 where
  pub amount : ℕ
  pub front : List ℕ
  pub rest : List ℕ
  pub whole : after ≡ front ++ rest
  pub amount_is : VarintSpelling amount front

-- a length and that many bytes stand at the front
pub record HasBytes (after : List ℕ) : Type 0 where
  pub amount : ℕ
  pub size : List ℕ
  pub content : List ℕ
  pub whole : after ≡ size ++ content
  pub size_is : VarintSpelling amount size
  pub enough : amount ≤ length content

-- a length stands at the front, and fewer bytes follow it
pub record EndsInBytes (after : List ℕ) : Type 0 where
  pub amount : ℕ
  pub size : List ℕ
  pub content : List ℕ
  pub whole : after ≡ size ++ content
  pub size_is : VarintSpelling amount size
  pub fewer : length content < amount

pub record WireType : Type 1 where
  pub code : ℕ
  pub whole : List ℕ → Type 0
  pub cut : List ℕ → Type 0
  pub bad : List ℕ → Type 0

abbrev pub wire_type : Wire → WireType
wire_type Varint = record { code = 0; whole = HasNumber; cut = EndsInside; bad = IsBadVarint }
wire_type Bytes =
    record { code = 2; whole = HasBytes; cut = λ after. EndsInside after ⊎ EndsInBytes after; bad = IsBadVarint }
wire_type Fixed32 =
    record { code = 5; whole = λ after. 4 ≤ length after; cut = λ after. length after < 4; bad = λ _. ⊥ }

-- the wire types' numbers
abbrev pub wire_code : Wire → ℕ
wire_code wire = (wire_type wire).code

-- the number is of no wire type that a table may use
abbrev pub IsNoWire : ℕ → Type 0
IsNoWire code = (wire : Wire) → code ≢ wire_code wire

-- the bytes behind a key with this number of a wire type: a value of it stands whole at the front, or they end inside
-- one, or a varint of it is none
abbrev pub IsWhole : ℕ → List ℕ → Type 0
IsWhole code after = (wire : Wire) × (code ≡ wire_code wire) × (wire_type wire).whole after

abbrev pub EndsInValue : ℕ → List ℕ → Type 0
EndsInValue code after = (wire : Wire) × (code ≡ wire_code wire) × (wire_type wire).cut after

abbrev pub HasBadValue : ℕ → List ℕ → Type 0
HasBadValue code after = (wire : Wire) × (code ≡ wire_code wire) × (wire_type wire).bad after

-- a value stands whole behind the key; one of a wire type that is no table's isn't read
abbrev pub HasValue : ℕ → List ℕ → Type 0
HasValue code after = IsWhole code after ⊎ IsNoWire code
