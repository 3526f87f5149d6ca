-- The fields of UnixFS data in ascending order.
use Rattle.std.specs.Prelude.{ℕ, List, [], ◌∷◌, ◌++◌, length, Option, Some, None}
use Rattle.tg_pbtable.specs.declared.table.Field.{Field}
use Rattle.tg_pbtable.specs.declared.table.Wire.{Wire}
use Rattle.tg_pbtable.specs.declared.table.Wire.TheVariants.{Varint, Bytes}
use Rattle.tg_pbtable.specs.declared.table.Value.{Value}
use Rattle.tg_pbtable.specs.declared.table.Value.TheVariants.{Number, Place}
use Rattle.tg_unixfs.specs.declared.Unix.{Unix}
use Rattle.tg_pbtable.specs.Values.{listed}

-- the wire type of a value that a writer writes
abbrev pub wire_for : Value → Wire
wire_for (Number n) = Varint
wire_for (Place start end) = Bytes

-- the fields of one number with these values
abbrev pub numbered : ℕ → List Value → List Field
numbered number [] = []
numbered number (value ∷ values) =
    record { number = number; wire = wire_for value; value = value } ∷ numbered number values

abbrev pub as_numbers : List ℕ → List Value
as_numbers [] = []
as_numbers (n ∷ ns) = Number n ∷ as_numbers ns

-- the inline bytes are a source, which their place covers
abbrev pub source_of : Option (List ℕ) → List ℕ
source_of None = []
source_of (Some bytes) = bytes

abbrev pub as_places : Option (List ℕ) → List Value
as_places None = []
as_places (Some bytes) = Place 0 (length bytes) ∷ []

-- the fields of one number of which there is one or none
abbrev pub optional : ℕ → Option ℕ → List Field
optional number value = numbered number (as_numbers (listed value))

abbrev pub placed : Option (List ℕ) → List Field
placed inline = numbered 2 (as_places inline)

abbrev pub all_fields : Unix → List Field
all_fields unix = numbered 1 (Number unix.kind ∷ []) ++ (placed unix.inline ++ (optional 3 unix.filesize ++ (numbered 4 (as_numbers unix.sizes) ++ (optional 5 unix.hash ++ optional 6 unix.fanout))))
