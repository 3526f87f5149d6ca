-- Worked values, so that a wrong definition does not check.
use Rattle.std.proofs.Common.{◌≡◌, List, [], ◌∷◌, Ok, Err, refl}
use Rattle.tg_pbtable.specs.declared.table.Rule.{Rule}
use Rattle.tg_pbtable.specs.declared.table.Wire.TheVariants.{Varint, Bytes, Fixed32}
use Rattle.tg_pbtable.specs.declared.table.Times.TheVariants.{One, Many}
use Rattle.tg_pbtable.specs.declared.table.Order.TheVariants.{Ascending, Runs}
use Rattle.tg_pbtable.specs.declared.table.Value.TheVariants.{Number, Place}
use Rattle.tg_pbtable.specs.declared.fault.PbFault.TheVariants as faults
use Rattle.tg_pbtable.specs.Computed.{fields_of}

-- a number that is asked for and any number of byte fields
abbrev two : List Rule
two = record { number = 1; wire = Varint; times = One } ∷ record { number = 2; wire = Bytes; times = Many } ∷ []

-- field 1 is 150, as in the protobuf encoding guide, and field 2 is "testing", as there
pub number_and_bytes : fields_of two Ascending (0x08 ∷ 0x96 ∷ 0x01 ∷ 0x12 ∷ 0x07 ∷ 0x74 ∷ 0x65 ∷ 0x73 ∷ 0x74 ∷ 0x69 ∷ 0x6e ∷ 0x67 ∷ [])
    ≡ Ok (record { number = 1; wire = Varint; value = Number 150 } ∷ record { number = 2; wire = Bytes; value = Place 5 12 } ∷ [])
unfolding fields_of
number_and_bytes = refl

-- a number in four bytes
abbrev four : List Rule
four = record { number = 2; wire = Fixed32; times = One } ∷ []

pub fixed_number : fields_of four Ascending (0x15 ∷ 0x00 ∷ 0x65 ∷ 0xcd ∷ 0x1d ∷ []) ≡ Ok (record { number = 2; wire = Fixed32; value = Number 500000000 } ∷ [])
unfolding fields_of
fixed_number = refl

pub fixed_short : fields_of four Ascending (0x15 ∷ 0x00 ∷ 0x65 ∷ 0xcd ∷ []) ≡ Err (faults.Short 0)
unfolding fields_of
fixed_short = refl

pub varint_for_fixed : fields_of four Ascending (0x10 ∷ 0x01 ∷ []) ≡ Err (faults.WrongWire 0)
unfolding fields_of
varint_for_fixed = refl

pub cut_short : fields_of two Ascending (0x08 ∷ 0x01 ∷ 0x12 ∷ 0x02 ∷ 0x61 ∷ []) ≡ Err (faults.Short 2)
unfolding fields_of
cut_short = refl

pub longer_varint : fields_of two Ascending (0x08 ∷ 0x81 ∷ 0x00 ∷ []) ≡ Err (faults.BadVarint 0)
unfolding fields_of
longer_varint = refl

pub range_passed : fields_of two Ascending (0x08 ∷ 0xff ∷ 0xff ∷ 0xff ∷ 0xff ∷ 0xff ∷ 0xff ∷ 0xff ∷ 0xff ∷ 0xff ∷ 0x02 ∷ []) ≡ Err (faults.BadVarint 0)
unfolding fields_of
range_passed = refl

pub unknown_number : fields_of two Ascending (0x08 ∷ 0x01 ∷ 0x18 ∷ 0x05 ∷ []) ≡ Err (faults.Unknown 2 3)
unfolding fields_of
unknown_number = refl

pub wrong_wire : fields_of two Ascending (0x0a ∷ 0x01 ∷ 0x61 ∷ []) ≡ Err (faults.WrongWire 0)
unfolding fields_of
wrong_wire = refl

pub out_of_order : fields_of two Ascending (0x12 ∷ 0x00 ∷ 0x08 ∷ 0x01 ∷ []) ≡ Err (faults.OutOfOrder 2)
unfolding fields_of
out_of_order = refl

pub split_run : fields_of two Runs (0x12 ∷ 0x00 ∷ 0x08 ∷ 0x01 ∷ 0x12 ∷ 0x00 ∷ []) ≡ Err (faults.OutOfOrder 4)
unfolding fields_of
split_run = refl

pub doubled_number : fields_of two Ascending (0x08 ∷ 0x01 ∷ 0x08 ∷ 0x01 ∷ []) ≡ Err (faults.Doubled 2)
unfolding fields_of
doubled_number = refl

pub missing_number : fields_of two Ascending (0x12 ∷ 0x00 ∷ []) ≡ Err (faults.Missing 1)
unfolding fields_of
missing_number = refl
