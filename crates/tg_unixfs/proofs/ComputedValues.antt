-- Worked values, so that a wrong definition does not check.
use Rattle.std.proofs.Common.{◌≡◌, [], ◌∷◌, Some, None, Ok, Err, refl}
use Rattle.tg_pbtable.specs.declared.table.Order.TheVariants.{Ascending}
use Rattle.tg_pbtable.specs.declared.table.Wire.TheVariants.{Varint}
use Rattle.tg_pbtable.specs.declared.table.Value.TheVariants.{Number}
use Rattle.tg_pbtable.specs.declared.fault.PbFault.TheVariants as pb
use Rattle.tg_pbtable.specs.Computed.{fields_of}
use Rattle.tg_unixfs.specs.declared.TheConstants.{DATA}
use Rattle.tg_unixfs.specs.declared.UnixFault.TheVariants as faults
use Rattle.tg_unixfs.specs.Computed.{unix_of}

-- the fields and the data of the empty directory
pub directory_fields : fields_of DATA.now Ascending (0x08 ∷ 0x01 ∷ []) ≡ Ok (record { number = 1; wire = Varint; value = Number 1 } ∷ [])
unfolding fields_of
directory_fields = refl

pub directory : unix_of (0x08 ∷ 0x01 ∷ []) ≡ Ok (record { kind = 1; inline = None; filesize = None; sizes = []; hash = None; fanout = None })
unfolding fields_of unix_of
directory = refl

-- a file of two parts of 262144 and 6 bytes
pub file : unix_of (0x08 ∷ 0x02 ∷ 0x18 ∷ 0x86 ∷ 0x80 ∷ 0x10 ∷ 0x20 ∷ 0x80 ∷ 0x80 ∷ 0x10 ∷ 0x20 ∷ 0x06 ∷ [])
    ≡ Ok (record { kind = 2; inline = None; filesize = Some 262150; sizes = 262144 ∷ 6 ∷ []; hash = None; fanout = None })
unfolding fields_of unix_of
file = refl

-- a small file with its bytes
pub small_file : unix_of (0x08 ∷ 0x02 ∷ 0x12 ∷ 0x02 ∷ 0x68 ∷ 0x69 ∷ 0x18 ∷ 0x02 ∷ [])
    ≡ Ok (record { kind = 2; inline = Some (0x68 ∷ 0x69 ∷ []); filesize = Some 2; sizes = []; hash = None; fanout = None })
unfolding fields_of unix_of
small_file = refl

pub shard : unix_of (0x08 ∷ 0x05 ∷ 0x12 ∷ 0x01 ∷ 0x80 ∷ 0x28 ∷ 0x22 ∷ 0x30 ∷ 0x80 ∷ 0x02 ∷ [])
    ≡ Ok (record { kind = 5; inline = Some (0x80 ∷ []); filesize = None; sizes = []; hash = Some 0x22; fanout = Some 256 })
unfolding fields_of unix_of
shard = refl

pub metadata : unix_of (0x08 ∷ 0x03 ∷ []) ≡ Err (faults.BadKind 3)
unfolding fields_of unix_of
metadata = refl

pub no_hash : unix_of (0x08 ∷ 0x05 ∷ []) ≡ Err (faults.BadHash 0)
unfolding fields_of unix_of
no_hash = refl

pub half_fanout : unix_of (0x08 ∷ 0x05 ∷ 0x28 ∷ 0x22 ∷ 0x30 ∷ 0x80 ∷ 0x01 ∷ []) ≡ Err (faults.BadFanout 128)
unfolding fields_of unix_of
half_fanout = refl

pub nothing : unix_of [] ≡ Err (faults.Pb (pb.Missing 1))
unfolding fields_of unix_of
nothing = refl

-- a directory with a mode, and with a modification time of seconds alone and one with nanoseconds
pub with_mode : unix_of (0x08 ∷ 0x01 ∷ 0x38 ∷ 0xed ∷ 0x03 ∷ []) ≡ unix_of (0x08 ∷ 0x01 ∷ [])
unfolding fields_of unix_of
with_mode = refl

pub with_seconds : unix_of (0x08 ∷ 0x01 ∷ 0x42 ∷ 0x06 ∷ 0x08 ∷ 0x80 ∷ 0xe2 ∷ 0xcf ∷ 0xaa ∷ 0x06 ∷ []) ≡ unix_of (0x08 ∷ 0x01 ∷ [])
unfolding fields_of unix_of
with_seconds = refl

pub with_nanoseconds : unix_of (0x08 ∷ 0x01 ∷ 0x42 ∷ 0x0b ∷ 0x08 ∷ 0x80 ∷ 0xe2 ∷ 0xcf ∷ 0xaa ∷ 0x06 ∷ 0x15 ∷ 0x00 ∷ 0x65 ∷ 0xcd ∷ 0x1d ∷ [])
    ≡ unix_of (0x08 ∷ 0x01 ∷ [])
unfolding fields_of unix_of
with_nanoseconds = refl

pub no_seconds : unix_of (0x08 ∷ 0x01 ∷ 0x42 ∷ 0x00 ∷ []) ≡ Err (faults.BadTime (pb.Missing 1))
unfolding fields_of unix_of
no_seconds = refl

-- the time is cut short, which is told before the unknown type, and its place is counted in the data's text
pub time_short : unix_of (0x08 ∷ 0x03 ∷ 0x42 ∷ 0x04 ∷ 0x08 ∷ 0x01 ∷ 0x15 ∷ 0x00 ∷ []) ≡ Err (faults.BadTime (pb.Short 6))
unfolding fields_of unix_of
time_short = refl
