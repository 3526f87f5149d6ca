-- The steps of reading UnixFS data, and what keeps data from standing.
use Rattle.std.specs.Prelude.{◌≡◌, ◌≢◌, ℕ, List, [], ◌++◌, Some, None, unwrap_or}
use Rattle.tg_pbtable.specs.declared.table.Field.{Field}
use Rattle.tg_pbtable.specs.declared.fault.PbFault.{PbFault}
use Rattle.tg_pbtable.specs.declared.fault.PbFault.TheVariants as pb
use Rattle.tg_unixfs.specs.declared.Unix.{Unix}
use Rattle.tg_unixfs.specs.declared.UnixFault.{UnixFault}
use Rattle.tg_unixfs.specs.declared.UnixFault.TheVariants as faults
use Rattle.tg_pbtable.specs.Values.{numbers_at, bytes_at, later}
use Rattle.tg_unixfs.specs.Unix.{IsKind}

-- the data after the fields: of each number the last value, and all sizes
pub record Gathers (text : List ℕ) (fields : List Field) (old new : Unix) : Type 0 where
  pub kind : Some new.kind ≡ later (Some old.kind) (numbers_at 1 fields)
  pub inline : new.inline ≡ later old.inline (bytes_at text 2 fields)
  pub filesize : new.filesize ≡ later old.filesize (numbers_at 3 fields)
  pub sizes : new.sizes ≡ old.sizes ++ numbers_at 4 fields
  pub hash : new.hash ≡ later old.hash (numbers_at 5 fields)
  pub fanout : new.fanout ≡ later old.fanout (numbers_at 6 fields)

-- the data before any field
abbrev pub nothing : Unix
nothing = record { kind = 0; inline = None; filesize = None; sizes = []; hash = None; fanout = None }

-- the data is a shard's with another hash, or with the hash and another fanout
pub record IsOtherHash (unix : Unix) (number : ℕ) : Type 0 where
  pub kind : unix.kind ≡ 5
  pub number_is : number ≡ unwrap_or unix.hash 0
  pub other : number ≢ 0x22

pub record IsOtherFanout (unix : Unix) (number : ℕ) : Type 0 where
  pub kind : unix.kind ≡ 5
  pub hash : unwrap_or unix.hash 0 ≡ 0x22
  pub number_is : number ≡ unwrap_or unix.fanout 0
  pub other : number ≢ 256

pub record IsOtherKind (unix : Unix) (number : ℕ) : Type 0 where
  pub kind : unix.kind ≡ number
  pub unknown : IsKind number → ⊥

-- why the data may not stand
abbrev pub IsUnfit : Unix → UnixFault → Type 0
IsUnfit unix (faults.Pb fault) = ⊥
IsUnfit unix (faults.BadTime fault) = ⊥
IsUnfit unix (faults.BadKind number) = IsOtherKind unix number
IsUnfit unix (faults.BadHash number) = IsOtherHash unix number
IsUnfit unix (faults.BadFanout number) = IsOtherFanout unix number
IsUnfit unix faults.OutOfMemory = ⊥

-- a fault of the message as one of the data
abbrev pub carried : PbFault → UnixFault
carried (pb.Short at) = faults.Pb (pb.Short at)
carried (pb.BadVarint at) = faults.Pb (pb.BadVarint at)
carried (pb.Unknown at number) = faults.Pb (pb.Unknown at number)
carried (pb.WrongWire at) = faults.Pb (pb.WrongWire at)
carried (pb.OutOfOrder at) = faults.Pb (pb.OutOfOrder at)
carried (pb.Doubled at) = faults.Pb (pb.Doubled at)
carried (pb.Missing number) = faults.Pb (pb.Missing number)
carried pb.OutOfMemory = faults.OutOfMemory
