-- Faults of the crates below as faults of a block. Want of memory stays want of memory.
use Rattle.tg_model.specs.declared.fault.BlockFault.TheVariants as faults
use Rattle.tg_pbtable.specs.declared.fault.PbFault.TheVariants as pb
use Rattle.tg_unixfs.specs.declared.UnixFault.TheVariants as unixfs
use Rattle.std.specs.Prelude.{◌≢◌, ⊤}
use Rattle.tg_model.specs.declared.fault.BlockFault.{BlockFault}
use Rattle.tg_pbtable.specs.declared.fault.PbFault.{PbFault}
use Rattle.tg_unixfs.specs.declared.UnixFault.{UnixFault}

abbrev pub block_fault_of_pb : PbFault → BlockFault
block_fault_of_pb (pb.Short at) = faults.BadNode (pb.Short at)
block_fault_of_pb (pb.BadVarint at) = faults.BadNode (pb.BadVarint at)
block_fault_of_pb (pb.Unknown at number) = faults.BadNode (pb.Unknown at number)
block_fault_of_pb (pb.WrongWire at) = faults.BadNode (pb.WrongWire at)
block_fault_of_pb (pb.OutOfOrder at) = faults.BadNode (pb.OutOfOrder at)
block_fault_of_pb (pb.Doubled at) = faults.BadNode (pb.Doubled at)
block_fault_of_pb (pb.Missing number) = faults.BadNode (pb.Missing number)
block_fault_of_pb pb.OutOfMemory = faults.OutOfMemory

abbrev pub block_fault_of_unix : UnixFault → BlockFault
block_fault_of_unix (unixfs.Pb fault) = faults.BadUnix (unixfs.Pb fault)
block_fault_of_unix (unixfs.BadTime fault) = faults.BadUnix (unixfs.BadTime fault)
block_fault_of_unix (unixfs.BadKind number) = faults.BadUnix (unixfs.BadKind number)
block_fault_of_unix (unixfs.BadHash number) = faults.BadUnix (unixfs.BadHash number)
block_fault_of_unix (unixfs.BadFanout number) = faults.BadUnix (unixfs.BadFanout number)
block_fault_of_unix unixfs.OutOfMemory = faults.OutOfMemory

-- no fault of a crate below that a fault of a block carries is want of memory
abbrev pub IsNoWantOfMemory : BlockFault → Type 0
IsNoWantOfMemory (faults.BadNode fault) = fault ≢ pb.OutOfMemory
IsNoWantOfMemory (faults.BadUnix fault) =
    (fault ≢ unixfs.OutOfMemory) × (fault ≢ unixfs.Pb pb.OutOfMemory) × (fault ≢ unixfs.BadTime pb.OutOfMemory)
IsNoWantOfMemory faults.OutOfMemory = ⊥
IsNoWantOfMemory _ = ⊤
