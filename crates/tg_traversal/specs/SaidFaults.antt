-- What is said of a block's fault: that memory is wanted, or the fault with the CID of the block.
use Rattle.std.proofs.Common.{◌≡◌, ◌⊎◌, inl, inr, refl}
use Rattle.tg_cid.specs.Cid.{CidParts}
use Rattle.tg_model.specs.declared.fault.BlockFault.TheVariants as faults
use Rattle.tg_model.specs.declared.fault.BlockFault.{BlockFault}

abbrev pub fault_said : {F : Type 0} → F → (CidParts → BlockFault → F) → CidParts → BlockFault → F
fault_said memory bad cid faults.OutOfMemory = memory
fault_said memory bad cid fault = bad cid fault

-- it is one of the two
pub either_said : {F : Type 0} (memory : F) (bad : CidParts → BlockFault → F) (cid : CidParts) (fault : BlockFault)
    → (fault_said memory bad cid fault ≡ memory) ⊎ (fault_said memory bad cid fault ≡ bad cid fault)
either_said memory bad cid (faults.BadNode fault) = inr refl
either_said memory bad cid (faults.BadLink at) = inr refl
either_said memory bad cid faults.NoUnix = inr refl
either_said memory bad cid (faults.BadUnix fault) = inr refl
either_said memory bad cid (faults.BadSizes links sizes) = inr refl
either_said memory bad cid faults.HugeSizes = inr refl
either_said memory bad cid (faults.BadName at) = inr refl
either_said memory bad cid (faults.DoubledName at) = inr refl
either_said memory bad cid (faults.BadBits bits links) = inr refl
either_said memory bad cid (faults.BadSlot at) = inr refl
either_said memory bad cid faults.BadShape = inr refl
either_said memory bad cid faults.BelowEight = inr refl
either_said memory bad cid (faults.Misplaced at) = inr refl
either_said memory bad cid faults.NotShard = inr refl
either_said memory bad cid faults.NotPart = inr refl
either_said memory bad cid faults.OutOfMemory = inl refl
