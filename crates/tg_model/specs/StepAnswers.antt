-- What one step with a name answers.
use Rattle.std.specs.Prelude.{map, Err, List, None, Ok, Option, Result, Some, slice_get, ℕ, ⊤, ◌≡◌}
use Rattle.tg_cid.specs.Cid.{CidParts}
use Rattle.tg_model.specs.declared.kinds.Entry.{Entry}
use Rattle.tg_model.specs.declared.kinds.Slot.{Slot}
use Rattle.tg_model.specs.Dag.{links_of}
use Rattle.tg_model.specs.PathWalk.{StepTo, absent, not_folder_here, to_child, to_entry}
use Rattle.tg_model.specs.Sound.{shard_fault}
use Rattle.tg_model.specs.declared.fault.BlockFault.{BlockFault}
use Rattle.tg_model.specs.declared.kinds.Kind.{Kind}
use Rattle.tg_model.specs.declared.kinds.Kind.TheVariants.{Basic, File, Raw, Shard, Symlink}
use Rattle.tg_model.specs.declared.kinds.Step.{Step}
use Rattle.tg_model.specs.declared.kinds.Step.TheVariants.{Absent, Down, Found, NotFolder}

-- the answer is the step, with the CID of the link that it takes among these
abbrev pub IsStepOver : List CidParts → StepTo → Step → Type 0
IsStepOver cids (to_entry k) (Found cid) = slice_get cids k ≡ Some cid
IsStepOver cids (to_child k) (Down cid) = slice_get cids k ≡ Some cid
IsStepOver cids absent Absent = ⊤
IsStepOver cids not_folder_here NotFolder = ⊤
IsStepOver cids step answer = ⊥

abbrev pub IsStep : Kind → StepTo → Step → Type 0
IsStep kind step answer = IsStepOver (links_of kind) step answer

-- the CIDs of entries and of slots
abbrev pub entry_cids : List Entry → List CidParts
entry_cids entries = map (λ entry. entry.cid) entries

abbrev pub slot_cids : List Slot → List CidParts
slot_cids slots = map (λ slot. slot.cid) slots

-- why a kind, where it is a shard, can't stand behind these slots
abbrev pub shard_fault_of : Kind → List ℕ → Option BlockFault
shard_fault_of Raw above = None
shard_fault_of (File inline filesize parts) above = None
shard_fault_of (Basic entries) above = None
shard_fault_of (Shard slots) above = shard_fault above slots
shard_fault_of (Symlink target) above = None

-- the fault, if there is one, is the answer
abbrev pub IsFaultOf : {A : Type 0} → Option BlockFault → Result A BlockFault → Type 0
IsFaultOf None (Ok done) = ⊤
IsFaultOf None (Err fault) = ⊥
IsFaultOf (Some fault) (Ok done) = ⊥
IsFaultOf (Some fault) (Err given) = given ≡ fault
