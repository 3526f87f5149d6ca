-- A store in a pack while it is filled, and its faults.
use Rattle.std.proofs.Common.{le_refl, le_trans}
use Rattle.std.specs.Prelude.{List, [], ◌++◌, ◌≤◌}
use Rattle.tg_fetch.specs.declared.fault.FetchFault.TheVariants as fetches
use Rattle.tg_files.specs.Packs.{PackMeaning, PackWrite}
use Rattle.tg_mirror.specs.declared.fault.MirrorFault.{MirrorFault}
use Rattle.tg_mirror.specs.declared.fault.MirrorFault.TheVariants as faults
use Rattle.tg_model.specs.Dag.{Section}
use Rattle.tg_model.specs.Stores.{Keeping}
use Rattle.tg_store.specs.PackLaws.{kept_joins, kept_rests}
use Rattle.tg_store.specs.Packs.{HasKept, PackStoreState, stored_in}
use Rattle.tg_store.specs.declared.fault.PackFault.{PackFault}
use Rattle.tg_store.specs.declared.fault.PackFault.TheVariants as packs

-- a fault of the store's own; its want of memory is told as that of the client
abbrev pub fault_of_pack : PackFault → MirrorFault
fault_of_pack packs.OutOfMemory = faults.Client fetches.OutOfMemory
fault_of_pack fault = faults.Pack fault

-- these sections were kept, and the pack's count of faults didn't fall meanwhile
pub record HasFilled {P : Type 0} (m : PackMeaning P) (a b : PackStoreState P) (sections : List Section) : Type 0 where
  pub kept : HasKept m a b sections
  pub counted : m.faults a.pack ≤ m.faults b.pack

module _ {P : Type 0} (m : PackMeaning P) (rests : (p : P) → m.did p p []) (joins : (a b c : P) (u v : List PackWrite) → m.did a b u → m.did b c v → m.did a c (u ++ v)) where
  pub filled_rests : (s : PackStoreState P) → HasFilled m s s []
  filled_rests s = record { kept = kept_rests m rests joins s; counted = le_refl (m.faults s.pack) }

  pub filled_joins : (a b c : PackStoreState P) (u v : List Section) → HasFilled m a b u → HasFilled m b c v → HasFilled m a c (u ++ v)
  filled_joins a b c u v h k = record { kept = kept_joins m rests joins a b c u v h.kept k.kept; counted = le_trans h.counted k.counted }

-- such a store before and after
abbrev pub filled_in : {P : Type 0} → PackMeaning P → PackStoreState P → PackStoreState P → Keeping
filled_in m old new = record {
  kept = HasFilled m old new;
  stored_old = stored_in (m.content old.pack) old.places;
  stored_new = stored_in (m.content new.pack) new.places;
  faults_old = m.faults old.pack;
  faults_new = m.faults new.pack;
}
