-- A pack attached as a store, or refused.
use Rattle.std.specs.Prelude.{◌≡◌, ◌⊎◌, false, List, ℕ, [], Option, Some, None}
use Rattle.tg_files.specs.Packs.{Did, PackMeaning, PackQuiet, pack_step}
use Rattle.tg_model.specs.Stores.{Store}
use Rattle.tg_store.specs.Attaching.{IsAttached, IsRefusal}
use Rattle.tg_store.specs.Packs.{PackStoreState, stored_in}
use Rattle.tg_store.specs.declared.fault.PackFault.{PackFault}
use Rattle.tg_store.specs.declared.fault.PackFault.TheVariants as faults
use Rattle.tg_store.specs.declared.fault.PackRefused.{PackRefused}

-- what is stored is what the content holds, told or not
abbrev pub IsAttachedIn : Option (List ℕ) → Option Store → Type 0
IsAttachedIn None stored = stored ≡ None
IsAttachedIn (Some content) None = ⊥
IsAttachedIn (Some content) (Some store) = IsAttached content store

-- nothing was done to the pack, and the store is that of its content
pub record HasAttached {P : Type 0} (m : PackMeaning P) (pack : P) (store : PackStoreState P) : Type 0 where
  pub did : Did [] (pack_step m pack store.pack)
  pub quiet : PackQuiet (pack_step m pack store.pack)
  pub fresh : store.fresh ≡ false
  pub stored : IsAttachedIn (m.content pack) (stored_in (m.content store.pack) store.places)

-- nothing was done to the pack, and it has the cause
pub record HasRefused {P : Type 0} (m : PackMeaning P) (pack : P) (refused : PackRefused P) : Type 0 where
  pub did : Did [] (pack_step m pack refused.pack)
  pub cause : IsRefusal (pack_step m pack refused.pack) refused.fault

-- the fault for whose cause this one was given: itself, where the pack didn't fail and no memory was wanted
abbrev pub IsGivenFor : PackFault → PackFault → Type 0
IsGivenFor fault given = (given ≡ fault) ⊎ ((given ≡ faults.Failed) ⊎ (given ≡ faults.OutOfMemory))
