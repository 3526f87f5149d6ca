-- A store in a pack created and finished.
use Rattle.std.specs.Prelude.{◌≡◌, ⊤, ℕ, true, List, [], ◌∷◌, replicate, Option, Some, None}
use Rattle.tg_car.specs.CarText.{CarText, HeaderText}
use Rattle.tg_car.specs.declared.section.Section.{Section as CarSection}
use Rattle.tg_cid.specs.Cid.{CidParts}
use Rattle.tg_cid.specs.Spelling.{CidBytes}
use Rattle.tg_cid.specs.declared.cid.Codec.TheVariants.{Raw}
use Rattle.tg_cid.specs.declared.cid.HashKind.TheVariants.{Sha256}
use Rattle.tg_files.specs.Packs.{Did, PackMeaning, PackQuiet, PackRose, SameContent, Untold, pack_step}
use Rattle.tg_files.specs.Packs.PackWrite.{append, overwrite}
use Rattle.tg_store.specs.Packs.{PackStoreState, unfinished_root}
use Rattle.tg_store.specs.declared.fault.PackFault.{PackFault}
use Rattle.tg_store.specs.declared.fault.PackFault.TheVariants as faults
use Rattle.tg_store.specs.declared.fault.PackRefused.{PackRefused}

-- the root of a pack that isn't finished, as a CID
abbrev pub unfinished_cid : CidParts
unfinished_cid = record { version = 1; codec = Raw; hash = Sha256; digest = replicate 32 0 }

-- the store is one that was made by `create` and in which nothing was kept yet
pub record IsNew {P : Type 0} (m : PackMeaning P) (store : PackStoreState P) : Type 0 where
  pub fresh : store.fresh ≡ true
  pub places : store.places ≡ []
  pub header : (content : List ℕ) → m.content store.pack ≡ Some content → HeaderText (unfinished_root ∷ []) content

-- the header of a pack that isn't finished was added to the pack
pub record IsCreated {P : Type 0} (m : PackMeaning P) (pack : P) (store : PackStoreState P) : Type 0 where
  pub header : List ℕ
  pub text : HeaderText (unfinished_root ∷ []) header
  pub did : Did (append header ∷ []) (pack_step m pack store.pack)
  pub quiet : PackQuiet (pack_step m pack store.pack)
  pub new : IsNew m store

-- the pack failed
pub record IsNotCreated {P : Type 0} (m : PackMeaning P) (pack : P) (refused : PackRefused P) : Type 0 where
  pub fault : refused.fault ≡ faults.Failed
  pub untold : Untold (pack_step m pack refused.pack)
  pub rose : PackRose (pack_step m pack refused.pack)

-- a CAR with one root, as far as the bytes are told, is one with this root
abbrev pub HasRoot : Option (List ℕ) → Option (List ℕ) → List ℕ → Type 0
HasRoot old None root = ⊤
HasRoot None (Some new) root = ⊥
HasRoot (Some old) (Some new) root = (before : List ℕ) (sections : List CarSection) → CarText (before ∷ []) sections old → CarText (root ∷ []) sections new

-- the header with the root was written over the one that was there
pub record IsFinished {P : Type 0} (m : PackMeaning P) (old new : PackStoreState P) (root : CidParts) : Type 0 where
  pub header : List ℕ
  pub name : List ℕ
  pub spelled : CidBytes root name
  pub text : HeaderText ((0 ∷ name) ∷ []) header
  pub did : Did (overwrite 0 header ∷ []) (pack_step m old.pack new.pack)
  pub quiet : PackQuiet (pack_step m old.pack new.pack)
  pub fresh : new.fresh ≡ old.fresh
  pub places : new.places ≡ old.places
  pub root_is : HasRoot (m.content old.pack) (m.content new.pack) (0 ∷ name)

-- why it wasn't: the pack failed, or memory was wanted and nothing was done
abbrev pub HasFinishCause : {P : Type 0} → PackMeaning P → P → P → PackFault → Type 0
HasFinishCause m old new faults.Failed = Untold (pack_step m old new) × PackRose (pack_step m old new)
HasFinishCause m old new faults.OutOfMemory = SameContent (pack_step m old new) × PackQuiet (pack_step m old new)
HasFinishCause m old new (faults.NotCar at) = ⊥
HasFinishCause m old new (faults.BadDigest at) = ⊥
HasFinishCause m old new faults.Unfinished = ⊥
HasFinishCause m old new (faults.Truncated at) = ⊥
HasFinishCause m old new (faults.BlockLimit at) = ⊥

pub record IsNotFinished {P : Type 0} (m : PackMeaning P) (old new : PackStoreState P) (fault : PackFault) : Type 0 where
  pub cause : HasFinishCause m old.pack new.pack fault
  pub fresh : new.fresh ≡ old.fresh
  pub places : new.places ≡ old.places
