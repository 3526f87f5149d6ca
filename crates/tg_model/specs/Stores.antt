-- What a store of blocks tells: which block is stored under each CID.
use Rattle.tg_model.specs.declared.stores.BlocksFault.TheVariants as faults
use Rattle.tg_cid.specs.Limits.{max_block_len}
use Rattle.std.specs.Prelude.{List, None, Option, Some, [], length, unwrap_or, ℕ, ⊤, ◌∷◌, ◌≡◌, ◌≢◌, ◌≤◌, ◌⊎◌}
use Rattle.sha2.specs.Sha256.{sha256}
use Rattle.tg_cid.specs.Cid.{CidParts}
use Rattle.tg_cid.specs.Names.{Names}
use Rattle.tg_faults.specs.Faults.{Rose}
use Rattle.tg_model.specs.Dag.{Section}
use Rattle.tg_model.specs.declared.stores.BlocksFault.{BlocksFault}

abbrev pub Store : Type 0
Store = CidParts → Option (List ℕ)

-- the CIDv1 with the same codec, hash and digest
abbrev pub as_v1 : CidParts → CidParts
as_v1 cid = record cid { version = 1 }

-- each stored block is named by its CID and no larger than a block may be, and a CIDv0 has what its CIDv1 form has
pub record IsStore (store : Store) : Type 0 where
  pub twins : (cid : CidParts) → store cid ≡ store (as_v1 cid)
  pub named : (cid : CidParts) (block : List ℕ) → store cid ≡ Some block → Names cid block
  pub small : (cid : CidParts) (block : List ℕ) → store cid ≡ Some block → length block ≤ max_block_len

-- the block is stored under the CID where none was, and nothing else changes
pub record Adds (old new : Store) (cid : CidParts) (block : List ℕ) : Type 0 where
  pub here : (other : CidParts) → as_v1 other ≡ as_v1 cid → new other ≡ Some (unwrap_or (old cid) block)
  pub others : (other : CidParts) → as_v1 other ≢ as_v1 cid → new other ≡ old other

-- the sections' blocks are kept under their CIDs, one after another
abbrev pub AddsEach : Store → Store → List Section → Type 0
AddsEach old new [] = new ≡ old
AddsEach old new (section ∷ sections) =
    (between : Store) × Adds old between section.cid section.block × AddsEach between new sections

-- told or not
abbrev pub AreKeptAs : Option Store → Option Store → List Section → Type 0
AreKeptAs None new sections = new ≡ None
AreKeptAs (Some old) None sections = ⊥
AreKeptAs (Some old) (Some new) sections = AddsEach old new sections

-- what a store tells is one
abbrev pub IsToldStore : Option Store → Type 0
IsToldStore None = ⊤
IsToldStore (Some store) = IsStore store

-- a `get` gives what is stored under the CID, as far as it is told, and a block only where the CID names it
abbrev pub IsStoredIn : Option Store → CidParts → Option (List ℕ) → Type 0
IsStoredIn None cid found = ⊤
IsStoredIn (Some store) cid found = found ≡ store cid

abbrev pub IsNamedBlock : CidParts → Option (List ℕ) → Type 0
IsNamedBlock cid None = ⊤
IsNamedBlock cid (Some block) = Names cid block × (length block ≤ max_block_len)

pub record IsGotten (told : Option Store) (cid : CidParts) (found : Option (List ℕ)) : Type 0 where
  pub stored : IsStoredIn told cid found
  pub named : IsNamedBlock cid found

-- after a failed `keep` a store tells what it told, or nothing any more
abbrev pub IsLeftAs : Option Store → Option Store → Type 0
IsLeftAs old new = (new ≡ old) ⊎ (new ≡ None)

-- a stored block has another digest than the CID's
pub record IsChanged (cid : CidParts) (want got : List ℕ) : Type 0 where
  pub wanted : want ≡ cid.digest
  pub block : List ℕ
  pub has : got ≡ sha256 block
  pub differ : want ≢ got

-- the cause of each fault of a `get`, by what the store told, the CID, and the store's counts before and after
abbrev pub IsCauseOf : Option Store → CidParts → ℕ → ℕ → BlocksFault → Type 0
IsCauseOf told cid before now (faults.Changed want got) = (told ≡ None) × IsChanged cid want got × (now ≡ before)
IsCauseOf told cid before now faults.Failed = Rose before now
IsCauseOf told cid before now faults.OutOfMemory = now ≡ before

-- what a kind of store in which blocks are looked up says of its values: what is stored under each CID, told or not;
-- how many calls failed; and how a value moves when these CIDs are looked up in it
pub record BlocksMeaning (S : Type 0) : Type 1 where
  pub stored : S → Option Store
  pub faults : S → ℕ
  pub looked : S → S → List CidParts → Type 0

-- what a kind of store that keeps blocks says of its values: what is stored under each CID, told or not; how many calls
-- failed; and how a value moves when these sections are kept, one after another
pub record KeepMeaning (S : Type 0) : Type 1 where
  pub stored : S → Option Store
  pub faults : S → ℕ
  pub kept : S → S → List Section → Type 0

-- a store in which blocks are looked up, before and after
pub record Lookups : Type 1 where
  pub looked : List CidParts → Type 0
  pub stored_old : Option Store
  pub stored_new : Option Store
  pub faults_old : ℕ
  pub faults_new : ℕ

abbrev pub looked_in : {S : Type 0} → BlocksMeaning S → S → S → Lookups
looked_in m old new = record {
  looked = m.looked old new;
  stored_old = m.stored old;
  stored_new = m.stored new;
  faults_old = m.faults old;
  faults_new = m.faults new;
}

-- a store that keeps blocks, before and after
pub record Keeping : Type 1 where
  pub kept : List Section → Type 0
  pub stored_old : Option Store
  pub stored_new : Option Store
  pub faults_old : ℕ
  pub faults_new : ℕ

abbrev pub kept_in : {S : Type 0} → KeepMeaning S → S → S → Keeping
kept_in m old new = record {
  kept = m.kept old new;
  stored_old = m.stored old;
  stored_new = m.stored new;
  faults_old = m.faults old;
  faults_new = m.faults new;
}

-- no fault of the store was counted, or one was
abbrev pub LookupsQuiet : Lookups → Type 0
LookupsQuiet lookups = lookups.faults_new ≡ lookups.faults_old

abbrev pub KeepingQuiet : Keeping → Type 0
KeepingQuiet keeping = keeping.faults_new ≡ keeping.faults_old

abbrev pub KeepingRose : Keeping → Type 0
KeepingRose keeping = Rose keeping.faults_old keeping.faults_new

-- these CIDs were looked up, and the store tells what it told
pub record LookedUp (cids : List CidParts) (lookups : Lookups) : Type 0 where
  pub moved : lookups.looked cids
  pub stored : lookups.stored_new ≡ lookups.stored_old

-- these sections were kept, one after another
pub record Kept (sections : List Section) (keeping : Keeping) : Type 0 where
  pub moved : keeping.kept sections
  pub stored : AreKeptAs keeping.stored_old keeping.stored_new sections

-- nothing was kept, and the store tells what it told, or nothing any more
pub record KeptNothing (keeping : Keeping) : Type 0 where
  pub moved : keeping.kept []
  pub stored : IsLeftAs keeping.stored_old keeping.stored_new

-- nothing was kept, and the store tells what it told
pub record KeptSame (keeping : Keeping) : Type 0 where
  pub moved : keeping.kept []
  pub stored : keeping.stored_new ≡ keeping.stored_old
