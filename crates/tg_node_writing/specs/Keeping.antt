-- Sections that are kept one after another, and what stands after a fault.
use Rattle.sha2.specs.Sha256.{sha256}
use Rattle.std.specs.Prelude.{List, Option, [], length, ℕ, ◌+◌, ◌∷◌, ◌≡◌}
use Rattle.tg_cid.specs.declared.cid.Codec.{Codec}
use Rattle.tg_cid.specs.declared.cid.HashKind.TheVariants.{Sha256}
use Rattle.tg_faults.specs.Faults.{Rose}
use Rattle.tg_model.specs.Dag.{Section}
use Rattle.tg_model.specs.Stores.{AreKeptAs, IsLeftAs, Keeping, KeepingQuiet, Kept, Store}
use Rattle.tg_model.specs.declared.kinds.Made.{Made}
use Rattle.tg_model.specs.declared.stores.KeepFault.{KeepFault}
use Rattle.tg_model.specs.declared.stores.KeepFault.TheVariants as faults

-- these sections were kept, one after another, and no fault of the store was counted
pub record Keeps (sections : List Section) (keeping : Keeping) : Type 0 where
  pub kept : Kept sections keeping
  pub quiet : KeepingQuiet keeping

-- a block under its CIDv1 of sha2-256
abbrev pub section_of : Codec → List ℕ → Section
section_of codec block =
    record { cid = record { version = 1; codec = codec; hash = Sha256; digest = sha256 block }; block = block }

-- what is told of a block over this content and these Tsizes
abbrev pub made_of : Codec → List ℕ → ℕ → ℕ → Made
made_of codec block content tsizes =
    record { cid = (section_of codec block).cid; content = content; tsize = length block + tsizes }

-- the block was kept, and of it this is told
pub record KeepsBlock (codec : Codec) (block : List ℕ) (content tsizes : ℕ) (made : Made) (keeping : Keeping) : Type 0 where
  pub made_is : made ≡ made_of codec block content tsizes
  pub keeps : Keeps (section_of codec block ∷ []) keeping

-- after a fault a store tells what it told, or, where it failed itself, nothing any more
abbrev pub IsLeftBy : KeepFault → Option Store → Option Store → Type 0
IsLeftBy faults.Failed old new = IsLeftAs old new
IsLeftBy faults.OutOfMemory old new = new ≡ old

-- a fault of the store was counted where it failed itself, and none for want of memory
abbrev pub IsCountedBy : KeepFault → ℕ → ℕ → Type 0
IsCountedBy faults.Failed before now = Rose before now
IsCountedBy faults.OutOfMemory before now = now ≡ before

-- these sections were kept, one after another, before this fault
pub record StopsAfter (sections : List Section) (fault : KeepFault) (keeping : Keeping) : Type 0 where
  pub moved : keeping.kept sections
  pub between : Option Store
  pub stored : AreKeptAs keeping.stored_old between sections
  pub left : IsLeftBy fault between keeping.stored_new
  pub counted : IsCountedBy fault keeping.faults_old keeping.faults_new
