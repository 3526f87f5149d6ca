-- A directory that is made of entries, sharded or in one block (UnixFS specification, Directory and HAMTDirectory).
use Rattle.std.specs.Prelude.{List, [], ℕ, ◌<◌, ◌≡◌, ◌≤◌, ◌⊎◌}
use Rattle.tg_dir.specs.Weights.{weight_for}
use Rattle.tg_hamt.specs.Directories.{AreLaidOut, AreSound, IsCause, IsMadeDirectory}
use Rattle.tg_hamt.specs.declared.fault.HamtFault.{HamtFault}
use Rattle.tg_hamt.specs.declared.fault.HamtFault.TheVariants as faults
use Rattle.tg_model.specs.Dag.{Children, Dag, Section, node}
use Rattle.tg_model.specs.ImportLayout.{IsLaidAt, LayoutOptions}
use Rattle.tg_model.specs.Sound.{top}
use Rattle.tg_model.specs.Stores.{Keeping}
use Rattle.tg_model.specs.declared.kinds.Entry.{Entry}
use Rattle.tg_model.specs.declared.kinds.Kind.TheVariants.{Basic, Shard}
use Rattle.tg_model.specs.declared.kinds.Made.{Made}
use Rattle.tg_model.specs.declared.kinds.NewEntry.{NewEntry}
use Rattle.tg_model.specs.declared.kinds.Slot.{Slot}
use Rattle.tg_model.specs.declared.stores.KeepFault.TheVariants.{Failed, OutOfMemory}
use Rattle.tg_model.specs.declared.stores.KeepFault.{KeepFault}
use Rattle.tg_node_writing.specs.BlockOrder.{AreBehindLinks, entry_cids}
use Rattle.tg_node_writing.specs.Keeping.{Keeps, StopsAfter}
use Rattle.tg_node_writing.specs.Nodes.{LeadTo}

-- the directory's root is a shard, or holds all of the entries
abbrev pub IsSharded : Dag → Type 0
IsSharded d =
    (section : Section) × (slots : List Slot) × (children : Children) × (d ≡ node section (Shard slots) children)

abbrev pub IsBasic : Dag → Type 0
IsBasic d = (section : Section) × (es : List Entry) × (children : Children) × (d ≡ node section (Basic es) children)

-- a sound directory of just these entries, sharded exactly where its weight exceeds the threshold, in the importer's
-- layout
pub record IsMadeBy (threshold : ℕ) (new : List NewEntry) (children : Children) (made : Made) (sections : List Section) (d : Dag) : Type 0 where
  pub directory : IsMadeDirectory new children made sections d
  pub sharded : threshold < weight_for new → IsSharded d
  pub basic : weight_for new ≤ threshold → IsBasic d
  pub laid : (options : LayoutOptions) → options.shard ≡ threshold → AreLaidOut options children
      → IsLaidAt options top d

-- whatever the sound DAGs to which the entries lead: the directory is made, each of its blocks behind those to which it
-- links
pub record MakesDirectory (threshold : ℕ) (new : List NewEntry) (made : Made) (keeping : Keeping) : Type 0 where
  pub sections : List Section
  pub keeps : Keeps sections keeping
  pub order : AreBehindLinks (entry_cids new) sections
  pub directory : (children : Children) → LeadTo new children → AreSound children
      → (d : Dag) × IsMadeBy threshold new children made sections d

-- a directory in one block is its only block, and nothing was kept before a fault
abbrev pub IsBasicCause : HamtFault → Keeping → Type 0
IsBasicCause (faults.SameHash first second) keeping = ⊥
IsBasicCause (faults.Keep fault) keeping = (fault ≡ Failed) × StopsAfter [] Failed keeping
IsBasicCause faults.OutOfMemory keeping = StopsAfter [] OutOfMemory keeping

-- what was kept before a fault: each block stands behind those to which it links, and nothing was kept where two names
-- have one hash
abbrev pub StopsDirectory : List NewEntry → KeepFault → Keeping → Type 0
StopsDirectory new fault keeping =
    (sections : List Section) × StopsAfter sections fault keeping × AreBehindLinks (entry_cids new) sections

abbrev pub StopsInOrder : List NewEntry → HamtFault → Keeping → Type 0
StopsInOrder new (faults.SameHash first second) keeping = Keeps [] keeping
StopsInOrder new (faults.Keep fault) keeping = StopsDirectory new Failed keeping
StopsInOrder new faults.OutOfMemory keeping = StopsDirectory new OutOfMemory keeping

-- why a directory isn't made, by its weight
abbrev pub IsDirectoryCause : ℕ → List NewEntry → HamtFault → Keeping → Type 0
IsDirectoryCause threshold new fault keeping =
    ((threshold < weight_for new) × IsCause new fault keeping) ⊎ ((weight_for new ≤ threshold) × IsBasicCause fault keeping)
