-- A directory that is made of entries (UnixFS specification, Directory and HAMTDirectory).
use Rattle.std.specs.List.Sorted.{IsPermutation}
use Rattle.std.specs.List.{IsDistinct, sum_by}
use Rattle.std.specs.Prelude.{All, Contains, List, [], bytes_eq, length, map, ℕ, ⊤, ◌^◌, ◌<◌, ◌∷◌, ◌≡◌, ◌≤◌, ◌⊎◌}
use Rattle.tg_hamt.specs.Order.{IsGoodEntry}
use Rattle.std.specs.declared.cmp.Ordering.TheVariants.{Less}
use Rattle.tg_bytes.specs.Order.{bytes_cmp}
use Rattle.tg_faults.specs.Faults.{Rose}
use Rattle.tg_hamt.specs.Shards.{shards_of}
use Rattle.tg_hamt.specs.declared.fault.HamtFault.TheVariants as faults
use Rattle.tg_hamt.specs.declared.fault.HamtFault.{HamtFault}
use Rattle.tg_model.specs.Content.{DirEntry, entries}
use Rattle.tg_model.specs.Dag.{Children, Dag, IsWhole, Section, blocks, blocks_of_children, no_child, node, root_cid}
use Rattle.tg_model.specs.Dag.{with_child}
use Rattle.tg_model.specs.ImportLayout.{HasPlainCid, IsLaidAt, IsShardAt, LayoutOptions, tsize_of}
use Rattle.tg_model.specs.Sound.{IsCheckedAt, IsSound, child, top}
use Rattle.tg_model.specs.Stores.{Keeping}
use Rattle.tg_model.specs.declared.kinds.Kind.TheVariants.{Shard}
use Rattle.tg_model.specs.declared.kinds.Made.{Made}
use Rattle.tg_model.specs.declared.kinds.NewEntry.{NewEntry}
use Rattle.tg_model.specs.declared.kinds.Slot.{Slot}
use Rattle.tg_model.specs.declared.stores.KeepFault.{KeepFault}
use Rattle.tg_model.specs.declared.stores.KeepFault.TheVariants.{Failed, OutOfMemory}
use Rattle.tg_node_writing.specs.BlockOrder.{AreBehindLinks, entry_cids}
use Rattle.tg_node_writing.specs.Keeping.{Keeps, StopsAfter}
use Rattle.tg_node_writing.specs.Nodes.{LeadTo}
use Rattle.tg_murmur.specs.NameHash.{name_hash}

-- the entries of a directory: each may stand there, and the names differ; they are few, and their Tsizes small
pub record AreGoodEntries (new : List NewEntry) : Type 0 where
  pub each : All IsGoodEntry new
  pub differ : IsDistinct bytes_eq (map (λ entry. entry.name) new)
  pub few : length new < 2 ^ 32
  pub tsizes : sum_by (λ entry. entry.tsize) new ≤ 2 ^ 62

-- the DAGs are sound
abbrev pub AreSound : Children → Type 0
AreSound no_child = ⊤
AreSound (with_child d children) = IsSound d × AreSound children

-- what a directory of these entries and DAGs lists
abbrev pub listed_for : List NewEntry → Children → List DirEntry
listed_for [] children = []
listed_for (entry ∷ new) no_child = []
listed_for (entry ∷ new) (with_child d children) = record { name = entry.name; dag = d } ∷ listed_for new children

-- a sound directory of just these entries, of which this is told; its own blocks are the sections that were kept
pub record IsMadeDirectory (new : List NewEntry) (children : Children) (made : Made) (sections : List Section) (d : Dag) : Type 0 where
  pub sound : IsSound d
  pub lists : IsPermutation (listed_for new children) (entries d)
  pub blocks_are : (section : Section) → Contains (blocks d) section
      → Contains sections section ⊎ Contains (blocks_of_children children) section
  pub own_blocks : (section : Section) → Contains sections section → Contains (blocks d) section
  pub plain : All HasPlainCid sections
  pub cid : made.cid ≡ root_cid d
  pub content_is : made.content ≡ 0
  pub tsize : made.tsize ≡ tsize_of d

-- each DAG is in the importer's layout
abbrev pub AreLaidOut : LayoutOptions → Children → Type 0
AreLaidOut options no_child = ⊤
AreLaidOut options (with_child d children) = IsLaidAt options top d × AreLaidOut options children

-- and one that is sharded, in the importer's layout where it is heavy enough
pub record IsMadeSharded (new : List NewEntry) (children : Children) (made : Made) (sections : List Section) (d : Dag) : Type 0 where
  pub directory : IsMadeDirectory new children made sections d
  pub section : Section
  pub slots : List Slot
  pub below : Children
  pub sharded : d ≡ node section (Shard slots) below
  pub laid : (options : LayoutOptions) → AreLaidOut options children → IsShardAt options top (entries d)
      → IsLaidAt options top d

-- two entries' names, in the order of their bytes, have one hash
pub record HaveSameHash (new : List NewEntry) (first second : List ℕ) : Type 0 where
  pub first_in : Contains (map (λ entry. entry.name) new) first
  pub second_in : Contains (map (λ entry. entry.name) new) second
  pub before : bytes_cmp first second ≡ Less
  pub same : name_hash first ≡ name_hash second

-- whatever the sound DAGs to which the entries lead: the sharded directory is made, each shard behind those to which it
-- links
pub record MakesSharded (new : List NewEntry) (made : Made) (keeping : Keeping) : Type 0 where
  pub sections : List Section
  pub keeps : Keeps sections keeping
  pub order : AreBehindLinks (entry_cids new) sections
  pub directory : (children : Children) → LeadTo new children → AreSound children
      → (d : Dag) × IsMadeSharded new children made sections d

-- a section of a shard that lists some of the entries and is sound behind some slots
pub record IsOfSharded (new : List NewEntry) (children : Children) (section : Section) : Type 0 where
  pub above : List ℕ
  pub shard : Dag
  pub whole : IsWhole shard
  pub checked : IsCheckedAt (child above) shard
  pub lists : All (Contains (listed_for new children)) (entries shard)
  pub has : Contains (shards_of shard) section

-- before a fault, sections of shards of some of the entries were kept
pub record StopsSharded (new : List NewEntry) (fault : KeepFault) (keeping : Keeping) : Type 0 where
  pub sections : List Section
  pub stops : StopsAfter sections fault keeping
  pub order : AreBehindLinks (entry_cids new) sections
  pub each : (children : Children) → LeadTo new children → AreSound children → All (IsOfSharded new children) sections

-- nothing was kept where two names have one hash; want of memory isn't wrapped
abbrev pub IsCause : List NewEntry → HamtFault → Keeping → Type 0
IsCause new (faults.SameHash first second) keeping = HaveSameHash new first second × Keeps [] keeping
IsCause new (faults.Keep fault) keeping = (fault ≡ Failed) × StopsSharded new Failed keeping
IsCause new faults.OutOfMemory keeping = StopsSharded new OutOfMemory keeping

-- a fault of the store was counted exactly where it failed itself
abbrev pub IsCountedBy : HamtFault → ℕ → ℕ → Type 0
IsCountedBy (faults.SameHash first second) before now = now ≡ before
IsCountedBy (faults.Keep fault) before now = Rose before now
IsCountedBy faults.OutOfMemory before now = now ≡ before

-- the answer where two names have one hash: that, or want of memory
abbrev pub IsSameHashFault : HamtFault → Type 0
IsSameHashFault (faults.SameHash first second) = ⊤
IsSameHashFault (faults.Keep fault) = ⊥
IsSameHashFault faults.OutOfMemory = ⊤

-- the fault of these two names, or want of memory
abbrev pub IsNamePair : List ℕ → List ℕ → HamtFault → Type 0
IsNamePair a b (faults.SameHash first second) = (first ≡ a) × (second ≡ b)
IsNamePair a b (faults.Keep fault) = ⊥
IsNamePair a b faults.OutOfMemory = ⊤

-- the fault of these two names, in the order of their bytes, or want of memory
abbrev pub IsPairFault : List ℕ → List ℕ → HamtFault → Type 0
IsPairFault a b fault =
    ((bytes_cmp a b ≡ Less) × IsNamePair a b fault) ⊎ ((bytes_cmp b a ≡ Less) × IsNamePair b a fault)
