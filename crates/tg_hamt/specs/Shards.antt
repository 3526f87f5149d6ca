-- The shards of a directory (UnixFS specification, HAMTDirectory).
use Rattle.std.specs.Prelude.{All, Contains, List, None, Option, Some, [], length, map, ℕ, ◌*◌, ◌++◌, ◌+◌, ◌-◌, ◌∷◌}
use Rattle.std.specs.Prelude.{◌≡◌, ◌⊎◌}
use Rattle.tg_hamt.specs.Order.{IsHashed, IsPassed, entry_at}
use Rattle.tg_hamt.specs.declared.order.Hashed.{Hashed}
use Rattle.tg_model.specs.Content.{DirEntry, entries_of_slots}
use Rattle.tg_model.specs.Dag.{AreWhole, Children, Dag, Section, bare, blocks, blocks_of_children, no_child, node}
use Rattle.tg_model.specs.Dag.{root_cid, unopened, with_child}
use Rattle.tg_model.specs.ImportLayout.{AreLaidAt, HasPlainCid, IsLaidAt, IsShardWritten, LayoutOptions, tsize_of}
use Rattle.tg_model.specs.ImportLayout.{tsizes_of}
use Rattle.tg_model.specs.Sound.{AreCheckedAt, IsNodeAt, IsSound, child, slot_position, top}
use Rattle.tg_model.specs.Stores.{Keeping}
use Rattle.tg_model.specs.declared.kinds.Kind.TheVariants.{Basic, File, Raw, Shard, Symlink}
use Rattle.tg_model.specs.declared.kinds.Made.{Made}
use Rattle.tg_model.specs.declared.kinds.NewEntry.{NewEntry}
use Rattle.tg_model.specs.declared.kinds.Slot.{Slot}
use Rattle.tg_model.specs.declared.stores.KeepFault.{KeepFault}
use Rattle.tg_node_writing.specs.BlockOrder.{AreBehindLinks, cids_of, entry_cids}
use Rattle.tg_node_writing.specs.Keeping.{Keeps, StopsAfter}

-- the blocks of a directory's shards with their CIDs, each behind those of its child shards
abbrev pub in_child : Option (List ℕ) → List Section → List Section
in_child (Some name) sections = []
in_child None sections = sections

abbrev mutual
  pub shards_of : Dag → List Section
  shards_of (unopened cid) = []
  shards_of (bare section fault) = []
  shards_of (node section Raw children) = []
  shards_of (node section (File inline filesize parts) children) = []
  shards_of (node section (Basic es) children) = []
  shards_of (node section (Shard slots) children) = shards_of_slots slots children ++ section ∷ []
  shards_of (node section (Symlink target) children) = []

  pub shards_of_slots : List Slot → Children → List Section
  shards_of_slots slots no_child = []
  shards_of_slots [] (with_child d children) = []
  shards_of_slots (slot ∷ slots) (with_child d children) =
      in_child slot.name (shards_of d) ++ shards_of_slots slots children

-- the entry with this index leads to its DAG, which is sound
pub record LeadsTo (entries : List NewEntry) (dags : ℕ → Dag) (item : Hashed) : Type 0 where
  pub cid : (entry_at entries item.index).cid ≡ root_cid (dags item.index)
  pub tsize : (entry_at entries item.index).tsize ≡ tsize_of (dags item.index)
  pub sound : IsSound (dags item.index)

-- what a directory lists for it
abbrev pub listed_as : List NewEntry → (ℕ → Dag) → Hashed → DirEntry
listed_as entries dags item = record { name = (entry_at entries item.index).name; dag = dags item.index }

-- the DAGs are in the importer's layout
abbrev pub AreLaidIn : LayoutOptions → (ℕ → Dag) → List Hashed → Type 0
AreLaidIn options dags order = All (λ item. IsLaidAt options top (dags item.index)) order

-- the block is one of the DAGs to which these entries lead
pub record IsBelow (dags : ℕ → Dag) (order : List Hashed) (section : Section) : Type 0 where
  pub item : Hashed
  pub among : Contains order item
  pub has : Contains (blocks (dags item.index)) section

-- a shard behind these slots that lists just these entries: it is sound there, written as the importer writes it, and
-- its sections are those that were kept
pub record IsMadeShard (entries : List NewEntry) (dags : ℕ → Dag) (order : List Hashed) (above : List ℕ) (made : Made) (sections : List Section) : Type 0 where
  pub among : All (IsHashed entries) order
  pub section : Section
  pub slots : List Slot
  pub children : Children
  pub cid_is : made.cid ≡ section.cid
  pub content_is : made.content ≡ 0
  pub tsize_is : made.tsize ≡ length section.block + tsizes_of children
  pub whole : AreWhole children
  pub stands : IsNodeAt (child above) section (Shard slots) children
  pub checked : AreCheckedAt (map (slot_position above) slots) children
  pub listed : entries_of_slots slots children ≡ map (listed_as entries dags) order
  pub sections_are : shards_of_slots slots children ++ section ∷ [] ≡ sections
  pub blocks_are : (s : Section) → Contains (section ∷ blocks_of_children children) s
      → Contains sections s ⊎ IsBelow dags order s
  pub own_blocks : (s : Section) → Contains sections s → Contains (section ∷ blocks_of_children children) s
  pub plain : All HasPlainCid sections
  pub written : IsShardWritten section.block slots children
  pub laid : (options : LayoutOptions) → AreLaidIn options dags order
      → AreLaidAt options (map (slot_position above) slots) children

-- whatever the DAGs to which the entries lead: the shard at a level is made, its block with the others, each behind
-- those to which it links
pub record MakesShard (entries : List NewEntry) (order : List Hashed) (level : ℕ) (made : Made) (keeping : Keeping) : Type 0 where
  pub sections : List Section
  pub keeps : Keeps sections keeping
  pub behind_links : AreBehindLinks (entry_cids entries) sections
  pub root : Contains (cids_of sections) made.cid
  pub shard : (dags : ℕ → Dag) (above : List ℕ) → All (LeadsTo entries dags) order → length above ≡ level
      → IsPassed above order → IsMadeShard entries dags order above made sections

-- a section of a shard of some of the entries
pub record IsOfShard (entries : List NewEntry) (dags : ℕ → Dag) (section : Section) : Type 0 where
  pub order : List Hashed
  pub above : List ℕ
  pub made : Made
  pub sections : List Section
  pub shard : IsMadeShard entries dags order above made sections
  pub has : Contains sections section

-- before a fault, sections of shards of some of the entries were kept
pub record StopsShard (entries : List NewEntry) (order : List Hashed) (level : ℕ) (fault : KeepFault) (keeping : Keeping) : Type 0 where
  pub sections : List Section
  pub stops : StopsAfter sections fault keeping
  pub behind_links : AreBehindLinks (entry_cids entries) sections
  pub each : (dags : ℕ → Dag) (above : List ℕ) → All (LeadsTo entries dags) order → length above ≡ level
      → IsPassed above order → All (IsOfShard entries dags) sections

-- how many bytes the shards of so many entries have at most, from this level on
abbrev pub shard_room : ℕ → ℕ → ℕ
shard_room level number = 131072 + 131072 * (7 - level) * number
