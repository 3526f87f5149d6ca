-- Laws of the parts of a file.
use Rattle.std.specs.Prelude.{All, Contains, Err, List, Ok, Some, length, take, ℕ, ◌*◌, ◌++◌, ◌<◌, ◌≡◌, ◌≤◌, ◌⊎◌}
use Rattle.tg_cid.specs.Cid.{CidParts}
use Rattle.tg_model.specs.Answer.{answer}
use Rattle.tg_model.specs.ByteRanges.{slice_of}
use Rattle.tg_model.specs.Computed.{read}
use Rattle.tg_model.specs.Content.{content}
use Rattle.tg_model.specs.Dag.{Dag, bare, blocks, node, root_cid, unopened}
use Rattle.tg_model.specs.Fits.{CollisionPair}
use Rattle.tg_model.specs.Queries.{QueryParts}
use Rattle.tg_model.specs.Sound.{IsSound}
use Rattle.tg_model.specs.Traversal.{block_list, opened_list}
use Rattle.tg_model.specs.declared.fault.BlockFault.{BlockFault}
use Rattle.tg_model.specs.declared.kinds.Kind.{Kind}
use Rattle.tg_model_laws.specs.FileSizes.{HasFileRoot, root_total}
use Rattle.tg_parts.specs.Connections.{AreAccepted, Connection, IsRootBlock, IsRootOfFile, WasAccepted, all_sections}
use Rattle.tg_parts.specs.Parts.{joined_to, part_count, part_query, part_span}

-- ---- slices

-- the slices of the first parts, joined, are a front of the bytes
abbrev pub SlicesJoin : Type 0
SlicesJoin = (size n : ℕ) (bytes : List ℕ) → 0 < size → joined_to (λ k. slice_of bytes (part_span size (length bytes) k)) n ≡ take (n * size) bytes

-- and those of all parts are all bytes
abbrev pub AllSlicesJoin : Type 0
AllSlicesJoin = (size : ℕ) (bytes : List ℕ) → 0 < size → joined_to (λ k. slice_of bytes (part_span size (length bytes) k)) (part_count size (length bytes)) ≡ bytes

-- the answer to the query for a part is the slice of the file
abbrev pub PartIsSlice : Type 0
PartIsSlice = (d : Dag) (size k : ℕ) → IsSound d → HasFileRoot d
    → answer (part_query (root_cid d) size (root_total d) k) d ≡ Some (slice_of (content d) (part_span size (root_total d) k))

-- ---- the root's block

-- the DAG's root is this block, of this kind
abbrev pub RootIs : Kind → List ℕ → Dag → Type 0
RootIs kind block (unopened cid) = ⊥
RootIs kind block (bare section fault) = ⊥
RootIs kind block (node section other children) = (kind ≡ other) × (section.block ≡ block)

-- what a block that is read, or isn't, says of a DAG
pub record SaysRoot (root : CidParts) (block : List ℕ) (d : Dag) : Type 0 where
  pub read_as : (kind : Kind) → read root block ≡ Ok kind → RootIs kind block d
  pub unread : (fault : BlockFault) → read root block ≡ Err fault → ⊥

-- the block that was accepted for the root's is that of each sound DAG, read as its kind; or a received block and one of the
-- DAG are different bytes with one SHA-256
abbrev pub RootIsRead : Type 0
RootIsRead = (root : CidParts) (connections : List Connection) (block : List ℕ) (d : Dag) → IsRootBlock root connections block → IsSound d
    → root_cid d ≡ root → SaysRoot root block d ⊎ CollisionPair (all_sections connections) d

-- so the number of bytes that it declares is the file's
pub record SaysTotal (total : ℕ) (d : Dag) : Type 0 where
  pub file : HasFileRoot d
  pub total_is : root_total d ≡ total
  pub length_is : length (content d) ≡ total

abbrev pub TotalIsTold : Type 0
TotalIsTold = (root : CidParts) (connections : List Connection) (total : ℕ) (d : Dag) → IsRootOfFile root connections total → IsSound d
    → root_cid d ≡ root → SaysTotal total d ⊎ CollisionPair (all_sections connections) d

-- and both stay so with further connections
abbrev pub RootsStay : Type 0
RootsStay = (connections more : List Connection) (root : CidParts) (block : List ℕ) → IsRootBlock root connections block → IsRootBlock root (connections ++ more) block

abbrev pub TotalsStay : Type 0
TotalsStay = (connections more : List Connection) (root : CidParts) (total : ℕ) → IsRootOfFile root connections total → IsRootOfFile root (connections ++ more) total

-- ---- what is written

-- a front of the content, and all of it once all parts are
pub record IsFrontByParts (size total n : ℕ) (written : List ℕ) (d : Dag) : Type 0 where
  pub says : SaysTotal total d
  pub rest : List ℕ
  pub front : content d ≡ written ++ rest
  pub all : part_count size total ≤ n → written ≡ content d

-- that is what accepted parts are, one behind another; or there is a pair
abbrev pub PartsAreContent : Type 0
PartsAreContent = (root : CidParts) (size total n : ℕ) (connections : List Connection) (written : List ℕ) (d : Dag) → 0 < size
    → IsRootOfFile root connections total → AreAccepted root size total connections n written → IsSound d → root_cid d ≡ root
    → IsFrontByParts size total n written d ⊎ CollisionPair (all_sections connections) d

-- what was accepted stays so with further connections
abbrev pub AcceptedStay : Type 0
AcceptedStay = (connections more : List Connection) (q : QueryParts) (text : List ℕ) → WasAccepted connections q text → WasAccepted (connections ++ more) q text

-- ---- a DAG's own traversal

-- the sections that a sound DAG's own traversal opens are blocks of it
abbrev pub OpenedAreBlocks : Type 0
OpenedAreBlocks = (q : QueryParts) (d : Dag) → IsSound d → root_cid d ≡ q.root → All (λ section. Contains (blocks d) section) (opened_list q d)

-- and so are those that it sends
abbrev pub OwnAreBlocks : Type 0
OwnAreBlocks = (q : QueryParts) (d : Dag) → IsSound d → root_cid d ≡ q.root → All (λ section. Contains (blocks d) section) (block_list q d)
