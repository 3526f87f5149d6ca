-- The DAG of a file as it grows (UnixFS specification, File; the balanced layout is this project's own profile).
use Rattle.std.specs.List.{sum_by}
use Rattle.std.specs.Prelude.{All, List, Some, [], length, map, ℕ, ⊤, ◌*◌, ◌++◌, ◌+◌, ◌<◌, ◌∷◌, ◌≡◌, ◌≤◌}
use Rattle.tg_bytes.specs.Lists.{joined}
use Rattle.tg_cid.specs.declared.cid.Codec.TheVariants as codecs
use Rattle.tg_cid.specs.declared.cid.HashKind.TheVariants.{Sha256}
use Rattle.tg_filedag.specs.declared.subtree.Subtree.{Subtree}
use Rattle.tg_model.specs.Content.{content}
use Rattle.tg_model.specs.Dag.{Children, Dag, IsWhole, Section, bare, blocks, no_child, node, root_cid, unopened}
use Rattle.tg_model.specs.Dag.{with_child}
use Rattle.tg_model.specs.ImportLayout.{AreFull, HasLeavesAt, HasPlainCid, IsLaidAt, LayoutOptions, file_unix, leaves}
use Rattle.tg_model.specs.ImportLayout.{level_widths, tsize_of}
use Rattle.tg_model.specs.Sound.{IsCheckedAt, part}
use Rattle.tg_model.specs.declared.kinds.Kind.{Kind}
use Rattle.tg_model.specs.declared.kinds.Kind.TheVariants.{File, Raw}
use Rattle.tg_model.specs.declared.kinds.Made.{Made}
use Rattle.tg_model.specs.declared.kinds.NewEntry.{NewEntry}
use Rattle.tg_model.specs.declared.kinds.Part.{Part}
use Rattle.tg_node_writing.specs.BlockOrder.{AreBehindLinks}
use Rattle.tg_node_writing.specs.Keeping.{section_of}
use Rattle.tg_node_writing.specs.Nodes.{IsNodeOf}

-- ---- blocks

-- a chunk as a raw leaf, and what is told of it
abbrev pub leaf_of : List ℕ → Dag
leaf_of chunk = node (section_of codecs.Raw chunk) Raw no_child

abbrev pub leaf_made : List ℕ → Made
leaf_made chunk = record { cid = (section_of codecs.Raw chunk).cid; content = length chunk; tsize = length chunk }

-- the content and the Tsize of a link, its entry in the block of a node, and its part
abbrev pub content_in : Subtree → ℕ
content_in subtree = subtree.made.content

abbrev pub tsize_in : Subtree → ℕ
tsize_in subtree = subtree.made.tsize

abbrev pub entry_for : Subtree → NewEntry
entry_for subtree = record { name = []; cid = subtree.made.cid; tsize = subtree.made.tsize }

abbrev pub part_for : Subtree → Part
part_for subtree = record { cid = subtree.made.cid; size = subtree.made.content }

-- the block of a file's node over these links, and what is told of the node
abbrev pub IsFileBlock : List Subtree → List ℕ → Type 0
IsFileBlock links block =
    IsNodeOf (map entry_for links) (file_unix (sum_by content_in links) (map content_in links)) block

abbrev pub file_kind : List Subtree → Kind
file_kind links = File [] (Some (sum_by content_in links)) (map part_for links)

abbrev pub node_made : List Subtree → List ℕ → Made
node_made links block = record {
  cid = (section_of codecs.DagPb block).cid;
  content = sum_by content_in links;
  tsize = length block + sum_by tsize_in links;
}

-- a CID is of sha2-256
abbrev pub IsPlain : Subtree → Type 0
IsPlain subtree = subtree.made.cid.hash ≡ Sha256

-- ---- DAGs

-- the blocks of a DAG with their CIDs, each node's behind those below it
abbrev mutual
  pub bottom_up : Dag → List Section
  bottom_up (unopened cid) = []
  bottom_up (bare section fault) = section ∷ []
  bottom_up (node section kind children) = bottom_up_of_children children ++ section ∷ []

  pub bottom_up_of_children : Children → List Section
  bottom_up_of_children no_child = []
  bottom_up_of_children (with_child d children) = bottom_up d ++ bottom_up_of_children children

-- what is told of a DAG is its root's CID, its content's length and its Tsize
pub record IsMadeOf (made : Made) (d : Dag) : Type 0 where
  pub cid : made.cid ≡ root_cid d
  pub content_len : made.content ≡ length (content d)
  pub tsize : made.tsize ≡ tsize_of d

-- a part of a file: it is sound and written as the importer writes it, and its content are its leaves
pub record IsFilePart (d : Dag) : Type 0 where
  pub whole : IsWhole d
  pub checked : IsCheckedAt (part (length (content d))) d
  pub laid : (options : LayoutOptions) (size : ℕ) → IsLaidAt options (part size) d
  pub plain : All HasPlainCid (blocks d)
  pub content_is : content d ≡ joined (leaves d)

-- these DAGs are parts of a file
abbrev pub AreFileParts : Children → Type 0
AreFileParts no_child = ⊤
AreFileParts (with_child d children) = IsFilePart d × AreFileParts children

-- the sections are the blocks of parts of a file, each behind those to which it links
pub record AreOfFileParts (sections : List Section) : Type 0 where
  pub parts : Children
  pub each : AreFileParts parts
  pub are : bottom_up_of_children parts ≡ sections
  pub order : AreBehindLinks [] sections

-- every leaf is so many links below the root, and each node has `width` links
pub record IsFullTree (width height : ℕ) (d : Dag) : Type 0 where
  pub depth : HasLeavesAt height d
  pub widths : (level : ℕ) → All (λ n. n ≡ width) (level_widths d level)

-- every leaf is so many links below the root, each node but the last of its level has `width` links, and the last has
-- one at least
pub record IsFrontTree (width height : ℕ) (d : Dag) : Type 0 where
  pub depth : HasLeavesAt height d
  pub widths : (level : ℕ) → AreFull width (level_widths d level)
  pub linked : (level : ℕ) → All (λ n. 0 < n) (level_widths d level)

-- a subtree stands for a DAG that is full; its leaves bound its height, and its content and leaves its Tsize
pub record IsSubtree (width : ℕ) (subtree : Subtree) (d : Dag) : Type 0 where
  pub made : IsMadeOf subtree.made d
  pub is_part : IsFilePart d
  pub full : IsFullTree width subtree.height d
  pub many : subtree.height < length (leaves d)
  pub light : tsize_of d + 524288 ≤ length (content d) + 524288 * length (leaves d)

-- the last subtree of a file stands for a DAG that may not be full
pub record IsLastSubtree (width : ℕ) (subtree : Subtree) (d : Dag) : Type 0 where
  pub made : IsMadeOf subtree.made d
  pub is_part : IsFilePart d
  pub front : IsFrontTree width subtree.height d
  pub some : 0 < length (leaves d)
  pub light : tsize_of d ≤ length (content d) + 524288 * (length (leaves d) + subtree.height)

-- subtrees stand for these DAGs, one by one, and the last as the relation says
abbrev pub AreTrees : (Subtree → Dag → Type 0) → ℕ → List Subtree → Children → Type 0
AreTrees Last width [] no_child = ⊤
AreTrees Last width (subtree ∷ []) (with_child d no_child) = Last subtree d
AreTrees Last width (subtree ∷ next ∷ subtrees) (with_child d children) =
    IsSubtree width subtree d × AreTrees Last width (next ∷ subtrees) children
AreTrees Last width _ _ = ⊥
