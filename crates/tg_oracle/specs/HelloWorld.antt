-- The worked example: the file `hello world` in parts of 4 bytes, as the entry `h` of a directory. D is the directory,
-- F the file's root, and L1, L2 and L3 are its leaves. Blocks and CIDs are those that any UnixFS writer gives for this
-- layout.
use Rattle.std.specs.Prelude.{ℕ, List, [], ◌∷◌, Option, Some, None, true, codes, bytes_eq, if◌then◌else◌, ◌≡◌}
use Rattle.tg_cid.specs.Cid.{CidParts}
use Rattle.tg_cid.specs.Names.{Names}
use Rattle.tg_cid.specs.declared.cid.Codec.{Codec}
use Rattle.tg_cid.specs.declared.cid.Codec.TheVariants as codecs
use Rattle.tg_cid.specs.declared.cid.HashKind.TheVariants.{Sha256}
use Rattle.tg_tree.specs.Tree.{bytes_of, entries_of, sort_of}
use Rattle.tg_tree.specs.declared.items.Sort.TheVariants as sorts
use Rattle.tg_tree.specs.declared.tree.Tree.{Tree}
use Rattle.tg_model.specs.Dag.{Dag, Section, with_child, no_child, node, unopened}
use Rattle.tg_model.specs.ImportLayout.{LayoutOptions}
use Rattle.tg_model.specs.PathWalk.{Spot}
use Rattle.tg_model.specs.Queries.{QueryParts, SpanParts}
use Rattle.tg_model.specs.Sound.{part}
use Rattle.tg_model.specs.Stores.{Store}
use Rattle.tg_model.specs.declared.kinds.Kind.{Kind}
use Rattle.tg_model.specs.declared.kinds.Kind.TheVariants.{Basic, File, Raw}
use Rattle.tg_model.specs.declared.queries.Form.TheVariants.{Car}
use Rattle.tg_model.specs.declared.queries.Scope.{Scope}
use Rattle.tg_model.specs.declared.queries.SpanFrom.TheVariants.{Start, Last}

-- the digests of the blocks
abbrev pub l1_digest : List ℕ
l1_digest =
    0x0e ∷ 0xbd ∷ 0xc3 ∷ 0x31 ∷ 0x7b ∷ 0x75 ∷ 0x83 ∷ 0x9f ∷ 0x64 ∷ 0x33 ∷ 0x87 ∷ 0xd7 ∷ 0x83 ∷ 0x53 ∷ 0x5a ∷ 0xdc ∷ 0x36 ∷
    0x0c ∷ 0xa0 ∷ 0x1f ∷ 0x33 ∷ 0xc7 ∷ 0x5f ∷ 0x7c ∷ 0x1e ∷ 0x73 ∷ 0x73 ∷ 0xad ∷ 0xcd ∷ 0x67 ∷ 0x5c ∷ 0x0b ∷ []

abbrev pub l2_digest : List ℕ
l2_digest =
    0x8a ∷ 0xf8 ∷ 0xe6 ∷ 0x62 ∷ 0xa3 ∷ 0xb2 ∷ 0x51 ∷ 0xef ∷ 0x02 ∷ 0xd2 ∷ 0xed ∷ 0x85 ∷ 0x74 ∷ 0x55 ∷ 0x35 ∷ 0x08 ∷ 0x6a ∷
    0xf7 ∷ 0x7a ∷ 0xa1 ∷ 0xac ∷ 0x63 ∷ 0xa4 ∷ 0xf5 ∷ 0xf8 ∷ 0x00 ∷ 0xf5 ∷ 0x01 ∷ 0xc8 ∷ 0xe5 ∷ 0xd0 ∷ 0x93 ∷ []

abbrev pub l3_digest : List ℕ
l3_digest =
    0x85 ∷ 0xc7 ∷ 0x6d ∷ 0xca ∷ 0xe2 ∷ 0x29 ∷ 0x9d ∷ 0x22 ∷ 0x35 ∷ 0xc7 ∷ 0x93 ∷ 0xfe ∷ 0x34 ∷ 0x25 ∷ 0xbd ∷ 0x88 ∷ 0x37 ∷
    0x6f ∷ 0x5c ∷ 0x47 ∷ 0x21 ∷ 0xcf ∷ 0xdd ∷ 0xc1 ∷ 0xc9 ∷ 0xa9 ∷ 0xc4 ∷ 0x52 ∷ 0xc2 ∷ 0x0c ∷ 0x5d ∷ 0x33 ∷ []

abbrev pub f_digest : List ℕ
f_digest =
    0xc7 ∷ 0x66 ∷ 0x68 ∷ 0xe5 ∷ 0x3e ∷ 0x99 ∷ 0xc1 ∷ 0xdd ∷ 0xa6 ∷ 0xa1 ∷ 0xa7 ∷ 0x36 ∷ 0x02 ∷ 0xfc ∷ 0x08 ∷ 0xfe ∷ 0x04 ∷
    0xd4 ∷ 0x70 ∷ 0xb7 ∷ 0x4e ∷ 0xef ∷ 0xc5 ∷ 0xb3 ∷ 0xaf ∷ 0x04 ∷ 0x8e ∷ 0x8e ∷ 0xd9 ∷ 0x93 ∷ 0x37 ∷ 0x5e ∷ []

abbrev pub d_digest : List ℕ
d_digest =
    0xf3 ∷ 0x1c ∷ 0xe8 ∷ 0xdb ∷ 0x4f ∷ 0x52 ∷ 0xbf ∷ 0xe1 ∷ 0x5b ∷ 0x0c ∷ 0x4a ∷ 0x69 ∷ 0xdb ∷ 0x68 ∷ 0x92 ∷ 0x61 ∷ 0x0f ∷
    0x32 ∷ 0xc4 ∷ 0xa0 ∷ 0x88 ∷ 0x91 ∷ 0x3f ∷ 0xf2 ∷ 0x06 ∷ 0x7c ∷ 0x7c ∷ 0x2e ∷ 0x10 ∷ 0x05 ∷ 0x0c ∷ 0x2e ∷ []

-- the CIDv1 with sha2-256
abbrev pub cid_with : Codec → List ℕ → CidParts
cid_with codec digest = record { version = 1; codec = codec; hash = Sha256; digest = digest }

abbrev pub l1_cid : CidParts
l1_cid = cid_with codecs.Raw l1_digest

abbrev pub l2_cid : CidParts
l2_cid = cid_with codecs.Raw l2_digest

abbrev pub l3_cid : CidParts
l3_cid = cid_with codecs.Raw l3_digest

abbrev pub f_cid : CidParts
f_cid = cid_with codecs.DagPb f_digest

abbrev pub d_cid : CidParts
d_cid = cid_with codecs.DagPb d_digest

-- the blocks of F and D
abbrev pub f_block : List ℕ
f_block =
    0x12 ∷ 0x2a ∷ 0x0a ∷ 0x24 ∷ 0x01 ∷ 0x55 ∷ 0x12 ∷ 0x20 ∷ 0x0e ∷ 0xbd ∷ 0xc3 ∷ 0x31 ∷ 0x7b ∷ 0x75 ∷ 0x83 ∷ 0x9f ∷ 0x64 ∷
    0x33 ∷ 0x87 ∷ 0xd7 ∷ 0x83 ∷ 0x53 ∷ 0x5a ∷ 0xdc ∷ 0x36 ∷ 0x0c ∷ 0xa0 ∷ 0x1f ∷ 0x33 ∷ 0xc7 ∷ 0x5f ∷ 0x7c ∷ 0x1e ∷ 0x73 ∷
    0x73 ∷ 0xad ∷ 0xcd ∷ 0x67 ∷ 0x5c ∷ 0x0b ∷ 0x12 ∷ 0x00 ∷ 0x18 ∷ 0x04 ∷ 0x12 ∷ 0x2a ∷ 0x0a ∷ 0x24 ∷ 0x01 ∷ 0x55 ∷ 0x12 ∷
    0x20 ∷ 0x8a ∷ 0xf8 ∷ 0xe6 ∷ 0x62 ∷ 0xa3 ∷ 0xb2 ∷ 0x51 ∷ 0xef ∷ 0x02 ∷ 0xd2 ∷ 0xed ∷ 0x85 ∷ 0x74 ∷ 0x55 ∷ 0x35 ∷ 0x08 ∷
    0x6a ∷ 0xf7 ∷ 0x7a ∷ 0xa1 ∷ 0xac ∷ 0x63 ∷ 0xa4 ∷ 0xf5 ∷ 0xf8 ∷ 0x00 ∷ 0xf5 ∷ 0x01 ∷ 0xc8 ∷ 0xe5 ∷ 0xd0 ∷ 0x93 ∷ 0x12 ∷
    0x00 ∷ 0x18 ∷ 0x04 ∷ 0x12 ∷ 0x2a ∷ 0x0a ∷ 0x24 ∷ 0x01 ∷ 0x55 ∷ 0x12 ∷ 0x20 ∷ 0x85 ∷ 0xc7 ∷ 0x6d ∷ 0xca ∷ 0xe2 ∷ 0x29 ∷
    0x9d ∷ 0x22 ∷ 0x35 ∷ 0xc7 ∷ 0x93 ∷ 0xfe ∷ 0x34 ∷ 0x25 ∷ 0xbd ∷ 0x88 ∷ 0x37 ∷ 0x6f ∷ 0x5c ∷ 0x47 ∷ 0x21 ∷ 0xcf ∷ 0xdd ∷
    0xc1 ∷ 0xc9 ∷ 0xa9 ∷ 0xc4 ∷ 0x52 ∷ 0xc2 ∷ 0x0c ∷ 0x5d ∷ 0x33 ∷ 0x12 ∷ 0x00 ∷ 0x18 ∷ 0x03 ∷ 0x0a ∷ 0x0a ∷ 0x08 ∷ 0x02 ∷
    0x18 ∷ 0x0b ∷ 0x20 ∷ 0x04 ∷ 0x20 ∷ 0x04 ∷ 0x20 ∷ 0x03 ∷ []

abbrev pub d_block : List ℕ
d_block =
    0x12 ∷ 0x2c ∷ 0x0a ∷ 0x24 ∷ 0x01 ∷ 0x70 ∷ 0x12 ∷ 0x20 ∷ 0xc7 ∷ 0x66 ∷ 0x68 ∷ 0xe5 ∷ 0x3e ∷ 0x99 ∷ 0xc1 ∷ 0xdd ∷ 0xa6 ∷
    0xa1 ∷ 0xa7 ∷ 0x36 ∷ 0x02 ∷ 0xfc ∷ 0x08 ∷ 0xfe ∷ 0x04 ∷ 0xd4 ∷ 0x70 ∷ 0xb7 ∷ 0x4e ∷ 0xef ∷ 0xc5 ∷ 0xb3 ∷ 0xaf ∷ 0x04 ∷
    0x8e ∷ 0x8e ∷ 0xd9 ∷ 0x93 ∷ 0x37 ∷ 0x5e ∷ 0x12 ∷ 0x01 ∷ 0x68 ∷ 0x18 ∷ 0x9b ∷ 0x01 ∷ 0x0a ∷ 0x02 ∷ 0x08 ∷ 0x01 ∷ []

-- the sections, and the kinds of F and D
abbrev pub l1 : Section
l1 = record { cid = l1_cid; block = codes "hell" }

abbrev pub l2 : Section
l2 = record { cid = l2_cid; block = codes "o wo" }

abbrev pub l3 : Section
l3 = record { cid = l3_cid; block = codes "rld" }

abbrev pub f : Section
f = record { cid = f_cid; block = f_block }

abbrev pub d : Section
d = record { cid = d_cid; block = d_block }

abbrev pub f_kind : Kind
f_kind = File [] (Some 11) (record { cid = l1_cid; size = 4 } ∷ record { cid = l2_cid; size = 4 } ∷ record { cid = l3_cid; size = 3 } ∷ [])

abbrev pub d_kind : Kind
d_kind = Basic (record { name = codes "h"; cid = f_cid } ∷ [])

-- a leaf that is opened; the file over three places; the directory over the file
abbrev pub leaf : Section → Dag
leaf section = node section Raw no_child

abbrev pub file_of : Dag → Dag → Dag → Dag
file_of a b c = node f f_kind (with_child a (with_child b (with_child c no_child)))

abbrev pub directory_of : Dag → Dag
directory_of file = node d d_kind (with_child file no_child)

-- the whole DAG; with L2 alone of the leaves; with L1 alone; and with none
abbrev pub whole_dag : Dag
whole_dag = directory_of (file_of (leaf l1) (leaf l2) (leaf l3))

abbrev pub middle_dag : Dag
middle_dag = directory_of (file_of (unopened l1_cid) (leaf l2) (unopened l3_cid))

abbrev pub first_dag : Dag
first_dag = directory_of (file_of (leaf l1) (unopened l2_cid) (unopened l3_cid))

abbrev pub leafless_dag : Dag
leafless_dag = directory_of (file_of (unopened l1_cid) (unopened l2_cid) (unopened l3_cid))

-- where L2 stands: three blocks from D, as a part of 4 bytes
abbrev pub l2_spot : Spot
l2_spot = record { cid = l2_cid; depth = 3; position = part 4 }

-- each CID names its block
abbrev pub IsNamed : Section → Type 0
IsNamed section = Names section.cid section.block

abbrev pub all_sections : List Section
all_sections = d ∷ f ∷ l1 ∷ l2 ∷ l3 ∷ []

-- the block of the first section with this digest
abbrev pub held_in : List Section → List ℕ → Option (List ℕ)
held_in [] digest = None
held_in (section ∷ sections) digest =
    if bytes_eq section.cid.digest digest then Some section.block else held_in sections digest

-- a store that holds D, F and L2
abbrev pub holding : Store
holding cid = held_in (d ∷ f ∷ l2 ∷ []) cid.digest

-- the query for `h` under a scope and a range
abbrev pub query_for : List (List ℕ) → Scope → Option SpanParts → QueryParts
query_for path scope span = record { root = d_cid; path = path; form = Car; scope = scope; span = span; dups = true }

abbrev pub at_h : List (List ℕ)
at_h = codes "h" ∷ []

-- the bytes 5 to 6; 100 to 200; the last 3 bytes
abbrev pub five_to_six : SpanParts
five_to_six = record { from = Start 5; to = Some 6 }

abbrev pub past_the_end : SpanParts
past_the_end = record { from = Start 100; to = Some 200 }

abbrev pub last_three : SpanParts
last_three = record { from = Last 3; to = None }

-- a folder with just the entry `h`, a file with the bytes `hello world`
pub record IsHelloFolder (tree file : Tree) : Type 0 where
  pub folder : sort_of tree ≡ sorts.Folder
  pub entries : entries_of tree ≡ (codes "h", file) ∷ []
  pub bytes : bytes_of (Some file) ≡ Some (codes "hello world")

-- chunks of 4 bytes, at most 1,024 links a node, and directories in one block up to a weight of 262,144
abbrev pub options_of_four : LayoutOptions
options_of_four = record { chunk = 4; width = 1024; shard = 262144 }
