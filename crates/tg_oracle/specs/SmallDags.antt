-- Small DAGs: parts of no length and equal ones, a symbolic link, shards. Their definitions look at kinds and children
-- alone, so the blocks of nodes are left empty, and a CID's digest is one number.
use Rattle.std.specs.Prelude.{ℕ, List, [], ◌∷◌, Option, Some, None, false, true, codes}
use Rattle.tg_cid.specs.declared.cid.Codec.TheVariants as codecs
use Rattle.tg_model.specs.Dag.{Dag, Section, with_child, no_child, node, unopened}
use Rattle.tg_oracle.specs.HelloWorld.{cid_with}
use Rattle.tg_model.specs.Queries.{QueryParts, SpanParts}
use Rattle.tg_model.specs.declared.kinds.Kind.TheVariants.{Basic, File, Raw, Shard, Symlink}
use Rattle.tg_model.specs.declared.kinds.Slot.{Slot}
use Rattle.tg_cid.specs.declared.cid.HashKind.TheVariants.{Identity}
use Rattle.tg_model.specs.declared.queries.Form.TheVariants.{Car}
use Rattle.tg_model.specs.declared.queries.Form.TheVariants as forms
use Rattle.tg_model.specs.declared.queries.Scope.TheVariants as scopes
use Rattle.tg_model.specs.declared.queries.Scope.{Scope}
use Rattle.tg_model.specs.declared.queries.SpanFrom.TheVariants.{Start, Last}

-- the CID with this number; a raw block under it, and the block of a node
abbrev pub raw_with : ℕ → List ℕ → Section
raw_with number block = record { cid = cid_with codecs.Raw (number ∷ []); block = block }

abbrev pub node_with : ℕ → Section
node_with number = record { cid = cid_with codecs.DagPb (number ∷ []); block = [] }

-- the same block under the CIDv0
abbrev pub with_version_zero : Section → Section
with_version_zero section = record { cid = record section.cid { version = 0 }; block = section.block }

-- the same block under its identity CID, whose digest it is
abbrev pub with_own_digest : Section → Section
with_own_digest section = record { cid = record section.cid { hash = Identity; digest = section.block }; block = section.block }

abbrev pub raw_leaf : Section → Dag
raw_leaf section = node section Raw no_child

-- a query under any root, with repeats
abbrev pub asking : List (List ℕ) → Scope → Option SpanParts → QueryParts
asking path scope span =
    record { root = (node_with 0).cid; path = path; form = Car; scope = scope; span = span; dups = true }

-- the same without repeats
abbrev pub asking_once : Scope → Option SpanParts → QueryParts
asking_once scope span = record (asking [] scope span) { dups = false }

-- a query for the raw block of a root
abbrev pub asking_raw : QueryParts
asking_raw = record (asking [] scopes.Block None) { form = forms.Raw }

-- the bytes 2 to 5, and the last no bytes
abbrev pub two_to_five : SpanParts
two_to_five = record { from = Start 2; to = Some 5 }

abbrev pub no_bytes : SpanParts
no_bytes = record { from = Last 0; to = None }

-- ---- a file of `hell`, nothing and `hell` again

abbrev pub hell : Section
hell = raw_with 1 (codes "hell")

abbrev pub nothing : Section
nothing = raw_with 2 []

abbrev pub twins : Section
twins = node_with 3

abbrev pub twin_file : Dag
twin_file =
    node twins (File [] None (record { cid = hell.cid; size = 4 } ∷ record { cid = nothing.cid; size = 0 } ∷ record { cid = hell.cid; size = 4 } ∷ []))
    (with_child (raw_leaf hell) (with_child (raw_leaf nothing) (with_child (raw_leaf hell) no_child)))

-- ---- a symbolic link to `far`, in a directory as `l`

abbrev pub link : Section
link = node_with 4

abbrev pub link_dag : Dag
link_dag = node link (Symlink (codes "far")) no_child

abbrev pub folder : Section
folder = node_with 5

abbrev pub folder_dag : Dag
folder_dag = node folder (Basic (record { name = codes "l"; cid = link.cid } ∷ record { name = codes "f"; cid = twins.cid } ∷ [])) (with_child link_dag (with_child twin_file no_child))

-- ---- a shard with the one entry `hello`, whose slot is CB

abbrev pub one_shard : Section
one_shard = node_with 6

abbrev pub one_shard_slots : List Slot
one_shard_slots = record { slot = 0xCB; name = Some (codes "hello"); cid = hell.cid } ∷ []

abbrev pub one_shard_dag : Dag
one_shard_dag = node one_shard (Shard one_shard_slots) (with_child (raw_leaf hell) no_child)

-- ---- a shard with `m` in its slot 91 and a child in BC, which has `q` in 3E and `g` in 5D

abbrev pub parent : Section
parent = node_with 7

abbrev pub inner : Section
inner = node_with 8

abbrev pub inner_slots : List Slot
inner_slots = record { slot = 0x3E; name = Some (codes "q"); cid = hell.cid } ∷ record { slot = 0x5D; name = Some (codes "g"); cid = nothing.cid } ∷ []

abbrev pub inner_dag : Dag
inner_dag =
    node inner (Shard inner_slots)
    (with_child (raw_leaf hell) (with_child (raw_leaf nothing) no_child))

abbrev pub over_inner : Dag → Dag
over_inner d =
    node parent (Shard (record { slot = 0x91; name = Some (codes "m"); cid = twins.cid } ∷ record { slot = 0xBC; name = None; cid = inner.cid } ∷ []))
    (with_child (unopened twins.cid) (with_child d no_child))

abbrev pub parent_dag : Dag
parent_dag = over_inner inner_dag
