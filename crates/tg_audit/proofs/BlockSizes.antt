-- How many bytes the block of a node that is laid out has at most.
use Rattle.std.proofs.Common.{All, List, Some, [], ap, arith, inl, inr, length, subst, ℕ, ◌*◌, ◌++◌, ◌+◌, ◌∷◌, ◌≡◌, ◌≢◌, ◌≤◌}
use Rattle.std.proofs.lemmas.List.Elements.{All-cons, All-head, All-nil, All-tail}
use Rattle.std.proofs.lemmas.List.Sums.{sum_by-cons}
use Rattle.std.specs.List.{sum_by}
use Rattle.tg_cid.specs.Cid.{CidParts}
use Rattle.tg_cid.specs.declared.cid.Codec.{Codec}
use Rattle.tg_cid.specs.declared.cid.Codec.TheVariants as codecs
use Rattle.tg_cid.specs.declared.cid.HashKind.TheVariants.{Sha256}
use Rattle.tg_dagpb.specs.Node.{NodeText}
use Rattle.tg_dagpb.specs.declared.Link.{Link}
use Rattle.tg_dagpb.specs.declared.Node.{Node}
use Rattle.tg_model.specs.Dag.{AreWhole, Children, Dag, IsWhole, bare, blocks, blocks_of_children, no_child, node, root_cid, unopened, with_child}
use Rattle.tg_model.specs.ImportLayout.{AreLinks, HasPlainCid, IsWritten, shard_unix, tsize_of}
use Rattle.tg_model.specs.Reading.{Reads, ReadsNode, ReadsUnder, inline_of}
use Rattle.tg_model.specs.declared.kinds.Kind.{Kind}
use Rattle.tg_model.specs.declared.kinds.Kind.TheVariants.{Raw, Shard}
use Rattle.tg_model.specs.declared.kinds.NewEntry.{NewEntry}
use Rattle.tg_model.specs.declared.kinds.Slot.{Slot}
use Rattle.tg_node_writing.specs.Nodes.{AreLinksFor, IsNodeOf, IsOfSha256, link_room, node_room}
use Rattle.tg_unixfs.specs.Unix.{UnixText}
use Rattle.tg_unixfs.specs.declared.Unix.{Unix}

-- the laws of nodes' texts that the crates below state
pub record BlockLaws : Type 0 where
  pub room : (entries : List NewEntry) (unix : Unix) (block : List ℕ) → IsNodeOf entries unix block → All IsOfSha256 entries
      → length block ≤ node_room entries unix
  pub one_node : (a b : Node) (text : List ℕ) → NodeText a text → NodeText b text → a ≡ b
  pub one_unix : (a b : Unix) (text : List ℕ) → UnixText a text → UnixText b text → a ≡ b

-- ---- what holds of all

pub all_left : {X : Type 0} (P : X → Type 0) (xs ys : List X) → All P (xs ++ ys) → All P xs
all_left P [] ys h = All-nil P
all_left P (x ∷ xs) ys h = All-cons P x xs (All-head P x (xs ++ ys) h) (all_left P xs ys (All-tail P x (xs ++ ys) h))

pub all_right : {X : Type 0} (P : X → Type 0) (xs ys : List X) → All P (xs ++ ys) → All P ys
all_right P [] ys h = h
all_right P (x ∷ xs) ys h = all_right P xs ys (All-tail P x (xs ++ ys) h)

-- ---- links

-- how many bytes the links of these names take at most
abbrev pub names_room : List (List ℕ) → ℕ
names_room [] = 0
names_room (name ∷ names) = length name + 71 + names_room names

abbrev entries_for : List (List ℕ) → Children → List NewEntry
entries_for [] children = []
entries_for (name ∷ names) no_child = []
entries_for (name ∷ names) (with_child d children) = record { name = name; cid = root_cid d; tsize = tsize_of d } ∷ entries_for names children

links_for : (names : List (List ℕ)) (children : Children) (links : List Link) → AreLinks names children links
    → AreLinksFor (entries_for names children) links
links_for [] no_child [] h = tt
links_for [] no_child (l ∷ links) h = absurd h
links_for (name ∷ names) (with_child d children) [] h = absurd h
links_for (name ∷ names) (with_child d children) (l ∷ links) h = ((h.0, h.1, h.2), links_for names children links h.3)
links_for _ _ _ h = absurd h

entries_room : (names : List (List ℕ)) (children : Children) → sum_by link_room (entries_for names children) ≤ names_room names
entries_room [] children = omega arith
entries_room (name ∷ names) no_child = omega arith
entries_room (name ∷ names) (with_child d children) =
    let first = sum_by-cons link_room (record { name = name; cid = root_cid d; tsize = tsize_of d }) (entries_for names children) in
    let rest = entries_room names children in
    omega (arith, first, rest)

plain_root : (d : Dag) → IsWhole d → All HasPlainCid (blocks d) → (root_cid d).hash ≡ Sha256
plain_root (unopened cid) whole plain = absurd whole
plain_root (bare section fault) whole plain = absurd whole
plain_root (node section kind children) whole plain = (All-head HasPlainCid section (blocks_of_children children) plain).1

plain_roots : (names : List (List ℕ)) (children : Children) → AreWhole children → All HasPlainCid (blocks_of_children children)
    → All IsOfSha256 (entries_for names children)
plain_roots [] children whole plain = All-nil IsOfSha256
plain_roots (name ∷ names) no_child whole plain = All-nil IsOfSha256
plain_roots (name ∷ names) (with_child d children) whole plain =
    All-cons IsOfSha256 (record { name = name; cid = root_cid d; tsize = tsize_of d }) (entries_for names children)
    (plain_root d whole.0 (all_left HasPlainCid (blocks d) (blocks_of_children children) plain))
    (plain_roots names children whole.1 (all_right HasPlainCid (blocks d) (blocks_of_children children) plain))

-- ---- blocks

pub block_fits : BlockLaws → (block : List ℕ) (names : List (List ℕ)) (children : Children) (unix : Unix) → IsWritten block names children unix
    → AreWhole children
    → All HasPlainCid (blocks_of_children children) → length block ≤ names_room names + 11 * length unix.sizes + length (inline_of unix) + 66
block_fits laws block names children unix w whole plain =
    let fits = laws.room (entries_for names children) unix block
    (record { links = w.links; payload = w.payload; text = w.text; unix_is = w.unix_is; links_are = links_for names children w.links w.links_are })
    (plain_roots names children whole plain) in
    let links = entries_room names children in
    omega (arith, fits, links)

-- what is written is read
read_unix : BlockLaws → (block : List ℕ) (kind : Kind) (names : List (List ℕ)) (children : Children) (unix : Unix)
    → (r : ReadsNode block kind) → IsWritten block names children unix → r.unix ≡ unix
read_unix laws block kind names children unix r w =
    let nodes : ◌≡◌ {A = Node} (record { links = r.links; payload = Some r.node.payload }) (record { links = w.links; payload = Some w.payload }) =
    laws.one_node (record { links = r.links; payload = Some r.node.payload })
    (record { links = w.links; payload = Some w.payload }) block r.node.node w.text.is_text in
    let both : Some r.node.payload ≡ Some w.payload = ap (λ (n : Node). n.payload) nodes in
    let payload : r.node.payload ≡ w.payload = cc in
    laws.one_unix r.unix unix w.payload (subst (λ (p : List ℕ). UnixText r.unix p) payload r.node.unix_is) w.unix_is.is_text

-- a node that isn't raw is a DAG-PB node
pub reads_node : (cid : CidParts) (block : List ℕ) (kind : Kind) → kind ≢ Raw → Reads cid block kind → ReadsNode block kind
reads_node cid block kind other reads = by cid.codec reads
  where
    by : (codec : Codec) → ReadsUnder codec block kind → ReadsNode block kind
    by codecs.Raw r = absurd (other r)
    by codecs.DagPb r = r

-- the bits of a shard
pub few_bits : BlockLaws → (cid : CidParts) (block : List ℕ) (slots : List Slot) (names : List (List ℕ)) (children : Children) (bits : List ℕ)
    → Reads cid block (Shard slots)
    → IsWritten block names children (shard_unix bits) → length bits ≤ 32
few_bits laws cid block slots names children bits reads w =
    let r = reads_node cid block (Shard slots) (λ e. cc e) reads in
    let unix = read_unix laws block (Shard slots) names children (shard_unix bits) r w in
    elim r.reads [
      | inl file ↦ let e = file.kind_is in absurd (cc)
      | inr (inl basic) ↦ let e = basic.kind_is in absurd (cc)
      | inr (inr (inl shard)) ↦
          let same : length (inline_of r.unix) ≡ length bits = ap (λ (u : Unix). length (inline_of u)) unix in
          let few = shard.few in
          omega (arith, same, few)
      | inr (inr (inr link)) ↦ let e = link.kind_is in absurd (cc)
    ]
