-- To which CIDs a node links that is written for entries.
use Rattle.std.proofs.Common.{◌≡◌, ◌⊎◌, inl, inr, ℕ, List, Some, [], ◌∷◌, refl, sym, ap, ap₂, subst, arith}
use Rattle.std.specs.Prelude.{All, Contains, map}
use Rattle.std.proofs.lemmas.List.Elements.{All-cons, All-nil, All-weaker, Contains-append_right}
use Rattle.tg_cid.specs.Cid.{CidParts}
use Rattle.tg_cid.specs.Laws.{OneSpelling}
use Rattle.tg_cid.specs.declared.cid.Codec.TheVariants as codecs
use Rattle.tg_cid.specs.declared.cid.Codec.{Codec}
use Rattle.tg_dagpb.specs.Node.{NodeText}
use Rattle.tg_dagpb.specs.declared.Link.{Link}
use Rattle.tg_dagpb.specs.declared.Node.{Node}
use Rattle.tg_model.specs.Dag.{links_of}
use Rattle.tg_model.specs.Reading.{AreCids, AreSlots, ReadsBasic, ReadsFile, ReadsNode, ReadsShard, ReadsSymlink, ReadsUnder, entries_of, inline_of, parts_of, used_slots}
use Rattle.tg_model.specs.declared.kinds.Entry.{Entry}
use Rattle.tg_model.specs.declared.kinds.Kind.{Kind}
use Rattle.tg_model.specs.declared.kinds.NewEntry.{NewEntry}
use Rattle.tg_model.specs.declared.kinds.Part.{Part}
use Rattle.tg_model.specs.declared.kinds.Slot.{Slot}
use Rattle.tg_node_writing.proofs.NodeLinks.{node_is}
use Rattle.tg_node_writing.specs.BlockOrder.{LinksOfNodes, entry_cids}
use Rattle.tg_node_writing.specs.Nodes.{IsNodeOf}
use Rattle.tg_unixfs.specs.declared.Unix.{Unix}

-- ---- what each kind links to

among_more : (cid : CidParts) (cids some : List CidParts) → All (Contains cids) some → All (Contains (cid ∷ cids)) some
among_more cid cids some h = All-weaker (Contains cids) (Contains (cid ∷ cids)) (λ x has. Contains-append_right (cid ∷ []) cids x has) some h

both_among : (cid : CidParts) (cids some : List CidParts) → All (Contains cids) some → All (Contains (cid ∷ cids)) (cid ∷ some)
both_among cid cids some h = All-cons (Contains (cid ∷ cids)) cid some (0, omega arith, refl) (among_more cid cids some h)

part_links : (cids : List CidParts) (sizes : List ℕ) → All (Contains cids) (map (λ (part : Part). part.cid) (parts_of cids sizes))
part_links [] sizes = All-nil (Contains [])
part_links (cid ∷ cids) [] = All-nil (Contains (cid ∷ cids))
part_links (cid ∷ cids) (size ∷ sizes) = both_among cid cids (map (λ (part : Part). part.cid) (parts_of cids sizes)) (part_links cids sizes)

entry_links : (links : List Link) (cids : List CidParts) → All (Contains cids) (map (λ (entry : Entry). entry.cid) (entries_of links cids))
entry_links [] cids = All-nil (Contains cids)
entry_links (link ∷ links) [] = All-nil (Contains [])
entry_links (link ∷ links) (cid ∷ cids) = both_among cid cids (map (λ (entry : Entry). entry.cid) (entries_of links cids)) (entry_links links cids)

slot_links : (numbers : List ℕ) (links : List Link) (cids : List CidParts) (slots : List Slot) → AreSlots numbers links cids slots
    → All (Contains cids) (map (λ (slot : Slot). slot.cid) slots)
slot_links numbers links cids [] h = All-nil (Contains cids)
slot_links [] [] [] (slot ∷ slots) h = absurd h
slot_links [] [] (cid ∷ cids) (slot ∷ slots) h = absurd h
slot_links [] (link ∷ links) cids (slot ∷ slots) h = absurd h
slot_links (number ∷ numbers) [] cids (slot ∷ slots) h = absurd h
slot_links (number ∷ numbers) (link ∷ links) [] (slot ∷ slots) h = absurd h
slot_links (number ∷ numbers) (link ∷ links) (cid ∷ cids) (slot ∷ slots) h =
    All-cons (Contains (cid ∷ cids)) slot.cid (map (λ (s : Slot). s.cid) slots)
    (subst (Contains (cid ∷ cids)) (sym h.0.cid_is) (let first : Contains (cid ∷ cids) cid = (0, omega arith, refl) in first))
    (among_more cid cids (map (λ (s : Slot). s.cid) slots) (slot_links numbers links cids slots h.1))

kind_links : (links : List Link) (cids : List CidParts) (unix : Unix) (kind : Kind)
    → ReadsFile links cids unix kind ⊎ (ReadsBasic links cids unix kind ⊎ (ReadsShard links cids unix kind ⊎ ReadsSymlink links unix kind)) → All (Contains cids) (links_of kind)
kind_links links cids unix kind h = elim h [
  | inl file ↦ subst (λ (k : Kind). All (Contains cids) (links_of k)) (sym file.kind_is) (part_links cids unix.sizes)
  | inr (inl basic) ↦ subst (λ (k : Kind). All (Contains cids) (links_of k)) (sym basic.kind_is) (entry_links links cids)
  | inr (inr (inl shard)) ↦ subst (λ (k : Kind). All (Contains cids) (links_of k)) (sym shard.kind_is)
      (slot_links (used_slots (inline_of unix)) links cids shard.slots shard.slots_are)
  | inr (inr (inr symlink)) ↦ subst (λ (k : Kind). All (Contains cids) (links_of k)) (sym symlink.kind_is) (All-nil (Contains cids))
]

-- ---- a block has one list of links

same_cids : OneSpelling → (links : List Link) (a b : List CidParts) → AreCids links a → AreCids links b → a ≡ b
same_cids spelling [] [] [] h k = refl
same_cids spelling [] [] (y ∷ b) h k = absurd k
same_cids spelling [] (x ∷ a) b h k = absurd h
same_cids spelling (link ∷ links) [] b h k = absurd h
same_cids spelling (link ∷ links) (x ∷ a) [] h k = absurd k
same_cids spelling (link ∷ links) (x ∷ a) (y ∷ b) h k =
    ap₂ (λ (z : CidParts) (c : List CidParts). z ∷ c) (spelling.no_front x y link.hash link.hash [] [] h.0 k.0 refl).1 (same_cids spelling links a b h.1 k.1)

abbrev pub OneNode : Type 0
OneNode = (a b : Node) (text : List ℕ) → NodeText a text → NodeText b text → a ≡ b

node_links : OneNode → OneSpelling → (entries : List NewEntry) (unix : Unix) (block : List ℕ) (kind : Kind) → IsNodeOf entries unix block → ReadsNode block kind
    → All (Contains (entry_cids entries)) (links_of kind)
node_links one spelling entries unix block kind h reads =
    let is = (node_is entries unix block h).0 in
    let same = ap (λ (n : Node). n.links) (one (record { links = h.links; payload = Some is.payload }) (record { links = reads.links; payload = Some reads.node.payload }) block is.node reads.node.node) in
    let cids : entry_cids entries ≡ reads.cids =
    same_cids spelling reads.links (entry_cids entries) reads.cids (subst (λ (l : List Link). AreCids l (entry_cids entries)) same is.cids_are) reads.node.cids_are in
    subst (λ (l : List CidParts). All (Contains l) (links_of kind)) (sym cids) (kind_links reads.links reads.cids reads.unix kind reads.reads)

links_under : OneNode → OneSpelling → (entries : List NewEntry) (unix : Unix) (block : List ℕ) (codec : Codec) (kind : Kind) → IsNodeOf entries unix block → ReadsUnder codec block kind
    → All (Contains (entry_cids entries)) (links_of kind)
links_under one spelling entries unix block codecs.Raw kind h reads =
    subst (λ (k : Kind). All (Contains (entry_cids entries)) (links_of k)) (sym reads) (All-nil (Contains (entry_cids entries)))
links_under one spelling entries unix block codecs.DagPb kind h reads = node_links one spelling entries unix block kind h reads

pub links_of_nodes : OneNode → OneSpelling → LinksOfNodes
links_of_nodes one spelling entries unix section h kind reads = links_under one spelling entries unix section.block section.cid.codec kind h reads
