-- The parts of a file, and the node over them.
use Rattle.std.proofs.Common.{◌≡◌, ◌+◌, ◌<◌, ◌^◌, ℕ, List, Option, None, Some, [], ◌∷◌, ◌++◌, length, refl, sym, ap, ap₂, ◌∙◌, subst, arith, length-append, zero-add}
use Rattle.std.specs.List.{sum_by}
use Rattle.std.specs.Prelude.{All, map, sum, ⊤}
use Rattle.std.proofs.lemmas.List.{append-nil}
use Rattle.std.proofs.lemmas.List.Elements.{All-append, All-cons, All-head, All-nil}
use Rattle.std.proofs.lemmas.List.Sums.{sum-map, sum_by-cons}
use Rattle.std.proofs.lemmas.List.Concat.{flat_map-append}
use Rattle.tg_bytes.specs.Lists.{joined}
use Rattle.tg_cid.specs.Cid.{CidParts}
use Rattle.tg_cid.specs.declared.cid.Codec.TheVariants.{DagPb}
use Rattle.tg_cid.specs.declared.cid.HashKind.TheVariants.{Sha256}
use Rattle.tg_filedag.specs.Trees.{IsFileBlock, IsFilePart, IsMadeOf, IsPlain, content_in, entry_for, file_kind, leaf_made, leaf_of, node_made, part_for, tsize_in}
use Rattle.tg_filedag.specs.declared.subtree.Subtree.{Subtree}
use Rattle.tg_model.specs.Content.{content, content_at, content_of_children}
use Rattle.tg_model.specs.Dag.{AreWhole, Children, Dag, Section, bare, blocks, blocks_of_children, no_child, node, root_cid, root_cids, total_of, unopened, with_child}
use Rattle.tg_model.specs.ImportLayout.{AreLaidAt, HasPlainCid, IsWritten, LayoutOptions, file_unix, leaves, leaves_of_children, tsizes_of}
use Rattle.tg_model.specs.Reading.{Reads, parts_of}
use Rattle.tg_model.specs.Sound.{AreCheckedAt, IsCheckedAt, IsNodeAt, IsSound, Position, part, position_fault, top}
use Rattle.tg_model.specs.declared.fault.BlockFault.{BlockFault}
use Rattle.tg_model.specs.declared.kinds.Kind.{Kind}
use Rattle.tg_model.specs.declared.kinds.Kind.TheVariants.{Basic, File, Raw, Shard, Symlink}
use Rattle.tg_model.specs.declared.kinds.NewEntry.{NewEntry}
use Rattle.tg_model.specs.declared.kinds.Part.{Part}
use Rattle.tg_unixfs.specs.declared.Unix.{Unix}
use Rattle.tg_node_writing.specs.Nodes.{IsNodeOf, LeadTo}
use Rattle.tg_node_writing.specs.Keeping.{section_of}

-- ---- one part

pub some_fault : {X : Type 0} (f : BlockFault) → ◌≡◌ {A = Option BlockFault} (Some f) None → X
some_fault f e = absurd (cc)

-- a file's part is a raw block or a file, so its content is the same wherever it stands
same_content : (d : Dag) (p q : Position) → IsFilePart d → content_at p d ≡ content_at q d
same_content (unopened cid) p q h = absurd h.whole
same_content (bare section fault) p q h = absurd h.whole
same_content (node section Raw children) p q h = refl
same_content (node section (File inline filesize parts) children) p q h = refl
same_content (node section (Basic es) children) p q h = some_fault _ h.checked.0.stands
same_content (node section (Shard slots) children) p q h = some_fault _ h.checked.0.stands
same_content (node section (Symlink target) children) p q h = some_fault _ h.checked.0.stands

-- what is right of a part is right of it as the root of a file
at_top : (section : Section) (kind : Kind) (children : Children) (size : ℕ) → IsNodeAt (part size) section kind children → position_fault top kind ≡ None
    → IsNodeAt top section kind children
at_top section kind children size h stands = record {
  named = h.named;
  reads = h.reads;
  links = h.links;
  stands = stands;
  of_size = tt;
  tells_size = h.tells_size;
}

part_at_top : (d : Dag) → IsFilePart d → IsCheckedAt top d
part_at_top (unopened cid) h = tt
part_at_top (bare section fault) h = absurd h.whole
part_at_top (node section Raw children) h = (at_top section Raw children _ h.checked.0 refl, h.checked.1)
part_at_top (node section (File inline filesize parts) children) h = (at_top section (File inline filesize parts) children _ h.checked.0 refl, h.checked.1)
part_at_top (node section (Basic es) children) h = some_fault _ h.checked.0.stands
part_at_top (node section (Shard slots) children) h = some_fault _ h.checked.0.stands
part_at_top (node section (Symlink target) children) h = some_fault _ h.checked.0.stands

-- a part alone is a sound DAG
pub part_sound : (d : Dag) → IsFilePart d → IsSound d
part_sound d h = record { whole = h.whole; checked = part_at_top d h }

pub part_plain : (d : Dag) → IsFilePart d → (root_cid d).hash ≡ Sha256
part_plain (unopened cid) h = absurd h.whole
part_plain (bare section fault) h = absurd h.whole
part_plain (node section kind children) h = (All-head HasPlainCid section (blocks_of_children children) h.plain).1

-- a chunk as a leaf
pub leaf_made_of : (chunk : List ℕ) → IsMadeOf (leaf_made chunk) (leaf_of chunk)
leaf_made_of chunk = record { cid = refl; content_len = ap length (sym (append-nil chunk)); tsize = omega arith }

pub leaf_part : (chunk : List ℕ) → IsFilePart (leaf_of chunk)
leaf_part chunk = record {
  whole = tt;
  checked = (record { named = refl; reads = refl; links = refl; stands = refl; of_size = ap length (sym (append-nil chunk)); tells_size = tt }, tt);
  laid = λ options size. tt;
  plain = All-cons HasPlainCid _ [] (refl, refl) (All-nil HasPlainCid);
  content_is = refl;
}

-- ---- parts one by one

abbrev pub AreParts : List Subtree → Children → Type 0
AreParts [] no_child = ⊤
AreParts (s ∷ ss) (with_child d ds) = IsMadeOf s.made d × (IsFilePart d × AreParts ss ds)
AreParts [] (with_child d ds) = ⊥
AreParts (s ∷ ss) no_child = ⊥

cids : (ss : List Subtree) (ds : Children) → AreParts ss ds → root_cids ds ≡ map (λ p. p.cid) (map part_for ss)
cids [] no_child h = refl
cids [] (with_child d ds) h = absurd h
cids (s ∷ ss) no_child h = absurd h
cids (s ∷ ss) (with_child d ds) h = ap₂ (λ (x : CidParts) (xs : List CidParts). x ∷ xs) (sym h.0.cid) (cids ss ds h.1.1)

whole : (ss : List Subtree) (ds : Children) → AreParts ss ds → AreWhole ds
whole [] no_child h = tt
whole [] (with_child d ds) h = absurd h
whole (s ∷ ss) no_child h = absurd h
whole (s ∷ ss) (with_child d ds) h = (h.1.0.whole, whole ss ds h.1.1)

checked : (ss : List Subtree) (ds : Children) → AreParts ss ds → AreCheckedAt (map (λ p. part p.size) (map part_for ss)) ds
checked [] no_child h = tt
checked [] (with_child d ds) h = absurd h
checked (s ∷ ss) no_child h = absurd h
checked (s ∷ ss) (with_child d ds) h = (subst (λ (n : ℕ). IsCheckedAt (part n) d) (sym h.0.content_len) h.1.0.checked, checked ss ds h.1.1)

laid : (options : LayoutOptions) (ss : List Subtree) (ds : Children) → AreParts ss ds → AreLaidAt options (map (λ p. part p.size) (map part_for ss)) ds
laid options [] no_child h = tt
laid options [] (with_child d ds) h = absurd h
laid options (s ∷ ss) no_child h = absurd h
laid options (s ∷ ss) (with_child d ds) h = (h.1.0.laid options s.made.content, laid options ss ds h.1.1)

plain : (ss : List Subtree) (ds : Children) → AreParts ss ds → All HasPlainCid (blocks_of_children ds)
plain [] no_child h = All-nil HasPlainCid
plain [] (with_child d ds) h = absurd h
plain (s ∷ ss) no_child h = absurd h
plain (s ∷ ss) (with_child d ds) h = All-append HasPlainCid (blocks d) (blocks_of_children ds) h.1.0.plain (plain ss ds h.1.1)

contents : (ss : List Subtree) (ds : Children) → AreParts ss ds → content_of_children (map (λ p. part p.size) (map part_for ss)) ds ≡ joined (leaves_of_children ds)
contents [] no_child h = refl
contents [] (with_child d ds) h = absurd h
contents (s ∷ ss) no_child h = absurd h
contents (s ∷ ss) (with_child d ds) h =
    ap₂ (λ (x y : List ℕ). x ++ y) (same_content d (part s.made.content) top h.1.0 ∙ h.1.0.content_is) (contents ss ds h.1.1)
    ∙ sym (flat_map-append (λ (chunk : List ℕ). chunk) (leaves d) (leaves_of_children ds))

pub content_sum : (ss : List Subtree) (ds : Children) → AreParts ss ds → sum_by content_in ss ≡ length (joined (leaves_of_children ds))
content_sum [] no_child h = refl
content_sum [] (with_child d ds) h = absurd h
content_sum (s ∷ ss) no_child h = absurd h
content_sum (s ∷ ss) (with_child d ds) h =
    let rest = content_sum ss ds h.1.1 in
    let here : s.made.content ≡ length (joined (leaves d)) = h.0.content_len ∙ ap length h.1.0.content_is in
    let sums = sum_by-cons content_in s ss in
    let size : length (joined (leaves d ++ leaves_of_children ds)) ≡ length (joined (leaves d)) + length (joined (leaves_of_children ds)) =
    ap length (flat_map-append (λ (chunk : List ℕ). chunk) (leaves d) (leaves_of_children ds)) ∙ length-append (joined (leaves d)) (joined (leaves_of_children ds)) in
    omega arith

tsize_sum : (ss : List Subtree) (ds : Children) → AreParts ss ds → sum_by tsize_in ss ≡ tsizes_of ds
tsize_sum [] no_child h = refl
tsize_sum [] (with_child d ds) h = absurd h
tsize_sum (s ∷ ss) no_child h = absurd h
tsize_sum (s ∷ ss) (with_child d ds) h =
    let rest = tsize_sum ss ds h.1.1 in
    let here = h.0.tsize in
    let sums = sum_by-cons tsize_in s ss in
    omega arith

lead : (ss : List Subtree) (ds : Children) → AreParts ss ds → LeadTo (map entry_for ss) ds
lead [] no_child h = tt
lead [] (with_child d ds) h = absurd h
lead (s ∷ ss) no_child h = absurd h
lead (s ∷ ss) (with_child d ds) h = (h.0.cid, h.0.tsize, lead ss ds h.1.1)

pub all_plain : (ss : List Subtree) (ds : Children) → AreParts ss ds → All IsPlain ss
all_plain [] ds h = All-nil IsPlain
all_plain (s ∷ ss) no_child h = absurd h
all_plain (s ∷ ss) (with_child d ds) h =
    All-cons IsPlain s ss (ap (λ (c : CidParts). c.hash) h.0.cid ∙ part_plain d h.1.0) (all_plain ss ds h.1.1)

-- ---- the node over parts

parts_are : (ss : List Subtree) → parts_of (map (λ e. e.cid) (map entry_for ss)) (map content_in ss) ≡ map part_for ss
parts_are [] = refl
parts_are (s ∷ ss) = ap (λ (ps : List Part). part_for s ∷ ps) (parts_are ss)

names_are : (ss : List Subtree) → map (λ e. e.name) (map entry_for ss) ≡ map (λ p. []) (map part_for ss)
names_are [] = refl
names_are (s ∷ ss) = ap (λ (ns : List (List ℕ)). [] ∷ ns) (names_are ss)

sizes_are : (ss : List Subtree) → map (λ p. p.size) (map part_for ss) ≡ map content_in ss
sizes_are [] = refl
sizes_are (s ∷ ss) = ap (λ (ns : List ℕ). s.made.content ∷ ns) (sizes_are ss)

as_many : (ss : List Subtree) → length (map content_in ss) ≡ length (map entry_for ss)
as_many [] = refl
as_many (s ∷ ss) = let h = as_many ss in cc

-- the laws of written nodes
pub record NodeLaws : Type 0 where
  pub written : (entries : List NewEntry) (unix : Unix) (block : List ℕ) (children : Children) → IsNodeOf entries unix block → LeadTo entries children
      → IsWritten block (map (λ e. e.name) entries) children unix
  pub reads : (entries : List NewEntry) (total : ℕ) (sizes : List ℕ) (block : List ℕ) (cid : CidParts) → IsNodeOf entries (file_unix total sizes) block
      → length sizes ≡ length entries → sum sizes < 2 ^ 63 → cid.codec ≡ DagPb → Reads cid block (File [] (Some total) (parts_of (map (λ e. e.cid) entries) sizes))

abbrev pub node_over : List Subtree → List ℕ → Children → Dag
node_over ss block ds = node (section_of DagPb block) (file_kind ss) ds

-- the total that the node declares is the sum of its parts' contents
total_is : (ss : List Subtree) (block : List ℕ) → total_of (section_of DagPb block) (file_kind ss) ≡ sum_by content_in ss
total_is ss block =
    let sums : sum (map (λ p. p.size) (map part_for ss)) ≡ sum_by content_in ss = ap sum (sizes_are ss) ∙ sum-map content_in ss in
    ap (λ (n : ℕ). 0 + n) sums ∙ zero-add (sum_by content_in ss)

pub node_made_of : (ss : List Subtree) (block : List ℕ) (ds : Children) → AreParts ss ds → IsMadeOf (node_made ss block) (node_over ss block ds)
node_made_of ss block ds h = record {
  cid = refl;
  content_len = content_sum ss ds h ∙ ap length (sym (contents ss ds h));
  tsize = ap (λ (n : ℕ). length block + n) (tsize_sum ss ds h);
}

node_reads : NodeLaws → (ss : List Subtree) (block : List ℕ) → IsFileBlock ss block → sum_by content_in ss < 2 ^ 63 → Reads (section_of DagPb block).cid block (file_kind ss)
node_reads laws ss block written few =
    subst (λ (ps : List Part). Reads (section_of DagPb block).cid block (File [] (Some (sum_by content_in ss)) ps)) (parts_are ss)
    (laws.reads (map entry_for ss) (sum_by content_in ss) (map content_in ss) block (section_of DagPb block).cid written (as_many ss)
    (subst (λ (n : ℕ). n < 2 ^ 63) (sym (sum-map content_in ss)) few) refl)

node_at : NodeLaws → (ss : List Subtree) (block : List ℕ) (ds : Children) (size : ℕ) → IsFileBlock ss block → sum_by content_in ss < 2 ^ 63 → AreParts ss ds
    → sum_by content_in ss ≡ size → IsNodeAt (part size) (section_of DagPb block) (file_kind ss) ds
node_at laws ss block ds size written few h is = record {
  named = refl;
  reads = node_reads laws ss block written few;
  links = cids ss ds h;
  stands = refl;
  of_size = total_is ss block ∙ is;
  tells_size = sym (total_is ss block);
}

-- its block is written as the importer writes it
pub node_written : NodeLaws → (ss : List Subtree) (block : List ℕ) (ds : Children) → IsFileBlock ss block → AreParts ss ds
    → IsWritten block (map (λ p. []) (map part_for ss)) ds (file_unix (total_of (section_of DagPb block) (file_kind ss)) (map (λ p. p.size) (map part_for ss)))
node_written laws ss block ds written h =
    let base = laws.written (map entry_for ss) (file_unix (sum_by content_in ss) (map content_in ss)) block ds written (lead ss ds h) in
    let named = subst (λ (ns : List (List ℕ)). IsWritten block ns ds (file_unix (sum_by content_in ss) (map content_in ss))) (names_are ss) base in
    let sized = subst (λ (ns : List ℕ). IsWritten block (map (λ p. []) (map part_for ss)) ds (file_unix (sum_by content_in ss) ns)) (sym (sizes_are ss)) named in
    subst (λ (n : ℕ). IsWritten block (map (λ p. []) (map part_for ss)) ds (file_unix n (map (λ p. p.size) (map part_for ss)))) (sym (total_is ss block)) sized

pub node_part : NodeLaws → (ss : List Subtree) (block : List ℕ) (ds : Children) → IsFileBlock ss block → sum_by content_in ss < 2 ^ 63 → AreParts ss ds
    → IsFilePart (node_over ss block ds)
node_part laws ss block ds written few h = record {
  whole = whole ss ds h;
  checked = (node_at laws ss block ds (length (content (node_over ss block ds))) written few h (node_made_of ss block ds h).content_len, checked ss ds h);
  laid = λ options size. (tt, node_written laws ss block ds written h, laid options ss ds h);
  plain = All-cons HasPlainCid (section_of DagPb block) (blocks_of_children ds) (refl, refl) (plain ss ds h);
  content_is = contents ss ds h;
}
