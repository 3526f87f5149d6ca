-- What a directory weighs, by its names: the CIDs of the entries are equally long.
use Rattle.std.proofs.Common.{◌≡◌, ◌+◌, ℕ, List, Option, None, Some, [], ◌∷◌, ◌++◌, length, map, refl, ap, subst, arith}
use Rattle.std.proofs.lemmas.List.{length-append}
use Rattle.std.proofs.lemmas.List.Elements.{All-head}
use Rattle.std.proofs.lemmas.List.Sums.{sum_by-cons}
use Rattle.std.specs.Prelude.{replicate, ⊤}
use Rattle.tg_cid.specs.Cid.{CidParts}
use Rattle.tg_cid.specs.Computed.{v1_bytes}
use Rattle.tg_cid.specs.Spelling.{CidBytes, IsDigestSize}
use Rattle.tg_cid.specs.declared.cid.Codec.TheVariants as codecs
use Rattle.tg_cid.specs.declared.cid.HashKind.{HashKind}
use Rattle.tg_cid.specs.declared.cid.HashKind.TheVariants.{Sha256}
use Rattle.tg_dagpb.specs.declared.Link.{Link}
use Rattle.tg_model.specs.Content.{DirEntry, entries, entries_of_slots, named_children, slot_entries}
use Rattle.tg_model.specs.Dag.{Children, Dag, Section, bare, blocks_of_children, no_child, node, root_cid, unopened, with_child}
use Rattle.tg_model.specs.ImportLayout.{AreLinks, HasPlainCid, LayoutOptions, link_name, weight_of}
use Rattle.tg_model.specs.Sound.{Position, child, slot_position, top}
use Rattle.tg_model.specs.declared.kinds.Entry.{Entry}
use Rattle.tg_model.specs.declared.kinds.Kind.TheVariants.{Basic, File, Raw, Shard, Symlink}
use Rattle.tg_model.specs.declared.kinds.Slot.{Slot}
use Rattle.tg_varint.specs.Computed.{varint}
use Rattle.tg_model_laws.specs.Places.{IsFaultlessShard}
use Rattle.tg_layout_laws.proofs.Nodes.{TextLaws}
use Rattle.tg_layout_laws.proofs.Sets.{total_by}
use Rattle.tg_layout_laws.proofs.ShardNames.{AreSlotsAt, IsAt, child_is, first_at, names_in, rest_at, shard_at}

-- a CID with a digest of 32 bytes
abbrev sample : CidParts
sample = record { version = 1; codec = codecs.DagPb; hash = Sha256; digest = replicate {A = ℕ} 32 0 }

abbrev IsLong : CidParts → Type 0
IsLong cid = length cid.digest ≡ 32

v1_length : (cid : CidParts) → IsLong cid → length (v1_bytes cid) ≡ length (v1_bytes sample)
v1_length cid e =
    let a = length-append (varint (length cid.digest)) cid.digest in
    let b = length-append (varint 32) sample.digest in
    let c = ap (λ n. length (varint n)) e in
    omega (arith, a, b, c, e)

-- what a name weighs
abbrev pub name_weight : List ℕ → ℕ
name_weight name = length name + length (v1_bytes sample)

abbrev AreLong : List DirEntry → Type 0
AreLong [] = ⊤
AreLong (entry ∷ listed) = IsLong (root_cid entry.dag) × AreLong listed

long_both : (xs ys : List DirEntry) → AreLong xs → AreLong ys → AreLong (xs ++ ys)
long_both [] ys h k = k
long_both (x ∷ xs) ys h k = (h.0, long_both xs ys h.1 k)

by_names : (listed : List DirEntry) → AreLong listed → weight_of listed ≡ total_by name_weight (names_in listed)
by_names [] h = refl
by_names (entry ∷ listed) h =
    let here = v1_length (root_cid entry.dag) h.0 in
    let rest = by_names listed h.1 in
    let first = sum_by-cons (λ (n : ℕ). n) (length entry.name + length (v1_bytes (root_cid entry.dag)))
    (map (λ x. length x.name + length (v1_bytes (root_cid x.dag))) listed) in
    omega (arith, here, rest, first)

-- ---- the roots of children

abbrev Roots : Children → Type 0
Roots no_child = ⊤
Roots (with_child d children) = IsLong (root_cid d) × Roots children

-- the root of a node that is laid out is plain
root_hash : (options : LayoutOptions) (position : Position) (d : Dag) → IsAt options position d
    → (root_cid d).hash ≡ Sha256
root_hash options position (unopened cid) h = absurd h.laid
root_hash options position (bare section fault) h = absurd h.laid
root_hash options position (node section kind children) h =
    (All-head HasPlainCid section (blocks_of_children children) h.plain).1

long_root : TextLaws → (options : LayoutOptions) (position : Position) (d : Dag) → IsAt options position d
    → (bytes : List ℕ) → CidBytes (root_cid d) bytes → IsLong (root_cid d)
long_root laws options position d h bytes spelled =
    subst (λ (k : HashKind). IsDigestSize k (length (root_cid d).digest)) (root_hash options position d h)
    (laws.digest_size (root_cid d) bytes spelled)

-- children that stand somewhere
abbrev pub AreAt : LayoutOptions → List Position → Children → Type 0
AreAt options places no_child = ⊤
AreAt options [] (with_child d children) = ⊥
AreAt options (position ∷ places) (with_child d children) = IsAt options position d × AreAt options places children

linked_roots : TextLaws → (options : LayoutOptions) (places : List Position) (names : List (List ℕ))
    (children : Children) (links : List Link) → AreAt options places children → AreLinks names children links
    → Roots children
linked_roots laws options places names no_child links h linked = tt
linked_roots laws options [] names (with_child d children) links h linked = absurd h
linked_roots laws options (position ∷ places) (name ∷ names) (with_child d children) (link ∷ links) h linked = (
  long_root laws options position d h.0 link.hash linked.0,
  linked_roots laws options places names children links h.1
      linked.3,
)
linked_roots laws options (position ∷ places) [] (with_child d children) links h linked = absurd linked
linked_roots laws options (position ∷ places) (name ∷ names) (with_child d children) [] h linked = absurd linked

pub slots_are_at : (options : LayoutOptions) (above : List ℕ) (low : ℕ) (slots : List Slot) (children : Children)
    → AreSlotsAt options above low slots children → AreAt options (map (slot_position above) slots) children
slots_are_at options above low slots no_child h = tt
slots_are_at options above low [] (with_child d children) h = absurd h.checked
slots_are_at options above low (slot ∷ slots) (with_child d children) h = (
  first_at options above low slot slots d children h,
  slots_are_at options above (slot.slot + 1) slots children
      (rest_at options above low slot slots d children h),
)

-- ---- entries

named_long : (es : List Entry) (children : Children) → Roots children → AreLong (named_children es children)
named_long es no_child h = tt
named_long [] (with_child d children) h = tt
named_long (e ∷ es) (with_child d children) h = (h.0, named_long es children h.1)

pub basic_weight : TextLaws → (options : LayoutOptions) (places : List Position) (names : List (List ℕ))
    (es : List Entry) (children : Children) (links : List Link) → AreAt options places children
    → AreLinks names children links
    → weight_of (named_children es children) ≡ total_by name_weight (names_in (named_children es children))
basic_weight laws options places names es children links h linked = by_names (named_children es children)
    (named_long es children (linked_roots laws options places names children links h linked))

slot_long : (name : Option (List ℕ)) (d : Dag) → IsLong (root_cid d) → (name ≡ None → AreLong (entries d))
    → AreLong (slot_entries name d (entries d))
slot_long (Some own) d h inner = (h, tt)
slot_long None d h inner = inner refl

mutual
  child_long : TextLaws → IsFaultlessShard → (options : LayoutOptions) (d : Dag) (above : List ℕ)
      → IsAt options (child above) d → AreLong (entries d)
  child_long laws faultless options (unopened cid) above h = tt
  child_long laws faultless options (bare section fault) above h = tt
  child_long laws faultless options (node section Raw children) above h = tt
  child_long laws faultless options (node section (File inline filesize parts) children) above h = tt
  child_long laws faultless options (node section (Basic es) children) above h = let e = h.checked.0.stands in absurd
      (cc)
  child_long laws faultless options (node section (Shard slots) children) above h =
      let slots_here = shard_at faultless options (child above) section slots children h in
      slots_long laws faultless options children slots above 0 slots_here
      (linked_roots laws options (map (slot_position above) slots) (map link_name slots) children h.laid.1.written.links
      (slots_are_at options above 0 slots children slots_here) h.laid.1.written.links_are)
  child_long laws faultless options (node section (Symlink target) children) above h = tt

  slots_long : TextLaws → IsFaultlessShard
      → (options : LayoutOptions) (children : Children) (slots : List Slot) (above : List ℕ) (low : ℕ)
      → AreSlotsAt options above low slots children → Roots children
      → AreLong (entries_of_slots slots children)
  slots_long laws faultless options no_child slots above low h roots = tt
  slots_long laws faultless options (with_child d children) [] above low h roots = tt
  slots_long laws faultless options (with_child d children) (slot ∷ slots) above low h roots =
      let first = first_at options above low slot slots d children h in
      long_both (slot_entries slot.name d (entries d)) (entries_of_slots slots children)
      (slot_long slot.name d roots.0 (λ none. child_long laws faultless options d (above ++ slot.slot ∷ [])
      (child_is options (above ++ slot.slot ∷ []) slot.name d none first)))
      (slots_long laws faultless options children slots above (slot.slot + 1)
      (rest_at options above low slot slots d children h) roots.1)

pub shard_weight : TextLaws → IsFaultlessShard
    → (options : LayoutOptions) (section : Section) (slots : List Slot) (children : Children)
    → IsAt options top (node section (Shard slots) children)
    → weight_of (entries_of_slots slots children) ≡ total_by name_weight (names_in (entries_of_slots slots children))
shard_weight laws faultless options section slots children h =
    let slots_here = shard_at faultless options top section slots children h in
    by_names (entries_of_slots slots children)
    (slots_long laws faultless options children slots [] 0 slots_here
    (linked_roots laws options (map (slot_position []) slots) (map link_name slots) children h.laid.1.written.links
    (slots_are_at options [] 0 slots children slots_here) h.laid.1.written.links_are))
